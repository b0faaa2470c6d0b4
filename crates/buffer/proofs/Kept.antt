-- Each call keeps the number of bytes, and leaves sound marks sound.
--     is_sound_lem, sound_is            the test says whether marks are sound
--     length-..., sound-...         the two facts for the definitions of specs/Buffer.antt
-- Assumes nothing.
use mathlib.Core.Path.{◌≡◌, refl, ◌∙◌}
use mathlib.Core.Bool.{Bool, true, false}
use mathlib.Core.List.{List}
use Prim.Native.Nat.{ℕ, ◌≤◌, max, zero-le}
use native.Mathlib.Nat.{min-le_left, le-max_right}
use native.Mathlib.Omega.{arith}
use borrow.Author.Tests.{leb-true, ltb-false, le-leb}
use lib.Dec.{ltb, leb}
use lib.ListN.{length, take, replicate, length-take, length-replicate}
use Rattle.buffer.specs.Buffer.{Buffer, is_sound, unread, unread_bytes, room, moved, with_room, appended, fitting, written, filled, lacks_room, written_all, ready, read_off, emptied}
use Rattle.buffer.specs.Inner.Buffer.{Sound}
use Rattle.fields.proofs.Bools.{and_left, and_right, of_picked}
use Rattle.fields.proofs.Seq.{length_part}
use Rattle.fields.proofs.Overlay.{length_overlay}

-- ---- the test

pub is_sound_lem : (s : Buffer) → is_sound (length s.bytes) s.marks ≡ true → Sound s
unfolding is_sound
is_sound_lem s e =
    let a : Bool = leb s.marks.read s.marks.write in
    let b : Bool = leb s.marks.write (length s.bytes) in
    record { order = leb-true _ _ (and_left a b e); within = leb-true _ _ (and_right a b e) }

pub sound_is : (s : Buffer) → Sound s → is_sound (length s.bytes) s.marks ≡ true
unfolding is_sound
sound_is s g = rw (le-leb _ _ g.order, le-leb _ _ g.within)

-- ---- the move

pub length_unread : (s : Buffer) → Sound s → length (unread_bytes s) ≡ unread s
unfolding unread_bytes
length_unread s g = length_part s.marks.read (unread s) s.bytes (omega (arith, g.order, g.within))

pub length_moved : (s : Buffer) → Sound s → length (moved s).bytes ≡ length s.bytes
unfolding moved
length_moved s g = length_overlay s.bytes 0 (unread_bytes s) (omega (arith, length_unread s g, g.within))

pub sound_moved : (s : Buffer) → Sound s → Sound (moved s)
unfolding moved
sound_moved s g = record { order = zero-le; within = omega (arith, length_moved s g, g.within) }

pub length_with_room : (n : ℕ) (s : Buffer) → Sound s → length (with_room n s).bytes ≡ length s.bytes
unfolding with_room
length_with_room n s g = of_picked (λ (t : Buffer). length t.bytes ≡ length s.bytes) (ltb (room s) n) (λ _. length_moved s g) (λ _. refl)

pub sound_with_room : (n : ℕ) (s : Buffer) → Sound s → Sound (with_room n s)
unfolding with_room
sound_with_room n s g = of_picked Sound (ltb (room s) n) (λ _. sound_moved s g) (λ _. g)

-- ---- bytes appended after room was made for n: they fit into that room

module _ (ys : List ℕ) (s : Buffer) (g : Sound s) (fits : length ys ≤ room s) where
  pub length_appended : length (appended ys s).bytes ≡ length s.bytes
  unfolding appended
  length_appended = length_overlay s.bytes s.marks.write ys (omega (arith, g.within))

  pub sound_appended : Sound (appended ys s)
  unfolding appended
  sound_appended = record { order = omega (arith, g.order); within = omega (arith, length_appended, g.within) }

module _ (n : ℕ) (ys : List ℕ) (s : Buffer) (g : Sound s) (fits : length ys ≤ room (with_room n s)) where
  length_behind : length (appended ys (with_room n s)).bytes ≡ length s.bytes
  length_behind = length_appended ys (with_room n s) (sound_with_room n s g) fits ∙ length_with_room n s g

  sound_behind : Sound (appended ys (with_room n s))
  sound_behind = sound_appended ys (with_room n s) (sound_with_room n s g) fits

-- `write` and `fill_up_to` append what fits.

pub fitting_fits : (n : ℕ) (ys : List ℕ) (s : Buffer) → length ys ≤ fitting n s → length ys ≤ room (with_room n s)
unfolding fitting
fitting_fits n ys s h = omega (arith, min-le_left (room (with_room n s)) n)

pub written_fits : (ys : List ℕ) (s : Buffer) → length (take (fitting (length ys) s) ys) ≤ room (with_room (length ys) s)
written_fits ys s =
    let n : ℕ = fitting (length ys) s in
    fitting_fits (length ys) (take n ys) s (omega (arith, length-take n ys, min-le_left n (length ys)))

pub filled_fits : (v n : ℕ) (s : Buffer) → length (replicate (fitting n s) v) ≤ room (with_room n s)
filled_fits v n s = fitting_fits n (replicate (fitting n s) v) s (omega (arith, length-replicate (fitting n s) v))

module _ (ys : List ℕ) (s : Buffer) (g : Sound s) where
  pub length_written : length (written ys s).bytes ≡ length s.bytes
  unfolding written
  length_written = length_behind (length ys) (take (fitting (length ys) s) ys) s g (written_fits ys s)

  pub sound_written : Sound (written ys s)
  unfolding written
  sound_written = sound_behind (length ys) (take (fitting (length ys) s) ys) s g (written_fits ys s)

module _ (v n : ℕ) (s : Buffer) (g : Sound s) where
  pub length_filled : length (filled v n s).bytes ≡ length s.bytes
  unfolding filled
  length_filled = length_behind n (replicate (fitting n s) v) s g (filled_fits v n s)

  pub sound_filled : Sound (filled v n s)
  unfolding filled
  sound_filled = sound_behind n (replicate (fitting n s) v) s g (filled_fits v n s)

-- `write_all` appends all of ys if the test finds room for the larger of want and the length of ys.

pub all_fits : (want : ℕ) (ys : List ℕ) (s : Buffer) → lacks_room (max want (length ys)) s ≡ false → length ys ≤ room (with_room (max want (length ys)) s)
unfolding lacks_room
all_fits want ys s e =
    let n : ℕ = max want (length ys) in
    let enough : n ≤ room (with_room n s) = ltb-false _ _ e in
    omega (arith, le-max_right want (length ys))

module _ (want : ℕ) (ys : List ℕ) (s : Buffer) (g : Sound s) where
  pub length_written_all : length (written_all want ys s).bytes ≡ length s.bytes
  unfolding written_all
  length_written_all =
      of_picked (λ (t : Buffer). length t.bytes ≡ length s.bytes) (lacks_room (max want (length ys)) s)
      (λ _. length_with_room (max want (length ys)) s g)
      (λ e. length_behind (max want (length ys)) ys s g (all_fits want ys s e))

  pub sound_written_all : Sound (written_all want ys s)
  unfolding written_all
  sound_written_all =
      of_picked Sound (lacks_room (max want (length ys)) s)
      (λ _. sound_with_room (max want (length ys)) s g)
      (λ e. sound_behind (max want (length ys)) ys s g (all_fits want ys s e))

-- ---- reading and emptying

pub ready_most : (n : ℕ) (s : Buffer) → ready n s ≤ unread s
unfolding ready
ready_most n s = min-le_left (unread s) n

pub sound_read_off : (n : ℕ) (s : Buffer) → Sound s → Sound (read_off n s)
unfolding read_off
sound_read_off n s g = record { order = omega (arith, ready_most n s, g.order); within = g.within }

pub sound_emptied : (s : Buffer) → Sound (emptied s)
unfolding emptied
sound_emptied s = record { order = zero-le; within = zero-le }

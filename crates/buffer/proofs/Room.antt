-- Unread bytes move where room is short. So how much fits depends only on how many bytes are unread, and not on where the marks stand.
--     fitting_by_unread     of n bytes, as many fit as are not unread, and at most n
--     lacks_by_unread       `write_all` refuses if these are fewer than what is asked for
--     missing_by_unread     and that many are missing then
--     lacks_missing         it refuses exactly if a byte is missing
--     room_refused          a refusal makes no room
--     lacks_then            with more room it refuses exactly if that is less than what was missing,
--     missing_then          and then the rest is missing
-- Assumes nothing.
use mathlib.Core.Path.{◌≡◌, refl, sym, ap, ◌∙◌}
use mathlib.Core.Bool.{true, false}
use mathlib.Core.List.{List}
use Prim.Native.Nat.{ℕ, ◌+◌, ◌-◌, ◌≤◌, ◌<◌, min, max}
use native.Mathlib.Nat.{add-zero, sub-zero, min-eq_right}
use native.Mathlib.Omega.{arith}
use borrow.Author.Tests.{lt-ltb, le-ltb, ltb-true, ltb-false}
use borrow.Table.Steps.{cases}
use lib.Dec.{ltb}
use lib.ListN.{length}
use Rattle.buffer.specs.Buffer.{Buffer, unread, room, room_in_all, moved, with_room, fitting, lacks_room, missing, written_all}
use Rattle.buffer.specs.Inner.Buffer.{Sound}
use Rattle.fields.proofs.Bools.{of_picked}
use Rattle.buffer.proofs.Kept.{length_moved}

pub room_moved : (s : Buffer) → Sound s → room (moved s) ≡ room_in_all s
unfolding moved
room_moved s g = ap (λ (n : ℕ). n - unread s) (length_moved s g)

module _ (n : ℕ) (s : Buffer) (g : Sound s) where
  -- Where nothing moves there is room for n after the write mark, and so at least n bytes are not unread.
  unmoved : ltb (room s) n ≡ false → n ≤ room_in_all s
  unmoved e =
      let enough : n ≤ room s = ltb-false _ _ e in
      omega (arith, g.order)

  pub fitting_by_unread : fitting n s ≡ min (room_in_all s) n
  unfolding fitting with_room
  fitting_by_unread =
      of_picked (λ (t : Buffer). min (room t) n ≡ min (room_in_all s) n) (ltb (room s) n)
      (λ _. ap (λ (r : ℕ). min r n) (room_moved s g))
      (λ e. min-eq_right (ltb-false _ _ e) ∙ sym (min-eq_right (unmoved e)))

  pub lacks_by_unread : lacks_room n s ≡ ltb (room_in_all s) n
  unfolding lacks_room with_room
  lacks_by_unread =
      of_picked (λ (t : Buffer). ltb (room t) n ≡ ltb (room_in_all s) n) (ltb (room s) n)
      (λ _. ap (λ (r : ℕ). ltb r n) (room_moved s g))
      (λ e. e ∙ sym (le-ltb _ _ (unmoved e)))

  pub missing_by_unread : missing n s ≡ n - room_in_all s
  unfolding missing with_room
  missing_by_unread =
      of_picked (λ (t : Buffer). n - room t ≡ n - room_in_all s) (ltb (room s) n)
      (λ _. ap (λ (r : ℕ). n - r) (room_moved s g))
      (λ e. let enough : n ≤ room s = ltb-false _ _ e in omega (arith, unmoved e))

  -- Asking for room makes none in all.
  room_asked : room_in_all (with_room n s) ≡ room_in_all s
  unfolding with_room moved
  room_asked = of_picked (λ (t : Buffer). room_in_all t ≡ room_in_all s) (ltb (room s) n) (λ _. rw (sub-zero, length_moved s g)) (λ _. refl)

-- ---- what is missing

-- A sum is below n exactly if one part is below what the other leaves of n.
ltb_rest : (r k n : ℕ) → ltb (r + k) n ≡ ltb k (n - r)
ltb_rest r k n =
    cases (ltb (r + k) n)
    (λ e. e ∙ sym (lt-ltb k (n - r) (omega (arith, ltb-true (r + k) n e))))
    (λ e. e ∙ sym (le-ltb k (n - r) (omega (arith, ltb-false (r + k) n e))))

-- `write_all` refuses exactly if a byte is missing.
pub lacks_missing : (n : ℕ) (s : Buffer) → lacks_room n s ≡ ltb 0 (missing n s)
unfolding missing lacks_room
lacks_missing n s = rw add-zero at (ltb_rest (room (with_room n s)) 0 n)

-- Where there is no room for n bytes, there is none for more.
pub lacks_more : (n more : ℕ) (s : Buffer) → Sound s → n ≤ more → lacks_room n s ≡ true → lacks_room more s ≡ true
lacks_more n more s g h lacks =
    let few : room_in_all s < n = ltb-true _ _ (sym (lacks_by_unread n s g) ∙ lacks) in
    lacks_by_unread more s g ∙ lt-ltb (room_in_all s) more (omega arith)

-- A refusal moves the unread bytes at most, which makes no room in all.
pub room_refused : (want : ℕ) (ys : List ℕ) (s : Buffer) → Sound s → lacks_room (max want (length ys)) s ≡ true → room_in_all (written_all want ys s) ≡ room_in_all s
unfolding written_all
room_refused want ys s g lacks = rw lacks (room_asked (max want (length ys)) s g)

-- There was room for r bytes, so that m of n were missing; now there is room for k bytes more, in the buffer `t`.
module _ (n r m k : ℕ) (t : Buffer) (g : Sound t) (less : m ≡ n - r) (more : room_in_all t ≡ r + k) where
  pub lacks_then : lacks_room n t ≡ ltb k m
  lacks_then = lacks_by_unread n t g ∙ rw (more, less) (ltb_rest r k n)

  pub missing_then : missing n t ≡ m - k
  missing_then = missing_by_unread n t g ∙ omega (arith, more, less)

-- There is one law for each way through a function of src/. From the tests on the way and from what the callees ensure, it proves what the
-- function owes. Assumes nothing.
use mathlib.Core.Path.{◌≡◌, sym, subst}
use mathlib.Core.Bool.{true, false}
use mathlib.Core.List.{List}
use Prim.Native.Nat.{ℕ, ◌+◌, ◌-◌, ◌≤◌, ◌<◌, min, max}
use native.Mathlib.Nat.{min-le_left, min-le_right}
use native.Mathlib.Omega.{arith}
use borrow.Author.Tests.{lt-ltb, le-ltb}
use lib.ListN.{length, take, drop, replicate, length-replicate}
use lib.Seq.{length-take-le, take-take}
use Rattle.std.specs.Prelude.{Ok, Err, IsErr, IsErrAnd}
use Rattle.std.proofs.lemmas.Result.{err_from_is_err_and}
use Rattle.fields.specs.Overlay.{overlay}
use Rattle.buffer.specs.declared.Marks.{Marks}
use Rattle.buffer.specs.declared.marked.Overflow.{Overflow}
use Rattle.buffer.specs.declared.Refusal.{Refusal}
use Rattle.buffer.specs.declared.Refusal.TheVariants.{Overflow as Lacking, Broken}
use Rattle.buffer.specs.Buffer.{Buffer, buffer, at, is_sound, unread, unread_bytes, room, moved, with_room, appended, fitting, written, filled, lacks_room, missing, written_all, ready, ready_bytes, read_off}
use Rattle.buffer.specs.Inner.Buffer.{Sound, Leaves, WritesAll}
use Rattle.buffer.specs.Calls.{Answering, answering, Answer, answer_of, if_sound, checked, write_all_call}
use Rattle.buffer.proofs.Kept.{sound_is, sound_moved, sound_written, sound_filled, sound_written_all, sound_read_off, sound_with_room}

-- ---- marked: t is the buffer after room was made, and b are its bytes at the end

-- A buffer that equals a sound one is sound.
leaves : {s t : Buffer} → s ≡ t → Sound t → Leaves s t
leaves e g = record { same = e; sound = subst Sound (sym e) g }

pub moves : (n : ℕ) (s : Buffer) (b : List ℕ) → Sound s → n ≡ unread s → b ≡ overlay s.bytes 0 (take n (drop s.marks.read s.bytes)) → Leaves (buffer b (at 0 n)) (moved s)
unfolding moved unread_bytes
moves n s b g en e = leaves (rw (e, en)) (sound_moved s g)

pub room_made : (n : ℕ) (s t : Buffer) → room s < n → Leaves t (moved s) → Leaves t (with_room n s)
unfolding with_room
room_made n s t h e = rw (lt-ltb _ _ h) e

pub room_enough : (n : ℕ) (s : Buffer) → n ≤ room s → Sound s → Leaves s (with_room n s)
unfolding with_room
room_enough n s h g = leaves (rw (le-ltb _ _ h)) (sound_with_room n s g)

-- What fits of n bytes is appended: the k bytes ys.
module _ (n k : ℕ) (s t : Buffer) (et : Leaves t (with_room n s)) (ek : k ≡ min (room t) n) where
  pub fits : k ≡ fitting n s
  unfolding fitting
  fits = rw (← et.same) ek

  behind : (ys b : List ℕ) → length ys ≡ k → b ≡ overlay t.bytes t.marks.write ys
      → buffer b (at t.marks.read (t.marks.write + k)) ≡ appended ys (with_room n s)
  unfolding appended
  behind ys b l e = rw (← et.same, l, e)

-- If k is what fits of l, the first k elements of l are k elements.
pub cut : (k r : ℕ) (l : List ℕ) → k ≡ min r (length l) → length (take k l) ≡ k
cut k r l e = length-take-le k l (omega (arith, min-le_right r (length l)))

pub writes : (ys : List ℕ) (k : ℕ) (s t : Buffer) → Sound s → Leaves t (with_room (length ys) s) → k ≡ min (room t) (length ys)
    → (b : List ℕ) → b ≡ overlay t.bytes t.marks.write (take k ys)
    → Leaves (buffer b (at t.marks.read (t.marks.write + k))) (written ys s)
unfolding written
writes ys k s t g et ek b e =
    leaves (rw (← fits (length ys) k s t et ek) (behind (length ys) k s t et ek (take k ys) b (cut k (room t) ys ek) e)) (sound_written ys s g)

pub fills : (v n k : ℕ) (s t : Buffer) → Sound s → Leaves t (with_room n s) → k ≡ min (room t) n
    → (b : List ℕ) → b ≡ overlay t.bytes t.marks.write (replicate k v)
    → Leaves (buffer b (at t.marks.read (t.marks.write + k))) (filled v n s)
unfolding filled
fills v n k s t g et ek b e =
    leaves (rw (← fits n k s t et ek) (behind n k s t et ek (replicate k v) b (length-replicate k v) e)) (sound_filled v n s g)

-- All of ys is appended or nothing; room for n bytes is asked for.
module _ (want : ℕ) (ys : List ℕ) (n : ℕ) (s t : Buffer) (g : Sound s) (en : n ≡ max want (length ys)) (et : Leaves t (with_room n s)) where
  lacks : room t < n → lacks_room (max want (length ys)) s ≡ true
  unfolding lacks_room
  lacks h = rw (← en, ← et.same, lt-ltb _ _ h)

  has : n ≤ room t → lacks_room (max want (length ys)) s ≡ false
  unfolding lacks_room
  has h = rw (← en, ← et.same, le-ltb _ _ h)

  pub refuses : room t < n → WritesAll want ys s (Err (record { missing = n - room t; marks = t.marks })) t.bytes
  unfolding written_all missing
  refuses h = (lacks h, rw (← en, ← et.same), leaves (rw (lacks h, ← en, ← et.same)) (sound_written_all want ys s g))

  pub takes_all : n ≤ room t → (b : List ℕ) → b ≡ overlay t.bytes t.marks.write ys → WritesAll want ys s (Ok (at t.marks.read (t.marks.write + length ys))) b
  unfolding written_all appended
  takes_all h b e = (has h, leaves (rw (has h, ← en, ← et.same, e)) (sound_written_all want ys s g))

-- At most n bytes are read, k of them, into d, which becomes e.
pub reads : (d : List ℕ) (n k : ℕ) (s : Buffer) → Sound s → k ≡ min (unread s) n → (e : List ℕ)
    → e ≡ overlay d 0 (take (s.marks.read + k - s.marks.read) (drop s.marks.read s.bytes))
    → (k ≡ ready n s) × Leaves (buffer s.bytes (at (s.marks.read + k) s.marks.write)) (read_off n s) × (e ≡ overlay d 0 (ready_bytes n s))
unfolding ready_bytes ready read_off unread_bytes
reads d n k s g ek e ee =
    let same : s.marks.read + k - s.marks.read ≡ k = omega arith in
    let first = take-take k (unread s) (drop s.marks.read s.bytes) (omega (arith, min-le_left (unread s) n)) in
    (ek, leaves (rw ek) (sound_read_off n s g), rw (same, ← first, ek) at ee)

-- ---- the public calls

-- The marks are not sound: `?` hands on that refusal, f.
module _ (s : Buffer) {f : Refusal} (h : (f ≡ Broken) × (is_sound (length s.bytes) s.marks ≡ false)) where
  pub refused : (done : Answering) (r : Answer) → IsErr r × IsErrAnd r (λ x. x ≡ f) → answer_of s.marks r s.bytes ≡ checked s done
  unfolding if_sound
  refused done r e =
      let p = err_from_is_err_and r e.1 in
      rw (p.1, p.2, h.0, h.1)

  pub refused_into : (done : List ℕ) {d : List ℕ} → d ≡ if_sound s done d
  unfolding if_sound
  refused_into done = rw h.1

-- The marks are sound: what `marked` does is what the call promises.
module _ (s : Buffer) (g : Sound s) where
  pub passes : {A : Type 0} {result done : A} (refused : A) → result ≡ done → result ≡ if_sound s done refused
  unfolding if_sound
  passes refused p = rw (sound_is s g) p

  pub counts : {n k : ℕ} {t u : Buffer} → n ≡ k → t ≡ u → answering 0 n t ≡ checked s (answering 0 k u)
  counts en et = passes _ (rw (en, et))

  pub all_taken : (want : ℕ) (ys : List ℕ) {m : Marks} {b : List ℕ} → WritesAll want ys s (Ok m) b → answering 0 (length ys) (buffer b m) ≡ write_all_call want ys s
  unfolding write_all_call
  all_taken want ys w = passes _ (rw (w.0, w.1.same))

  pub overflows : (want : ℕ) (ys : List ℕ) {o : Overflow} {b : List ℕ} → WritesAll want ys s (Err o) b
      → (r : Answer) → IsErr r × IsErrAnd r (λ x. x ≡ Lacking o) → answer_of s.marks r b ≡ write_all_call want ys s
  unfolding write_all_call
  overflows want ys w r e =
      let p = err_from_is_err_and r e.1 in
      rw (p.1, p.2) (passes _ (rw (w.0, w.1, w.2.same)))

-- What `try_write_data_all` says to be missing, and what that number is good for (document 02, request 5). Assumes nothing.
use mathlib.Core.Path.{◌≡◌, refl, sym, ap, ◌∙◌}
use mathlib.Core.Bool.{true}
use mathlib.Core.List.{List}
use Prim.Native.Nat.{ℕ, ◌+◌, ◌-◌, ◌≤◌, zero-le}
use native.Mathlib.Nat.{max-eq_right}
use native.Mathlib.Omega.{arith}
use lib.ListN.{length}
use borrow.Author.Tests.{ltb-true, le-ltb}
use Rattle.fields.proofs.Bools.{of_picked}
use Rattle.buffer.specs.Buffer.{Buffer, room_in_all, lacks_room, missing}
use Rattle.buffer.specs.Inner.Buffer.{Sound}
use Rattle.buffer.proofs.Room.{lacks_by_unread, missing_by_unread, lacks_missing, room_refused, lacks_then, missing_then}
use Rattle.answers.specs.Answers.{answer, Lacks, again}
use Rattle.answers.proofs.Laws.{lacks_else}
use Rattle.device.specs.declared.Device.{Device}
use Rattle.device.specs.Device.{numbers_of}
use Rattle.device.specs.Broken.{Whole}
use Rattle.device.proofs.Wholly.{either, whole_sound}
use Rattle.calls.specs.Checks.{is_in, buffer_of}
use Rattle.calls.specs.Data.{Moving, works_in, write_all_in, write_data_all_call}
use Rattle.calls.proofs.After.{write_all_keeps, write_all_whole, write_all_answer}

-- With answer 1, what is missing is the source's length less the room that the call leaves; else nothing is.
pub write_all_lacks : (d : Device) (io src : List ℕ)
    → Lacks (length src) (room_in_all (buffer_of (write_data_all_call d io src).device (write_data_all_call d io src).bytes)) (write_data_all_call d io src).answer
unfolding works_in write_all_in
write_all_lacks d io src =
    either d io Told (lacks_else (answer 10) refl refl)
    (λ w. of_picked Told (is_in 4 d)
    (λ _. of_picked Told (lacks_room (length src) s) (λ full. let g = whole_sound (numbers_of d) io w in record {
      less = λ _. missing_by_unread (length src) s g ∙ ap (λ (r : ℕ). length src - r) (sym (room_refused 0 src s g (rw (max-eq_right zero-le) full)));
      some = λ _. ltb-true 0 (missing (length src) s) (sym (lacks_missing (length src) s) ∙ full);
      none = λ not_1. absurd (not_1 refl);
    })
    (λ _. lacks_else (answer 0) refl refl))
    (λ _. lacks_else (answer 3) refl refl))
  where
    s : Buffer
    s = buffer_of d io

    Told : Moving → Type 0
    Told o = Lacks (length src) (room_in_all (buffer_of o.device o.bytes)) o.answer

-- The call lacked room, and is made again in 4 with room for k bytes more: that many were sent, or the buffer is that much longer. While
-- that is less than what was missing, it lacks the rest; then it takes all of the source.
pub write_again : (d : Device) (io src : List ℕ) → (write_data_all_call d io src).answer.number ≡ 1
    → (k : ℕ) (d' : Device) (io' : List ℕ) → Whole (numbers_of d') (length io') → is_in 4 d' ≡ true
    → room_in_all (buffer_of d' io') ≡ room_in_all (buffer_of (write_data_all_call d io src).device (write_data_all_call d io src).bytes) + k
    → (write_data_all_call d' io' src).answer ≡ again (write_data_all_call d io src).answer.missing k (answer 0)
unfolding again
write_again d io src refused k d' io' w in4 more =
    let less = (write_all_lacks d io src).less refused in
    let g : Sound (buffer_of d' io') = whole_sound (numbers_of d') io' w in
    (write_all_answer d' io' w src in4).0
    ∙ rw (lacks_then (length src) _ _ k (buffer_of d' io') g less more, missing_then (length src) _ _ k (buffer_of d' io') g less more)

-- Only a whole record in 4 lacks room.
lacked_in_4 : (d : Device) (io src : List ℕ) → (write_data_all_call d io src).answer.number ≡ 1 → Whole (numbers_of d) (length io) × (is_in 4 d ≡ true)
unfolding works_in
lacked_in_4 d io src =
    either d io In4 (λ e. absurd (omega (arith, e)))
    (λ w. of_picked In4 (is_in 4 d) (λ yes _. (w, yes)) (λ _ e. absurd (omega (arith, e))))
  where
    In4 : Moving → Type 0
    In4 o = o.answer.number ≡ 1 → Whole (numbers_of d) (length io) × (is_in 4 d ≡ true)

-- The call lacked room. A source that is shorter by what was missing fits at once.
pub write_shorter : (d : Device) (io src : List ℕ) → (write_data_all_call d io src).answer.number ≡ 1
    → (shorter : List ℕ) → length shorter + (write_data_all_call d io src).answer.missing ≤ length src
    → (write_data_all_call (write_data_all_call d io src).device (write_data_all_call d io src).bytes shorter).answer ≡ answer 0
unfolding is_in
write_shorter d io src refused shorter h =
    let was = lacked_in_4 d io src refused in
    let o : Moving = write_data_all_call d io src in
    let s : Buffer = buffer_of o.device o.bytes in
    let w : Whole (numbers_of o.device) (length o.bytes) = write_all_whole d io was.0 src in
    let in4 : is_in 4 o.device ≡ true = ap (is_in 4) (write_all_keeps d io src) ∙ was.1 in
    let lacks = write_all_lacks d io src in
    let fits : length shorter ≤ room_in_all s = omega (arith, lacks.less refused, lacks.some refused, h) in
    (write_all_answer o.device o.bytes w shorter in4).0
    ∙ rw (lacks_by_unread (length shorter) s (whole_sound (numbers_of o.device) o.bytes w), le-ltb _ _ fits)

-- No second answer satisfies a promise: what the `ensures` of a call says is true of one answer only, and of one content of the lent
-- slice at exit. `Post` is the contract itself, as the check reads it. The calls that take any marks come first, then those of
-- `marked` and `span`. Assumes nothing.
use mathlib.Core.Path.{◌≡◌, refl, sym, ap, ◌∙◌}
use Rattle.std.proofs.Common.{Fits, w64}
use mathlib.Core.Bool.{cond, true≢false}
use mathlib.Core.List.{List}
use Prim.Native.Nat.{ℕ}
use lib.Dec.{eqb}
use Rattle.std.specs.Prelude.{Result, Ok, Err}
use Rattle.buffer.specs.declared.Marks.{Marks}
use Rattle.buffer.specs.declared.marked.Taken.{Taken}
use Rattle.buffer.specs.declared.marked.Overflow.{Overflow}
use Rattle.buffer.specs.declared.Refusal.TheVariants.{Overflow as Lacking, Broken}
use Rattle.buffer.specs.Buffer.{Buffer, buffer}
use Rattle.buffer.specs.Inner.Buffer.{Leaves, WritesAll}
use Rattle.buffer.specs.Calls.{Answering, Answer, answer_of}
use Rattle.fields.proofs.Only.{Only}
use Rattle.buffer.proofs.sound.Kinds as sound-kinds
use Rattle.buffer.proofs.sound.Reads as sound
use Rattle.buffer.proofs.Marks.unread.Kinds as unread-kinds
use Rattle.buffer.proofs.Marks.unread.Reads as unread
use Rattle.buffer.proofs.RefusalFromOverflow.from.Kinds as from-kinds
use Rattle.buffer.proofs.RefusalFromOverflow.from.Reads as from
use Rattle.buffer.proofs.available.Kinds as available-kinds
use Rattle.buffer.proofs.available.Reads as available
use Rattle.buffer.proofs.clean.Kinds as clean-kinds
use Rattle.buffer.proofs.clean.Reads as clean
use Rattle.buffer.proofs.shift.Kinds as shift_kinds
use Rattle.buffer.proofs.shift.Reads as shift
use Rattle.buffer.proofs.write.Kinds as write-kinds
use Rattle.buffer.proofs.write.Reads as write
use Rattle.buffer.proofs.write_all.Kinds as write-all-kinds
use Rattle.buffer.proofs.write_all.Reads as write-all
use Rattle.buffer.proofs.fill_up_to.Kinds as fill-kinds
use Rattle.buffer.proofs.fill_up_to.Reads as fill
use Rattle.buffer.proofs.read.Kinds as read-kinds
use Rattle.buffer.proofs.read.Reads as read
use Rattle.buffer.proofs.marked.clean.Kinds as marked-clean-kinds
use Rattle.buffer.proofs.marked.clean.Reads as marked-clean
use Rattle.buffer.proofs.marked.shift.Kinds as marked-shift-kinds
use Rattle.buffer.proofs.marked.shift.Reads as marked-shift
use Rattle.buffer.proofs.marked.make_room.Kinds as make-room-kinds
use Rattle.buffer.proofs.marked.make_room.Reads as make-room
use Rattle.buffer.proofs.marked.write.Kinds as marked-write-kinds
use Rattle.buffer.proofs.marked.write.Reads as marked-write
use Rattle.buffer.proofs.marked.write_all.Kinds as marked-write-all-kinds
use Rattle.buffer.proofs.marked.write_all.Reads as marked-write-all
use Rattle.buffer.proofs.marked.fill_up_to.Kinds as marked-fill-kinds
use Rattle.buffer.proofs.marked.fill_up_to.Reads as marked-fill
use Rattle.buffer.proofs.marked.read.Kinds as marked-read-kinds
use Rattle.buffer.proofs.marked.read.Reads as marked-read
use Rattle.buffer.proofs.span.copy.Kinds as copy-kinds
use Rattle.buffer.proofs.span.copy.Reads as copy
use Rattle.buffer.proofs.span.put.Kinds as put-kinds
use Rattle.buffer.proofs.span.put.Reads as put
use Rattle.buffer.proofs.span.move_front.Kinds as move-front-kinds
use Rattle.buffer.proofs.span.move_front.Reads as move-front
use Rattle.buffer.proofs.span.fill.Kinds as span-fill-kinds
use Rattle.buffer.proofs.span.fill.Reads as span-fill

-- These are the results of the calls: a count, or what is missing, together with the marks.
abbrev taken : ℕ → Marks → Taken
taken n m = record { count = n; marks = m }

abbrev overflow : ℕ → Marks → Overflow
overflow n m = record { missing = n; marks = m }

-- Document 01's number and values determine the answer, and the bytes too.
named : Answering → Answer
named o = cond (eqb o.answer 0) (Ok (taken o.count o.leaves.marks)) (Err (cond (eqb o.answer 1) (Lacking (overflow o.missing o.leaves.marks)) Broken))

named_answer : (m : Marks) (x : Answer) (b : List ℕ) → named (answer_of m x b) ≡ x
unfolding named
named_answer m (Ok t) b = refl
named_answer m (Err (Lacking o)) b = refl
named_answer m (Err Broken) b = refl

answer_bytes : (m : Marks) (x : Answer) (b : List ℕ) → (answer_of m x b).leaves.bytes ≡ b
answer_bytes m (Ok t) b = refl
answer_bytes m (Err (Lacking o)) b = refl
answer_bytes m (Err Broken) b = refl

pub answer_once : (m : Marks) (x y : Answer) (b c : List ℕ) {o : Answering} → answer_of m x b ≡ o → answer_of m y c ≡ o → (x ≡ y) × (b ≡ c)
answer_once m x y b c p q =
    let e = p ∙ sym q in
    (sym (named_answer m x b) ∙ ap named e ∙ named_answer m y c, sym (answer_bytes m x b) ∙ ap (λ (o : Answering). o.leaves.bytes) e ∙ answer_bytes m y c)

pub sound_only : Only 0 sound-kinds.ps sound-kinds.r sound.Post (λ κs s. tt {0})
sound_only κs a x y s t p q = (p ∙ sym q, refl)

pub unread_only : Only 0 unread-kinds.ps unread-kinds.r unread.Post (λ κs s. tt {0})
unread_only κs a x y s t p q = (p ∙ sym q, refl)

pub from_only : Only 0 from-kinds.ps from-kinds.r from.Post (λ κs s. tt {0})
from_only κs a x y s t p q = (p ∙ sym q, refl)

pub available_only : Only 1 available-kinds.ps available-kinds.r available.Post (λ κs s. tt {0})
available_only κs a x y s t p q = ((answer_once _ x y _ _ p q).0, refl)

pub clean_only : Only 1 clean-kinds.ps clean-kinds.r clean.Post (λ κs s. tt {0})
clean_only κs a x y s t p q = ((answer_once _ x y _ _ p q).0, refl)

pub shift_only : Only 1 shift_kinds.ps shift_kinds.r shift.Post (λ κs s. s.0.now)
shift_only κs a x y s t p q = answer_once _ x y _ _ p q

pub write_only : Only 2 write-kinds.ps write-kinds.r write.Post (λ κs s. s.0.now)
write_only κs a x y s t p q = answer_once _ x y _ _ p q

pub write_all_only : Only 2 write-all-kinds.ps write-all-kinds.r write-all.Post (λ κs s. s.0.now)
write_all_only κs a x y s t p q = answer_once _ x y _ _ p q

pub fill_only : Only 1 fill-kinds.ps fill-kinds.r fill.Post (λ κs s. s.0.now)
fill_only κs a x y s t p q = answer_once _ x y _ _ p q

pub read_only : Only 2 read-kinds.ps read-kinds.r read.Post (λ κs s. s.1.1.0.now)
read_only κs a x y s t p q = ((answer_once _ x y _ _ p.0 q.0).0, p.1 ∙ sym q.1)

-- ---- marked and span

-- If two buffers are left as t, their bytes and their marks are the same.
pub left_once : {b c : List ℕ} {m l : Marks} {t : Buffer} → Leaves (buffer b m) t → Leaves (buffer c l) t → (m ≡ l) × (b ≡ c)
left_once p q =
    let e = p.same ∙ sym q.same in
    (ap (λ (s : Buffer). s.marks) e, ap (λ (s : Buffer). s.bytes) e)

taken_once : {x y : Taken} {b c : List ℕ} {n : ℕ} {t : Buffer}
    → x.count ≡ n → Leaves (buffer b x.marks) t → y.count ≡ n → Leaves (buffer c y.marks) t → (x ≡ y) × (b ≡ c)
taken_once {x} {y} en p ek q =
    let e = left_once p q in
    (ap (λ (k : ℕ). taken k x.marks) (en ∙ sym ek) ∙ ap (taken y.count) e.0, e.1)

wrote_once : (want : ℕ) (ys : List ℕ) (s : Buffer) {b c : List ℕ} (x y : Result Marks Overflow) → WritesAll want ys s x b → WritesAll want ys s y c → (x ≡ y) × (b ≡ c)
wrote_once want ys s (Ok m) (Ok l) p q =
    let e = left_once p.1 q.1 in
    (ap Ok e.0, e.1)
wrote_once want ys s (Err o) (Err u) p q =
    let e = left_once p.2 q.2 in
    (ap (λ (k : ℕ). Err (overflow k o.marks)) (p.1 ∙ sym q.1) ∙ ap (λ (m : Marks). Err (overflow u.missing m)) e.0, e.1)
wrote_once want ys s (Ok m) (Err u) p q = absurd (true≢false (sym q.0 ∙ p.0))
wrote_once want ys s (Err o) (Ok l) p q = absurd (true≢false (sym p.0 ∙ q.0))

pub marked_clean_only : Only 0 marked-clean-kinds.ps marked-clean-kinds.r marked-clean.Post (λ κs s. tt {0})
marked_clean_only κs a x y s t p q = (p ∙ sym q, refl)

pub marked_shift_only : Only 1 marked-shift-kinds.ps marked-shift-kinds.r marked-shift.Post (λ κs s. s.0.now)
marked_shift_only κs a x y s t p q = left_once p q

pub make_room_only : Only 1 make-room-kinds.ps make-room-kinds.r make-room.Post (λ κs s. s.0.now)
make_room_only κs a x y s t p q = left_once p q

pub marked_write_only : Only 2 marked-write-kinds.ps marked-write-kinds.r marked-write.Post (λ κs s. s.0.now)
marked_write_only κs a x y s t p q = taken_once p.0 p.1 q.0 q.1

pub marked_fill_only : Only 1 marked-fill-kinds.ps marked-fill-kinds.r marked-fill.Post (λ κs s. s.0.now)
marked_fill_only κs a x y s t p q = taken_once p.0 p.1 q.0 q.1

pub marked_write_all_only : Only 2 marked-write-all-kinds.ps marked-write-all-kinds.r marked-write-all.Post (λ κs s. s.0.now)
marked_write_all_only κs a x y s t p q = wrote_once _ _ _ x y p q

pub marked_read_only : Only 2 marked-read-kinds.ps marked-read-kinds.r marked-read.Post (λ κs s. s.1.1.1.0.now)
marked_read_only κs a x y s t p q = ((taken_once p.0 p.1 q.0 q.1).0, p.2 ∙ sym q.2)

pub copy_only : (n k : ℕ) (hn : Fits w64 n) (hk : Fits w64 k) → Only 4 (copy-kinds.ps n k hn hk) (copy-kinds.r n k hn hk) (copy.Post n k hn hk) (λ κs s. s.0.now)
copy_only n k hn hk κs a x y s t p q = (refl, p ∙ sym q)

pub put_only : Only 2 put-kinds.ps put-kinds.r put.Post (λ κs s. s.0.now)
put_only κs a x y s t p q = (refl, p ∙ sym q)

pub move_front_only : Only 1 move-front-kinds.ps move-front-kinds.r move-front.Post (λ κs s. s.0.now)
move_front_only κs a x y s t p q = (refl, p ∙ sym q)

pub span_fill_only : Only 1 span-fill-kinds.ps span-fill-kinds.r span-fill.Post (λ κs s. s.0.now)
span_fill_only κs a x y s t p q = (refl, p ∙ sym q)

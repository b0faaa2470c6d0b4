-- No second answer satisfies a promise: only one answer makes the `ensures` of a public function true, and only one content of the record
-- at exit. `Post` is the contract itself, as the check reads it. The functions that read come first, then those of `store`. Assumes
-- nothing.
use mathlib.Core.Path.{refl, sym, ◌∙◌}
use Rattle.fields.proofs.Only.{Only}
use Rattle.recordbytes.proofs.known.Kinds as known-kinds
use Rattle.recordbytes.proofs.known.Reads as known
use Rattle.recordbytes.proofs.device_at.Kinds as device-at-kinds
use Rattle.recordbytes.proofs.device_at.Reads as device-at
use Rattle.recordbytes.proofs.numbers_at.Kinds as numbers-at-kinds
use Rattle.recordbytes.proofs.numbers_at.Reads as numbers-at
use Rattle.recordbytes.proofs.store.narrow.Kinds as narrow_kinds
use Rattle.recordbytes.proofs.store.narrow.Reads as narrow
use Rattle.recordbytes.proofs.store.new.Kinds as new-kinds
use Rattle.recordbytes.proofs.store.new.Reads as new
use Rattle.recordbytes.proofs.store.state.Kinds as state-kinds
use Rattle.recordbytes.proofs.store.state.Reads as state
use Rattle.recordbytes.proofs.store.marks.Kinds as marks-kinds
use Rattle.recordbytes.proofs.store.marks.Reads as marks
use Rattle.recordbytes.proofs.store.read_mark.Kinds as read-mark-kinds
use Rattle.recordbytes.proofs.store.read_mark.Reads as read-mark
use Rattle.recordbytes.proofs.store.write_mark.Kinds as write-mark-kinds
use Rattle.recordbytes.proofs.store.write_mark.Reads as write-mark
use Rattle.recordbytes.proofs.store.left.Kinds as left-kinds
use Rattle.recordbytes.proofs.store.left.Reads as left
use Rattle.recordbytes.proofs.store.put_in.Kinds as put-in-kinds
use Rattle.recordbytes.proofs.store.put_in.Reads as put_in
use Rattle.recordbytes.proofs.store.status.Kinds as status-kinds
use Rattle.recordbytes.proofs.store.status.Reads as status
use Rattle.recordbytes.proofs.store.wrapper.Kinds as wrapper-kinds
use Rattle.recordbytes.proofs.store.wrapper.Reads as wrapper

pub known_only : Only 1 known-kinds.ps known-kinds.r known.Post (λ κs s. tt {0})
known_only κs a x y s t p q = (p ∙ sym q, refl)

pub device_at_only : Only 1 device-at-kinds.ps device-at-kinds.r device-at.Post (λ κs s. tt {0})
device_at_only κs a x y s t p q = (p ∙ sym q, refl)

pub numbers_at_only : Only 1 numbers-at-kinds.ps numbers-at-kinds.r numbers-at.Post (λ κs s. tt {0})
numbers_at_only κs a x y s t p q = (p ∙ sym q, refl)

-- ---- store

pub narrow_only : Only 0 narrow_kinds.ps narrow_kinds.r narrow.Post (λ κs s. tt {0})
narrow_only κs a x y s t p q = (p ∙ sym q, refl)

pub new_only : Only 1 new-kinds.ps new-kinds.r new.Post (λ κs s. s.0.now)
new_only κs a x y s t p q = (refl, p ∙ sym q)

pub state_only : Only 1 state-kinds.ps state-kinds.r state.Post (λ κs s. s.0.now)
state_only κs a x y s t p q = (refl, p ∙ sym q)

pub marks_only : Only 1 marks-kinds.ps marks-kinds.r marks.Post (λ κs s. s.0.now)
marks_only κs a x y s t p q = (refl, p ∙ sym q)

pub read_mark_only : Only 1 read-mark-kinds.ps read-mark-kinds.r read-mark.Post (λ κs s. s.0.now)
read_mark_only κs a x y s t p q = (refl, p ∙ sym q)

pub write_mark_only : Only 1 write-mark-kinds.ps write-mark-kinds.r write-mark.Post (λ κs s. s.0.now)
write_mark_only κs a x y s t p q = (refl, p ∙ sym q)

pub left_only : Only 1 left-kinds.ps left-kinds.r left.Post (λ κs s. s.0.now)
left_only κs a x y s t p q = (refl, p ∙ sym q)

pub put_in_only : Only 1 put-in-kinds.ps put-in-kinds.r put_in.Post (λ κs s. s.0.now)
put_in_only κs a x y s t p q = (refl, p ∙ sym q)

pub status_only : Only 1 status-kinds.ps status-kinds.r status.Post (λ κs s. s.0.now)
status_only κs a x y s t p q = (refl, p ∙ sym q)

pub wrapper_only : Only 2 wrapper-kinds.ps wrapper-kinds.r wrapper.Post (λ κs s. s.0.now)
wrapper_only κs a x y s t p q = (refl, p ∙ sym q)

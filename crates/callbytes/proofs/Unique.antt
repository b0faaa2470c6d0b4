-- No second answer satisfies a promise: what the `ensures` of a call says is true of only one result, and of only one content of each
-- lent slice at exit. `Post` is the contract itself, as the check reads it. Assumes nothing.
use mathlib.Core.Path.{◌≡◌, sym, ap, ◌∙◌}
use mathlib.Core.List.{List}
use Prim.Native.Nat.{ℕ}
use Rattle.fields.proofs.Only.{Only}
use Rattle.callbytes.specs.Calls.{CallOutcome, call_outcome}
use Rattle.callbytes.proofs.create.create.Kinds as create-kinds
use Rattle.callbytes.proofs.create.create.Reads as create
use Rattle.callbytes.proofs.status.set_status.Kinds as set-status-kinds
use Rattle.callbytes.proofs.status.set_status.Reads as set-status
use Rattle.callbytes.proofs.bus.reset.Kinds as reset-kinds
use Rattle.callbytes.proofs.bus.reset.Reads as reset
use Rattle.callbytes.proofs.bus.control.Kinds as control-kinds
use Rattle.callbytes.proofs.bus.control.Reads as control

-- What a call leaves tells each of its parts.
pub left_once : {n k : ℕ} {r l : List ℕ} → call_outcome n r ≡ call_outcome k l → (n ≡ k) × (r ≡ l)
left_once e = (ap (λ (o : CallOutcome). o.result) e, ap (λ (o : CallOutcome). o.bytes) e)

pub create_only : Only 1 create-kinds.ps create-kinds.r create.Post (λ κs s. s.0.now)
create_only κs a x y s t p q = left_once (p ∙ sym q)

pub set_status_only : Only 2 set-status-kinds.ps set-status-kinds.r set-status.Post (λ κs s. s.0.now)
set_status_only κs a x y s t p q = left_once (p ∙ sym q)

pub reset_only : Only 2 reset-kinds.ps reset-kinds.r reset.Post (λ κs s. s.0.now)
reset_only κs a x y s t p q = left_once (p ∙ sym q)

pub control_only : Only 2 control-kinds.ps control-kinds.r control.Post (λ κs s. s.0.now)
control_only κs a x y s t p q = left_once (p ∙ sym q)

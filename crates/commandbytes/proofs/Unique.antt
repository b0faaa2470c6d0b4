-- No second answer satisfies a promise: what the `ensures` of a call says is true of only one result, and of only one content of each
-- lent slice at exit. `Post` is the contract itself, as the check reads it. Assumes nothing.
use mathlib.Core.Path.{◌≡◌, sym, ap, ◌∙◌}
use mathlib.Core.List.{List}
use Prim.Native.Nat.{ℕ}
use Rattle.fields.proofs.Only.{Only}
use Rattle.commandbytes.specs.Command.{CommandOutcome, command_outcome}
use Rattle.commandbytes.proofs.command.Kinds as command-kinds
use Rattle.commandbytes.proofs.command.Reads as command
use Rattle.commandbytes.proofs.command_step.Kinds as command-step-kinds
use Rattle.commandbytes.proofs.command_step.Reads as command-step
use Rattle.commandbytes.proofs.command_step_told.Kinds as command-step-told-kinds
use Rattle.commandbytes.proofs.command_step_told.Reads as command-step-told

-- What a call leaves tells its result, and what the caller lent for the command.
pub shown_once : {n k : ℕ} {l m : List ℕ} → command_outcome n l ≡ command_outcome k m → (n ≡ k) × (l ≡ m)
shown_once e = (ap (λ (o : CommandOutcome). o.result) e, ap (λ (o : CommandOutcome). o.lent) e)

-- The record is lent only for reading.
pub command_only : Only 3 command-kinds.ps command-kinds.r command.Post (λ κs s. s.1.1.0.now)
command_only κs a x y s t p q = shown_once (p ∙ sym q)

pub command_step_only : Only 3 command-step-kinds.ps command-step-kinds.r command-step.Post (λ κs s. s.1.1.0.now)
command_step_only κs a x y s t p q = shown_once (p ∙ sym q)

pub command_step_told_only : Only 3 command-step-told-kinds.ps command-step-told-kinds.r command-step-told.Post (λ κs s. s.1.1.1.0.now)
command_step_told_only κs a x y s t p q = shown_once (p ∙ sym q)

-- No second answer satisfies a promise. `Post` is the contract itself, as the check reads it. Assumes nothing.
use mathlib.Core.Path.{refl, sym, ◌∙◌}
use Rattle.fields.proofs.Only.{Only}
use Rattle.ring.proofs.state_number.Kinds as state-number-kinds
use Rattle.ring.proofs.state_number.Reads as state_number_lem
use Rattle.ring.proofs.state_of_number.Kinds as state-of-number-kinds
use Rattle.ring.proofs.state_of_number.Reads as state-of-number
use Rattle.ring.proofs.row_of.Kinds as row-of-kinds
use Rattle.ring.proofs.row_of.Reads as row_of
use Rattle.ring.proofs.settle.Kinds as settle-kinds
use Rattle.ring.proofs.settle.Reads as settle

pub state_number_only : Only 0 state-number-kinds.ps state-number-kinds.r state_number_lem.Post (λ κs s. tt {0})
state_number_only κs a x y s t p q = (p ∙ sym q, refl)

pub state_of_number_only : Only 0 state-of-number-kinds.ps state-of-number-kinds.r state-of-number.Post (λ κs s. tt {0})
state_of_number_only κs a x y s t p q = (p ∙ sym q, refl)

pub row_of_only : Only 0 row-of-kinds.ps row-of-kinds.r row_of.Post (λ κs s. tt {0})
row_of_only κs a x y s t p q = (p ∙ sym q, refl)

pub settle_only : Only 0 settle-kinds.ps settle-kinds.r settle.Post (λ κs s. tt {0})
settle_only κs a x y s t p q = (p ∙ sym q, refl)

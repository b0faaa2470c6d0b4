-- The starred table is not true of just any values: with another value expected in one row it does not hold. Assumes nothing.
use mathlib.Core.Path.{◌≡◌, sym, ◌∙◌}
use mathlib.Core.Bool.{Bool, true, false}
use mathlib.Core.List.{List, ◌∷◌, ◌++◌}
use lib.ListN.{drop}
use Rattle.std.specs.Prelude.{is_some}
use Rattle.fields.specs.Case.{Case, case, AllHold}
use Rattle.fields.proofs.Bools.{clash}
use Rattle.fields.proofs.Wrong.{bites, holds_there}
use Rattle.device.specs.Cases as device
use Rattle.wrapper.specs.Wrapper.{parsed}
use Rattle.wrapper.specs.Cases.{message}
use Rattle.wrapper.specs.Cases as wrapper
use Rattle.bbb.specs.Cases as bbb
use Rattle.readout.specs.Cases as readout
use Rattle.scsi.specs.Cases as scsi
use Rattle.starred.specs.Starred.{table}
use Rattle.starred.proofs.Hold.{hold}

-- "Block length 0 .. invalid*" is the first row of `wrapper`: whether such a message is valid; and the rows after it.
abbrev computed : Bool
computed = is_some (parsed (message 0x80 0 0))

abbrev rest : List Case
rest = drop 1 wrapper.starred ++ (bbb.starred ++ (readout.starred ++ scsi.starred))

-- The table with `expected` as the value that is expected in that row.
abbrev expecting : Bool → List Case
expecting expected = device.starred ++ case computed expected ∷ rest

-- With 01's value it is the starred table, which holds.
pub right : AllHold (expecting false)
unfolding table wrapper.starred AllHold
right = hold

-- With the other value it does not hold.
pub wrong : AllHold (expecting true) → ⊥
wrong = bites device.starred computed true rest (λ (valid : computed ≡ true). clash (sym valid ∙ invalid))
  where
    invalid : computed ≡ false
    invalid = holds_there device.starred (case computed false) rest right

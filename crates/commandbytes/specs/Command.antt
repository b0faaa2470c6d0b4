-- The command shown to the firmware, and the command step, over a record of bytes. Neither call changes the record. Assumes nothing:
-- these are definitions.
use Rattle.std.specs.Prelude.{ℕ, Bool, cond, List, [], ◌∷◌, eqb, leb, length}
use Rattle.device.specs.declared.Device.{Device}
use Rattle.calls.specs.Command.{Showing, command_call, Offered, command_step_told_call}
use Rattle.scsi.specs.Decoding.{plain_is_extended}
use Rattle.scsi.specs.Numbers.{flag_number, command_numbers}
use Rattle.border.specs.Word.{word, answer_word}
use Rattle.border.specs.Record.{on_device}

-- `result` is what the call returns, and `lent` is what the caller lends for the command, as the call leaves it: bytes for `command_on`,
-- numbers for `command_step_on`. `command_outcome` makes such a record of the two.
pub record CommandOutcome : Type 0 where
  pub result : ℕ
  pub lent : List ℕ

abbrev pub command_outcome : ℕ → List ℕ → CommandOutcome
command_outcome result lent = record { result = result; lent = lent }

-- What is returned and left where the call by value gives `o` and the caller lent the bytes `was`. Where a command is shown, its 16 bytes
-- of block are left there; where none is shown, `was` stays.
abbrev pub command_outcome_of : List ℕ → Showing → CommandOutcome
command_outcome_of was o = command_outcome (word o.answer.number o.lun 0 (flag_number o.shown) o.blocklength) (cond o.shown o.block was)

-- The command shown, over the record's bytes `r`, the IO buffer `io` and the lent bytes `was`. The answer is 10 where `was` does not have
-- 16 bytes, or where `r` is no record; then everything stays as it was.
unfoldable pub command_on : List ℕ → List ℕ → List ℕ → CommandOutcome
command_on r io was =
    cond (eqb (length was) 16)
    (on_device r (command_outcome (answer_word 10) was) (λ (d : Device). command_outcome_of was (command_call d io)))
    (command_outcome (answer_word 10) was)

-- What is returned and left where the call by value answers `number` and the caller lent the numbers `was`. The third argument lists what
-- is offered. A command that is offered is left as six numbers; where none is offered, `was` stays.
abbrev pub command_outcome_of_step : ℕ → List ℕ → List Offered → CommandOutcome
command_outcome_of_step number was [] = command_outcome (answer_word number) was
command_outcome_of_step number was (o ∷ os) = command_outcome (word number o.lun 0 1 0) (command_numbers o.command)

-- The command step, over the record's bytes `r`, the IO buffer `io` and the lent numbers `was`; `extended` says whether extended addressing
-- is on. The answer is 10 where `was` does not have six numbers, or where `r` is no record; then everything stays as it was.
unfoldable pub command_step_by : Bool → List ℕ → List ℕ → List ℕ → CommandOutcome
command_step_by extended r io was =
    cond (eqb (length was) 6)
    (on_device r (command_outcome (answer_word 10) was) (λ (d : Device). command_outcome_of_step (command_step_told_call extended d io).answer.number was (command_step_told_call extended d io).offers))
    (command_outcome (answer_word 10) was)

-- The plain command step, which is not told.
unfoldable pub command_step_on : List ℕ → List ℕ → List ℕ → CommandOutcome
command_step_on r io was = command_step_by plain_is_extended r io was

-- The command step that is told: extended addressing is off where `extended` is 0 and on where it is 1. Any other number is for no flag:
-- the answer is 10, and everything stays as it was.
unfoldable pub command_step_told_on : ℕ → List ℕ → List ℕ → List ℕ → CommandOutcome
command_step_told_on extended r io was = cond (leb extended 1) (command_step_by (eqb extended 1) r io was) (command_outcome (answer_word 10) was)

-- Document 01 on `set_status`. Assumes nothing: these are definitions.
use Rattle.std.specs.Prelude.{ℕ, Bool, cond, ◌||◌, List, eqb, leb, Some}
use Rattle.answers.specs.Answers.{Answering, answer, answer_of}
use Rattle.wrapper.specs.Counters.{residue_of}
use Rattle.wrapper.specs.Status.{status_of_number}
use Rattle.ring.specs.States.{state_number}
use Rattle.device.specs.declared.Device.{Device}
use Rattle.device.specs.Device.{with_status, told}
use Rattle.device.specs.Broken.{unless_broken}
use Rattle.calls.specs.declared.FirmwareStatus.{FirmwareStatus}
use Rattle.calls.specs.declared.Stated.{Stated}

-- `set_status` gives the answer and the record.
pub record Stating : Type 0 where
  pub answer : Answering
  pub device : Device

abbrev pub stating : Answering → Device → Stating
stating a d = record { answer = a; device = d }

-- This reads what the code returned, `r`, as such a record.
abbrev pub stating_of : Stated → Stating
stating_of r = stating (answer_of r.answer) r.device

-- "`set_status` is accepted in 2, 4, 5, 7": `state` is the number of the state.
unfoldable pub takes_status : ℕ → Bool
takes_status state = eqb state 2 || (eqb state 4 || (eqb state 5 || eqb state 7))

-- The record `d` gets the firmware's status `f`: "a later one replaces the earlier"; "The residue is L less the firmware's figure".
unfoldable pub with_figure : FirmwareStatus → Device → Device
with_figure f d = with_status (Some (told (status_of_number f.status) (residue_of d.wrapper.length f.figure))) d

-- In a state that accepts a status, the answer is still 12 for ".. or a status byte above 2".
unfoldable pub accepted_status : Device → FirmwareStatus → Stating
accepted_status d f = cond (leb f.status 2) (stating (answer 0) (with_figure f d)) (stating (answer 12) d)

-- This is `set_status` with the status `f`, for any record `d` over any IO buffer `io`. The answer is 12 for "`set_status` where the Rust
-- panics, ..", and that leaves "all as before".
unfoldable pub set_status_call : Device → List ℕ → FirmwareStatus → Stating
set_status_call d io f =
    unless_broken d io (stating (answer 10) d)
    (cond (takes_status (state_number d.state)) (accepted_status d f) (stating (answer 12) d))

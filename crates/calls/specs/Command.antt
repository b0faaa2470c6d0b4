-- Document 01 on the command: how it is shown, and the command step. Assumes nothing: these are definitions.
use Rattle.std.specs.Prelude.{ℕ, Bool, true, false, cond, not, ◌&&◌, Option, Some, None, List, [], ◌∷◌, map, take, replicate}
use Rattle.answers.specs.Answers.{Answering, answer, answer_of}
use Rattle.scsi.specs.declared.ScsiCommand.{ScsiCommand}
use Rattle.scsi.specs.Decoding.{Decoding, decode_call, plain_is_extended}
use Rattle.wrapper.specs.declared.Wrapper.{Wrapper}
use Rattle.device.specs.declared.Device.{Device}
use Rattle.device.specs.Device.{is_present}
use Rattle.device.specs.Broken.{unless_broken}
use Rattle.calls.specs.declared.command.Shown.{Shown}
use Rattle.calls.specs.declared.command.Looked.{Looked}
use Rattle.calls.specs.declared.command.Offer.{Offer}
use Rattle.calls.specs.declared.command.Step.{Step}
use Rattle.calls.specs.Checks.{is_in}

-- ---- the command shown

-- The call that shows the command gives the answer, whether a command is `shown`, its LUN, how many bytes its block has, and all 16 bytes
-- that the record keeps of the block.
pub record Showing : Type 0 where
  pub answer : Answering
  pub shown : Bool
  pub lun : ℕ
  pub blocklength : ℕ
  pub block : List ℕ

-- The command of the wrapper `w` is shown, with the answer 0.
abbrev pub showing : Wrapper → Showing
showing w = record { answer = answer 0; shown = true; lun = w.lun; blocklength = w.blocklength; block = w.block }

-- Nothing is shown, with the answer `a`; every other number is 0.
abbrev pub hiding : Answering → Showing
hiding a = record { answer = a; shown = false; lun = 0; blocklength = 0; block = replicate 16 0 }

-- With the answer `a` the code shows a command, or none.
abbrev pub showing_with : Answering → Option Shown → Showing
showing_with a (Some s) = record { answer = a; shown = true; lun = s.lun; blocklength = s.blocklength; block = s.block }
showing_with a None = hiding a

-- This reads what the code returned, `r`, as such a record.
abbrev pub showing_of : Looked → Showing
showing_of r = showing_with (answer_of r.answer) r.shown

-- "A command is shown in every state but 0": `d` is the record.
unfoldable pub is_shown : Device → Bool
is_shown d = not (is_in 0 d)

-- This is the call that shows the command, for any record `d` over any IO buffer `io`.
unfoldable pub command_call : Device → List ℕ → Showing
command_call d io = unless_broken d io (hiding (answer 10)) (cond (is_shown d) (showing d.wrapper) (hiding (answer 0)))

-- ---- the command step

-- The command step offers a command with its LUN.
pub record Offered : Type 0 where
  pub lun : ℕ
  pub command : ScsiCommand

abbrev pub offered : ℕ → ScsiCommand → Offered
offered lun c = record { lun = lun; command = c }

-- A step of the code offers nothing, or one command; here that is a list.
abbrev pub offered_of : Option Offer → List Offered
offered_of None = []
offered_of (Some o) = offered o.lun o.command ∷ []

-- The command step gives the answer and what it offers.
pub record Stepping : Type 0 where
  pub answer : Answering
  pub offers : List Offered

abbrev pub stepping : Answering → List Offered → Stepping
stepping a os = record { answer = a; offers = os }

-- This reads what the code returned, `r`, as such a record.
abbrev pub stepping_of : Step → Stepping
stepping_of r = stepping (answer_of r.answer) (offered_of r.offer)

-- "the command step offers it when no status is present": `d` is the record, and the command must be shown too.
unfoldable pub is_offered : Device → Bool
is_offered d = is_shown d && not (is_present d.status)

-- Decoding gave `o`: its command, if there is one, is offered with this `lun`. The answer is that of decoding; 13 is "decoding an empty
-- block".
unfoldable pub stepping_of_decoding : ℕ → Decoding → Stepping
stepping_of_decoding lun o = stepping (answer o.answer) (map (offered lun) o.commands)

-- This is the command block of the wrapper `w`: as many bytes as its block length says.
unfoldable pub block_of : Wrapper → List ℕ
block_of w = take w.blocklength w.block

-- This is the command step that is told whether extended addressing is on, for any record `d` over any IO buffer `io`. "nothing offered
-- gives 0".
unfoldable pub command_step_told_call : Bool → Device → List ℕ → Stepping
command_step_told_call extended d io =
    unless_broken d io (stepping (answer 10) [])
    (cond (is_offered d) (stepping_of_decoding d.wrapper.lun (decode_call extended (block_of d.wrapper))) (stepping (answer 0) []))

-- This is the plain command step, which is not told: it decodes as the plain entry of the decoder does.
unfoldable pub command_step_call : Device → List ℕ → Stepping
command_step_call d io = command_step_told_call plain_is_extended d io

-- One table of cases of the calls. proofs/Cases.antt states that each of them holds. Assumes nothing.
use Rattle.std.specs.Prelude.{true, false, List, [], ◌∷◌, ◌++◌, ℕ, replicate, None, Some}
use Rattle.fields.specs.Case.{Case, case}
use Rattle.buffer.specs.Buffer.{at}
use Rattle.answers.specs.declared.Stalls.TheVariants.{Kept}
use Rattle.answers.specs.Answers.{answer, lacking}
use Rattle.wrapper.specs.declared.DataDirection.TheVariants.{In}
use Rattle.wrapper.specs.declared.status.CommandStatus.TheVariants.{PhaseError}
use Rattle.scsi.specs.declared.ScsiCommand.TheVariants.{Unknown, Inquiry, Read}
use Rattle.ring.specs.declared.State.{State}
use Rattle.ring.specs.declared.State.TheVariants.{CommandTransfer, CommandTransferInvalid, DataTransferNoData, DataTransferToHost, DataTransferFromHost}
use Rattle.device.specs.declared.Device.{Device}
use Rattle.device.specs.Device.{rebuilt, with_status, putting_in, told}
use Rattle.device.specs.Create.{fixed, new_device}
use Rattle.calls.specs.declared.FirmwareStatus.{FirmwareStatus}
use Rattle.calls.specs.declared.Request.{Request}
use Rattle.calls.specs.Status.{set_status_call}
use Rattle.calls.specs.Data.{read_data_call, write_data_call, write_data_all_call}
use Rattle.calls.specs.Bus.{reset_call, control_call}
use Rattle.calls.specs.Command.{showing, offered, stepping, command_call, command_step_told_call, command_step_call}

-- This device has P 8, max LUN 3 and an IO buffer of 32 bytes, three of which are unread. L is 512, and 2 bytes are left. The command is
-- 12 01 80 00 FF, for LUN 1; `state` and `blocklength` are given.
abbrev device : State → ℕ → Device
device state blocklength =
    rebuilt (new_device (fixed 8 3 32)) state (at 1 4)
    (record { tag = 7; length = 512; direction = In; lun = 1; blocklength = blocklength; block = 0x12 ∷ 0x01 ∷ 0x80 ∷ 0x00 ∷ 0xFF ∷ replicate 11 9 })
    None (record { 0 = 2 })

-- This is the same device in state 4, with a READ (16) of address 2 and 258 blocks.
abbrev reading16 : Device
reading16 =
    rebuilt (new_device (fixed 8 3 32)) DataTransferToHost (at 1 4)
    (record { tag = 7; length = 512; direction = In; lun = 1; blocklength = 16; block = 0x88 ∷ replicate 8 0 ++ (2 ∷ 0 ∷ 0 ∷ 1 ∷ 2 ∷ 0 ∷ 0 ∷ []) })
    None (record { 0 = 2 })

-- This is its IO buffer.
abbrev io : List ℕ
io = 1 ∷ 2 ∷ 3 ∷ 4 ∷ replicate 28 5

-- The firmware gives this status byte, and the figure `bytes`.
abbrev figure : ℕ → ℕ → FirmwareStatus
figure status bytes = record { status = status; figure = bytes }

-- A control request has this bmRequestType, `type`, and this request `number`.
abbrev request : ℕ → ℕ → Request
request type number = record { requesttype = type; request = number }

-- These are the cases.
unfoldable pub table : List Case
table =
    -- "L 512, figure 500: residue 12; 600: 0*": here as the status that is set
    case (set_status_call (device DataTransferToHost 5) io (figure 2 500)).device.status (Some (told PhaseError (record { 0 = 12 })))
    ∷ case (set_status_call (device DataTransferToHost 5) io (figure 2 600)).device.status (Some (told PhaseError (record { 0 = 0 })))
    -- 2 accepts a status too, though no poll ends in 2.
    ∷ case (set_status_call (device DataTransferNoData 5) io (figure 0 512)).answer (answer 0)
    -- A status byte is above 2; a state accepts none. Both leave all as before.
    ∷ case (set_status_call (device DataTransferToHost 5) io (figure 3 500)) (record { answer = answer 12; device = device DataTransferToHost 5 })
    ∷ case (set_status_call (device CommandTransferInvalid 5) io (figure 0 500)) (record { answer = answer 12; device = device CommandTransferInvalid 5 })
    -- 10 comes first: the lent buffer is a byte short.
    ∷ case (set_status_call (device DataTransferToHost 5) (replicate 31 5) (figure 3 500)).answer (answer 10)
    -- Three bytes are unread: a destination of two gets two, and one of five gets three.
    ∷ case (read_data_call (device DataTransferFromHost 5) io (8 ∷ 8 ∷ [])).count 2
    ∷ case (read_data_call (device DataTransferFromHost 5) io (8 ∷ 8 ∷ [])).bytes (2 ∷ 3 ∷ [])
    ∷ case (read_data_call (device DataTransferFromHost 5) io (replicate 5 8)).count 3
    ∷ case (read_data_call (device DataTransferFromHost 5) io (replicate 5 8)).bytes (2 ∷ 3 ∷ 4 ∷ 8 ∷ 8 ∷ [])
    ∷ case (read_data_call (device DataTransferFromHost 5) io (replicate 5 8)).device.marks (at 4 4)
    ∷ case (read_data_call (device DataTransferToHost 5) io (8 ∷ 8 ∷ [])) (record { answer = answer 3; count = 0; device = device DataTransferToHost 5; bytes = 8 ∷ 8 ∷ [] })
    -- Two bytes are left: of a source of three, `write_data` takes two, and `try_write_data_all` takes three.
    ∷ case (write_data_call (device DataTransferToHost 5) io (6 ∷ 7 ∷ 8 ∷ [])).count 2
    ∷ case (write_data_call (device DataTransferToHost 5) io (6 ∷ 7 ∷ 8 ∷ [])).bytes (1 ∷ 2 ∷ 3 ∷ 4 ∷ 6 ∷ 7 ∷ replicate 26 5)
    ∷ case (write_data_all_call (device DataTransferToHost 5) io (6 ∷ 7 ∷ 8 ∷ [])).count 3
    ∷ case (write_data_all_call (device DataTransferToHost 5) io (6 ∷ 7 ∷ 8 ∷ [])).device.marks (at 1 7)
    -- 29 bytes fit after the move, and 30 do not: one byte is missing, and the move stays.
    ∷ case (write_data_all_call (device DataTransferToHost 5) io (replicate 29 6)).bytes (2 ∷ 3 ∷ 4 ∷ replicate 29 6)
    ∷ case (write_data_all_call (device DataTransferToHost 5) io (replicate 30 6)).answer (lacking 1)
    ∷ case (write_data_all_call (device DataTransferToHost 5) io (replicate 100 6)).answer (lacking 71)
    ∷ case (write_data_all_call (device DataTransferToHost 5) io (replicate 30 6)).count 0
    ∷ case (write_data_all_call (device DataTransferToHost 5) io (replicate 30 6)).device.marks (at 0 3)
    ∷ case (write_data_all_call (device DataTransferToHost 5) io (replicate 30 6)).bytes (2 ∷ 3 ∷ 4 ∷ 4 ∷ replicate 28 5)
    -- 02, request 7: what was taken is counted, also behind a status; a refused source is not. The largest number stays.
    ∷ case (write_data_call (device DataTransferToHost 5) io (6 ∷ 7 ∷ 8 ∷ [])).device.putin.0 2
    ∷ case (write_data_all_call (device DataTransferToHost 5) io (6 ∷ 7 ∷ 8 ∷ [])).device.putin.0 3
    ∷ case (write_data_all_call (with_status (Some (told PhaseError (record { 0 = 0 }))) (device DataTransferToHost 5)) io (6 ∷ 7 ∷ 8 ∷ [])).device.putin.0 3
    ∷ case (write_data_all_call (putting_in 9 (device DataTransferToHost 5)) io (replicate 30 6)).device.putin.0 9
    ∷ case (write_data_call (putting_in 9 (device DataTransferFromHost 5)) io (6 ∷ [])).device.putin.0 9
    ∷ case (write_data_all_call (putting_in 4294967294 (device DataTransferToHost 5)) io (6 ∷ 7 ∷ 8 ∷ [])).device.putin.0 4294967295
    ∷ case (reset_call (putting_in 9 (device DataTransferToHost 5)) io).device.putin.0 0
    ∷ case (control_call (putting_in 9 (device DataTransferToHost 5)) io (request 0xA1 0xFE)).device.putin.0 9
    -- A reset keeps the marks and clears left.
    ∷ case (reset_call (device DataTransferToHost 5) io).device.state CommandTransfer
    ∷ case (reset_call (device DataTransferToHost 5) io).device.marks (at 1 4)
    ∷ case (reset_call (device DataTransferToHost 5) io).device.left.0 0
    -- A1 FE answers max LUN. A1 FF is a reset. 21 FF, BOT's own reset, does not count.
    ∷ case (control_call (device DataTransferToHost 5) io (request 0xA1 0xFE)).bytes (3 ∷ [])
    ∷ case (control_call (device DataTransferToHost 5) io (request 0xA1 0xFF)) (reset_call (device DataTransferToHost 5) io)
    ∷ case (control_call (device DataTransferToHost 5) io (request 0x21 0xFF)) (record { answer = answer 0; stalls = Kept; bytes = []; device = device DataTransferToHost 5 })
    -- A command is shown in every state but 0. It is offered while no status is present.
    ∷ case (command_call (device CommandTransferInvalid 5) io) (showing (device CommandTransferInvalid 5).wrapper)
    ∷ case (command_call (device CommandTransfer 5) io).shown false
    ∷ case (command_step_call (device DataTransferToHost 5) io) (stepping (answer 0) (offered 1 (Inquiry true 128 255) ∷ []))
    ∷ case (command_step_call (with_status (Some (told PhaseError (record { 0 = 0 }))) (device DataTransferToHost 5)) io) (stepping (answer 0) [])
    ∷ case (command_step_call (device CommandTransfer 5) io) (stepping (answer 0) [])
    -- READ (16): the plain step decodes it. A caller who tells that extended addressing is off gets Unknown.
    ∷ case (command_step_call reading16 io) (stepping (answer 0) (offered 1 (Read 2 258) ∷ []))
    ∷ case (command_step_told_call false reading16 io) (stepping (answer 0) (offered 1 (Unknown 0x88) ∷ []))
    -- 13: the block is empty. 10 comes first: the lent buffer is a byte short.
    ∷ case (command_step_call (device CommandTransferInvalid 0) io) (stepping (answer 13) [])
    ∷ case (command_step_told_call false (device CommandTransferInvalid 0) io) (stepping (answer 13) [])
    ∷ case (command_step_told_call false (device CommandTransferInvalid 0) (replicate 31 5)) (stepping (answer 10) [])
    ∷ []

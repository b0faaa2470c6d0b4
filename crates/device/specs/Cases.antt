-- One table of cases: document 01's of creation, and ours of broken records. proofs/Cases.antt states that each of them holds. Assumes
-- nothing.
use Rattle.std.specs.Prelude.{Bool, true, false, List, [], ◌∷◌, ℕ, Option, None, Some}
use Rattle.fields.specs.Case.{Case, case}
use Rattle.buffer.specs.declared.Marks.{Marks}
use Rattle.buffer.specs.Buffer.{at}
use Rattle.answers.specs.Answers.{answer}
use Rattle.ring.specs.declared.State.{State}
use Rattle.ring.specs.declared.State.TheVariants.{CommandTransfer, CommandTransferInvalid, StatusTransfer, DataTransferToHost, DataTransferToHostEnding, DataTransferFromHostEnding}
use Rattle.wrapper.specs.declared.status.CommandStatus.TheVariants.{Passed}
use Rattle.device.specs.declared.Told.{Told}
use Rattle.device.specs.declared.Numbers.{Numbers}
use Rattle.device.specs.Device.{told, numbers_of, with_status, with_left}
use Rattle.device.specs.Create.{fixed, creation_checks, new_device, no_device, create_call}
use Rattle.device.specs.Broken.{is_whole}

-- "Create: max LUN 15 yes, 16 with buffer 0 gives 2*; buffer 30 gives 5, 31 with P 8 yes*"
unfoldable pub starred : List Case
starred =
    case (create_call (fixed 8 15 31)) (record { answer = answer 0; device = new_device (fixed 8 15 31) })
    ∷ case (create_call (fixed 8 16 0)) (record { answer = answer 2; device = no_device })
    ∷ case (create_call (fixed 8 0 30)) (record { answer = answer 5; device = no_device })
    ∷ case (create_call (fixed 8 0 31)) (record { answer = answer 0; device = new_device (fixed 8 0 31) })
    ∷ []

-- This record has P 8, max LUN 0 and an IO buffer of 31 bytes, and the parts that are given; nothing is left.
abbrev numbers_in : State → Option Told → Marks → ℕ → ℕ → Numbers
numbers_in state status marks lun blocklength = record { fixed = fixed 8 0 31; state = state; marks = marks; tag = 0; lun = lun; blocklength = blocklength; status = status; left = record { 0 = 0 } }

-- This status says that the command passed, with residue 0.
abbrev passed : Option Told
passed = Some (told Passed (record { 0 = 0 }))

-- This says whether a new record with these numbers, over a buffer of that `size`, is whole.
abbrev sized : ℕ → ℕ → ℕ → Bool
sized p maxlun size = is_whole (numbers_of (new_device (fixed p maxlun size))) size

-- These are our own cases.
unfoldable pub ours : List Case
ours =
    -- "63 with P 64 gives 5; P 24 gives 8; 65,537 gives 9", and the order of the rules
    case (creation_checks (fixed 64 0 63)) 5
    ∷ case (creation_checks (fixed 24 0 64)) 8
    ∷ case (creation_checks (fixed 64 0 65537)) 9
    ∷ case (creation_checks (fixed 24 0 65537)) 8
    ∷ case (creation_checks (fixed 24 0 23)) 5
    ∷ case (creation_checks (fixed 64 0 65536)) 0
    ∷ case (creation_checks (fixed 65600 0 65536)) 5
    ∷ case (creation_checks (fixed 264 0 65536)) 8
    -- a record that is whole, and then each way to be broken
    ∷ case (is_whole (numbers_in DataTransferToHost None (at 3 31) 15 16) 31) true
    ∷ case (is_whole (numbers_in DataTransferToHost None (at 3 31) 15 16) 32) false
    ∷ case (is_whole (numbers_in DataTransferToHost None (at 4 3) 15 16) 31) false
    ∷ case (is_whole (numbers_in DataTransferToHost None (at 3 32) 15 16) 31) false
    ∷ case (is_whole (numbers_in DataTransferToHost None (at 3 31) 16 16) 31) false
    ∷ case (is_whole (numbers_in DataTransferToHost None (at 3 31) 15 17) 31) false
    ∷ case (is_whole (numbers_in CommandTransfer passed (at 0 0) 0 0) 31) false
    ∷ case (is_whole (numbers_in CommandTransferInvalid passed (at 0 0) 0 0) 31) false
    ∷ case (is_whole (numbers_in StatusTransfer None (at 0 0) 0 0) 31) false
    ∷ case (is_whole (numbers_in DataTransferToHostEnding None (at 0 0) 0 0) 31) false
    ∷ case (is_whole (numbers_in DataTransferFromHostEnding None (at 0 0) 0 0) 31) false
    -- "a creation rule is violated": each rule in turn
    ∷ case (sized 8 15 31) true
    ∷ case (sized 8 16 31) false
    ∷ case (sized 8 0 30) false
    ∷ case (sized 64 0 63) false
    ∷ case (sized 24 0 64) false
    ∷ case (sized 64 0 65537) false
    -- a record with another status, or with another count left, has that one
    ∷ case (with_status passed (new_device (fixed 8 0 31))).status passed
    ∷ case (with_left (record { 0 = 5 }) (new_device (fixed 8 0 31))).left (record { 0 = 5 })
    ∷ []

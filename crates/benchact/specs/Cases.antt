-- Cases of the command step: what it offers, which no line shows. proofs/Cases.antt has the statement that each case holds. Assumes
-- nothing: these are definitions.
use Rattle.std.specs.Prelude.{List, [], ◌∷◌, ◌++◌, ℕ, replicate, None}
use Rattle.fields.specs.Case.{Case, case}
use Rattle.buffer.specs.Buffer.{at}
use Rattle.wrapper.specs.declared.DataDirection.TheVariants.{In}
use Rattle.scsi.specs.declared.ScsiCommand.TheVariants.{Unknown, Read}
use Rattle.ring.specs.declared.State.TheVariants.{DataTransferToHost}
use Rattle.device.specs.declared.Device.{Device}
use Rattle.device.specs.Device.{rebuilt}
use Rattle.device.specs.Create.{fixed, new_device}
use Rattle.calls.specs.Command.{offered}
use Rattle.benchact.specs.Act.{front, Acting, act_by}

-- This device has P 8 and an IO buffer of 31 bytes. Its command is a READ (16) of address 2 and 258 blocks, for LUN 1.
abbrev reading16 : Device
reading16 =
    rebuilt (new_device (fixed 8 3 31)) DataTransferToHost (at 0 0)
    (record { tag = 7; length = 512; direction = In; lun = 1; blocklength = 14; block = 0x88 ∷ replicate 8 0 ++ (2 ∷ 0 ∷ 0 ∷ 1 ∷ 2 ∷ 0 ∷ 0 ∷ []) })
    None (record { 0 = 512 })

-- This is its command step with the body `body`.
abbrev step : List ℕ → Acting
step body = act_by 8 body reading16 (replicate 31 0) (replicate 17 9)

-- These are the cases.
unfoldable pub table : List Case
table =
    -- "length 0 means off", and so does a 0; with a 1 the command is a read. The line shows the same.
    case (step []).offers (offered 1 (Unknown 0x88) ∷ [])
    ∷ case (step (0 ∷ [])).offers (offered 1 (Unknown 0x88) ∷ [])
    ∷ case (step (1 ∷ [])).offers (offered 1 (Read 2 258) ∷ [])
    ∷ case (front (step []).shown (step []).lent) (front (step (1 ∷ [])).shown (step (1 ∷ [])).lent)
    ∷ []

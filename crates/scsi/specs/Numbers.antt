-- Callers in C and Rust see a command as six numbers. Such a caller lends six numbers to the decoder and gets 01's answer number as the
-- result. Assumes nothing: these are definitions.
use Rattle.std.specs.Prelude.{ℕ, Bool, true, false, cond, List, [], ◌∷◌, eqb, leb, length}
use Rattle.scsi.specs.declared.PageControl.{PageControl}
use Rattle.scsi.specs.declared.PageControl.TheVariants.{CurrentValues, ChangeableValues, DefaultValues, SavedValues}
use Rattle.scsi.specs.declared.ScsiCommand.{ScsiCommand}
use Rattle.scsi.specs.declared.ScsiCommand.TheVariants.{Unknown, Inquiry, TestUnitReady, RequestSense, ModeSense6, ModeSense10, ReadCapacity10, ReadCapacity16, Read, Write, ReadFormatCapacities}
use Rattle.scsi.specs.Decoding.{Decoding, decode_call, plain_call}

-- The number of a flag is 1 if it is set, and 0 if it is not.
abbrev pub flag_number : Bool → ℕ
flag_number true = 1
flag_number false = 0

-- These are SPC's numbers of PAGE CONTROL.
abbrev pub page_control_number : PageControl → ℕ
page_control_number CurrentValues = 0
page_control_number ChangeableValues = 1
page_control_number DefaultValues = 2
page_control_number SavedValues = 3

-- Six numbers stand for a command: `kind` says which command it is, and `a` to `e` are its fields.
abbrev pub six : ℕ → ℕ → ℕ → ℕ → ℕ → ℕ → List ℕ
six kind a b c d e = kind ∷ a ∷ b ∷ c ∷ d ∷ e ∷ []

-- These are the six numbers of each command. The kinds are numbered in the order of the Rust's enum. The fields of a command
-- stand in their order, with 0 after the last one.
abbrev pub command_numbers : ScsiCommand → List ℕ
command_numbers (Unknown cmd) = six 0 cmd 0 0 0 0
command_numbers (Inquiry evpd page allocation) = six 1 (flag_number evpd) page allocation 0 0
command_numbers TestUnitReady = six 2 0 0 0 0 0
command_numbers (RequestSense desc allocation) = six 3 (flag_number desc) allocation 0 0 0
command_numbers (ModeSense6 dbd control page subpage allocation) = six 4 (flag_number dbd) (page_control_number control) page subpage allocation
command_numbers (ModeSense10 dbd control page subpage allocation) = six 5 (flag_number dbd) (page_control_number control) page subpage allocation
command_numbers ReadCapacity10 = six 6 0 0 0 0 0
command_numbers (ReadCapacity16 allocation) = six 7 allocation 0 0 0 0
command_numbers (Read address blocks) = six 8 address blocks 0 0 0
command_numbers (Write address blocks) = six 9 address blocks 0 0 0
command_numbers (ReadFormatCapacities allocation) = six 10 allocation 0 0 0 0

-- A call leaves this with its caller: `number` is the result, and `lent` are the lent numbers after the call. `decode_outcome` makes
-- one from the number `n` and the lent numbers `l`.
pub record DecodeOutcome : Type 0 where
  pub number : ℕ
  pub lent : List ℕ

abbrev pub decode_outcome : ℕ → List ℕ → DecodeOutcome
decode_outcome n l = record { number = n; lent = l }

-- The lent numbers `was` become the six numbers of the command `c` if there is one; a refusal leaves them as they were.
abbrev pub laid : List ℕ → List ScsiCommand → List ℕ
laid was [] = was
laid was (c ∷ cs) = command_numbers c

-- The caller sees this of the outcome `o`, with the lent numbers `was`. If these are not six, they are a broken
-- record: the result is 10, and all is as before.
unfoldable pub decode_outcome_of : List ℕ → Decoding → DecodeOutcome
decode_outcome_of was o = cond (eqb (length was) 6) (decode_outcome o.answer (laid was o.commands)) (decode_outcome 10 was)

-- The caller of the plain entry sees this for the block `block`, with the lent numbers `was`.
unfoldable pub shown_decode : List ℕ → List ℕ → DecodeOutcome
shown_decode block was = decode_outcome_of was (plain_call block)

-- The caller of the second entry sees this for the block `block`, with the lent numbers `was`. "a second entry is told": extended
-- addressing is off if `extended` is 0 and on if it is 1. Any other number is for no flag: the result is 10, and all is as before.
unfoldable pub shown_told : ℕ → List ℕ → List ℕ → DecodeOutcome
shown_told extended block was = cond (leb extended 1) (decode_outcome_of was (decode_call (eqb extended 1) block)) (decode_outcome 10 was)

-- The fields of each command are where SPC, SBC and MMC place them in its command descriptor block `b`. "Fields are big-endian."
-- Assumes nothing: these are definitions.
use Rattle.std.specs.Prelude.{ℕ, Bool, List, [], ◌∷◌, eqb, get_or}
use Rattle.fields.specs.Field.{big_endian, one_byte, bits, get, get_bits}
use Rattle.scsi.specs.declared.PageControl.{PageControl}
use Rattle.scsi.specs.declared.PageControl.TheVariants.{CurrentValues, ChangeableValues, DefaultValues, SavedValues}
use Rattle.scsi.specs.declared.ScsiCommand.{ScsiCommand}
use Rattle.scsi.specs.declared.ScsiCommand.TheVariants.{Inquiry, TestUnitReady, RequestSense, ModeSense6, ModeSense10, ReadCapacity10, ReadCapacity16, Read, Write, ReadFormatCapacities}

-- ---- the three kinds of field

-- This tests whether the bit `bit` of the byte `byte` is set in `b`.
unfoldable pub flag : ℕ → ℕ → List ℕ → Bool
flag byte bit b = eqb (get_bits (bits byte bit 1) b) 1

-- This is the big-endian number in the `width` bytes of `b` from the byte `first` on.
abbrev pub number_at : ℕ → ℕ → List ℕ → ℕ
number_at first width b = get (big_endian first width) b

-- This is the byte of `b` at index `at`.
abbrev pub byte : ℕ → List ℕ → ℕ
byte at b = get (one_byte at) b

-- The number `n` stands for this PAGE CONTROL of SPC: 0 current, 1 changeable, 2 default, 3 saved.
-- A number above 3, which its two bits cannot hold, stands for current.
unfoldable pub page_control_of_number : ℕ → PageControl
page_control_of_number n = get_or (CurrentValues ∷ ChangeableValues ∷ DefaultValues ∷ SavedValues ∷ []) n CurrentValues

-- ---- SPC

-- No field of TEST UNIT READY is read.
abbrev pub test_unit_ready : List ℕ → ScsiCommand
test_unit_ready b = TestUnitReady

-- REQUEST SENSE: DESC is byte 1 bit 0, ALLOCATION LENGTH is byte 4.
abbrev pub request_sense : List ℕ → ScsiCommand
request_sense b = RequestSense (flag 1 0 b) (byte 4 b)

-- INQUIRY: EVPD is byte 1 bit 0, PAGE CODE is byte 2, ALLOCATION LENGTH is bytes 3 to 4.
abbrev pub inquiry : List ℕ → ScsiCommand
inquiry b = Inquiry (flag 1 0 b) (byte 2 b) (number_at 3 2 b)

-- MODE SENSE (6): DBD is byte 1 bit 3, PC is byte 2 bits 6 to 7, PAGE CODE is byte 2 bits 0 to 5,
-- SUBPAGE CODE is byte 3, ALLOCATION LENGTH is byte 4.
abbrev pub mode_sense6 : List ℕ → ScsiCommand
mode_sense6 b = ModeSense6 (flag 1 3 b) (page_control_of_number (get_bits (bits 2 6 2) b)) (get_bits (bits 2 0 6) b) (byte 3 b) (byte 4 b)

-- MODE SENSE (10) has the same fields, but ALLOCATION LENGTH is bytes 7 to 8.
abbrev pub mode_sense10 : List ℕ → ScsiCommand
mode_sense10 b = ModeSense10 (flag 1 3 b) (page_control_of_number (get_bits (bits 2 6 2) b)) (get_bits (bits 2 0 6) b) (byte 3 b) (number_at 7 2 b)

-- ---- SBC

-- No field of READ CAPACITY (10) is read.
abbrev pub read_capacity10 : List ℕ → ScsiCommand
read_capacity10 b = ReadCapacity10

-- READ CAPACITY (16): ALLOCATION LENGTH is bytes 10 to 13.
abbrev pub read_capacity16 : List ℕ → ScsiCommand
read_capacity16 b = ReadCapacity16 (number_at 10 4 b)

-- READ (10) and WRITE (10): LOGICAL BLOCK ADDRESS is bytes 2 to 5, TRANSFER LENGTH is bytes 7 to 8.
abbrev pub read10 : List ℕ → ScsiCommand
read10 b = Read (number_at 2 4 b) (number_at 7 2 b)

abbrev pub write10 : List ℕ → ScsiCommand
write10 b = Write (number_at 2 4 b) (number_at 7 2 b)

-- READ (16) and WRITE (16): LOGICAL BLOCK ADDRESS is bytes 2 to 9, TRANSFER LENGTH is bytes 10 to 13.
abbrev pub read16 : List ℕ → ScsiCommand
read16 b = Read (number_at 2 8 b) (number_at 10 4 b)

abbrev pub write16 : List ℕ → ScsiCommand
write16 b = Write (number_at 2 8 b) (number_at 10 4 b)

-- ---- MMC

-- READ FORMAT CAPACITIES: ALLOCATION LENGTH is bytes 7 to 8.
abbrev pub read_format_capacities : List ℕ → ScsiCommand
read_format_capacities b = ReadFormatCapacities (number_at 7 2 b)

-- One table has the cases of decoding. proofs/Cases.antt states that each case holds. Assumes nothing.
use Rattle.std.specs.Prelude.{true, false, List, [], ◌∷◌, ◌++◌, ℕ, replicate}
use Rattle.fields.specs.Case.{Case, case}
use Rattle.scsi.specs.declared.PageControl.TheVariants.{DefaultValues, SavedValues}
use Rattle.scsi.specs.declared.ScsiCommand.{ScsiCommand}
use Rattle.scsi.specs.declared.ScsiCommand.TheVariants.{Unknown, Inquiry, TestUnitReady, RequestSense, ModeSense6, ModeSense10, ReadCapacity10, ReadCapacity16, Read, Write, ReadFormatCapacities}
use Rattle.scsi.specs.Decoding.{decode_call, plain_call}

-- In a case of the plain entry, the block `b` decodes to the command `c`.
abbrev plain : List ℕ → ScsiCommand → Case
plain b c = case (plain_call b) (record { answer = 0; commands = c ∷ [] })

-- In a case of the entry that is told, with extended addressing off, the block `b` decodes to the command `c`.
abbrev off : List ℕ → ScsiCommand → Case
off b c = case (decode_call false b) (record { answer = 0; commands = c ∷ [] })

-- "(starred ones are proved)": these are the starred cases of 01 that concern this crate.
unfoldable pub starred : List Case
starred =
    -- "12 01 80 00 FF: EVPD, page 128, allocation 255*"
    plain (0x12 ∷ 0x01 ∷ 0x80 ∷ 0x00 ∷ 0xFF ∷ []) (Inquiry true 128 255)
    -- "28 00 00 00 01 00 00 00 08: address 256, 8 blocks*"
    ∷ plain (0x28 ∷ 0 ∷ 0 ∷ 0 ∷ 1 ∷ 0 ∷ 0 ∷ 0 ∷ 8 ∷ []) (Read 256 8)
    -- "1A 08 BF 00 C0: DBD, defaults, page 63, 192*"
    ∷ plain (0x1A ∷ 0x08 ∷ 0xBF ∷ 0x00 ∷ 0xC0 ∷ []) (ModeSense6 true DefaultValues 63 0 192)
    ∷ []

-- These cases are ours. With the starred ones each row is tried at its shortest length and with a byte less; in most of them the bytes
-- show the place and the order of each field.
unfoldable pub ours : List Case
ours =
    -- "four bytes: Unknown"
    plain (0x12 ∷ 0x01 ∷ 0x80 ∷ 0x00 ∷ []) (Unknown 0x12)
    ∷ plain (0x00 ∷ []) TestUnitReady
    ∷ plain (0x03 ∷ 0x01 ∷ 2 ∷ 3 ∷ 4 ∷ []) (RequestSense true 4)
    ∷ plain (0x03 ∷ 0xFE ∷ 2 ∷ 3 ∷ []) (Unknown 0x03)
    ∷ plain (0x1A ∷ replicate 3 0) (Unknown 0x1A)
    ∷ plain (0x23 ∷ 1 ∷ 2 ∷ 3 ∷ 4 ∷ 5 ∷ 6 ∷ 1 ∷ 2 ∷ []) (ReadFormatCapacities 258)
    ∷ plain (0x23 ∷ replicate 7 0) (Unknown 0x23)
    ∷ plain (0x25 ∷ []) ReadCapacity10
    ∷ plain (0x28 ∷ replicate 7 0) (Unknown 0x28)
    ∷ plain (0x2A ∷ 1 ∷ 0 ∷ 0 ∷ 1 ∷ 2 ∷ 6 ∷ 1 ∷ 2 ∷ []) (Write 258 258)
    ∷ plain (0x2A ∷ replicate 7 0) (Unknown 0x2A)
    ∷ plain (0x5A ∷ 0xF7 ∷ 0xFF ∷ 3 ∷ 4 ∷ 5 ∷ 6 ∷ 1 ∷ 2 ∷ []) (ModeSense10 false SavedValues 63 3 258)
    ∷ plain (0x5A ∷ replicate 7 0) (Unknown 0x5A)
    ∷ plain (0x9E ∷ replicate 9 0xFF ++ (0 ∷ 0 ∷ 1 ∷ 2 ∷ [])) (ReadCapacity16 258)
    ∷ plain (0x9E ∷ replicate 12 0) (Unknown 0x9E)
    -- A block may be longer than 16 bytes.
    ∷ plain (0x12 ∷ 0xFE ∷ 0x7F ∷ 1 ∷ 2 ∷ replicate 20 0xFF) (Inquiry false 127 258)
    -- 88 and 8A count in the plain entry, where the block is long enough.
    ∷ plain (0x88 ∷ 1 ∷ 0 ∷ 0 ∷ 0 ∷ 1 ∷ 0 ∷ 0 ∷ 0 ∷ 2 ∷ 0 ∷ 0 ∷ 1 ∷ 2 ∷ []) (Read 0x100000002 258)
    ∷ plain (0x8A ∷ 1 ∷ 0 ∷ 0 ∷ 0 ∷ 1 ∷ 0 ∷ 0 ∷ 0 ∷ 2 ∷ 0 ∷ 0 ∷ 1 ∷ 2 ∷ []) (Write 0x100000002 258)
    ∷ plain (0x88 ∷ replicate 12 0) (Unknown 0x88)
    ∷ plain (0x8A ∷ replicate 12 0) (Unknown 0x8A)
    -- They do not count where the caller tells that extended addressing is off. All others do.
    ∷ off (0x88 ∷ replicate 15 0) (Unknown 0x88)
    ∷ off (0x8A ∷ replicate 15 0) (Unknown 0x8A)
    ∷ off (0x9E ∷ replicate 13 0) (ReadCapacity16 0)
    -- No row has this opcode.
    ∷ plain (0x01 ∷ replicate 15 0) (Unknown 0x01)
    -- The block is empty.
    ∷ case (plain_call []) (record { answer = 13; commands = [] })
    ∷ case (decode_call false []) (record { answer = 13; commands = [] })
    ∷ []

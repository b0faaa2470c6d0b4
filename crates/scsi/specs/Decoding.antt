-- Document 01, section Decoding: the table, and what a block decodes to. Assumes nothing: these are definitions.
use Rattle.std.specs.Prelude.{ℕ, Bool, true, false, cond, not, ◌&&◌, ◌||◌, Option, Some, None, List, [], ◌∷◌, eqb, leb, length}
use Rattle.fields.specs.Field.{one_byte, get}
use Rattle.scsi.specs.declared.ScsiCommand.{ScsiCommand}
use Rattle.scsi.specs.declared.ScsiCommand.TheVariants.{Unknown}
use Rattle.scsi.specs.Commands.{test_unit_ready, request_sense, inquiry, mode_sense6, mode_sense10, read_capacity10, read_capacity16, read10, write10, read16, write16, read_format_capacities}

-- A row of the table has `opcode`; `shortest`, the length of its shortest block; and `fields`, which gives the command of a block with this
-- opcode. `row` makes one from these three, `o`, `n` and `f`.
pub record Layout : Type 0 where
  pub opcode : ℕ
  pub shortest : ℕ
  pub fields : List ℕ → ScsiCommand

abbrev row : ℕ → ℕ → (List ℕ → ScsiCommand) → Layout
row o n f = record { opcode = o; shortest = n; fields = f }

-- "Opcode and shortest block length stand in a constant table": it is this one.
abbrev pub rows : List Layout
rows =
    row 0x00 1 test_unit_ready
    ∷ row 0x03 5 request_sense
    ∷ row 0x12 5 inquiry
    ∷ row 0x1A 5 mode_sense6
    ∷ row 0x23 9 read_format_capacities
    ∷ row 0x25 1 read_capacity10
    ∷ row 0x28 9 read10
    ∷ row 0x2A 9 write10
    ∷ row 0x5A 9 mode_sense10
    ∷ row 0x88 14 read16
    ∷ row 0x8A 14 write16
    ∷ row 0x9E 14 read_capacity16
    ∷ []

-- The opcode of the block `b` is its first byte.
abbrev pub opcode_of : List ℕ → ℕ
opcode_of b = get (one_byte 0) b

-- This tests whether a table lists `opcode` with a block of `n` bytes: the first row that has the opcode decides, by its shortest block.
-- `r` is the first row of the table, and `rs` are the others.
unfoldable pub lists : List Layout → ℕ → ℕ → Bool
lists [] opcode n = false
lists (r ∷ rs) opcode n = cond (eqb r.opcode opcode) (leb r.shortest n) (lists rs opcode n)

-- "88 and 8A count only with extended addressing": this tests whether `opcode` counts, and
-- `extended` says whether extended addressing is on.
unfoldable pub opcode_counts : Bool → ℕ → Bool
opcode_counts extended opcode = extended || not (eqb opcode 0x88 || eqb opcode 0x8A)

-- This tests whether a block of `n` bytes with `opcode` is a listed command: the opcode counts, with extended addressing on or off as
-- `extended` says, and the table lists it with that length.
unfoldable pub is_listed : Bool → ℕ → ℕ → Bool
is_listed extended opcode n = opcode_counts extended opcode && lists rows opcode n

-- This is the command that the block `b` stands for by the first row that has `opcode`, and Unknown if no row has
-- it. `r` is the first row, and `rs` are the others.
unfoldable pub fields_by : List Layout → ℕ → List ℕ → ScsiCommand
fields_by [] opcode b = Unknown opcode
fields_by (r ∷ rs) opcode b = cond (eqb r.opcode opcode) (r.fields b) (fields_by rs opcode b)

-- "Anything else, or shorter, is Unknown with its opcode." This is the command that the block `b` decodes to;
-- `extended` says whether extended addressing is on.
unfoldable pub decoded : Bool → List ℕ → ScsiCommand
decoded extended b = cond (is_listed extended (opcode_of b) (length b)) (fields_by rows (opcode_of b) b) (Unknown (opcode_of b))

-- Decoding has this outcome: `answer` is 01's answer number, and `commands` has the command, or nothing in a refusal. `decoding`
-- makes one from the number `n` and the commands `c`.
pub record Decoding : Type 0 where
  pub answer : ℕ
  pub commands : List ScsiCommand

abbrev pub decoding : ℕ → List ScsiCommand → Decoding
decoding n c = record { answer = n; commands = c }

-- This is the outcome that each answer of the code stands for; `c` is the command that it carries, and an empty block has none.
abbrev pub answer_of : Option ScsiCommand → Decoding
answer_of (Some c) = decoding 0 (c ∷ [])
answer_of None = decoding 13 []

-- Decoding the block `b` has this outcome: 13 for "decoding an empty block", otherwise 0 with the command.
-- `extended` says whether extended addressing is on.
unfoldable pub decode_call : Bool → List ℕ → Decoding
decode_call extended b = cond (eqb (length b) 0) (decoding 13 []) (decoding 0 (decoded extended b ∷ []))

-- "The plain decoding entry is to count both from now on" (02, request 6): extended addressing is on in every plain entry.
abbrev pub plain_is_extended : Bool
plain_is_extended = true

-- The plain entry has this outcome for the block `b`.
unfoldable pub plain_call : List ℕ → Decoding
plain_call b = decode_call plain_is_extended b

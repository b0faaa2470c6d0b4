-- Document 01, 'status (13 bytes)': BOT 1.0, table 5.2, Command Status Wrapper. Assumes nothing: these are definitions.
use Rattle.std.specs.Prelude.{ℕ, cond, List, [], ◌∷◌, eqb, leb, replicate, Option, Some, None}
use Rattle.fields.specs.Field.{Field, little_endian, one_byte, put}
use Rattle.wrapper.specs.declared.status.CommandStatus.{CommandStatus}
use Rattle.wrapper.specs.declared.status.CommandStatus.TheVariants.{Passed, Failed, PhaseError}
use Rattle.wrapper.specs.declared.counters.Residue.{Residue}

-- These are the fields of BOT's table by their names there, in snake case, each with its first byte and its number
-- of bytes. All numbers in BOT are little-endian.
abbrev pub d_csw_signature : Field
d_csw_signature = little_endian 0 4

abbrev pub d_csw_tag : Field
d_csw_tag = little_endian 4 4

abbrev pub d_csw_data_residue : Field
d_csw_data_residue = little_endian 8 4

abbrev pub b_csw_status : Field
b_csw_status = one_byte 12

-- This is BOT's whole table, in order.
abbrev pub status_table : List Field
status_table = d_csw_signature ∷ d_csw_tag ∷ d_csw_data_residue ∷ b_csw_status ∷ []

-- "`CommandStatus`, as in BOT: 0 passed, 1 failed, 2 phase error." (BOT table 5.3)
abbrev pub status_number : CommandStatus → ℕ
status_number Passed = 0
status_number Failed = 1
status_number PhaseError = 2

-- This is the status whose number is `n`. A number above 2 belongs to no status; for it this gives `PhaseError`.
unfoldable pub status_of_number : ℕ → CommandStatus
status_of_number n = cond (eqb n 0) Passed (cond (eqb n 1) Failed PhaseError)

-- The bytes 55 53 42 53 are this little-endian number, BOT's 53425355h.
abbrev pub status_signature : ℕ
status_signature = 0x53425355

-- "Status: 55 53 42 53, tag, residue, status byte." `tag` is the wrapper's tag, `residue` the
-- residue reported, and `status` the status byte.
unfoldable pub status_bytes : ℕ → Residue → ℕ → List ℕ
status_bytes tag residue status =
    put b_csw_status status
    (put d_csw_data_residue residue.0
    (put d_csw_tag tag
    (put d_csw_signature status_signature
    (replicate 13 0))))

-- This is the result for a status byte: `answer` is 01's answer number, and `status` is the number of the status that the byte stands for,
-- 0 if it stands for none. `status_answering` makes one from the answer `n` and the status `s`.
pub record StatusAnswering : Type 0 where
  pub answer : ℕ
  pub status : ℕ

abbrev status_answering : ℕ → ℕ → StatusAnswering
status_answering n s = record { answer = n; status = s }

-- These are the two numbers for each answer of the code: the status `s`, or none, where the byte is refused.
abbrev pub answer_of : Option CommandStatus → StatusAnswering
answer_of (Some s) = status_answering 0 (status_number s)
answer_of None = status_answering 12 0

-- This is the result for the status byte `byte`: 0 to 2 stand for themselves, and for "a status byte above 2" the answer is 12.
unfoldable pub status_call : ℕ → StatusAnswering
status_call byte = cond (leb byte 2) (status_answering 0 byte) (status_answering 12 0)

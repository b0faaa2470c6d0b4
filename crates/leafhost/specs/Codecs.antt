-- A caller in C or Rust sees this of the wrapper and the status. Assumes nothing: these are definitions.
use Rattle.std.specs.Prelude.{ℕ, Bool, cond, ◌&&◌, List, [], ◌∷◌, eqb, leb, length}
use Rattle.wrapper.specs.declared.Wrapper.{Wrapper}
use Rattle.wrapper.specs.Counters.{residue_of}
use Rattle.wrapper.specs.Status.{status_bytes}
use Rattle.wrapper.specs.Wrapper.{is_valid, direction_number, wrapper_of}

-- These are the five numbers of the wrapper `w`: tag, L, direction, LUN and block length.
abbrev pub wrapper_numbers : Wrapper → List ℕ
wrapper_numbers w = w.tag ∷ w.length ∷ direction_number w.direction ∷ w.lun ∷ w.blocklength ∷ []

-- A parse leaves this: `number` is 1 for a valid message, 0 for an invalid one and 10 for a broken record; `fields` are the five lent
-- numbers, and `block` are the 16 lent bytes for the command block. `parse_outcome` makes one from these three, `n`, `f` and `b`.
pub record ParseOutcome : Type 0 where
  pub number : ℕ
  pub fields : List ℕ
  pub block : List ℕ

abbrev pub parse_outcome : ℕ → List ℕ → List ℕ → ParseOutcome
parse_outcome n f b = record { number = n; fields = f; block = b }

-- This tests whether `fields` are five numbers and `block` is 16 bytes. If not, what the caller lent is a broken record.
unfoldable pub parse_fits : List ℕ → List ℕ → Bool
parse_fits fields block = eqb (length fields) 5 && eqb (length block) 16

-- The caller of a parse of the message `m` sees this, with the lent `fields` and `block`. Only a valid message changes these.
unfoldable pub shown_parse : List ℕ → List ℕ → List ℕ → ParseOutcome
shown_parse m fields block =
    cond (parse_fits fields block)
    (cond (is_valid m) (parse_outcome 1 (wrapper_numbers (wrapper_of m)) (wrapper_of m).block) (parse_outcome 0 fields block))
    (parse_outcome 10 fields block)

-- Writing a status leaves this: `number` is 01's answer number, and `bytes` are the lent bytes.
-- `status_outcome` makes one from these two, `n` and `b`.
pub record StatusOutcome : Type 0 where
  pub number : ℕ
  pub bytes : List ℕ

abbrev pub status_outcome : ℕ → List ℕ → StatusOutcome
status_outcome n b = record { number = n; bytes = b }

-- A caller who asks for a status sees this, with the lent bytes `was`. The status is for a wrapper with the tag `tag` and the length `L`,
-- and for the firmware's figure `figure` and status byte `byte`. A `byte` above 2 is answered 12. If `was` are not 13 bytes, they are a
-- broken record, which is answered 10. Either refusal leaves `was` as they are.
unfoldable pub shown_status : ℕ → ℕ → ℕ → ℕ → List ℕ → StatusOutcome
shown_status tag L figure byte was =
    cond (eqb (length was) 13)
    (cond (leb byte 2) (status_outcome 0 (status_bytes tag (residue_of L figure) byte)) (status_outcome 12 was))
    (status_outcome 10 was)

-- A result of several parts in one number of 64 bits: bits 0 to 7 are the answer, 8 to 15 the number carried or a LUN, 16 to 23 what is
-- asked of both endpoints, 24 to 31 a flag or the number of OUT packets taken, 32 to 63 a count or the bytes missing. Assumes nothing: these
-- are definitions.
use Rattle.std.specs.Prelude.{ℕ, ◌+◌, ◌*◌, ◌/◌, ◌%◌, min, cond, eqb}
use Rattle.answers.specs.declared.Stalls.{Stalls}
use Rattle.answers.specs.declared.Stalls.TheVariants.{Kept, Stalled, Unstalled, UnstalledStalled}
use Rattle.answers.specs.Answers.{Answering}

-- The five parts are put into one number.
unfoldable pub word : ℕ → ℕ → ℕ → ℕ → ℕ → ℕ
word answer carried stalls flag count = answer + 256 * carried + 65536 * stalls + 16777216 * flag + 4294967296 * count

-- The numbers stand for what is asked of both endpoints; `bench` prints them as `-`, `S`, `U`, `US`.
abbrev pub stalls_number : Stalls → ℕ
stalls_number Kept = 0
stalls_number Stalled = 1
stalls_number Unstalled = 2
stalls_number UnstalledStalled = 3

-- Bits 32 to 63 of a call that answers `a`: the `count`, or with answer 1, where there is nothing to count, the bytes missing. Where more
-- than 2^32 - 1 bytes are missing, this number stands for them.
unfoldable pub upper_half : Answering → ℕ → ℕ
upper_half a count = cond (eqb a.number 1) (min a.missing 4294967295) count

-- This is a word with an `answer` and nothing else.
abbrev pub answer_word : ℕ → ℕ
answer_word answer = word answer 0 0 0 0

-- ---- what a caller reads

-- What is asked of both endpoints, by its number.
unfoldable pub stalls_of_number : ℕ → Stalls
stalls_of_number n = cond (eqb n 0) Kept (cond (eqb n 1) Stalled (cond (eqb n 2) Unstalled UnstalledStalled))

-- What a caller reads off a result. The header has a function for each: `number` is `souk_answer`, `carried` is `souk_carried` and `souk_lun`,
-- `stalls` is `souk_stalls`, `flag` is `souk_taken` and `souk_flag`, `count` is `souk_count`, `missing` is `souk_missing`.
pub record Reading : Type 0 where
  pub number : ℕ
  pub carried : ℕ
  pub stalls : Stalls
  pub flag : ℕ
  pub count : ℕ
  pub missing : ℕ

-- Each part is read at its bits. With answer 1 bits 32 to 63 are the bytes missing and the count is 0; with every other answer they are the
-- count, and nothing is missing.
unfoldable pub reading_of : ℕ → Reading
reading_of result = record {
  number = result % 256;
  carried = result / 256 % 256;
  stalls = stalls_of_number (result / 65536 % 256);
  flag = result / 16777216 % 256;
  count = cond (eqb (result % 256) 1) 0 (result / 4294967296);
  missing = cond (eqb (result % 256) 1) (result / 4294967296) 0;
}

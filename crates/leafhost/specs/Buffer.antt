-- A caller in C or Rust sees this of the buffer: 01's answer number as the result, the bytes of the IO buffer, and three numbers, which are
-- the read mark, the write mark, and a count or the bytes missing. Assumes nothing: these are definitions.
use Rattle.std.specs.Prelude.{ℕ, cond, List, [], ◌∷◌, eqb, length, get_or}
use Rattle.buffer.specs.declared.Marks.{Marks}
use Rattle.buffer.specs.Buffer.{Buffer, buffer, at}
use Rattle.buffer.specs.Calls.{Answering, read_into}

-- These are the marks that the caller's numbers `marks` stand for: the first is the read mark, and the second is the write mark.
unfoldable pub marked_by : List ℕ → Marks
marked_by marks = at (get_or marks 0 0) (get_or marks 1 0)

-- A call leaves this with its caller: `number` is the result, `bytes` are the bytes of the IO buffer, and `marks` are the three numbers.
-- `buffer_outcome` makes one from these three, `n`, `b` and `m`.
pub record BufferOutcome : Type 0 where
  pub number : ℕ
  pub bytes : List ℕ
  pub marks : List ℕ

abbrev pub buffer_outcome : ℕ → List ℕ → List ℕ → BufferOutcome
buffer_outcome n b m = record { number = n; bytes = b; marks = m }

-- The caller sees this of the outcome `o`. Its numbers `was` stay if the answer is 10; otherwise they become the two marks and the count,
-- or with answer 1 the bytes missing in the place of the count.
unfoldable pub buffer_outcome_of : List ℕ → Answering → BufferOutcome
buffer_outcome_of was o =
    buffer_outcome o.answer o.leaves.bytes
    (cond (eqb o.answer 10) was (o.leaves.marks.read ∷ o.leaves.marks.write ∷ cond (eqb o.answer 1) o.missing o.count ∷ []))

-- The caller sees this of the buffer's call `call` on the bytes `io`, with its numbers `marks`. If these are not three, they are a broken
-- record: the result is 10, and all is as before.
unfoldable pub hosted : (Buffer → Answering) → List ℕ → List ℕ → BufferOutcome
hosted call io marks = cond (eqb (length marks) 3) (buffer_outcome_of marks (call (buffer io (marked_by marks)))) (buffer_outcome 10 io marks)

-- A read from the bytes `io` leaves this in the destination `d`. If the numbers `marks` are not three, `d` is as before.
unfoldable pub host_into : List ℕ → List ℕ → List ℕ → List ℕ
host_into d io marks = cond (eqb (length marks) 3) (read_into d (buffer io (marked_by marks))) d

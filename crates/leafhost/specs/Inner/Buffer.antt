-- A caller in C or Rust gets an answer of the buffer as these numbers. Assumes nothing: these are definitions.
use Rattle.std.specs.Prelude.{ℕ, List, [], ◌∷◌, Ok, Err}
use Rattle.buffer.specs.declared.Refusal.TheVariants.{Overflow, Broken}
use Rattle.buffer.specs.Calls.{Answer}

-- This is 01's number of each answer.
abbrev pub answer_number : Answer → ℕ
answer_number (Ok t) = 0
answer_number (Err (Overflow o)) = 1
answer_number (Err Broken) = 10

-- These are the caller's three numbers after each answer: the read mark and the write mark, and the count, or for an overflow the bytes
-- missing. `was` are the numbers before the call, which stay if the marks are broken.
abbrev pub marks_of : Answer → List ℕ → List ℕ
marks_of (Ok t) was = t.marks.read ∷ t.marks.write ∷ t.count ∷ []
marks_of (Err (Overflow o)) was = o.marks.read ∷ o.marks.write ∷ o.missing ∷ []
marks_of (Err Broken) was = was

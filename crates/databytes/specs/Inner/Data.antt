-- What a read or a write by value gives that can be stored in a record. Assumes nothing: these are definitions.
use Rattle.std.specs.Prelude.{◌^◌, ◌<◌, Bool, eqb}
use Rattle.answers.specs.Answers.{answer_of}
use Rattle.calls.specs.declared.Moved as value

-- The numbers of `m`, which a read or a write by value returned, have 32 bits, as their places in the record and in the result have: both
-- marks, and the count.
pub record StorableMove (m : value.Moved) : Type 0 where
  pub read : m.device.marks.read < 2 ^ 32
  pub write : m.device.marks.write < 2 ^ 32
  pub count : m.report.count < 2 ^ 32

-- Whether a read or a write by value that returned `m` was refused for a broken record.
abbrev pub is10 : value.Moved → Bool
is10 m = eqb (answer_of m.report.answer).number 10

-- What comes of decoding into six numbers, as the code has it between its functions. Assumes nothing: these are definitions.
use Rattle.std.specs.Prelude.{ℕ, Result, Ok, Err}
use Rattle.scsi.specs.declared.numbers.Refusal.{Refusal}
use Rattle.scsi.specs.declared.numbers.Refusal.TheVariants.{BrokenRecord, EmptyBlock}

-- 01's number of each refusal.
abbrev pub refusal_number : Refusal → ℕ
refusal_number BrokenRecord = 10
refusal_number EmptyBlock = 13

-- 01's number of what came of a call: 0, or that of the refusal.
abbrev pub outcome_number : Result (Unit {0}) Refusal → ℕ
outcome_number (Ok done) = 0
outcome_number (Err refusal) = refusal_number refusal

-- `wrapper::counters::left_after` meets its contract: a difference in ℕ is never below 0. Assumes nothing.
use Rattle.std.proofs.Common.{rules}
use Rattle.wrapper.specs.Counters.{fallen}
use Rattle.wrapper.proofs.counters.left_after.Goals as goal

pub returns : goal.returns
unfolding fallen
returns c = search rules

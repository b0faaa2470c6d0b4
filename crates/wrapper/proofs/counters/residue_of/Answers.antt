-- `wrapper::counters::residue_of` meets its contract: a difference in ℕ is never below 0. Assumes nothing.
use Rattle.std.proofs.Common.{rules}
use Rattle.wrapper.specs.Counters.{residue_of}
use Rattle.wrapper.proofs.counters.residue_of.Goals as goal

pub returns : goal.returns
unfolding residue_of
returns c = search rules

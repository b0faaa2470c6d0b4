-- `wrapper::verdict::meaningful` meets its contract: it makes the three tests in turn. Assumes nothing.
use Rattle.std.proofs.Common.{rules}
use Rattle.wrapper.specs.Verdict.{is_meaningful}
use Rattle.wrapper.proofs.verdict.meaningful.Goals as goal

pub returns-then-bits_of-maxlun : goal.returns-then-bits_of-maxlun
unfolding is_meaningful
returns-then-bits_of-maxlun c = search rules

pub returns-else-bits_of-maxlun : goal.returns-else-bits_of-maxlun
unfolding is_meaningful
returns-else-bits_of-maxlun c = search rules

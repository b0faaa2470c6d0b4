-- `wrapper::verdict::clear` meets its contract: it makes the two tests in turn. Assumes nothing.
use Rattle.std.proofs.Common.{rules}
use Rattle.wrapper.specs.Verdict.{is_clear}
use Rattle.wrapper.proofs.verdict.clear.Goals as goal

pub returns-then-bits_of-eq0 : goal.returns-then-bits_of-eq0
unfolding is_clear
returns-then-bits_of-eq0 c = search rules

pub returns-else-bits_of-eq0 : goal.returns-else-bits_of-eq0
unfolding is_clear
returns-else-bits_of-eq0 c = search rules

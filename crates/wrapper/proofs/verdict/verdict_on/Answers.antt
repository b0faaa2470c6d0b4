-- `wrapper::verdict::verdict_on` meets its contract: it makes the two tests in turn. Assumes nothing.
use Rattle.std.proofs.Common.{rules}
use Rattle.wrapper.specs.Verdict.{verdict_of}
use Rattle.wrapper.proofs.Cbw.{ways}
use Rattle.wrapper.proofs.verdict.verdict_on.Goals as goal

pub meaningful-requires : goal.meaningful-requires
meaningful-requires c = search (ways, rules)

pub returns-then-not-signed : goal.returns-then-not-signed
unfolding verdict_of
returns-then-not-signed c = search rules

pub returns-then-meaningful : goal.returns-then-meaningful
unfolding verdict_of
returns-then-meaningful c = search rules

pub returns-else-meaningful : goal.returns-else-meaningful
unfolding verdict_of
returns-else-meaningful c = search rules

-- `benchact::reset` meets its contract: the reply is put at the front of the lent bytes. Assumes nothing.
use Rattle.std.proofs.Common.{rules}
use Rattle.benchact.proofs.Laws.{resets}
use Rattle.benchact.proofs.reset.Goals as goal

pub returns : goal.returns
returns c = search (resets, rules)

-- `calls::accept` meets its contract: a known byte stands for its status. Assumes nothing.
use Rattle.std.proofs.Common.{rules}
use Rattle.calls.proofs.Laws.{ways}
use Rattle.calls.proofs.accept.Goals as goal

pub returns-in_default : goal.returns-in_default
returns-in_default c = search (ways, rules)

pub returns : goal.returns
returns c = search (ways, rules)

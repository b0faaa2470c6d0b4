-- `calls::command::offers` meets its contract: the state decides, then the status. Assumes nothing.
use Rattle.std.proofs.Common.{rules}
use Rattle.calls.proofs.Laws.{ways}
use Rattle.calls.proofs.command.offers.Goals as goal

pub returns-then-is_in : goal.returns-then-is_in
returns-then-is_in c = search (ways, rules)

pub returns : goal.returns
returns c = search (ways, rules)

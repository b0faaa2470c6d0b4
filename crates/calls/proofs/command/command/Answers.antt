-- `calls::command::command` meets its contract: each way has one law. Assumes nothing.
use Rattle.std.proofs.Common.{rules}
use Rattle.calls.proofs.Laws.{ways}
use Rattle.calls.proofs.command.command.Goals as goal

pub returns-then-broken : goal.returns-then-broken
returns-then-broken c = search (ways, rules)

pub returns-then-is_in : goal.returns-then-is_in
returns-then-is_in c = search (ways, rules)

pub returns : goal.returns
returns c = search (ways, rules)

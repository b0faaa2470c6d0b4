-- `benchact::command` meets its contract: what the step offers is put at the front of the lent bytes. Assumes nothing.
use Rattle.std.proofs.Common.{rules}
use Rattle.benchact.proofs.Laws.{steps}
use Rattle.benchact.proofs.command.Goals as goal

pub returns : goal.returns
returns c = search (steps, rules)

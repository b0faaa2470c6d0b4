-- `bbb::act::act` meets its contract, for each kind that the row can have. Assumes nothing.
use Rattle.std.proofs.Common.{rules}
use Rattle.bbb.proofs.Acting.{ways}
use Rattle.bbb.proofs.act.act.Goals as goal

pub returns-in-Rest : goal.returns-in-Rest
returns-in-Rest c = search (ways, rules)

pub returns-in-Stall : goal.returns-in-Stall
returns-in-Stall c = search (ways, rules)

pub returns-in-Read : goal.returns-in-Read
returns-in-Read c = search (ways, rules)

pub returns-in-Send : goal.returns-in-Send
returns-in-Send c = search (ways, rules)

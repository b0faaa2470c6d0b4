-- `bbb::act::put_status` meets its contract, with a status and without one. Assumes nothing.
use Rattle.std.proofs.Common.{rules}
use Rattle.bbb.proofs.Acting.{ways}
use Rattle.bbb.proofs.act.put_status.Goals as goal

pub returns-in-None : goal.returns-in-None
returns-in-None c = search (ways, rules)

pub returns-in-Some : goal.returns-in-Some
returns-in-Some c = search (ways, rules)

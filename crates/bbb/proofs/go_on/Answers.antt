-- `bbb::go_on` meets its contract: the ring gives a row, and then its act is done. Assumes nothing.
use Rattle.std.proofs.Common.{rules}
use Rattle.bbb.proofs.Polling.{ways}
use Rattle.bbb.proofs.go_on.Goals as goal

pub returns : goal.returns
returns c = search (ways, rules)

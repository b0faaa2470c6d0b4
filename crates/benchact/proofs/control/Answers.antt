-- `benchact::control` meets its contract: the reply is put at the front of the lent bytes. Assumes nothing.
use Rattle.std.proofs.Common.{rules}
use Rattle.benchact.proofs.Laws.{controls}
use Rattle.benchact.proofs.control.Goals as goal

pub returns : goal.returns
returns c = search (controls, rules)

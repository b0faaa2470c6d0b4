-- `bbb::act::send` meets its contract: the packet is refused with 4, or sent. Assumes nothing.
use Rattle.std.proofs.Common.{rules}
use Rattle.bbb.proofs.Acting.{ways}
use Rattle.bbb.proofs.act.send.Goals as goal

pub returns-then-refused : goal.returns-then-refused
returns-then-refused c = search (ways, rules)

pub returns : goal.returns
returns c = search (ways, rules)

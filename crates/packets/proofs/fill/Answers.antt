-- `packets::fill` meets its contract: it adds as many bytes as are missing to `min(left, p)`, or none. Assumes nothing.
use Rattle.std.proofs.Common.{rules}
use Rattle.packets.proofs.Laws.{ways}
use Rattle.packets.proofs.fill.Goals as goal

pub returns-then-have-want : goal.returns-then-have-want
returns-then-have-want c = search (ways, rules)

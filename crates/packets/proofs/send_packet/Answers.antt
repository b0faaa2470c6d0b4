-- `packets::send_packet` meets its contract: if the endpoint does its part, the first unread bytes are sent, and otherwise none. Assumes nothing.
use Rattle.std.proofs.Common.{rules}
use Rattle.packets.proofs.Laws.{ways}
use Rattle.packets.proofs.send_packet.Goals as goal

pub returns-then-served : goal.returns-then-served
returns-then-served c = search (ways, rules)

pub returns : goal.returns
returns c = search (ways, rules)

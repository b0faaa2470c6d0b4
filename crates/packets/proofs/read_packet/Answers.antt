-- `packets::read_packet` meets its contract: room comes first, and then what the endpoint hands over, the packet or nothing. Assumes
-- nothing.
use mathlib.Core.Path.{sym, ◌∙◌}
use Rattle.packets.proofs.Laws.{handed_all, handed_none, reads_room, reads_none}
use Rattle.packets.proofs.read_packet.Goals as goal
use Rattle.packets.proofs.read_packet.Goals.{then-served, else-served}

pub returns-in-Ok : goal.returns-in-Ok
returns-in-Ok c = elim c.if-served.branch [
  | then-served w ↦
      rw w.io-is (reads_room _ _ _ _ c.requires.1 (handed_all _ _ c.served.ensures w.if-served.true) w.write_all-asked.ensures (sym w.asked-is ∙ c.in-Ok.is) c.answered.ensures c.served-in-Ok.ensures c.then_some.ensures)
  | else-served w ↦
      rw w.io-is (reads_room _ _ _ _ c.requires.1 (handed_none _ _ c.served.ensures w.if-served.false) w.write_all-asked-else-served.ensures (sym w.asked-is ∙ c.in-Ok.is) c.answered.ensures c.served-in-Ok.ensures c.then_some.ensures)
]

pub returns-in-Err : goal.returns-in-Err
returns-in-Err c = elim c.if-served.branch [
  | then-served w ↦ rw w.io-is (reads_none _ _ _ _ c.requires.1 (handed_all _ _ c.served.ensures w.if-served.true) w.write_all-asked.ensures (sym w.asked-is ∙ c.in-Err.is))
  | else-served w ↦ rw w.io-is (reads_none _ _ _ _ c.requires.1 (handed_none _ _ c.served.ensures w.if-served.false) w.write_all-asked-else-served.ensures (sym w.asked-is ∙ c.in-Err.is))
]

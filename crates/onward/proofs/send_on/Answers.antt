-- `onward::send_on` meets its contract: if the packet was copied, state, read mark and left are stored in the record. Assumes nothing.
use Rattle.std.proofs.Common.{ap}
use mathlib.Core.Bool.{not}
use Rattle.onward.proofs.Going.{leaves_sent}
use Rattle.onward.proofs.send_on.Goals as goal

pub returns : goal.returns
returns c =
    let a = c.args in
    let copied = c.put_packet.ensures in
    leaves_sent a.n a.io.now a.«record».now a.packet.now copied.0 copied.1 (ap not c.if-not-put_packet.false) c.requires.0 c.requires.1 _ _ c.requires.2
    c.left_after-falls.ensures c.reach.ensures c.read_mark.ensures c.left.ensures c.narrow.ensures c.word.ensures

-- `onward::take_on` meets its contract: if the packet was copied, write mark and left are stored in the record. Assumes nothing.
use Rattle.std.proofs.Common.{ap}
use mathlib.Core.Bool.{not}
use Rattle.onward.proofs.Going.{leaves_taken}
use Rattle.onward.proofs.take_on.Goals as goal

pub returns : goal.returns
returns c =
    let a = c.args in
    let copied = c.put_packet.ensures in
    leaves_taken a.n a.io.now a.«record».now a.one.now copied.0 copied.1 (ap not c.if-not-put_packet.false) c.requires.1 _ c.requires.2
    c.left_after-falls.ensures c.write_mark.ensures c.left.ensures c.word.ensures

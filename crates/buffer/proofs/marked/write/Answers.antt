-- `buffer::marked::write` meets its contract: `written` says what its three calls leave. Assumes nothing.
use Rattle.buffer.proofs.Ways.{fits, writes}
use Rattle.buffer.proofs.marked.write.Goals as goal

pub returns : goal.returns
returns c =
    (fits _ _ _ _ c.make_room-t.ensures c.min-n.ensures, writes _ _ _ _ c.requires c.make_room-t.ensures c.min-n.ensures _ c.put.ensures)

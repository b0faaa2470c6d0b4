-- `buffer::marked::fill_up_to` meets its contract: `filled` says what its three calls leave. Assumes nothing.
use Rattle.buffer.proofs.Ways.{fits, fills}
use Rattle.buffer.proofs.marked.fill_up_to.Goals as goal

pub returns : goal.returns
returns c =
    (fits _ _ _ _ c.make_room-t.ensures c.min-k.ensures, fills _ _ _ _ _ c.requires c.make_room-t.ensures c.min-k.ensures _ c.fill.ensures)

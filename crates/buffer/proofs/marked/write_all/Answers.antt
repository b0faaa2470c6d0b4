-- `buffer::marked::write_all` meets its contract: what is wanted less the room is missing. Assumes nothing.
use Rattle.buffer.proofs.Ways.{refuses, takes_all}
use Rattle.buffer.proofs.marked.write_all.Goals as goal

pub returns-then-room-need : goal.returns-then-room-need
returns-then-room-need c =
    refuses _ _ _ _ _ c.requires c.max-need.ensures c.make_room-t.ensures c.if-room-need.true

pub returns : goal.returns
returns c =
    takes_all _ _ _ _ _ c.requires c.max-need.ensures c.make_room-t.ensures c.if-room-need.false _ c.put.ensures

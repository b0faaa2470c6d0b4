-- `buffer::marked::shift` meets its contract: what `move_front` leaves is what `moved` says. Assumes nothing.
use Rattle.buffer.proofs.Ways.{moves}
use Rattle.buffer.proofs.marked.shift.Goals as goal

pub returns : goal.returns
returns c =
    moves _ _ _ c.requires c.unread-n.ensures c.move_front.ensures

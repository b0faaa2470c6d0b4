-- `buffer::marked::read` meets its contract: `given` says what is copied. Assumes nothing.
use Rattle.buffer.proofs.Ways.{reads}
use Rattle.buffer.proofs.marked.read.Goals as goal

pub returns : goal.returns
returns c =
    reads _ _ _ _ c.requires.0 (rw c.unread.ensures at c.min-n.ensures) _ c.put.ensures

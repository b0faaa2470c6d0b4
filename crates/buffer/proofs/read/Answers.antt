-- `buffer::read` meets its contract: marks that pass the test are sound, and `marked::read` does the rest. Assumes nothing.
use Rattle.buffer.specs.Calls.{read_call, read_into}
use Rattle.buffer.proofs.Ways.{refused, refused_into, passes, counts}
use Rattle.buffer.proofs.read.Goals as goal

pub returns-in_err-tested : goal.returns-in_err-tested
unfolding read_call read_into
returns-in_err-tested c =
    let h = c.in_err-tested.ensures.broken in
    (refused _ h _ _ c.from_residual.ensures, refused_into _ h _)

pub returns : goal.returns
unfolding read_call read_into
returns c =
    let g = c.in_ok-tested.ensures.sound in
    let k = c.read.ensures in
    (counts _ g k.0 k.1.same, passes _ g _ k.2)

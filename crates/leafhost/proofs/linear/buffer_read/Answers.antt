-- `leafhost::linear::buffer_read` meets its contract: it reports what `buffer::read` does on the caller's marks. Assumes nothing.
use Rattle.leafhost.proofs.BufferWays.{reports, reads}
use Rattle.leafhost.proofs.linear.buffer_read.Goals as goal

pub returns : goal.returns
returns c =
    let h = c.in-Some.ensures.three in
    (reports _ _ _ h _ _ _ c.read.ensures.0 c.report.ensures, reads _ _ _ h _ c.read.ensures.1)

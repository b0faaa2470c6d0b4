-- `leafhost::linear::buffer_available` meets its contract: it reports what `buffer::available` does on the caller's marks. Assumes nothing.
use Rattle.leafhost.proofs.BufferWays.{reports}
use Rattle.leafhost.proofs.linear.buffer_available.Goals as goal

pub returns : goal.returns
returns c = reports _ _ _ c.in-Some.ensures.three _ _ _ c.available.ensures c.report.ensures

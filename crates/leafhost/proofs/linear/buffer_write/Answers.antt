-- `leafhost::linear::buffer_write` meets its contract: it reports what `buffer::write` does on the caller's marks. Assumes nothing.
use Rattle.leafhost.proofs.BufferWays.{reports}
use Rattle.leafhost.proofs.linear.buffer_write.Goals as goal

pub returns : goal.returns
returns c = reports _ _ _ c.in-Some.ensures.three _ _ _ c.write.ensures c.report.ensures

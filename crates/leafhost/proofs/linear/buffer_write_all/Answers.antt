-- `leafhost::linear::buffer_write_all` meets its contract: it reports what `buffer::write_all` does on the caller's marks. Assumes nothing.
use Rattle.leafhost.proofs.BufferWays.{reports}
use Rattle.leafhost.proofs.linear.buffer_write_all.Goals as goal

pub returns : goal.returns
returns c = reports _ _ _ c.in-Some.ensures.three _ _ _ c.write_all.ensures c.report.ensures

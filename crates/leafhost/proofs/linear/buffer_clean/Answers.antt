-- `leafhost::linear::buffer_clean` meets its contract: it reports what `buffer::clean` does on the caller's marks. Assumes nothing.
use Rattle.leafhost.proofs.BufferWays.{reports}
use Rattle.leafhost.proofs.linear.buffer_clean.Goals as goal

pub returns : goal.returns
returns c = reports _ _ _ c.in-Some.ensures.three _ _ _ c.clean.ensures c.report.ensures

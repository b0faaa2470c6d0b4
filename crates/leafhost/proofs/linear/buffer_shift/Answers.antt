-- `leafhost::linear::buffer_shift` meets its contract: it reports what `buffer::shift` does on the caller's marks. Assumes nothing.
use Rattle.leafhost.proofs.BufferWays.{reports}
use Rattle.leafhost.proofs.linear.buffer_shift.Goals as goal

pub returns : goal.returns
returns c = reports _ _ _ c.in-Some.ensures.three _ _ _ c.shift.ensures c.report.ensures

-- `leafhost::linear::buffer_fill_up_to` meets its contract: it reports what `buffer::fill_up_to` does on the caller's marks. Assumes nothing.
use Rattle.leafhost.proofs.BufferWays.{reports}
use Rattle.leafhost.proofs.linear.buffer_fill_up_to.Goals as goal

pub returns : goal.returns
returns c = reports _ _ _ c.in-Some.ensures.three _ _ _ c.fill_up_to.ensures c.report.ensures

-- `wrapper::counters::put_in_after` meets its contract: it gives the sum, or the largest number where the sum would be above it. Assumes
-- nothing.
use Rattle.std.proofs.Common.{rules}
use Rattle.wrapper.specs.Counters.{risen}
use Rattle.wrapper.proofs.counters.put_in_after.Goals as goal

pub returns : goal.returns
unfolding risen
returns c = search rules

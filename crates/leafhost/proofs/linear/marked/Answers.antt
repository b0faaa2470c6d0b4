-- `leafhost::linear::marked` meets its contract. Assumes nothing.
use Rattle.std.proofs.Common.{rules}
use Rattle.leafhost.specs.Buffer.{marked_by}
use Rattle.leafhost.proofs.linear.marked.Goals as goal

pub returns-in-len3-clause-three : goal.returns-in-len3-clause-three
unfolding marked_by
returns-in-len3-clause-three c = search rules

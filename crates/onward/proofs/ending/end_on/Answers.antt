-- `onward::ending::end_on` meets its contract: the status is written and sent, and state and marks are stored. Assumes nothing.
use Rattle.std.proofs.Common.{rules}
use Rattle.onward.proofs.Entering.{count_fits}
use Rattle.onward.proofs.ending.end_on.Goals as goal

pub narrow-requires : goal.narrow-requires
narrow-requires c =
    count_fits c.put_status-written.ensures.sound c.requires.2 (search rules) _ c.read-sent.ensures.0

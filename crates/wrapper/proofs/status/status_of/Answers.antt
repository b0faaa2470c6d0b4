-- `wrapper::status::status_of` meets its contract: each arm but the last has one byte, and the last has the rest. Assumes nothing.
use Rattle.std.proofs.Common.{rules}
use Rattle.wrapper.specs.Status.{status_call}
use Rattle.wrapper.proofs.status.status_of.Goals as goal

pub returns-in-0 : goal.returns-in-0
unfolding status_call
returns-in-0 c = search rules

pub returns-in-1 : goal.returns-in-1
unfolding status_call
returns-in-1 c = search rules

pub returns-in-2 : goal.returns-in-2
unfolding status_call
returns-in-2 c = search rules

pub returns-in_default : goal.returns-in_default
unfolding status_call
returns-in_default c = search rules

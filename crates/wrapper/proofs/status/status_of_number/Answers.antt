-- `wrapper::status::status_of_number` meets its contract: each arm but the last has one number, and the last has the rest. Assumes nothing.
use Rattle.std.proofs.Common.{rules}
use Rattle.wrapper.specs.Status.{status_of_number}
use Rattle.wrapper.proofs.Numbers.{the_last_status}
use Rattle.wrapper.proofs.status.status_of_number.Goals as goal

pub returns-in-0 : goal.returns-in-0
unfolding status_of_number
returns-in-0 c = search rules

pub returns-in-1 : goal.returns-in-1
unfolding status_of_number
returns-in-1 c = search rules

pub returns-in_default : goal.returns-in_default
returns-in_default c = search (the_last_status, rules)

-- `wrapper::direction_of_number` meets its contract: each arm but the last has one number, and the last has the rest. Assumes nothing.
use Rattle.std.proofs.Common.{rules}
use Rattle.wrapper.specs.Wrapper.{direction_of_number}
use Rattle.wrapper.proofs.Numbers.{the_last_direction}
use Rattle.wrapper.proofs.direction_of_number.Goals as goal

pub returns-in-0 : goal.returns-in-0
unfolding direction_of_number
returns-in-0 c = search rules

pub returns-in-1 : goal.returns-in-1
unfolding direction_of_number
returns-in-1 c = search rules

pub returns-in_default : goal.returns-in_default
returns-in_default c = search (the_last_direction, rules)

-- `wrapper::direction_of` meets its contract: it makes the two tests in turn. Assumes nothing.
use Rattle.std.proofs.Common.{rules}
use Rattle.wrapper.specs.Wrapper.{direction_of_flags}
use Rattle.wrapper.proofs.direction_of.Goals as goal

pub returns-in-0-default : goal.returns-in-0-default
unfolding direction_of_flags
returns-in-0-default c = search rules

pub returns-in_default-eq1 : goal.returns-in_default-eq1
unfolding direction_of_flags
returns-in_default-eq1 c = search rules

pub returns-in_default : goal.returns-in_default
unfolding direction_of_flags
returns-in_default c = search rules

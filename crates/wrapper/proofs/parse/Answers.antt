-- `wrapper::parse` meets its contract: a valid message gives all its fields, any other gives none. Assumes nothing.
use Rattle.std.proofs.Common.{rules}
use Rattle.wrapper.specs.Wrapper.{parsed}
use Rattle.wrapper.proofs.Cbw.{ways}
use Rattle.wrapper.proofs.parse.Goals as goal

pub read_wrapper-requires : goal.read_wrapper-requires
read_wrapper-requires c = search (ways, rules)

pub returns-then-valid : goal.returns-then-valid
unfolding parsed
returns-then-valid c = search rules

pub returns-else-valid : goal.returns-else-valid
unfolding parsed
returns-else-valid c = search rules

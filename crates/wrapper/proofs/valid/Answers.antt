-- `wrapper::valid` meets its contract: it makes the two tests in turn. Assumes nothing.
use Rattle.std.proofs.Common.{rules}
use Rattle.wrapper.specs.Wrapper.{is_valid}
use Rattle.wrapper.proofs.Cbw.{ways}
use Rattle.wrapper.proofs.valid.Goals as goal

pub byte-requires : goal.byte-requires
byte-requires c = search (ways, rules)

pub returns-then-signed : goal.returns-then-signed
unfolding is_valid
returns-then-signed c = search rules

pub returns-else-signed : goal.returns-else-signed
unfolding is_valid
returns-else-signed c = search rules

-- `wrapper::signed` meets its contract: it tests the length, and then the signature. Assumes nothing.
use Rattle.std.proofs.Common.{rules}
use Rattle.wrapper.specs.Wrapper.{is_signed}
use Rattle.wrapper.proofs.signed.Goals as goal

pub returns-then-message-eq-SIZE : goal.returns-then-message-eq-SIZE
unfolding is_signed
returns-then-message-eq-SIZE c = search rules

pub returns-else-message-eq-SIZE : goal.returns-else-message-eq-SIZE
unfolding is_signed
returns-else-message-eq-SIZE c = search rules

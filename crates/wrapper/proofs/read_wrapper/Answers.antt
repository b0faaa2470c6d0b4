-- `wrapper::read_wrapper` meets its contract: it reads the head, and then the block. Assumes nothing.
use Rattle.std.proofs.Common.{rules}
use Rattle.wrapper.specs.Wrapper.{wrapper_of}
use Rattle.wrapper.proofs.read_wrapper.Goals as goal

pub returns : goal.returns
unfolding wrapper_of
returns c = search rules

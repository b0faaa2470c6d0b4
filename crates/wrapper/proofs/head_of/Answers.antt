-- `wrapper::head_of` meets its contract: it reads each field by BOT's table. Assumes nothing.
use Rattle.std.proofs.Common.{rules}
use Rattle.wrapper.specs.Wrapper.{wrapper_of}
use Rattle.wrapper.proofs.head_of.Goals as goal

pub returns : goal.returns
unfolding wrapper_of
returns c = search rules

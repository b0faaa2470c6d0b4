-- `leafhost::codecs::wrapper_status` meets its contract: the call is refused, or it writes the 13 bytes. Assumes nothing.
use Rattle.std.proofs.Common.{rules}
use Rattle.wrapper.specs.Status.{status_call}
use Rattle.leafhost.specs.Codecs.{shown_status}
use Rattle.leafhost.proofs.codecs.wrapper_status.Goals as goal

pub returns-then-bytes-ne-SIZE : goal.returns-then-bytes-ne-SIZE
unfolding shown_status
returns-then-bytes-ne-SIZE c = search rules

pub returns-in_default : goal.returns-in_default
unfolding shown_status status_call
returns-in_default c = search rules

pub returns : goal.returns
unfolding shown_status status_call
returns c = search rules

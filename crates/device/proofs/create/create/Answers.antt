-- `device::create::create` meets its contract: it gives a device, or none. Assumes nothing.
use Rattle.std.proofs.Common.{rules}
use Rattle.device.specs.Create.{create_call}
use Rattle.device.proofs.create.create.Goals as goal

pub returns-in_err-judged : goal.returns-in_err-judged
unfolding create_call
returns-in_err-judged c = search rules

pub returns : goal.returns
unfolding create_call
returns c = search rules

-- `commandbytes::command_step` meets its contract: it makes the step with extended addressing on. Assumes nothing.
use Rattle.std.proofs.Common.{rules}
use Rattle.commandbytes.proofs.Ways.{ways}
use Rattle.commandbytes.proofs.command_step.Goals as goal

pub returns : goal.returns
returns c = search (ways, rules)

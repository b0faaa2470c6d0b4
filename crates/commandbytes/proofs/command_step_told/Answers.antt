-- `commandbytes::command_step_told` meets its contract: a number that is no flag is refused, and any other tells the step. Assumes nothing.
use Rattle.std.proofs.Common.{rules}
use Rattle.commandbytes.proofs.Ways.{ways}
use Rattle.commandbytes.proofs.command_step_told.Goals as goal

pub returns-then-extended-gt1 : goal.returns-then-extended-gt1
returns-then-extended-gt1 c = search (ways, rules)

pub returns : goal.returns
returns c = search (ways, rules)

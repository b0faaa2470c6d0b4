-- `calls::command::command_step` meets its contract: it makes the step that is told, with extended addressing on. Assumes nothing.
use Rattle.std.proofs.Common.{rules}
use Rattle.calls.proofs.Laws.{ways}
use Rattle.calls.proofs.command.command_step.Goals as goal

pub returns : goal.returns
returns c = search (ways, rules)

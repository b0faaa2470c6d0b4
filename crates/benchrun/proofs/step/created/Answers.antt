-- `benchrun::step::created` meets its contract: it reads the numbers of the first event. Assumes nothing.
use Rattle.std.proofs.Common.{rules}
use Rattle.benchrun.proofs.Laws.{creates, creates_none}
use Rattle.benchrun.proofs.step.created.Goals as goal

pub returns-in-Ok : goal.returns-in-Ok
returns-in-Ok c = search (creates, rules)

pub returns-in-Err : goal.returns-in-Err
returns-in-Err c = search (creates_none, rules)

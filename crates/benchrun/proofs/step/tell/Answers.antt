-- `benchrun::step::tell` meets its contract. Assumes nothing.
use Rattle.std.proofs.Common.{rules}
use Rattle.benchrun.proofs.Laws.{told_line}
use Rattle.benchrun.proofs.step.tell.Goals as goal

pub returns : goal.returns
returns c = search (told_line, rules)

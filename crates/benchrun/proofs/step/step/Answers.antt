-- `benchrun::step::step` meets its contract. Assumes nothing.
use Rattle.benchrun.proofs.Laws.{steps_on}
use Rattle.benchrun.proofs.step.step.Goals as goal

pub returns : goal.returns
returns c = steps_on _ _ _ _ _ c.in-Some.ensures c.act-a.result c.act-a.ensures c.tell-line.ensures

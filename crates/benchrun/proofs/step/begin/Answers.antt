-- `benchrun::step::begin` meets its contract. Assumes nothing.
use Rattle.benchrun.proofs.Laws.{begins_made}
use Rattle.benchrun.proofs.step.begin.Goals as goal

pub returns : goal.returns
returns c =
    begins_made _ _ c.event_at.ensures c.if-is_none.ensures _ c.created-answer.ensures c.answer_number.ensures c.tell-length.ensures

-- `benchact::poll` meets its contract: both packets lie in the body, the second one after the first. Assumes nothing.
use mathlib.Core.Path.{◌∙◌}
use Rattle.benchact.proofs.Laws.{polls}
use Rattle.benchact.proofs.poll.Goals as goal

pub returns : goal.returns
returns c =
    polls _ _ _ _ c.poll.result c.turn_of-turn.ensures (c.from-end.ensures ∙ c.byte.ensures) c.poll.ensures c.from.ensures

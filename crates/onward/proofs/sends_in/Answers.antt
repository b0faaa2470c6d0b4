-- `onward::sends_in` meets its contract, for each flag. Assumes nothing.
use Rattle.onward.proofs.Going.{sends_without, sends_6, sends_4}
use Rattle.onward.proofs.sends_in.Goals as goal

pub returns-in-0 : goal.returns-in-0
returns-in-0 c = sends_without _ _ c.in-0.is

pub returns-then-state-eq6 : goal.returns-then-state-eq6
returns-then-state-eq6 c = sends_6 _ _ c.in-1.is c.if-state-eq6.true

pub returns-else-state-eq6 : goal.returns-else-state-eq6
returns-else-state-eq6 c = sends_4 _ _ c.in-1.is c.if-state-eq6.false

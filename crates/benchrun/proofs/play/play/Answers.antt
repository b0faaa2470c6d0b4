-- `benchrun::play::play` meets its contract: after each event the loop has come one turn further, the lent bytes and the text have the
-- same lengths as before, and fewer bytes of events are ahead. Assumes nothing.
use Rattle.benchrun.proofs.Loop.{comes_less, comes_on, comes_last}
use Rattle.benchrun.proofs.play.play.Goals as goal

pub returns-then-not-run : goal.returns-then-not-run
returns-then-not-run c = comes_last _ _ _ c.loop-run.invariant c.if-not-run.true

pub loop-run-smaller : goal.loop-run-smaller
loop-run-smaller c =
    comes_less _ _ _ c.loop-run.invariant c.if-not-run.false c.step-run.ensures

pub loop-run-preserved : goal.loop-run-preserved
loop-run-preserved c =
    let kept = c.step-run.auto in
    comes_on _ _ _ c.loop-run.invariant c.if-not-run.false c.step-run.ensures kept.io kept.lent kept.text

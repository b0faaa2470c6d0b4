use Rattle.benchrun.specs.Run.{running_of}
use Rattle.benchrun.proofs.After.{ahead}
use Rattle.benchrun.proofs.Loop.{Comes}
use Rattle.benchrun.proofs.play.play.Given as goal

abbrev pub invariant-loop-run : goal.invariant-loop-run
invariant-loop-run l = Comes l.events (running_of l.initial.run l.initial.io l.initial.lent l.initial.text) (running_of l.run l.io l.lent l.text)

abbrev pub decreases-loop-run : goal.decreases-loop-run
decreases-loop-run l = ahead l.events l.run

use Prim.Native.Nat.{◌-◌}
use lib.ListN.{length}
use Rattle.benchfile.proofs.Walked.{Walked}
use Rattle.benchfile.proofs.walk.Given as goal

abbrev pub invariant-loop-at : goal.invariant-loop-at
invariant-loop-at l = Walked l.events l.at l.tally

abbrev pub decreases-loop-at : goal.decreases-loop-at
decreases-loop-at l = length l.events - l.at

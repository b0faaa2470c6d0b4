-- `benchfile::walk` meets its contract: after each turn it has read events, and any events that fill the bytes begin with these. Assumes
-- nothing.
use native.Mathlib.Omega.{arith}
use Rattle.benchfile.proofs.Walked.{goes_within, breaks, ends}
use Rattle.benchfile.proofs.walk.Goals as goal

pub returns-in_err-e : goal.returns-in_err-e
returns-in_err-e c = breaks _ _ c.loop-at.invariant c.loop-at-test.true c.in_err-e.ensures c.from_residual.ensures

pub overflow_add-at : goal.overflow_add-at
overflow_add-at c = omega (arith, goes_within _ _ c.loop-at.invariant c.loop-at-test.true c.in_ok-e.ensures)

pub overflow_add-at-in-loop-at : goal.overflow_add-at-in-loop-at
overflow_add-at-in-loop-at c = omega (arith, goes_within _ _ c.loop-at.invariant c.loop-at-test.true c.in_ok-e.ensures)

pub returns : goal.returns
returns c = ends _ _ c.loop-at.invariant c.loop-at-test.false

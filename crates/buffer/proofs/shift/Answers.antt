-- `buffer::shift` meets its contract: marks that pass the test are sound, and `marked::shift` does the rest. Assumes nothing.
use mathlib.Core.Path.{refl}
use Rattle.buffer.specs.Calls.{shift_call}
use Rattle.buffer.proofs.Ways.{refused, counts}
use Rattle.buffer.proofs.shift.Goals as goal

pub returns-in_err-tested : goal.returns-in_err-tested
unfolding shift_call
returns-in_err-tested c = refused _ c.in_err-tested.ensures.broken _ _ c.from_residual.ensures

pub returns : goal.returns
unfolding shift_call
returns c = counts _ c.in_ok-tested.ensures.sound refl c.shift-marks.ensures.same

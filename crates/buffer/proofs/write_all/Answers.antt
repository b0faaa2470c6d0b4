-- `buffer::write_all` meets its contract: marks that pass the test are sound, and `marked::write_all` does the rest. Assumes nothing.
use Rattle.buffer.specs.Calls.{write_all_call}
use Rattle.buffer.proofs.Ways.{refused, all_taken, overflows}
use Rattle.buffer.proofs.write_all.Goals as goal

pub returns-in_err-tested : goal.returns-in_err-tested
unfolding write_all_call
returns-in_err-tested c = refused _ c.in_err-tested.ensures.broken _ _ c.from_residual.ensures

pub returns-in_err-marks : goal.returns-in_err-marks
returns-in_err-marks c = overflows _ c.in_ok-tested.ensures.sound _ _ c.in_err-marks.ensures _ c.from_residual-in_err-marks.ensures

pub returns : goal.returns
returns c = all_taken _ c.in_ok-tested.ensures.sound _ _ c.in_ok-marks.ensures

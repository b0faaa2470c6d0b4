-- `buffer::write` meets its contract: marks that pass the test are sound, and `marked::write` does the rest. Assumes nothing.
use Rattle.buffer.specs.Calls.{write_call}
use Rattle.buffer.proofs.Ways.{refused, counts}
use Rattle.buffer.proofs.write.Goals as goal

pub returns-in_err-tested : goal.returns-in_err-tested
unfolding write_call
returns-in_err-tested c = refused _ c.in_err-tested.ensures.broken _ _ c.from_residual.ensures

pub returns : goal.returns
unfolding write_call
returns c = counts _ c.in_ok-tested.ensures.sound c.write.ensures.0 c.write.ensures.1.same

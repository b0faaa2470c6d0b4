-- `buffer::fill_up_to` meets its contract: marks that pass the test are sound, and `marked::fill_up_to` does the rest. Assumes nothing.
use Rattle.buffer.specs.Calls.{fill_call}
use Rattle.buffer.proofs.Ways.{refused, counts}
use Rattle.buffer.proofs.fill_up_to.Goals as goal

pub returns-in_err-tested : goal.returns-in_err-tested
unfolding fill_call
returns-in_err-tested c = refused _ c.in_err-tested.ensures.broken _ _ c.from_residual.ensures

pub returns : goal.returns
unfolding fill_call
returns c = counts _ c.in_ok-tested.ensures.sound c.fill_up_to.ensures.0 c.fill_up_to.ensures.1.same

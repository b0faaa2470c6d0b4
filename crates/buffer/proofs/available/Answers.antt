-- `buffer::available` meets its contract: the difference of sound marks is how many bytes are unread. Assumes nothing.
use mathlib.Core.Path.{refl}
use Rattle.buffer.specs.Calls.{available_call}
use Rattle.buffer.proofs.Ways.{refused, counts}
use Rattle.buffer.proofs.available.Goals as goal

pub returns-in_err-tested : goal.returns-in_err-tested
unfolding available_call
returns-in_err-tested c = refused _ c.in_err-tested.ensures.broken _ _ c.from_residual.ensures

pub returns : goal.returns
unfolding available_call
returns c = counts _ c.in_ok-tested.ensures.sound c.unread.ensures refl

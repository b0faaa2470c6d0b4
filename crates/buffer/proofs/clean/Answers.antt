-- `buffer::clean` meets its contract: both marks go to 0. Assumes nothing.
use mathlib.Core.Path.{refl, ap}
use Rattle.buffer.specs.Buffer.{emptied, buffer}
use Rattle.buffer.specs.Calls.{clean_call}
use Rattle.buffer.proofs.Ways.{refused, counts}
use Rattle.buffer.proofs.clean.Goals as goal

pub returns-in_err-tested : goal.returns-in_err-tested
unfolding clean_call
returns-in_err-tested c = refused _ c.in_err-tested.ensures.broken _ _ c.from_residual.ensures

pub returns : goal.returns
unfolding clean_call emptied
returns c = counts _ c.in_ok-tested.ensures.sound refl (ap (buffer _) c.clean.ensures)

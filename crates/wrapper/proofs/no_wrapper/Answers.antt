-- `wrapper::no_wrapper` meets its contract: both sides compute to the same. Assumes nothing.
use mathlib.Core.Path.{refl}
use Rattle.wrapper.specs.Wrapper.{no_wrapper}
use Rattle.wrapper.proofs.no_wrapper.Goals as goal

pub returns : goal.returns
unfolding no_wrapper
returns c = refl

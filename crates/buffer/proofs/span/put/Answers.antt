-- `buffer::span::put` meets its contract: below 8 bytes, after i turns the first i bytes of src are laid over dst. Assumes nothing.
use mathlib.Core.Path.{refl}
use Rattle.fields.proofs.Overlay.{laid_start, laid_turn}
use Rattle.buffer.proofs.span.put.Goals as goal

pub loop-i-init : goal.loop-i-init
loop-i-init c = laid_start _ _ _

pub loop-i-preserved : goal.loop-i-preserved
loop-i-preserved c = laid_turn _ _ _ _ _ _ c.requires c.loop-i.invariant c.loop-i-test.true refl

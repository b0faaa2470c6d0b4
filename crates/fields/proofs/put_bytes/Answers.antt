-- `fields::put_bytes` meets its contract: after i turns the first i bytes are laid over m. Assumes nothing.
use Rattle.std.proofs.Common.{refl, arith}
use Rattle.fields.proofs.Overlay.{laid_start, laid_turn}
use Rattle.fields.proofs.put_bytes.Goals as goal

pub loop-i-init : goal.loop-i-init
loop-i-init g c = laid_start _ _ _

pub loop-i-preserved : goal.loop-i-preserved
loop-i-preserved g c = laid_turn _ _ _ _ _ _ (omega arith) c.loop-i.invariant (omega arith) refl

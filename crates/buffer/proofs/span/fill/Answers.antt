-- `buffer::span::fill` meets its contract: after i turns the first i of the n bytes v are laid over io. Assumes nothing.
use mathlib.Core.Path.{sym}
use native.Mathlib.Omega.{arith}
use lib.ListN.{length-replicate, get_or-replicate}
use Rattle.fields.proofs.Overlay.{laid_start, laid_turn}
use Rattle.buffer.proofs.span.fill.Goals as goal

pub loop-i-init : goal.loop-i-init
loop-i-init c = laid_start _ _ _

pub loop-i-preserved : goal.loop-i-preserved
loop-i-preserved c =
    let a = c.args in
    let n = length-replicate a.n a.v in
    laid_turn _ _ _ _ _ _ (omega arith) c.loop-i.invariant (omega arith) (sym (get_or-replicate a.n c.loop-i.i a.v 0 c.loop-i-test.true))

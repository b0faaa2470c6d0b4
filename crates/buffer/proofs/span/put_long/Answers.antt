-- `buffer::span::put_long` meets its contract: after i turns the first i chunks of src are laid over dst, and the last chunk lays the
-- rest. Assumes nothing.
use native.Mathlib.Omega.{arith}
use Rattle.fields.proofs.Overlay.{laid_start, laid_end}
use Rattle.buffer.proofs.Chunks.{chunk_laid, last_chunk}
use Rattle.buffer.proofs.span.put_long.Goals as goal

pub loop-i-init : goal.loop-i-init
loop-i-init c = laid_start _ _ _

pub loop-i-preserved : goal.loop-i-preserved
loop-i-preserved c = chunk_laid _ _ _ _ 64 _ c.copy.ensures c.loop-i.invariant (omega arith) c.requires.1

pub returns-then-n-ne0 : goal.returns-then-n-ne0
returns-then-n-ne0 c =
    let pre = c.requires in
    last_chunk _ _ _ _ 64 _ c.copy-then-n-ne0.ensures c.loop-i.invariant pre.0 (omega arith) pre.1

pub returns-else-n-ne0 : goal.returns-else-n-ne0
returns-else-n-ne0 c = laid_end _ _ _ _ _ c.loop-i.invariant (omega arith)

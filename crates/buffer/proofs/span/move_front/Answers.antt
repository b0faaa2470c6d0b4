-- `buffer::span::move_front` meets its contract: at the head of each loop the first of the n bytes are laid over the front. Assumes nothing.
use native.Mathlib.Omega.{arith}
use Rattle.fields.proofs.Overlay.{laid_start}
use Rattle.buffer.proofs.Chunks.{through, chunk_moved, at_rest, next_byte_moved, all_moved}
use Rattle.buffer.proofs.span.move_front.Goals as goal

pub loop-i-init : goal.loop-i-init
loop-i-init c = laid_start _ _ _

pub loop-i-preserved : goal.loop-i-preserved
loop-i-preserved c = chunk_moved _ _ _ _ 16 _ (through _ _ _ 16 _ c.put_bytes.ensures c.bytes_at-chunk.ensures) c.loop-i.invariant (omega arith) c.requires

pub loop-k-init : goal.loop-k-init
loop-k-init c = at_rest c.loop-i.invariant (omega arith)

pub loop-k-preserved : goal.loop-k-preserved
loop-k-preserved c = next_byte_moved _ _ _ _ _ c.loop-k.invariant c.loop-k-test.true c.requires

pub returns : goal.returns
returns c = all_moved _ _ _ _ _ c.loop-k.invariant c.loop-k-test.false c.requires

-- `buffer::span::copy` meets its contract: after i turns the first i chunks are laid over dst. Assumes nothing.
use Rattle.buffer.proofs.Chunks.{no_chunk, chunk_copied}
use Rattle.buffer.proofs.span.copy.Goals as goal

pub loop-i-init : goal.loop-i-init
loop-i-init g c = no_chunk _ _ _ _

pub loop-i-preserved : goal.loop-i-preserved
loop-i-preserved g c =
    let pre = c.requires in
    chunk_copied _ _ _ _ _ _ _ _ c.put_bytes.ensures c.bytes_at.ensures c.loop-i.invariant c.loop-i-test.true pre.0 pre.1

-- `buffer::span::put_ends` meets its contract: its two ends cover src. Assumes nothing.
use Rattle.buffer.proofs.Chunks.{both_ends}
use Rattle.buffer.proofs.span.put_ends.Goals as goal

pub returns : goal.returns
returns g c =
    let pre = c.requires in
    both_ends _ _ _ _ c.copy-2.ensures c.copy.ensures pre.0 pre.1 pre.2

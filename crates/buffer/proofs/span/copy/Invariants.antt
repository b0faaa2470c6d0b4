-- `buffer::span::copy`: at the head of the loop the first i chunks are laid over dst.
use Prim.Native.Nat.{◌*◌}
use lib.ListN.{take, drop}
use Rattle.fields.proofs.Overlay.{Laid}
use Rattle.buffer.proofs.span.copy.Given as goal

abbrev pub invariant-loop-i : goal.invariant-loop-i
invariant-loop-i g l = Laid l.initial.dst l.at (take (g.row.K * g.row.N) (drop l.from l.src)) (l.i * g.row.N) l.dst

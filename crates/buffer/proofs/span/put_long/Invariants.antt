-- `buffer::span::put_long`: at the head of the loop the first i chunks are laid over dst.
use Prim.Native.Nat.{◌*◌}
use Rattle.fields.proofs.Overlay.{Laid}
use Rattle.buffer.proofs.span.put_long.Given as goal

abbrev pub invariant-loop-i : goal.invariant-loop-i
invariant-loop-i l = Laid l.initial.dst l.at l.src (64 * l.i) l.dst

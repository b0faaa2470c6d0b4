-- `buffer::span::move_front`: at the heads of its loops the first i chunks or k bytes are laid over the front.
use Prim.Native.Nat.{◌*◌}
use lib.ListN.{take, drop}
use Rattle.fields.proofs.Overlay.{Laid}
use Rattle.buffer.proofs.span.move_front.Given as goal

abbrev pub invariant-loop-i : goal.invariant-loop-i
invariant-loop-i l = Laid l.initial.io 0 (take l.n (drop l.from l.initial.io)) (16 * l.i) l.io

abbrev pub invariant-loop-k : goal.invariant-loop-k
invariant-loop-k l = Laid l.fn.io 0 (take l.n (drop l.from l.fn.io)) l.k l.io

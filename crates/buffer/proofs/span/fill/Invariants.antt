use lib.ListN.{replicate}
use Rattle.fields.proofs.Overlay.{Laid}
use Rattle.buffer.proofs.span.fill.Given as goal

abbrev pub invariant-loop-i : goal.invariant-loop-i
invariant-loop-i l = Laid l.initial.io l.at (replicate l.n l.v) l.i l.io

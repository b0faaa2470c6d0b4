-- `buffer::span::put`: at the head of the loop the first i bytes of src are laid over dst.
use Rattle.fields.proofs.Overlay.{Laid}
use Rattle.buffer.proofs.span.put.Given as goal

abbrev pub invariant-loop-i : goal.invariant-loop-i
invariant-loop-i l = Laid l.initial.dst l.at l.src l.i l.dst

-- `fields::put_bytes`: at the head of the loop the first i bytes are laid over m.
use Rattle.fields.proofs.Overlay.{Laid}
use Rattle.fields.proofs.put_bytes.Given as goal

abbrev pub invariant-loop-i : goal.invariant-loop-i
invariant-loop-i g l = Laid l.initial.m l.at l.bytes l.i l.m

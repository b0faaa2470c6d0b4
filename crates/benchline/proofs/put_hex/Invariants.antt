use Prim.Native.Nat.{◌*◌, ◌-◌}
use lib.ListN.{length}
use Rattle.fields.proofs.Overlay.{Laid}
use Rattle.benchline.specs.Line.{hex}
use Rattle.benchline.proofs.put_hex.Given as goal

abbrev pub invariant-loop-i : goal.invariant-loop-i
invariant-loop-i l = Laid l.initial.text l.at (hex l.bytes) (2 * l.i) l.text

abbrev pub decreases-loop-i : goal.decreases-loop-i
decreases-loop-i l = length l.bytes - l.i

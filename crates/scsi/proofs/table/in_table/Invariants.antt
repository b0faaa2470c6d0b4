use mathlib.Core.Path.{◌≡◌}
use lib.ListN.{drop}
use Rattle.scsi.specs.Decoding.{rows, lists}
use Rattle.scsi.proofs.table.in_table.Given as goal

abbrev pub invariant-loop-row : goal.invariant-loop-row
invariant-loop-row l = lists (drop l.row-index rows) l.opcode l.n ≡ lists rows l.opcode l.n

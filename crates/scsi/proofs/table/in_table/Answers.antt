-- `scsi::table::in_table` meets its contract: before each turn, the rows from its index on list what the whole table lists. Assumes nothing.
use Rattle.std.proofs.Common.{rules}
use mathlib.Core.Path.{◌≡◌, ◌∙◌}
use native.Mathlib.Omega.{arith}
use Rattle.scsi.specs.Decoding.{rows, lists}
use Rattle.scsi.proofs.Laws.{here, past}
use Rattle.scsi.proofs.table.in_table.Goals as goal

pub returns-then-row-opcode : goal.returns-then-row-opcode
returns-then-row-opcode c = here rows _ _ c.loop-row.row-index (search rules) c.if-row-opcode.true ∙ c.loop-row.invariant

pub loop-row-preserved : goal.loop-row-preserved
loop-row-preserved c = past rows _ _ c.loop-row.row-index (search rules) c.if-row-opcode.false ∙ c.loop-row.invariant

pub returns : goal.returns
unfolding lists
returns c = let e : c.loop-row.row-index ≡ 12 = omega arith in rw e at c.loop-row.invariant

-- The function for each command requires a block of the shortest length that its opcode has. Assumes nothing: these are definitions.
use Rattle.std.specs.Prelude.{ℕ, cond, List, [], ◌∷◌, eqb}
use Rattle.scsi.specs.Decoding.{Layout}

-- This is the shortest block length of `opcode`, by the first row of a table that has it, and 0 if no row has
-- it. `r` is the first row, and `rs` are the others.
abbrev pub shortest_of : List Layout → ℕ → ℕ
shortest_of [] opcode = 0
shortest_of (r ∷ rs) opcode = cond (eqb r.opcode opcode) r.shortest (shortest_of rs opcode)

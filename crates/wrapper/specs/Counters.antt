-- "The count left on the wire and the residue reported are two counters", and what the firmware put in is a third: each has its own type.
-- Assumes nothing: these are definitions.
use Rattle.std.specs.Prelude.{ℕ, ◌+◌, ◌-◌, min}
use Rattle.wrapper.specs.declared.counters.Left.{Left}
use Rattle.wrapper.specs.declared.counters.Residue.{Residue}
use Rattle.wrapper.specs.declared.counters.PutIn.{PutIn}

-- "Left falls by bytes moved, never below 0." `l` is the count left before, and `moved` is the number of bytes moved.
-- (In ℕ a difference that would be below 0 is 0.)
unfoldable pub fallen : Left → ℕ → Left
fallen l moved = record { 0 = l.0 - moved }

-- "The residue is L less the firmware's figure, never below zero." `length` is L, and `figure` is the firmware's figure.
unfoldable pub residue_of : ℕ → ℕ → Residue
residue_of length figure = record { 0 = length - figure }

-- 02, request 7: "count the bytes accepted by both write calls"; "It stops at the largest 32-bit number." `c` is the count before, and
-- `accepted` is the number of bytes that a call accepted.
unfoldable pub risen : PutIn → ℕ → PutIn
risen c accepted = record { 0 = min (c.0 + accepted) 4294967295 }

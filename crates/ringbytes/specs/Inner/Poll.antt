-- What a poll through the ring stores in the record. Assumes nothing: these are definitions.
use Rattle.std.specs.Prelude.{ℕ, ◌^◌, ◌<◌, cond, List, None}
use Rattle.bbb.specs.declared.Change.{Change}
use Rattle.recordbytes.specs.Record.{store_state, store_marks, store_left, store_status}

-- The numbers of the change `c` have 32 bits, as their places in the record and in the result have: both marks, and the count of bytes
-- sent.
pub record StorableChange (c : Change) : Type 0 where
  pub read : c.marks.read < 2 ^ 32
  pub write : c.marks.write < 2 ^ 32
  pub sent : c.report.sent < 2 ^ 32

-- The record's bytes `r` with the change `c` stored in them: the status where it was cleared, the state, the marks and left. The wrapper
-- is not stored here.
unfoldable pub store_change : Change → List ℕ → List ℕ
store_change c r = store_left c.left (store_marks c.marks (store_state c.state (cond c.cleared (store_status None r) r)))

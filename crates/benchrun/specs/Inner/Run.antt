-- The room that a run needs. Assumes nothing: these are definitions.
use Rattle.std.specs.Prelude.{ℕ, ◌≤◌, List, length}
use Rattle.benchline.specs.Inner.Line.{room_for}

-- `lent` has room for the bytes that any event shows, and `text` has room for a line with as many bytes as `lent` has.
pub record Roomy (lent text : List ℕ) : Type 0 where
  pub shows : 65535 ≤ length lent
  pub tells : room_for (length lent) ≤ length text

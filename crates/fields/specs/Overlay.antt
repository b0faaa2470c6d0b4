-- Every write lays a list over a part of another. Assumes nothing: this is a definition.
use Rattle.std.specs.Prelude.{ℕ, ◌+◌, List, ◌++◌, length, take, drop}

-- This is the list `d`, in which the elements from index `at` on are replaced by `ys`, as many as `ys` has. All the others stay:
-- "Bytes outside the part written or moved keep their values."
unfoldable pub overlay : List ℕ → ℕ → List ℕ → List ℕ
overlay d at ys = take at d ++ ys ++ drop (at + length ys) d

-- Code that names the places of a table's fields by constants promises that they are these. Assumes nothing: these are definitions.
use Rattle.std.specs.Prelude.{List, [], ◌∷◌, ℕ, ◌+◌}
use Rattle.fields.specs.Field.{Field}

-- These are the places of the fields of a table: the index at which each field starts, in the order of the table, and at the end the index
-- of the first byte after the last field. `f` is the first field, `g` the next one, and `fs` are the others.
abbrev pub places : List Field → List ℕ
places [] = []
places (f ∷ []) = f.start ∷ (f.start + f.width) ∷ []
places (f ∷ g ∷ fs) = f.start ∷ places (g ∷ fs)

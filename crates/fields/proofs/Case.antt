-- A table of cases is shown to hold by computing it, and tables that hold can be joined. Assumes nothing.
use mathlib.Core.Path.{refl}
use mathlib.Core.List.{List, [], ◌∷◌, ◌++◌}
use Rattle.fields.specs.Case.{Case, case, AllHold}

-- In each case the computed value takes the place of the expected one.
unfoldable pub computing_twice : List Case → List Case
computing_twice [] = []
computing_twice (c ∷ cs) = case c.computed c.computed ∷ computing_twice cs

-- Such a table holds. Where antt computes all that stands in a table, it takes the two tables for one, and this proves both.
pub by_computing : (table : List Case) → AllHold (computing_twice table)
unfolding AllHold computing_twice
by_computing [] = tt
by_computing (c ∷ cs) = (refl, by_computing cs)

pub joined : (a b : List Case) → AllHold a → AllHold b → AllHold (a ++ b)
unfolding AllHold
joined [] b p q = q
joined (c ∷ cs) b (holds, p) q = (holds, joined cs b p q)

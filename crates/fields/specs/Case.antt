-- A table of cases pairs values that the definitions compute with the values that are expected, by document 01 or by the author of the
-- case. The cases of one table may be of any kinds, so that tables of several crates can be joined under one statement.
-- Assumes nothing: these are definitions.
use Rattle.std.specs.Prelude.{◌≡◌, List, [], ◌∷◌}

-- A case has a kind, `Kind`, and two values of that kind: `computed` is what the definitions compute, and `expected` is what is expected.
-- `case` makes one from the computed `x` and the expected `y`.
pub record Case : Type 1 where
  pub Kind : Type 0
  pub computed : Kind
  pub expected : Kind

abbrev pub case : {A : Type 0} → A → A → Case
case {A} x y = record { Kind = A; computed = x; expected = y }

-- This is the statement of every table: in each of its cases the computed value is the expected one, as values of the case's own kind.
-- `c` is the first case and `cs` are the others. Neither two cases nor two kinds are compared with each other: an equation between
-- records that hold a kind would say next to nothing.
unfoldable pub AllHold : List Case → Type 0
AllHold [] = Unit {0}
AllHold (c ∷ cs) = (c.computed ≡ c.expected) × AllHold cs

-- What the walk over the events counts, and what that is compared with. Only contracts of inner functions cite these definitions; `File`
-- says what a good file is. Assumes nothing: these are definitions.
use Rattle.std.specs.Prelude.{ℕ, ◌≡◌, Bool, true, ◌&&◌, Option, Some, List, eqb, length, drop}
use Rattle.std.specs.Str.{bytes_eq}
use Rattle.fields.specs.Field.{get}
use Rattle.benchfile.specs.declared.Tally.{Tally}
use Rattle.benchfile.specs.File.{joined, are_events, last_offset, count_field, last_field, magic}

-- The tally of the events `es`: how many they are, and where the last one stands.
abbrev pub tally_of : List (List ℕ) → Tally
tally_of es = record { count = length es; last = last_offset es }

-- `xs` consists of the events `es`, one after the other.
pub record Fills (es : List (List ℕ)) (xs : List ℕ) : Type 0 where
  pub bytes : xs ≡ joined es
  pub are : are_events true es ≡ true

-- `t` is the tally of `xs`, if there is one. Where it is there, it is the tally of events that fill `xs`; and it is the tally of any events
-- that do.
pub record Tallies (t : Option Tally) (xs : List ℕ) : Type 0 where
  pub found : (tally : Tally) → t ≡ Some tally → (es : List (List ℕ)) × Fills es xs × (tally ≡ tally_of es)
  pub only : (es : List (List ℕ)) → Fills es xs → t ≡ Some (tally_of es)

-- Whether `trailer` has the numbers of the tally `t`, and `BOT1`.
unfoldable pub agrees_with : Tally → List ℕ → Bool
agrees_with t trailer =
    eqb (get count_field trailer) t.count
    && (eqb (get last_field trailer) t.last && bytes_eq magic (drop 8 trailer))

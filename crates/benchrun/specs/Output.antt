-- What `bench` prints for a file: for a good one a line for each event, and for any other `14`. Assumes nothing: these are definitions.
use Rattle.std.specs.Prelude.{ℕ, ◌+◌, ◌≡◌, cond, List, [], ◌∷◌, ◌++◌, eqb, take}
use Rattle.fields.specs.Field.{get}
use Rattle.answers.specs.declared.Stalls.TheVariants.{Kept}
use Rattle.device.specs.declared.Device.{Device}
use Rattle.device.specs.Create.{Creation}
use Rattle.benchfile.specs.Event.{kind_byte, body_of}
use Rattle.benchfile.specs.File.{Good}
use Rattle.benchact.specs.Act.{Acting, act_by}
use Rattle.benchrun.specs.Run.{line_text, line_of_acting, creation_of_body, breach}

-- ---- the lines of a file's events

-- The lines of the events after the first, from the index `index` on. Each event acts on the device `d`, the IO buffer `io` and the lent
-- bytes `lent` that the event before it left.
unfoldable pub later_lines : ℕ → List (List ℕ) → Device → List ℕ → List ℕ → List ℕ
later_lines index [] d io lent = []
later_lines index (e ∷ es) d io lent =
    let a : Acting = act_by (get kind_byte e) (body_of e) d io lent in
    line_of_acting index a ++ later_lines (index + 1) es a.device a.io a.lent

-- The lines of a file whose creation gives `c`, with the events `es` after it. "A refused creation prints its answer, zeros and two
-- dashes, and the run ends." The IO buffer is the front of `space`, as long as the creation asks for; `lent` are the lent bytes.
unfoldable pub creation_lines : Creation → List (List ℕ) → List ℕ → List ℕ → List ℕ
creation_lines c es space lent =
    line_text 0 c.device c.answer 0 Kept []
    ++ cond (eqb c.answer.number 0) (later_lines 1 es c.device (take c.device.fixed.size space) lent) []

-- The lines of a good file with these events. "a file of none is good and prints nothing"
unfoldable pub file_lines : List (List ℕ) → List ℕ → List ℕ → List ℕ
file_lines [] space lent = []
file_lines (e ∷ es) space lent = creation_lines (creation_of_body (body_of e)) es space lent

-- ---- any file

-- `bench` prints `out` for `file`: for a good file its lines, and "Any breach is 14: `bench` prints `14` alone." `space` and `lent` are
-- the memory in which the file is run.
pub record Prints (file space lent out : List ℕ) : Type 0 where
  pub good : (events : List (List ℕ)) → Good file events → out ≡ file_lines events space lent
  pub bad : ((events : List (List ℕ)) → Good file events → ⊥) → out ≡ breach

-- A run of a bench file, event by event: each event is a call and gives a line. Assumes nothing: these are definitions.
use Rattle.std.specs.Prelude.{ℕ, ◌+◌, ◌-◌, ◌≡◌, Bool, true, false, cond, Option, Some, None, List, [], ◌∷◌, eqb, length, take, drop}
use Rattle.fields.specs.Overlay.{overlay}
use Rattle.fields.specs.Field.{get}
use Rattle.answers.specs.declared.Stalls.{Stalls}
use Rattle.answers.specs.declared.Stalls.TheVariants.{Kept}
use Rattle.answers.specs.Answers.{Answering}
use Rattle.ring.specs.States.{state_number}
use Rattle.device.specs.declared.Device.{Device}
use Rattle.device.specs.Create.{fixed, Creation, no_device, create_call}
use Rattle.benchfile.specs.declared.event.EventHead.{EventHead}
use Rattle.benchfile.specs.Event.{packet_size, max_lun, buffer_size, kind_number, event_at}
use Rattle.benchfile.specs.File.{Judges}
use Rattle.benchline.specs.declared.Line.{Line}
use Rattle.benchline.specs.Line.{line_of}
use Rattle.benchact.specs.Act.{Acting, act_by}
use Rattle.benchrun.specs.declared.step.Run.{Run}

-- ---- the line

-- "index, answer, state, left, unread, count .., stalls", and the bytes missing: the line of the event with the index `index`. The answer
-- `a`, `count` and `stalls` are what the event told; the other fields are read from the device `d` as the event leaves it.
unfoldable pub fields_of : ℕ → Device → Answering → ℕ → Stalls → Line
fields_of index d a count stalls = record { index = index; answer = a.number; state = state_number d.state; left = d.left.0; unread = d.marks.write - d.marks.read; count = count; stalls = stalls; missing = a.missing }

-- The text of that line, with the bytes `bytes`.
unfoldable pub line_text : ℕ → Device → Answering → ℕ → Stalls → List ℕ → List ℕ
line_text index d a count stalls bytes = line_of (fields_of index d a count stalls) bytes

-- The text of the line of the event with the index `index`, which left and told `a`. The first of the lent bytes are shown.
unfoldable pub line_of_acting : ℕ → Acting → List ℕ
line_of_acting index a = line_text index a.device a.answer a.count a.stalls (take a.shown a.lent)

-- ---- the first event

-- What the first event leaves: `run` is how far the run has come, and `text` is the text buffer. `beginning_of` makes such a record of the
-- two.
pub record Beginning : Type 0 where
  pub run : Run
  pub text : List ℕ

abbrev pub beginning_of : Run → List ℕ → Beginning
beginning_of run text = record { run = run; text = text }

-- No event stands at the offset `at`, where the event with the index `index` would stand: the run ends with the device `d`, and there is
-- no line.
abbrev pub stopped_at : Device → ℕ → ℕ → Run
stopped_at d at index = record { device = d; at = at; index = index; line = 0; going = false }

-- "0 create (P 2, max LUN 1, buffer 4)": what creation gives for the body `body`.
unfoldable pub creation_of_body : List ℕ → Creation
creation_of_body body = create_call (fixed (get packet_size body) (get max_lun body) (get buffer_size body))

-- What the first event leaves where creation gives `c` and the text buffer is `text`. "A refused creation prints its answer, zeros and
-- two dashes, and the run ends." The next event stands at the offset 10.
unfoldable pub beginning_of_creation : Creation → List ℕ → Beginning
beginning_of_creation c text = beginning_of
    (record { device = c.device; at = 10; index = 1; line = length (line_text 0 c.device c.answer 0 Kept []); going = eqb c.answer.number 0 })
    (overlay text 0 (line_text 0 c.device c.answer 0 Kept []))

-- What the first of the events `events` leaves where the text buffer is `text` and `head` stands at the front. Where no event stands there,
-- the run ends with no device and no line.
abbrev pub begin_with : Option EventHead → List ℕ → List ℕ → Beginning
begin_with None events text = beginning_of (stopped_at no_device 0 0) text
begin_with (Some e) events text = beginning_of_creation (creation_of_body (take 7 (drop 3 events))) text

unfoldable pub begin_by : List ℕ → List ℕ → Beginning
begin_by events text = begin_with (event_at events 0) events text

-- ---- a file, before anything is written

-- "events, then 12 bytes": the events of the file `file`.
unfoldable pub events_of : List ℕ → List ℕ
events_of file = take (length file - 12) file

-- The text `14` and the end of the line.
abbrev pub breach : List ℕ
breach = 0x31 ∷ 0x34 ∷ 0x0A ∷ []

-- "Any breach is 14: `bench` prints `14` alone." This is what a refused file leaves where the text buffer is `text`.
unfoldable pub beginning_refused : List ℕ → Beginning
beginning_refused text = beginning_of (record { device = no_device; at = 0; index = 0; line = length breach; going = false }) (overlay text 0 breach)

-- What stands in the text buffer `text`, and how far the run has come, before anything is written. `good` is the verdict on the file
-- `file`.
unfoldable pub open_by : Bool → List ℕ → List ℕ → Beginning
open_by good file text = cond good (begin_by (events_of file) text) (beginning_refused text)

-- `verdict` is the verdict on `file`, and `o` is what follows from it where the text buffer is `text`.
pub record OpensFile (file text : List ℕ) (o : Beginning) : Type 0 where
  pub verdict : Bool
  pub judges : Judges verdict file
  pub opened : o ≡ open_by verdict file text

-- ---- a later event

-- How far a run has come, and what an event left: `run`, the IO buffer `io`, the lent bytes `lent` and the text buffer `text`.
-- `running_of` makes such a record of the four.
pub record Running : Type 0 where
  pub run : Run
  pub io : List ℕ
  pub lent : List ℕ
  pub text : List ℕ

abbrev pub running_of : Run → List ℕ → List ℕ → List ℕ → Running
running_of run io lent text = record { run = run; io = io; lent = lent; text = text }

-- What the event with the index `index` leaves where its call left and told `a`: its line is written over the front of the text buffer
-- `text`. The next event stands at the offset `next`.
unfoldable pub went_on : ℕ → ℕ → Acting → List ℕ → Running
went_on index next a text = running_of
    (record { device = a.device; at = next; index = index + 1; line = length (line_of_acting index a); going = true })
    a.io
    a.lent
    (overlay text 0 (line_of_acting index a))

-- What the event with the head `e` leaves. It stands in `events` at the offset of the run `run`, and its call is given the device of
-- `run`, the IO buffer `io` and the lent bytes `lent`.
unfoldable pub event_by : Run → EventHead → List ℕ → List ℕ → List ℕ → List ℕ → Running
event_by run e events io lent text =
    went_on run.index (run.at + 3 + e.length) (act_by (kind_number e.kind) (take e.length (drop (run.at + 3) events)) run.device io lent) text

-- What the next event of the run `run` leaves, with the IO buffer `io`, the lent bytes `lent` and the text buffer `text`, where `head`
-- stands in `events` at the offset of `run`. Where no event stands there, the run ends.
abbrev pub step_with : Option EventHead → Run → List ℕ → List ℕ → List ℕ → List ℕ → Running
step_with None run events io lent text = running_of (stopped_at run.device run.at run.index) io lent text
step_with (Some e) run events io lent text = event_by run e events io lent text

unfoldable pub step_by : Run → List ℕ → List ℕ → List ℕ → List ℕ → Running
step_by run events io lent text = step_with (event_at events run.at) run events io lent text

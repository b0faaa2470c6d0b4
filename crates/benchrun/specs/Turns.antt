-- A run from its first turn to its last, as the loop of `play` goes: what each turn hands to C's write, and what is left at the end. No
-- contract can say what a call of C's takes: that the one call in the loop is given `turn_text`, once in each turn, has to be read in
-- src/play.rt. Assumes nothing: these are definitions.
use Rattle.std.specs.Prelude.{ℕ, ◌≡◌, true, false, List, ◌++◌, take, drop}
use Rattle.benchrun.specs.declared.step.Run.{Run}
use Rattle.benchrun.specs.Run.{Beginning, events_of, OpensFile, Running, running_of, step_by}

-- What a turn hands to C's write where the run is at `o`: the front of the text buffer, as long as the line.
abbrev pub turn_text : Running → List ℕ
turn_text o = take o.run.line o.text

-- The turn after the one at `o`: the next of the events `events` has happened.
abbrev pub next_of : List ℕ → Running → Running
next_of events o = step_by o.run events o.io o.lent o.text

-- The turns of a run over `events` from one point to the end, and all that they hand over, in order.
pub data Turns (events : List ℕ) : Running → Running → List ℕ → Type 0 where
  -- The run has ended: this turn is the last one.
  last : (from to : Running) (out : List ℕ) → from.run.going ≡ false → to ≡ from → out ≡ turn_text from → Turns events from to out
  -- The run goes on: this turn comes first, and then the turns from the next event on, which hand over `rest`.
  turn : (from to : Running) (out rest : List ℕ) → from.run.going ≡ true → Turns events (next_of events from) to rest → out ≡ turn_text from ++ rest → Turns events from to out

-- The turns of a run over `events` from `from` to the end hand over `out`. `io`, `lent` and `text` are the IO buffer, the lent bytes and
-- the text buffer as the last turn leaves them.
pub record Played (events : List ℕ) (from : Running) (io lent text : List ℕ) : Type 0 where
  pub run : Run
  pub out : List ℕ
  pub turns : Turns events from (running_of run io lent text) out

-- The first turn of a file whose first event left `b`. The IO buffer is the front of `space`, as long as the device asks for; `lent` are
-- the lent bytes.
abbrev pub start_of : Beginning → List ℕ → List ℕ → Running
start_of b space lent = running_of b.run (take b.run.device.fixed.size space) lent b.text

-- The same for `file`, from its verdict on. `space`, `lent` and `text` are what is lent before, and `space'`, `lent'` and `text'` are
-- what is left of them. Of `space` only the IO buffer is written to.
pub record PlayedFile (file space lent text space' lent' text' : List ℕ) : Type 0 where
  pub begun : Beginning
  pub opens : OpensFile file text begun
  pub io : List ℕ
  pub played : Played (events_of file) (start_of begun space lent) io lent' text'
  pub behind : space' ≡ io ++ drop begun.run.device.fixed.size space

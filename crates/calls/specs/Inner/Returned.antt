-- What the code of a call returns, case by case. In all of them `d` is the record, and `answer` is the answer. Assumes nothing: these are
-- definitions.
use Rattle.std.specs.Prelude.{ℕ, cond, Option, None, Result, Ok, Err}
use Rattle.buffer.specs.declared.Marks.{Marks}
use Rattle.answers.specs.declared.Answer.{Answer}
use Rattle.answers.specs.declared.Answer.TheVariants.{Done, InvalidState, BrokenRecord}
use Rattle.answers.specs.declared.Stalls.TheVariants.{Kept, Unstalled}
use Rattle.device.specs.declared.Device.{Device}
use Rattle.device.specs.Device.{numbers_of, entering0, with_marks, putting_in}
use Rattle.device.specs.Broken.{is_whole}
use Rattle.calls.specs.declared.Stated.{Stated}
use Rattle.calls.specs.declared.Moved.{Moved}
use Rattle.calls.specs.declared.Handled.{Handled}
use Rattle.calls.specs.declared.command.Looked.{Looked}
use Rattle.calls.specs.declared.command.Step.{Step}
use Rattle.calls.specs.Checks.{is_in}

-- `set_status` returns this if it took no status.
abbrev pub refuses : Device → Answer → Stated
refuses d answer = record { device = d; answer = answer }

-- A read or write that works only in the state with the number `state` checks this first, over an IO buffer of `len` bytes.
abbrev pub checked : ℕ → Device → ℕ → Result (Unit {0}) Answer
checked state d len = cond (is_whole (numbers_of d) len) (cond (is_in state d) (Ok tt) (Err InvalidState)) (Err BrokenRecord)

-- A read or write returns this if it moved nothing.
abbrev pub unmoved : Device → Answer → Moved
unmoved d answer = record { device = d; report = record { answer = answer; count = 0 } }

-- A read or write returns this if it left the marks `m` and moved `count` bytes.
abbrev pub moves_to : Device → Marks → Answer → ℕ → Moved
moves_to d m answer count = record { device = with_marks m d; report = record { answer = answer; count = count } }

-- A write returns this if it left the marks `m` and put `count` bytes in.
abbrev pub puts_in : Device → Marks → ℕ → Moved
puts_in d m count = moves_to (putting_in count d) m Done count

-- A reset or a control request returns this if it changes nothing; `reply` goes back to the host.
abbrev pub keeps : Device → Answer → Option ℕ → Handled
keeps d answer reply = record { device = d; report = record { answer = answer; stalls = Kept; reply = reply } }

-- A reset or a control request returns this if it enters 0.
abbrev pub enters0 : Device → Handled
enters0 d = record { device = entering0 d; report = record { answer = Done; stalls = Unstalled; reply = None } }

-- The call that shows the command returns this if it shows none.
abbrev pub hides : Answer → Looked
hides answer = record { answer = answer; shown = None }

-- The command step returns this if it offers nothing.
abbrev pub offers_none : Answer → Step
offers_none answer = record { answer = answer; offer = None }

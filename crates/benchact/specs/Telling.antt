-- Request 6 of 02: what a command step's body changes, and what it does not. Assumes nothing: these are definitions.
use Rattle.std.specs.Prelude.{◌≡◌, List, [], ℕ}
use Rattle.device.specs.declared.Device.{Device}
use Rattle.calls.specs.Command.{command_step_told_call}
use Rattle.benchact.specs.Act.{Acting, extended_of, act_by}

-- What a call leaves and tells, `a`, but for the commands that were offered: no line shows those.
abbrev pub without_offers : Acting → Acting
without_offers a = record { device = a.device; answer = a.answer; count = a.count; stalls = a.stalls; shown = a.shown; offers = []; io = a.io; lent = a.lent }

-- This is promised of every command step, with the body `body`, on the device `d`, the IO buffer `io` and the lent bytes `lent`: it offers
-- what the step that is told offers; and whatever the body is, all else is the same. So a step prints the line that it printed before
-- it could be told.
pub record Telling (body : List ℕ) (d : Device) (io lent : List ℕ) : Type 0 where
  pub offers : (act_by 8 body d io lent).offers ≡ (command_step_told_call (extended_of body) d io).offers
  pub line : (other : List ℕ) → without_offers (act_by 8 body d io lent) ≡ without_offers (act_by 8 other d io lent)

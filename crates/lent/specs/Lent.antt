-- The result of a call over a lent record: `d` is the record that the reference holds after the call. Together with what the call returns
-- it is read as the definitions of `bbb` and `calls` read a result by value. Assumes nothing: these are definitions.
use Rattle.std.specs.Prelude.{ℕ, List}
use Rattle.answers.specs.declared.Answer.{Answer}
use Rattle.device.specs.declared.Device.{Device}
use Rattle.bbb.specs.declared.Report.{Report}
use Rattle.bbb.specs.Poll.{Polling, polling_of}
use Rattle.calls.specs.declared.Count.{Count}
use Rattle.calls.specs.declared.Controlled.{Controlled}
use Rattle.calls.specs.Status.{Stating, stating_of}
use Rattle.calls.specs.Data.{Moving, moving_of}
use Rattle.calls.specs.Bus.{Handling, handling_of}

-- A poll leaves the record `d`, the IO buffer `io` and the packet buffer `packet`, and returns its `report`.
abbrev pub polling_with : Device → Report → List ℕ → List ℕ → Polling
polling_with d report io packet = polling_of (record { device = d; report = report }) io packet

-- `set_status` leaves the record `d` and returns the `answer`.
abbrev pub stating_with : Device → Answer → Stating
stating_with d answer = stating_of (record { device = d; answer = answer })

-- A read or write leaves the record `d` and returns the answer with its `count`; `bytes` is the slice that it may write to, after the
-- call.
abbrev pub moving_with : Device → Count → List ℕ → Moving
moving_with d count bytes = moving_of (record { device = d; report = count }) bytes

-- A reset or a control request leaves the record `d` and returns its `report`.
abbrev pub handling_with : Device → Controlled → Handling
handling_with d report = handling_of (record { device = d; report = report })

-- Document 01 on reset and on control requests. Assumes nothing: these are definitions.
use Rattle.std.specs.Prelude.{ℕ, cond, Option, Some, None, List, [], ◌∷◌, eqb}
use Rattle.answers.specs.declared.Stalls.{Stalls}
use Rattle.answers.specs.declared.Stalls.TheVariants.{Kept, Unstalled}
use Rattle.answers.specs.Answers.{Answering, answer, answer_of}
use Rattle.device.specs.declared.Device.{Device}
use Rattle.device.specs.Device.{entering0}
use Rattle.device.specs.Broken.{unless_broken}
use Rattle.calls.specs.declared.Request.{Request}
use Rattle.calls.specs.declared.Handled.{Handled}

-- These bytes go back to the host.
abbrev pub replied : Option ℕ → List ℕ
replied None = []
replied (Some n) = n ∷ []

-- A reset or a control request gives the answer, what is asked of both endpoints (`stalls`), the bytes that go back to the host, and the
-- record.
pub record Handling : Type 0 where
  pub answer : Answering
  pub stalls : Stalls
  pub bytes : List ℕ
  pub device : Device

abbrev pub handling : Answering → Stalls → List ℕ → Device → Handling
handling a stalls bytes d = record { answer = a; stalls = stalls; bytes = bytes; device = d }

-- This reads what the code returned, `r`, as such a record.
abbrev pub handling_of : Handled → Handling
handling_of r = handling (answer_of r.report.answer) r.report.stalls (replied r.report.reply) r.device

-- The record `d` enters 0, with the answer 0. "Entering 0 clears status and left and unstalls both"
unfoldable pub handling_of_reset : Device → Handling
handling_of_reset d = handling (answer 0) Unstalled [] (entering0 d)

-- This is a reset, for any record `d` over any IO buffer `io`. "Reset enters 0."
unfoldable pub reset_call : Device → List ℕ → Handling
reset_call d io = unless_broken d io (handling (answer 10) Kept [] d) (handling_of_reset d)

-- A control request with the number `request` counts: "0xFF enters 0, 0xFE answers max LUN". Any other changes nothing.
unfoldable pub handling_of_request : ℕ → Device → Handling
handling_of_request request d =
    cond (eqb request 0xFF) (handling_of_reset d)
    (cond (eqb request 0xFE) (handling (answer 0) Kept (d.fixed.maxlun ∷ []) d) (handling (answer 0) Kept [] d))

-- This is the control request `q`, for any record `d` over any IO buffer `io`. "A control request counts only if device to host, class
-- and interface (bmRequestType A1)"
unfoldable pub control_call : Device → List ℕ → Request → Handling
control_call d io q =
    unless_broken d io (handling (answer 10) Kept [] d)
    (cond (eqb q.requesttype 0xA1) (handling_of_request q.request d) (handling (answer 0) Kept [] d))

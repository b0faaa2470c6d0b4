-- What a call leaves and tells, as the code has it: made of what the calls by value return. Assumes nothing: these are definitions.
use Rattle.std.specs.Prelude.{ℕ, None, List}
use Rattle.answers.specs.declared.Stalls.TheVariants.{Kept}
use Rattle.answers.specs.declared.Answer.{Answer}
use Rattle.answers.specs.Answers.{answer_of}
use Rattle.device.specs.declared.Device.{Device}
use Rattle.bbb.specs.declared.Polled.{Polled}
use Rattle.calls.specs.declared.Stated.{Stated}
use Rattle.calls.specs.declared.Moved.{Moved}
use Rattle.calls.specs.declared.Handled.{Handled}
use Rattle.calls.specs.Command.{offered_of}
use Rattle.benchact.specs.declared.Acted.{Acted}
use Rattle.benchact.specs.Act.{Acting}

-- What the code returns, `r`, together with the IO buffer `io` and the lent bytes `lent` as it leaves them.
abbrev pub acting_of : Acted → List ℕ → List ℕ → Acting
acting_of r io lent = record { device = r.device; answer = answer_of r.answer; count = r.count; stalls = r.stalls; shown = r.shown; offers = offered_of r.offer; io = io; lent = lent }

-- What is returned for a call by value that left `device` and answered `answer`, where nothing is counted, stalled, shown or offered.
abbrev pub told_by : Device → Answer → Acted
told_by device answer = record { device = device; answer = answer; count = 0; stalls = Kept; shown = 0; offer = None }

-- What is returned for a poll by value that returned `r`.
abbrev pub polled_by : Polled → Acted
polled_by r = record { device = r.device; answer = r.report.answer; count = r.report.taken; stalls = r.report.stalls; shown = r.report.sent; offer = None }

-- What is returned for a status by value that returned `r`.
abbrev pub stated_by : Stated → Acted
stated_by r = record { device = r.device; answer = r.answer; count = 0; stalls = Kept; shown = 0; offer = None }

-- What is returned for a write by value that returned `r`. Of a read the line shows bytes besides.
abbrev pub moved_by : Moved → Acted
moved_by r = record { device = r.device; answer = r.report.answer; count = r.report.count; stalls = Kept; shown = 0; offer = None }

-- What is returned for a reset or a control request by value that returned `r`, but for the reply, which the line shows besides.
abbrev pub handled_by : Handled → Acted
handled_by r = record { device = r.device; answer = r.report.answer; count = 0; stalls = r.report.stalls; shown = 0; offer = None }

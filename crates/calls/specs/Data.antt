-- Document 01 on `read_data`, `write_data` and `try_write_data_all`. Assumes nothing: these are definitions.
use Rattle.std.specs.Prelude.{ℕ, cond, List, length, take}
use Rattle.fields.specs.Overlay.{overlay}
use Rattle.buffer.specs.Buffer.{Buffer, fitting, written, lacks_room, missing, written_all, ready, ready_bytes, read_off}
use Rattle.answers.specs.Answers.{Answering, answer, lacking, answer_of}
use Rattle.wrapper.specs.declared.counters.Left.{Left}
use Rattle.device.specs.declared.Device.{Device}
use Rattle.device.specs.Device.{with_marks, putting_in}
use Rattle.device.specs.Broken.{unless_broken}
use Rattle.calls.specs.declared.Moved.{Moved}
use Rattle.calls.specs.Checks.{is_in, buffer_of}

-- A read or write gives the answer, the `count` of bytes read or written, the record, and the bytes of the one slice that it may write
-- to: the destination of a read, the IO buffer of a write.
pub record Moving : Type 0 where
  pub answer : Answering
  pub count : ℕ
  pub device : Device
  pub bytes : List ℕ

abbrev pub moving : Answering → ℕ → Device → List ℕ → Moving
moving a count d bytes = record { answer = a; count = count; device = d; bytes = bytes }

-- This reads what the code returned, `r`, with the `bytes` of that slice after it, as such a record.
abbrev pub moving_of : Moved → List ℕ → Moving
moving_of r bytes = moving (answer_of r.report.answer) r.report.count r.device bytes

-- A call works only in the state with the number `state`, where it gives `done`. In any other the answer is 3, "read or write call in
-- another state", and `bytes`, like the record `d`, are "all as before". 10 is checked first, over the IO buffer `io`.
unfoldable pub works_in : ℕ → Device → List ℕ → List ℕ → Moving → Moving
works_in state d io bytes done =
    unless_broken d io (moving (answer 10) 0 d bytes)
    (cond (is_in state d) done (moving (answer 3) 0 d bytes))

-- A write leaves the buffer `t`: its marks go into the record `d`, and its bytes are the IO buffer.
abbrev pub moving_to : Answering → ℕ → Device → Buffer → Moving
moving_to a count d t = moving a count (with_marks t.marks d) t.bytes

-- The first unread bytes of the buffer `s` go to the front of the destination `dst`, as many as it holds; the rest of `dst` stays.
unfoldable pub read_from : Device → Buffer → List ℕ → Moving
read_from d s dst = moving (answer 0) (ready (length dst) s) (with_marks (read_off (length dst) s).marks d) (overlay dst 0 (ready_bytes (length dst) s))

-- This is `read_data` into `dst`, for any record `d` over any IO buffer `io`. "`read_data` works in 7"
abbrev pub read_data_call : Device → List ℕ → List ℕ → Moving
read_data_call d io dst = works_in 7 d io dst (read_from d (buffer_of d io) dst)

-- "`write_data` in 4, at most `left` bytes a call": of the source `src`, only the first `left` bytes are taken.
unfoldable pub limited : Left → List ℕ → List ℕ
limited left src = take left.0 src

-- `accepted` bytes were put in, which left the buffer `t`: they are the count of the call, and the record `d` counts them too.
abbrev pub moving_in : ℕ → Device → Buffer → Moving
moving_in accepted d t = moving_to (answer 0) accepted (putting_in accepted d) t

-- As many of the bytes `ys` as fit are written into the buffer `s`.
unfoldable pub write_in : Device → Buffer → List ℕ → Moving
write_in d s ys = moving_in (fitting (length ys) s) d (written ys s)

-- This is `write_data` from `src`, for any record `d` over any IO buffer `io`.
abbrev pub write_data_call : Device → List ℕ → List ℕ → Moving
write_data_call d io src = works_in 4 d io io (write_in d (buffer_of d io) (limited d.left src))

-- All of `src` is written into the buffer `s`. If it does not fit, nothing is written, and the answer is 1: "room, after moving, is below
-- .. the source (`try_write_data_all`)"; "state and move reached stay". The answer says how much is missing for the source.
unfoldable pub write_all_in : Device → Buffer → List ℕ → Moving
write_all_in d s src = cond (lacks_room (length src) s) (moving_to (lacking (missing (length src) s)) 0 d (written_all 0 src s)) (moving_in (length src) d (written_all 0 src s))

-- This is `try_write_data_all` from `src`, for any record `d` over any IO buffer `io`. "`try_write_data_all` in 4, not limited by `left`"
abbrev pub write_data_all_call : Device → List ℕ → List ℕ → Moving
write_data_all_call d io src = works_in 4 d io io (write_all_in d (buffer_of d io) src)

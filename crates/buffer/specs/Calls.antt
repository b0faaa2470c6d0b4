-- Each public call on the buffer `s`, whatever its marks, answers with document 01's number and a count, and leaves a buffer.
-- Assumes nothing: these are definitions.
use Rattle.std.specs.Prelude.{ℕ, max, cond, List, length, Result, Ok, Err}
use Rattle.fields.specs.Overlay.{overlay}
use Rattle.buffer.specs.Buffer.{Buffer, buffer, is_sound, unread, moved, fitting, written, filled, lacks_room, missing, written_all, ready, ready_bytes, read_off, emptied}
use Rattle.buffer.specs.declared.Marks.{Marks}
use Rattle.buffer.specs.declared.marked.Taken.{Taken}
use Rattle.buffer.specs.declared.Refusal.{Refusal}
use Rattle.buffer.specs.declared.Refusal.TheVariants.{Overflow, Broken}

-- A call has this outcome: `answer` is the number of 01's table, `count` is how many bytes the call took,
-- gave or found, `missing` is how many bytes of room it lacked, and `leaves` is the buffer after it.
pub record Answering : Type 0 where
  pub answer : ℕ
  pub count : ℕ
  pub missing : ℕ
  pub leaves : Buffer

-- This is the outcome of a call that lacked no room.
abbrev pub answering : ℕ → ℕ → Buffer → Answering
answering answer count leaves = record { answer = answer; count = count; missing = 0; leaves = leaves }

-- This is the outcome of a call that lacked `n` bytes of room: the answer is 1, and nothing was taken.
abbrev pub lacking : ℕ → Buffer → Answering
lacking n leaves = record { answer = 1; count = 0; missing = n; leaves = leaves }

-- Every call gives one of these answers: what it took, or why it was refused.
abbrev pub Answer : Type 0
Answer = Result Taken Refusal

-- This is the outcome that each answer of the code stands for. `m` are the marks at the call, and `b` are the bytes after it; an answer
-- carries the marks after the call, and the count or the bytes missing.
abbrev pub answer_of : Marks → Answer → List ℕ → Answering
answer_of m (Ok t) b = answering 0 t.count (buffer b t.marks)
answer_of m (Err (Overflow o)) b = lacking o.missing (buffer b o.marks)
answer_of m (Err Broken) b = answering 10 0 (buffer b m)

-- "Broken means: .. read mark above write mark or write mark above the length": if `s` is broken this is `refused`, otherwise `done`.
unfoldable pub if_sound : {A : Type 0} → Buffer → A → A → A
if_sound s done refused = cond (is_sound (length s.bytes) s.marks) done refused

-- A call whose outcome would be `done` first checks the marks of `s`: if `s` is broken it answers 10 instead, and leaves "all as before".
abbrev pub checked : Buffer → Answering → Answering
checked s done = if_sound s done (answering 10 0 s)

-- `available` counts the unread bytes of `s`, and changes nothing.
unfoldable pub available_call : Buffer → Answering
available_call s = checked s (answering 0 (unread s) s)

-- `clean` empties `s`.
unfoldable pub clean_call : Buffer → Answering
clean_call s = checked s (answering 0 0 (emptied s))

-- `shift` moves the unread bytes of `s` to the front.
unfoldable pub shift_call : Buffer → Answering
shift_call s = checked s (answering 0 0 (moved s))

-- `write` takes as many of the bytes `ys` as fit into `s`, and counts them.
unfoldable pub write_call : List ℕ → Buffer → Answering
write_call ys s = checked s (answering 0 (fitting (length ys) s) (written ys s))

-- `fill_up_to` puts the byte `v` into `s`, as often as it fits and at most `n` times, and counts how often.
unfoldable pub fill_call : ℕ → ℕ → Buffer → Answering
fill_call v n s = checked s (answering 0 (fitting n s) (filled v n s))

-- `write_all` takes all of `ys` into `s`, and the count is their number; or it answers 1, because
-- "room, after moving, is below P (packet read) or the source", and says how much is missing. `want` is that P where a packet is read, and
-- the source is `ys`.
unfoldable pub write_all_call : ℕ → List ℕ → Buffer → Answering
write_all_call want ys s =
    checked s
    (cond (lacks_room (max want (length ys)) s)
    (lacking (missing (max want (length ys)) s) (written_all want ys s))
    (answering 0 (length ys) (written_all want ys s)))

-- `read` gives bytes of `s` to a destination of `n` bytes, and counts them.
unfoldable pub read_call : ℕ → Buffer → Answering
read_call n s = checked s (answering 0 (ready n s) (read_off n s))

-- `read` leaves the bytes given at the front of the destination `d`, and the rest of `d` as before.
-- If `s` is broken, all of `d` is as before.
unfoldable pub read_into : List ℕ → Buffer → List ℕ
read_into d s = if_sound s (overlay d 0 (ready_bytes (length d) s)) d

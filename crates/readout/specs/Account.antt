-- Document 02, request 7: what the firmware put in since a wrapper to the host, by the record's count and by the calls themselves, and how
-- much of it is unread. Assumes nothing: these are definitions.
use Rattle.std.specs.Prelude.{◌≡◌, Bool, true, cond, not, ◌&&◌, ◌||◌, List, [], ◌∷◌, ◌++◌, ℕ, ◌+◌, ◌-◌, ◌≤◌, ◌<◌, min, eqb, length}
use Rattle.buffer.specs.Buffer.{unread, unread_bytes}
use Rattle.answers.specs.Answers.{Answering}
use Rattle.ring.specs.declared.State.{State}
use Rattle.ring.specs.States.{state_number}
use Rattle.device.specs.Device.{is_present}
use Rattle.bbb.specs.Poll.{Given}
use Rattle.calls.specs.Checks.{buffer_of}
use Rattle.readout.specs.History.{Socket, Event, poll, Shows, shows, Happening, did, history_of, reached, sent_in, put_in, first_packet_of, is_poll, Throughout}
use Rattle.readout.specs.Demand.{waits_in}

-- ---- a read-out

-- A read-out as far as it has come. At the socket `start` the poll that is given `completing` parses a wrapper to the host; `completed` is
-- what it left and showed. The happenings `since` follow.
pub record Readout : Type 0 where
  pub start : Socket
  pub completing : Given
  pub completed : Shows
  pub since : List Happening

-- What happened in the read-out `r`, with the poll that parses its wrapper.
abbrev pub all_since : Readout → List Happening
all_since r = did (poll r.completing) r.completed ∷ r.since

-- The socket to which the read-out `r` has come.
abbrev pub reached_by : Readout → Socket
reached_by r = reached (all_since r) r.start

-- "this count": what the record of the read-out `r` says that the firmware put in.
abbrev pub count_since : Readout → ℕ
count_since r = (reached_by r).device.putin.0

-- "the bytes accepted by both write calls since the wrapper": how many they are in the read-out `r`, by the calls themselves.
abbrev pub put_in_since : Readout → ℕ
put_in_since r = length (put_in (all_since r))

-- "bytes sent": how many bytes the host got in the read-out `r`.
abbrev pub sent_since : Readout → ℕ
sent_since r = length (sent_in (all_since r))

-- How many bytes are unread at the socket `s`.
abbrev pub unread_at : Socket → ℕ
unread_at s = unread (buffer_of s.device s.io)

-- ---- filling

-- Whether a poll at the socket `s` comes to state 6: it starts there, or in 4 with a status present.
abbrev pub comes_to6 : Socket → Bool
comes_to6 s = eqb (state_number s.device.state) 6 || (eqb (state_number s.device.state) 4 && is_present s.device.status)

-- Whether a poll with the answer `a` was refused, which leaves "all as before".
abbrev pub is_refusal : Answering → Bool
is_refusal a = eqb a.number 10 || eqb a.number 11

-- "if fewer than min(left, P) bytes are unread, fill with 0xFF to that number": how many bytes of 0xFF this takes at the socket `s`. (A
-- difference of ℕ is 0 where it would be below 0; where nothing is left, it is 0 too.)
abbrev pub missing_at : Socket → ℕ
missing_at s = min s.device.left.0 s.device.fixed.packetsize - unread_at s

-- How many bytes of 0xFF the event `e` fills in, which at the socket `s` showed `o`. Only a poll that comes to 6 does, whatever the IN
-- endpoint says then.
unfoldable pub filled_by : Event → Socket → Shows → ℕ
filled_by e s o = cond (is_poll e && (not (is_refusal o.answer) && comes_to6 s)) (missing_at s) 0

-- How many bytes of 0xFF a history fills in, where it starts at the socket `s`.
unfoldable pub filled_in : List Happening → Socket → ℕ
filled_in [] s = 0
filled_in (x ∷ xs) s = filled_by x.event s x.shown + filled_in xs x.shown.socket

-- How many bytes of 0xFF were filled in during the read-out `r`.
abbrev pub filled_since : Readout → ℕ
filled_since r = filled_in (all_since r) r.start

-- ---- what is supposed

-- "in states 4 and 6"
abbrev pub is_to_host : State → Bool
is_to_host σ = eqb (state_number σ) 4 || eqb (state_number σ) 6

-- After an event that showed `o` the device is in one of them.
abbrev pub Lasts : Event → Socket → Shows → Type 0
Lasts e s o = is_to_host o.socket.device.state ≡ true

-- The bytes that are unread in the read-out `r` when its wrapper is parsed: those that are unread at its start, and the packet that the poll
-- takes first.
abbrev pub arrived_for : Readout → List ℕ
arrived_for r = unread_bytes (buffer_of r.start.device r.start.io) ++ first_packet_of r.completed.taken

-- What is supposed of the read-out `r`. "for a wrapper to the host": the device waits in 0 or in 3, and the poll leaves it in 4, which only a
-- wrapper to the host does. "after whose parsing nothing was unread": the 31 bytes of the wrapper were all. "in states 4 and 6": the device
-- is in them after this poll, and after each happening since.
pub record SupposedReadout (r : Readout) : Type 0 where
  pub waits : waits_in r.start.device.state ≡ true
  pub nothing : length (arrived_for r) ≡ 31
  pub lasts : Throughout Lasts (all_since r) r.start

-- ---- what is promised

-- "before any filling", and "Unless the count has stopped there".
pub record Counting (r : Readout) : Type 0 where
  pub unfilled : filled_since r ≡ 0
  pub below : count_since r < 4294967295

-- What is promised of the read-out `r`.
pub record Account (r : Readout) : Type 0 where
  -- The count is the number of bytes accepted, up to the largest 32-bit number.
  pub counted : count_since r ≡ min (put_in_since r) 4294967295
  -- No byte is lost, and none comes from elsewhere: those that were accepted or filled in are unread, or were sent.
  pub flow : unread_at (reached_by r) + sent_since r ≡ put_in_since r + filled_since r
  -- "unread bytes in states 4 and 6 before any filling equal this count less bytes sent", which are not more than the count.
  pub less : Counting r → unread_at (reached_by r) ≡ count_since r - sent_since r
  pub within : Counting r → sent_since r ≤ count_since r

-- ---- read-outs by their events

-- The read-out of a poll that is given `completing` at the socket `start`, and of the events `since`; what they leave and show is computed.
abbrev pub readout_of : Socket → Given → List Event → Readout
readout_of start completing since =
    let completed : Shows = shows (poll completing) start in
    record { start = start; completing = completing; completed = completed; since = history_of since completed.socket }

-- The mission's third demand, clause by clause: what is supposed of the story of one command, and what is promised of it. P, L and R are
-- the mission's letters. Assumes nothing: these are definitions.
use Rattle.std.specs.Prelude.{◌≡◌, Bool, true, false, List, [], ◌∷◌, ◌++◌, ℕ, ◌+◌, ◌-◌, ◌/◌, ◌≤◌, ◌<◌, min, length, drop, replicate}
use Rattle.buffer.specs.Buffer.{unread}
use Rattle.answers.specs.Answers.{endpoint_of, serves}
use Rattle.ring.specs.declared.State.{State}
use Rattle.ring.specs.declared.State.TheVariants.{CommandTransfer, CommandTransferInvalid, DataTransferNoData, StatusTransfer, DataTransferToHost, DataTransferToHostStatusAwait, DataTransferToHostEnding, DataTransferFromHost, DataTransferFromHostEnding}
use Rattle.ring.specs.States.{state_number}
use Rattle.wrapper.specs.declared.DataDirection.{DataDirection}
use Rattle.wrapper.specs.declared.DataDirection.TheVariants.{Out, In, NotExpected}
use Rattle.wrapper.specs.declared.Wrapper.{Wrapper}
use Rattle.wrapper.specs.Counters.{residue_of}
use Rattle.wrapper.specs.Status.{status_bytes}
use Rattle.wrapper.specs.Wrapper.{Valid, wrapper_of}
use Rattle.device.specs.Device.{numbers_of}
use Rattle.device.specs.Broken.{Whole}
use Rattle.bbb.specs.Poll.{Given, Fits}
use Rattle.calls.specs.declared.FirmwareStatus.{FirmwareStatus}
use Rattle.calls.specs.Checks.{buffer_of}
use Rattle.calls.specs.Status.{takes_status}
use Rattle.readout.specs.History.{Socket, Event, poll, status, Shows, shows, Happening, did, history_of, reached, sent_in, put_in, taken_in, first_packet_of, arrived_in, is_served, served_in, is_reset, accepts, Throughout}

-- ---- a command's story

-- The story of one command: what happened from the socket `start` on. In `arrival` its wrapper arrives, all but the last packet, with any
-- happenings between the packets. The poll that is given `completing` takes the last packet; `completed` is what it left and showed. The
-- happenings `before` follow. Then `last_status` is the last status that is accepted for this command; `stated` is what that call left and
-- showed. The happenings `after` follow it.
pub record Story : Type 0 where
  pub start : Socket
  pub arrival : List Happening
  pub completing : Given
  pub completed : Shows
  pub before : List Happening
  pub last_status : FirmwareStatus
  pub stated : Shows
  pub after : List Happening

-- The happenings of the story `t` up to its last accepted status, which is not among them.
abbrev pub to_status : Story → List Happening
to_status t = t.arrival ++ (did (poll t.completing) t.completed ∷ t.before)

-- All happenings of the story `t`.
abbrev pub history : Story → List Happening
history t = to_status t ++ (did (status t.last_status) t.stated ∷ t.after)

-- The story `t` happened: `Does` is true of each of its happenings. What `Does` says of an event, the socket at which it happens and what it
-- left and showed is that the event does this: by the definitions (`ByValue`), or since a call returned it.
abbrev pub Happened : (Event → Socket → Shows → Type 0) → Story → Type 0
Happened Does t = Throughout Does (history t) t.start

-- The socket of the story `t` right after the poll that completes its wrapper.
abbrev pub after_wrapper : Story → Socket
after_wrapper t = t.completed.socket

-- The socket of the story `t` right before its last accepted status.
abbrev pub before_status : Story → Socket
before_status t = reached t.before (after_wrapper t)

-- The socket of the story `t` right after its last accepted status.
abbrev pub after_status : Story → Socket
after_status t = t.stated.socket

-- The socket of the story `t` at its end.
abbrev pub ended : Story → Socket
ended t = reached t.after (after_status t)

-- The bytes of the packets that brought the wrapper of the story `t`.
abbrev pub message : Story → List ℕ
message t = arrived_in t.arrival ++ first_packet_of t.completed.taken

-- The wrapper that these bytes hold.
abbrev pub wrapper : Story → Wrapper
wrapper t = wrapper_of (message t)

-- "declaring L bytes": L is the length that the wrapper of the story `t` declares.
abbrev pub L : Story → ℕ
L t = (wrapper t).length

-- "P being the packet size": P is the packet size in the record with which the story `t` starts.
abbrev pub P : Story → ℕ
P t = t.start.device.fixed.packetsize

-- "When its status is accepted with R data bytes left": R is how many bytes are left, by the record, right before the last accepted
-- status of the story `t`.
abbrev pub R : Story → ℕ
R t = (before_status t).device.left.0

-- All bytes that the host got in the story `t`.
abbrev pub host : Story → List ℕ
host t = sent_in (history t)

-- All bytes that the firmware put in during the story `t`, by `write_data` and by `try_write_data_all`.
abbrev pub firmware : Story → List ℕ
firmware t = put_in (history t)

-- How many served polls the story `t` has since its last accepted status.
abbrev pub served_since : Story → ℕ
served_since t = served_in t.after

-- How many data bytes crossed the wire in the story `t` before its last accepted status: the bytes sent, and the bytes taken less the 31
-- of the wrapper.
abbrev pub crossed : Story → ℕ
crossed t = length (sent_in (to_status t)) + (length (taken_in (to_status t)) - 31)

-- ---- what is supposed

-- Whether a device in this state may be waiting for a wrapper. In 0 it is. In 3 it is where the status of the command before is all sent;
-- then nothing is unread, which `Between` asks for too.
abbrev pub waits_in : State → Bool
waits_in CommandTransfer = true
waits_in CommandTransferInvalid = false
waits_in DataTransferNoData = false
waits_in StatusTransfer = true
waits_in DataTransferToHost = false
waits_in DataTransferToHostStatusAwait = false
waits_in DataTransferToHostEnding = false
waits_in DataTransferFromHost = false
waits_in DataTransferFromHostEnding = false

-- The socket `s` is between two commands: its record is not broken, its state is 0 or 3, and the wrapper comes "with nothing unread
-- before it".
pub record Between (s : Socket) : Type 0 where
  pub whole : Whole (numbers_of s.device) (length s.io)
  pub waits : waits_in s.device.state ≡ true
  pub nothing : unread (buffer_of s.device s.io) ≡ 0

-- What is supposed of the event `e`, which showed `o`, where it stands between the wrapper and its last accepted status. It is no reset.
-- It leaves the device in a state in which a status is accepted, so that "its status" is the status of this wrapper and of no later one.
pub record Earlier (e : Event) (s : Socket) (o : Shows) : Type 0 where
  pub no_reset : is_reset e ≡ false
  pub same_command : takes_status (state_number o.socket.device.state) ≡ true

-- Each packet of a list has `n` bytes. "the host sending what is left in full packets, the last perhaps short" means that `n` is the
-- smaller one of P and left.
abbrev pub Full : ℕ → List (List ℕ) → Type 0
Full n [] = Unit {0}
Full n (packet ∷ packets) = (length packet ≡ n) × Full n packets

-- What is supposed of the event `e`, which at the socket `s` showed `o`, where it stands after the last accepted status. It is no reset and
-- no accepted status. Each packet that it takes has min(P, left) bytes, with left as it is before the event.
pub record Later (e : Event) (s : Socket) (o : Shows) : Type 0 where
  pub no_reset : is_reset e ≡ false
  pub no_status : accepts e o ≡ false
  pub full : Full (min s.device.fixed.packetsize s.device.left.0) o.taken

-- What is supposed of the story `t`: it starts between two commands, and the following holds.
pub record Supposed (t : Story) : Type 0 where
  pub between : Between t.start
  -- "a valid wrapper of exactly 31 bytes": it is whole with its last packet, and not before.
  pub unfinished : length (arrived_in t.arrival) < 31
  pub valid : Valid (message t)
  -- "No reset follows", and "its status is accepted": `Earlier` and `Later` say what is supposed of what happens before and after it.
  pub earlier : Throughout Earlier t.before (after_wrapper t)
  pub accepted : accepts (status t.last_status) t.stated ≡ true
  pub later : Throughout Later t.after (after_status t)
  -- "the firmware puts in at most L bytes": in the whole story.
  pub few : length (firmware t) ≤ L t

-- ---- what is promised

-- "R/P plus 13/P .., each quotient rounded up": this is `n` divided by `p`, rounded up.
unfoldable pub ceiling : ℕ → ℕ → ℕ
ceiling n p = (n + (p - 1)) / p

-- How many served polls it takes, from the last accepted status of the story `t`, until the last status byte is out.
abbrev pub polls_due : Story → ℕ
polls_due t = ceiling (R t) (P t) + ceiling 13 (P t)

-- `bytes`, and after them as many of `filler` as are missing to make `l` bytes.
unfoldable pub filled_with : ℕ → ℕ → List ℕ → List ℕ
filled_with filler l bytes = bytes ++ replicate (l - length bytes) filler

-- "and then 0xFF up to L": these are `bytes`, filled with 0xFF up to `l` bytes.
abbrev pub filled_to : ℕ → List ℕ → List ℕ
filled_to l bytes = filled_with 0xFF l bytes

-- "for a read, the firmware's bytes and then 0xFF up to L, otherwise no data": `l` is L, and `bytes` are the firmware's. `In` is a read.
abbrev pub data_of : DataDirection → ℕ → List ℕ → List ℕ
data_of Out l bytes = []
data_of In l bytes = filled_to l bytes
data_of NotExpected l bytes = []

-- The data that is promised to the host in the story `t`.
abbrev pub the_data : Story → List ℕ
the_data t = data_of (wrapper t).direction (L t) (firmware t)

-- "one status with that tag and the residue of the last accepted status": the status that is promised to the host in the story `t`, with
-- the status byte that the firmware gave.
abbrev pub the_status : Story → List ℕ
the_status t = status_bytes (wrapper t).tag (residue_of (L t) t.last_status.figure) t.last_status.status

-- The last status byte of the story `t` is not out: what the host got, and then `rest`, is all that is promised to it, and `rest` has at
-- least one byte.
pub record NotYet (t : Story) : Type 0 where
  pub rest : List ℕ
  pub some : 0 < length rest
  pub prefix : host t ++ rest ≡ the_data t ++ the_status t

-- A poll that showed `o`, made where the story `t` ends, sent the last status byte. What the host got in `t` and what this poll sent are
-- together all that is promised to it. After the data the host got the status and nothing else. And the device is between two commands
-- again.
pub record Ends (t : Story) (o : Shows) : Type 0 where
  pub bytes : host t ++ o.sent ≡ the_data t ++ the_status t
  pub status : drop (length (the_data t)) (host t ++ o.sent) ≡ the_status t
  pub again : Between o.socket

-- In a poll that is given `g` at the socket `s`, the packets and the packet buffer fit, and both OUT reads and the IN write are answered
-- with 0: each endpoint would do its part.
pub record Willing (g : Given) (s : Socket) : Type 0 where
  pub fits : Fits s.device.fixed.packetsize g.packet g.one g.two
  pub first : serves (endpoint_of g.turn.first) ≡ true
  pub second : serves (endpoint_of g.turn.second) ≡ true
  pub write : serves (endpoint_of g.turn.write) ≡ true

-- What is promised of the story `t`. `Does` says what a poll does that is made at its end.
pub record Demand (Does : Event → Socket → Shows → Type 0) (t : Story) : Type 0 where
  -- "R data bytes left": R is L less the data bytes that crossed the wire, never below 0. (A difference of ℕ is 0 where it would be
  -- below.)
  pub left : R t ≡ L t - crossed t
  -- "the last status byte goes out after exactly R/P plus 13/P served polls": with fewer served polls it is not out, whatever else
  -- happened.
  pub not_before : served_since t < polls_due t → NotYet t
  -- It goes out in the served poll that makes the number full, which must meet what is supposed of everything later.
  pub exactly : served_since t + 1 ≡ polls_due t → (g : Given) (o : Shows) → Does (poll g) (ended t) o → Later (poll g) (ended t) o → is_served o.answer ≡ true → Ends t o
  -- The number can be made full: until then each willing poll is served.
  pub reachable : served_since t < polls_due t → (g : Given) (o : Shows) → Does (poll g) (ended t) o → Willing g (ended t) → is_served o.answer ≡ true

-- ---- stories by their events

-- The events of a story, from the socket `start` on; what they leave and show is computed.
pub record Script : Type 0 where
  pub start : Socket
  pub arrival : List Event
  pub completing : Given
  pub before : List Event
  pub last_status : FirmwareStatus
  pub after : List Event

-- The story of the script `p`: each event is given what the event before it left.
abbrev pub played : Script → Story
played p =
    let arrival : List Happening = history_of p.arrival p.start in
    let completed : Shows = shows (poll p.completing) (reached arrival p.start) in
    let before : List Happening = history_of p.before completed.socket in
    let stated : Shows = shows (status p.last_status) (reached before completed.socket) in
    record {
      start = p.start;
      arrival = arrival;
      completing = p.completing;
      completed = completed;
      before = before;
      last_status = p.last_status;
      stated = stated;
      after = history_of p.after stated.socket;
    }

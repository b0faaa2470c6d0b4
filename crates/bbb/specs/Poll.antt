-- Document 01, 'Polls and states': what a poll does in each state. Assumes nothing: these are definitions.
--
-- Each state has its rule in this file. In the code a handler of crates/ring/src/lib.rt decides the same:
--
--     state                              rule in this file       handler
--     0 CommandTransfer                  `read_cbw_rule`           `read_cbw`; with a valid wrapper it calls `start`
--     1 CommandTransferInvalid           `invalid_rule`           none: `settle` itself decides
--     2 DataTransferNoData               `no_data_rule`            `no_data`
--     3 StatusTransfer                   `status_transfer_rule`    `status_transfer`
--       when a poll goes on to 3         `enter_status`           `enter`, which calls `status_transfer`
--     4 DataTransferToHost               `to_host_rule`            `to_host`
--     5 DataTransferToHostStatusAwait    `status_await_rule`       `status_await`
--     6 DataTransferToHostEnding         `to_host_ending_rule`      `to_host_ending`
--     7 DataTransferFromHost             `from_host_rule`          `from_host`
--     8 DataTransferFromHostEnding       `from_host_ending_rule`    `from_host_ending`
--
-- `rule_in` picks the rule by the state in which a poll starts; in the code `settle` picks the handler. The rest is done outside the
-- handlers. `open` (crates/bbb/src/open.rt) reads a packet and parses the wrapper in 0, and in 3 if nothing is unread; from 3 it enters 0
-- first. `falls_short` (crates/bbb/src/act.rt) decides whether 4 answers FullPacketExpected. `act` (the same file) does what was decided.
--
-- In every rule `g` is what the poll was given, and `x` is the point to which the poll has come.
use Rattle.std.specs.Prelude.{Bool, true, false, cond, ◌&&◌, List, ℕ, ◌+◌, ◌≤◌, eqb, ltb, leb, length, take, drop, Option, None, Some}
use Rattle.buffer.specs.Buffer.{Buffer, buffer, at, unread, emptied}
use Rattle.answers.specs.declared.Endpoint.{Endpoint}
use Rattle.answers.specs.declared.Stalls.{Stalls}
use Rattle.answers.specs.declared.Stalls.TheVariants.{Kept}
use Rattle.answers.specs.Answers.{Answering, answer_of, answer, endpoint_of, stalls_of}
use Rattle.ring.specs.declared.State.{State}
use Rattle.ring.specs.declared.State.TheVariants.{CommandTransfer, CommandTransferInvalid, DataTransferNoData, StatusTransfer, DataTransferToHost, DataTransferToHostStatusAwait, DataTransferToHostEnding, DataTransferFromHost, DataTransferFromHostEnding}
use Rattle.ring.specs.States.{by_direction}
use Rattle.wrapper.specs.declared.Wrapper.{Wrapper}
use Rattle.wrapper.specs.declared.counters.Left.{Left}
use Rattle.wrapper.specs.Counters.{fallen}
use Rattle.wrapper.specs.Status.{status_number}
use Rattle.wrapper.specs.Wrapper.{is_valid, wrapper_of}
use Rattle.packets.specs.Packets.{read_answer, takes_one, brought, received, send_answer, sent_count, sent_off, sent_into, filled_up, status_written}
use Rattle.device.specs.declared.Told.{Told}
use Rattle.device.specs.declared.Device.{Device}
use Rattle.device.specs.Device.{is_present, in_state, with_marks, with_wrapper, with_left, counted_anew, entering0}
use Rattle.device.specs.Broken.{unless_broken}
use Rattle.bbb.specs.declared.Turn.{Turn}
use Rattle.bbb.specs.declared.Polled.{Polled}

-- ---- what goes in and what comes out

-- A poll is given the packet buffer `packet`, the packets `one` and `two` that are offered for the first and the second OUT read, and the
-- endpoints' answers `turn`: `first` and `second` for the OUT reads, `write` for the IN write. "A poll is given answers for two OUT reads
-- .. and one IN write".
pub record Given : Type 0 where
  pub packet : List ℕ
  pub one : List ℕ
  pub two : List ℕ
  pub turn : Turn

abbrev pub given : List ℕ → List ℕ → List ℕ → Turn → Given
given packet one two turn = record { packet = packet; one = one; two = two; turn = turn }

-- A poll reports and leaves these. "It reports OUT packets taken, bytes sent, stalls and the answer", which are `taken`, `sent`, `stalls`
-- and `answer`. It leaves the record `device`, the IO buffer `io` and the packet buffer `packet`.
pub record Polling : Type 0 where
  pub device : Device
  pub answer : Answering
  pub taken : ℕ
  pub sent : ℕ
  pub stalls : Stalls
  pub io : List ℕ
  pub packet : List ℕ

-- This is the same for a poll of the code: `r` is what it returned; `io` and `packet` are the bytes of the two buffers after it.
abbrev pub polling_of : Polled → List ℕ → List ℕ → Polling
polling_of r io packet = record { device = r.device; answer = answer_of r.report.answer; taken = r.report.taken; sent = r.report.sent; stalls = r.report.stalls; io = io; packet = packet }

-- A point says how far a poll has come. The record is now `device` and the IO buffer `io`; the poll has taken `taken` OUT packets;
-- `unstalled` says whether it has unstalled both endpoints.
pub record Point : Type 0 where
  pub device : Device
  pub io : List ℕ
  pub taken : ℕ
  pub unstalled : Bool

abbrev pub point : Device → List ℕ → ℕ → Bool → Point
point d io taken unstalled = record { device = d; io = io; taken = taken; unstalled = unstalled }

-- This is the IO buffer at the point `x`, with the marks of the record there.
abbrev pub buffer_of_point : Point → Buffer
buffer_of_point x = buffer x.io x.device.marks

-- The point `x` gets the state `s`.
abbrev pub reaching : State → Point → Point
reaching s x = point (in_state s x.device) x.io x.taken x.unstalled

-- The point `x` gets the buffer `b`: its bytes become the IO buffer, and its marks go into the record.
abbrev pub leaving : Buffer → Point → Point
leaving b x = point (with_marks b.marks x.device) b.bytes x.taken x.unstalled

-- "Left falls by bytes moved, never below 0." It falls by `moved` if `counts` is true, and stays as it is otherwise.
abbrev pub left_then : Bool → Left → ℕ → Left
left_then counts left moved = cond counts (fallen left moved) left

-- At the point `x`, left falls by `n` bytes if `counts` is true.
abbrev pub lowered : Bool → ℕ → Point → Point
lowered counts n x = point (with_left (left_then counts x.device.left n) x.device) x.io x.taken x.unstalled

-- At the point `x`, one more OUT packet counts as taken if `took` is true.
abbrev pub counting : Bool → Point → Point
counting took x = point x.device x.io (cond took (x.taken + 1) x.taken) x.unstalled

-- The poll ends at the point `x` with the answer `t` and `sent` bytes sent. `stalled` says whether it stalls both endpoints, and `packet`
-- is the packet buffer at the end.
abbrev pub ending : Point → Answering → ℕ → Bool → List ℕ → Polling
ending x t sent stalled packet = record { device = x.device; answer = t; taken = x.taken; sent = sent; stalls = stalls_of x.unstalled stalled; io = x.io; packet = packet }

-- The poll ends at the point `x` with the answer `t`. It sends nothing and stalls nothing, and the packet buffer of `g` stays as it was.
abbrev pub ends : Given → Point → Answering → Polling
ends g x t = ending x t 0 false g.packet

-- ---- packets

-- One packet is sent from the buffer `s`, and the poll ends: `p` is the packet size, and `e` is what the IN endpoint does. If `counts` is
-- true, left falls by the bytes sent.
unfoldable pub send_by : Bool → ℕ → Endpoint → Buffer → Given → Point → Polling
send_by counts p e s g x = ending (lowered counts (sent_count p e s) (leaving (sent_off p e s) x)) (send_answer e (unread s)) (sent_count p e s) false (sent_into p e s g.packet)

-- One packet is sent from the buffer at the point `x`. The IN endpoint does what its answer in `g` says.
unfoldable pub send : Bool → Given → Point → Polling
send counts g x = send_by counts x.device.fixed.packetsize (endpoint_of g.turn.write) (buffer_of_point x) g x

-- Left falls by a packet of data.
abbrev pub send_data : Given → Point → Polling
send_data = send true

-- Left does not fall by a packet of the status.
abbrev pub send_status : Given → Point → Polling
send_status = send false

-- The packet to read is `one`, the first offer, while `taken` is 0, and `two`, the second, once a packet was taken.
unfoldable pub offered_packet : ℕ → List ℕ → List ℕ → List ℕ
offered_packet taken one two = cond (eqb taken 0) one two

-- What the OUT endpoint does is the first OUT answer of `turn` while `taken` is 0, and the second once a packet was taken.
unfoldable pub offered_by : ℕ → Turn → Endpoint
offered_by taken turn = endpoint_of (cond (eqb taken 0) turn.first turn.second)

-- One packet of data is read into the buffer `s`, left falls by its bytes, and the poll ends: `p` is the packet size, `e` is what the OUT
-- endpoint does, and `packet` is the packet offered.
unfoldable pub take_by : ℕ → Endpoint → List ℕ → Buffer → Given → Point → Polling
take_by p e packet s g x = ends g (counting (takes_one p e s) (lowered true (brought p e packet s) (leaving (received p e packet s) x))) (read_answer p e s)

-- One packet of data is read into the buffer at the point `x`. It is the first offer of `g`, or the second if this poll has taken the
-- first.
unfoldable pub take_data : Given → Point → Polling
take_data g x = take_by x.device.fixed.packetsize (offered_by x.taken g.turn) (offered_packet x.taken g.one g.two) (buffer_of_point x) g x

-- ---- the states

-- The buffer `s` is emptied. A status `t` that is present is then written into it, with the wrapper's `tag`, its residue and its number.
unfoldable pub status_put : ℕ → Option Told → Buffer → Buffer
status_put tag None s = emptied s
status_put tag (Some t) s = status_written tag t.residue (status_number t.status) s

-- The poll goes on to 3. "Entering 3 empties the buffer, writes the status into it and sends at once."
unfoldable pub enter_status : Given → Point → Polling
enter_status g x = send_status g (reaching StatusTransfer (leaving (status_put x.device.wrapper.tag x.device.status (buffer_of_point x)) x))

-- The rule of state 5 is "5: status present goes to 3." With no status the poll ends in 5 with the answer 0.
unfoldable pub status_await_rule : Given → Point → Polling
status_await_rule g x = cond (is_present x.device.status) (enter_status g x) (ends g (reaching DataTransferToHostStatusAwait x) (answer 0))

-- The rule of state 2 is that it goes on to 5, in the same poll.
unfoldable pub no_data_rule : Given → Point → Polling
no_data_rule g x = status_await_rule g x

-- The rule of state 6 is "6: left 0 goes to 3. Otherwise, if fewer than min(left, P) bytes are unread, fill with 0xFF to that number;
-- send min(P, unread)."
unfoldable pub to_host_ending_rule : Given → Point → Polling
to_host_ending_rule g x =
    cond (eqb x.device.left.0 0)
    (enter_status g x)
    (send_data g (reaching DataTransferToHostEnding (leaving (filled_up x.device.fixed.packetsize x.device.left (buffer_of_point x)) x)))

-- State 4 answers 4, FullPacketExpected, if `left` is at least `p` and fewer than `p` bytes are unread; `n` is how many are. 01 says
-- "left at least P, unread below P".
unfoldable pub falls_short : ℕ → Left → ℕ → Bool
falls_short p left n = leb p left.0 && ltb n p

-- The rule of state 4 is "4: left 0 goes to 5; status present goes to 6; otherwise send one packet. With left below P a short packet of
-- what is unread goes out; nothing unread sends nothing, answer 0." If a whole packet is due and not there (`falls_short`), the poll ends
-- in 4 with the answer 4, and nothing is sent.
unfoldable pub to_host_rule : Given → Point → Polling
to_host_rule g x =
    cond (eqb x.device.left.0 0)
    (status_await_rule g x)
    (cond (is_present x.device.status)
    (to_host_ending_rule g x)
    (cond (falls_short x.device.fixed.packetsize x.device.left (unread (buffer_of_point x)))
    (ends g (reaching DataTransferToHost x) (answer 4))
    (send_data g (reaching DataTransferToHost x))))

-- The rule of state 8 is "8: left 0 goes to 3; otherwise empty the buffer and read."
unfoldable pub from_host_ending_rule : Given → Point → Polling
from_host_ending_rule g x =
    cond (eqb x.device.left.0 0)
    (enter_status g x)
    (take_data g (reaching DataTransferFromHostEnding (leaving (buffer x.io (at 0 0)) x)))

-- The rule of state 7 is "7: left 0 goes to 5; status present goes to 8; otherwise read a packet."
unfoldable pub from_host_rule : Given → Point → Polling
from_host_rule g x =
    cond (eqb x.device.left.0 0)
    (status_await_rule g x)
    (cond (is_present x.device.status) (from_host_ending_rule g x) (take_data g (reaching DataTransferFromHost x)))

-- At the point `x`, the wrapper `w` goes into the record, and left becomes the length that `w` declares.
abbrev pub starting : Wrapper → Point → Point
starting w x = point (with_left (record { 0 = w.length }) (with_wrapper w x.device)) x.io x.taken x.unstalled

-- A valid wrapper `w` was read, and its direction decides how the poll goes on. "Valid goes on to 7, 4 or, through 2, to 5."
unfoldable pub start_rule : Wrapper → Given → Point → Polling
start_rule w g x = by_direction w.direction (from_host_rule g (starting w x)) (to_host_rule g (starting w x)) (no_data_rule g (starting w x))

-- These are the first 31 unread bytes of the buffer `s`.
unfoldable pub message_at : Buffer → List ℕ
message_at s = take 31 (drop s.marks.read s.bytes)

-- This is the buffer `s` after those 31 bytes were read: its read mark is 31 higher.
abbrev pub past31 : Buffer → Buffer
past31 s = buffer s.bytes (at (s.marks.read + 31) s.marks.write)

-- At the point `x`, 31 bytes are parsed: they count as read, and what the firmware puts in is counted anew, whether they are valid or not.
abbrev pub parsing : Point → Point
parsing x = point (counted_anew (with_marks (past31 (buffer_of_point x)).marks x.device)) x.io x.taken x.unstalled

-- At least 31 bytes are unread, and the first 31 are parsed. "Invalid goes to 1, both endpoints stalled."
unfoldable pub parse_rule : Given → Point → Polling
parse_rule g x =
    cond (is_valid (message_at (buffer_of_point x)))
    (start_rule (wrapper_of (message_at (buffer_of_point x))) g (parsing x))
    (ending (reaching CommandTransferInvalid (parsing x)) (answer 0) 0 true g.packet)

-- A read was tried: `took` says whether it took a packet, and `t` is its answer. If it took one, "with 31 or more unread parse";
-- otherwise the poll ends with the answer `t`.
unfoldable pub read_by : Bool → Answering → Given → Point → Polling
read_by took t g x = cond (took && leb 31 (unread (buffer_of_point x))) (parse_rule g x) (ends g x t)

-- The first offer of `g` is read into the buffer `s`: `p` is the packet size, and `e` is what the OUT endpoint does. Left does not fall.
unfoldable pub read_one_by : ℕ → Endpoint → Buffer → Given → Point → Polling
read_one_by p e s g x = read_by (takes_one p e s) (read_answer p e s) g (counting (takes_one p e s) (leaving (received p e g.one s) x))

-- The rule of state 0 is "0: read one packet; with 31 or more unread parse." The packet is the first offer of `g`.
unfoldable pub read_cbw_rule : Given → Point → Polling
read_cbw_rule g x = read_one_by x.device.fixed.packetsize (endpoint_of g.turn.first) (buffer_of_point x) g x

-- At the point `x`, 0 is entered. "Entering 0 clears status and left and unstalls both; it does not empty the buffer." What was put in is
-- counted anew.
abbrev pub entering : Point → Point
entering x = point (entering0 x.device) x.io x.taken true

-- The rule of state 3, if the poll starts in it, is "Later polls in 3 send the next packet; with nothing unread, enter 0 and read." The
-- read is that of state 0, in the same poll.
unfoldable pub status_transfer_rule : Given → Point → Polling
status_transfer_rule g x = cond (eqb (unread (buffer_of_point x)) 0) (read_cbw_rule g (entering x)) (send_status g x)

-- The rule of state 1 is "1: stall both again; no traffic."
unfoldable pub invalid_rule : Given → Point → Polling
invalid_rule g x = ending x (answer 0) 0 true g.packet

-- The state in which a poll starts picks the rule. "Going on always happens in the same poll."
unfoldable pub rule_in : State → Given → Point → Polling
rule_in CommandTransfer g x = read_cbw_rule g x
rule_in CommandTransferInvalid g x = invalid_rule g x
rule_in DataTransferNoData g x = no_data_rule g x
rule_in StatusTransfer g x = status_transfer_rule g x
rule_in DataTransferToHost g x = to_host_rule g x
rule_in DataTransferToHostStatusAwait g x = status_await_rule g x
rule_in DataTransferToHostEnding g x = to_host_ending_rule g x
rule_in DataTransferFromHost g x = from_host_rule g x
rule_in DataTransferFromHostEnding g x = from_host_ending_rule g x

-- A poll of the record `d` over the IO buffer `io`, given `g`, follows the rule of its state. At its start no packet is taken, and
-- nothing is unstalled.
unfoldable pub poll_rule : Device → List ℕ → Given → Polling
poll_rule d io g = rule_in d.state g (point d io 0 false)

-- ---- the call

-- The offers and the packet buffer fit the packet size `p`: this is a fact about the packet buffer `packet` and the offers `one` and
-- `two`. If they do not fit, a poll answers 11: "offered packet above P, or packet buffer below P".
pub record Fits (p : ℕ) (packet one two : List ℕ) : Type 0 where
  pub first : length one ≤ p
  pub second : length two ≤ p
  pub into : p ≤ length packet

-- This is the same as a test. Here `packet`, `one` and `two` are the lengths.
unfoldable pub is_fitting : ℕ → ℕ → ℕ → ℕ → Bool
is_fitting p packet one two = leb one p && (leb two p && leb p packet)

-- A poll is refused with the answer `n`: the record `d`, the IO buffer `io` and the packet buffer of `g` are as before, nothing is taken
-- or sent, and nothing is asked of the endpoints.
abbrev pub refusing : Device → List ℕ → Given → ℕ → Polling
refusing d io g n = record { device = d; answer = answer n; taken = 0; sent = 0; stalls = Kept; io = io; packet = g.packet }

-- This is a poll of any record `d` over any IO buffer `io`, given any `g`. "Every other device call checks 10 first; a poll then 11."
unfoldable pub poll_call : Device → List ℕ → Given → Polling
poll_call d io g =
    unless_broken d io (refusing d io g 10)
    (cond (is_fitting d.fixed.packetsize (length g.packet) (length g.one) (length g.two)) (poll_rule d io g) (refusing d io g 11))

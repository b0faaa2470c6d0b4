-- A poll as the code does it: open, decide, act. Only the contracts of inner functions cite these definitions; proofs/Same.antt shows
-- that together they are document 01's rules. Assumes nothing: these are definitions.
use Rattle.std.specs.Prelude.{◌≡◌, Bool, true, false, cond, ◌&&◌, List, ℕ, ◌+◌, ◌-◌, ◌≤◌, eqb, leb, take, drop, None}
use Rattle.buffer.specs.declared.Marks.{Marks}
use Rattle.buffer.specs.Buffer.{Buffer, buffer, at, unread}
use Rattle.buffer.specs.Inner.Buffer.{Sound}
use Rattle.answers.specs.declared.Endpoint.{Endpoint}
use Rattle.answers.specs.declared.Answer.{Answer}
use Rattle.answers.specs.declared.Stalls.{Stalls}
use Rattle.answers.specs.declared.Stalls.TheVariants.{Kept}
use Rattle.answers.specs.Answers.{Answering, answer_of, answer, endpoint_of, stalls_of}
use Rattle.ring.specs.declared.State.{State}
use Rattle.ring.specs.declared.Found.{Found}
use Rattle.ring.specs.declared.Found.TheVariants as found
use Rattle.ring.specs.declared.Kind.{Kind}
use Rattle.ring.specs.declared.Kind.TheVariants as kind
use Rattle.ring.specs.declared.Before.{Before}
use Rattle.ring.specs.declared.Before.TheVariants as before
use Rattle.ring.specs.declared.Row.{Row}
use Rattle.ring.specs.States.{state_number}
use Rattle.ring.specs.Inner.Ring.{row_of, settled}
use Rattle.wrapper.specs.declared.Wrapper.{Wrapper}
use Rattle.wrapper.specs.declared.counters.Left.{Left}
use Rattle.wrapper.specs.declared.counters.PutIn.{PutIn}
use Rattle.wrapper.specs.Counters.{fallen}
use Rattle.wrapper.specs.Wrapper.{is_valid, wrapper_of}
use Rattle.packets.specs.Packets.{read_answer, takes_one, brought, received, send_answer, sent_count, sent_off, sent_into, filled_up}
use Rattle.device.specs.declared.Device.{Device}
use Rattle.device.specs.declared.Numbers.{Numbers}
use Rattle.device.specs.Device.{is_present, rebuilt, with_put_in}
use Rattle.bbb.specs.declared.Turn.{Turn}
use Rattle.bbb.specs.declared.Polled.{Polled}
use Rattle.bbb.specs.declared.Change.{Change}
use Rattle.bbb.specs.declared.open.Opened.{Opened}
use Rattle.bbb.specs.declared.act.Did.{Did}
use Rattle.bbb.specs.Poll.{Given, left_then, message_at, falls_short, offered_packet, offered_by, status_put}

-- ---- check

-- A refusal with the answer `a` leaves "all as before": the record is still `d`.
abbrev pub refused_by : Device → Answer → Polled
refused_by d a = record { device = d; report = record { answer = a; taken = 0; sent = 0; stalls = Kept } }

-- ---- open

-- Opening leaves these: what it `found`, the marks, left, the answer by its number, the number of packets `taken`, and whether it `cleared`
-- the status because 0 was entered.
pub record Opening : Type 0 where
  pub found : Found
  pub marks : Marks
  pub left : Left
  pub answer : Answering
  pub taken : ℕ
  pub cleared : Bool

abbrev pub opening : Found → Marks → Left → Answering → ℕ → Bool → Opening
opening f m l t taken cleared = record { found = f; marks = m; left = l; answer = t; taken = taken; cleared = cleared }

-- This reads what the code returned, `o`, as such a record.
abbrev pub opening_of : Opened → Opening
opening_of o = opening o.found o.marks o.left (answer_of o.answer) o.taken o.cleared

-- This is true if a valid wrapper was found.
abbrev pub is_valid_found : Found → Bool
is_valid_found found.Nothing = false
is_valid_found found.Invalid = false
is_valid_found (found.Valid direction) = true

-- If a valid wrapper was found, the read mark of `r` is at least 31: the bytes of the wrapper stand just before it.
abbrev pub InFront : Opened → Type 0
InFront r = is_valid_found r.found ≡ true → 31 ≤ r.marks.read

-- A function that opens promises this: it returns `r`, which is `x`; the IO buffer is then `io'`, which is `io`; the marks are sound; at
-- most one packet was taken; and `InFront` is true.
pub record Opens (x : Opening) (io : List ℕ) (r : Opened) (io' : List ℕ) : Type 0 where
  pub leaves : opening_of r ≡ x
  pub bytes : io' ≡ io
  pub sound : Sound (buffer io' r.marks)
  pub once : r.taken ≤ 1
  pub front : InFront r

-- These are the marks `m` after 31 bytes were read.
abbrev pub marks_past31 : Marks → Marks
marks_past31 m = at (m.read + 31) m.write

-- The first 31 unread bytes of the buffer `s` are parsed. With a valid wrapper, its length is left and its direction counts; with an
-- invalid one, `left` stays. Either way one packet was taken, and `cleared` is passed on.
unfoldable pub parsed_open : Buffer → Left → Bool → Opening
parsed_open s left cleared =
    cond (is_valid (message_at s))
    (opening (found.Valid (wrapper_of (message_at s)).direction) (marks_past31 s.marks) (record { 0 = (wrapper_of (message_at s)).length }) (answer 0) 1 cleared)
    (opening found.Invalid (marks_past31 s.marks) left (answer 0) 1 cleared)

-- One packet was taken if `took` is true, and none otherwise.
abbrev pub count_of : Bool → ℕ
count_of took = cond took 1 0

-- A read gave the buffer `t`: `took` says whether it took a packet, and `said` is its answer. If it took one and 31 or more bytes are
-- unread, they are parsed; otherwise no wrapper was found.
unfoldable pub open_after : Buffer → Bool → Answering → Left → Bool → Opening
open_after t took said left cleared = cond (took && leb 31 (unread t)) (parsed_open t left cleared) (opening found.Nothing t.marks left said (count_of took) cleared)

-- The offer `one` is read into the buffer `s`: `p` is the packet size, and `e` is what the OUT endpoint does. What follows is
-- `open_after`.
unfoldable pub read_open : ℕ → Endpoint → List ℕ → Left → Bool → Buffer → Opening
read_open p e one left cleared s = open_after (received p e one s) (takes_one p e s) (read_answer p e s) left cleared

-- These are the bytes of the IO buffer after that read.
abbrev pub read_io : ℕ → Endpoint → List ℕ → Buffer → List ℕ
read_io p e one s = (received p e one s).bytes

-- A poll reads for a wrapper in state 0, and in state 3 if nothing is unread (`empty`).
unfoldable pub opens_in : ℕ → Bool → Bool
opens_in state empty = cond (eqb state 0) true (cond (eqb state 3) empty false)

-- `left` becomes 0 if 0 is entered.
abbrev pub left_when : Bool → Left → Left
left_when true left = record { 0 = 0 }
left_when false left = left

-- This says whether a poll that starts with the numbers `n` reads for a wrapper.
unfoldable pub is_opening : Numbers → Bool
is_opening n = opens_in (state_number n.state) (eqb (n.marks.write - n.marks.read) 0)

-- This says whether such a poll enters 0 and so clears status and left: it does if it starts in 3.
abbrev pub clears : Numbers → Bool
clears n = eqb (state_number n.state) 3

-- A poll that starts with the numbers `n` opens like this: if `is_opening` says so, the offer `one` is read into the IO buffer `io`;
-- otherwise nothing happens. `e` is what the OUT endpoint does.
unfoldable pub opened : Numbers → List ℕ → List ℕ → Endpoint → Opening
opened n io one e =
    cond (is_opening n)
    (read_open n.fixed.packetsize e one (left_when (clears n) n.left) (clears n) (buffer io n.marks))
    (opening found.Nothing n.marks n.left (answer 0) 0 false)

-- These are the bytes of the IO buffer after opening.
unfoldable pub opened_io : Numbers → List ℕ → List ℕ → Endpoint → List ℕ
opened_io n io one e = cond (is_opening n) (read_io n.fixed.packetsize e one (buffer io n.marks)) io

-- ---- the wrapper that the record has then

-- These are the 31 bytes of `io` just before the read mark of `m`.
unfoldable pub just_read : List ℕ → Marks → List ℕ
just_read io m = take 31 (drop (m.read - 31) io)

-- The record then has the wrapper that opening found valid, which stands in `io`, or else keeps the wrapper `w`. `o` is what opening
-- gave. The wrapper is read before the act, because acting may overwrite its bytes.
unfoldable pub wrapper_then : Opening → List ℕ → Wrapper → Wrapper
wrapper_then o io w = cond (is_valid_found o.found) (wrapper_of (just_read io o.marks)) w

-- ---- the count of what was put in that the record has then

-- This says whether it starts at 0: if 31 bytes were parsed, whatever was `found` in them, or if 0 was entered (`cleared`).
abbrev pub is_counted_anew : Found → Bool → Bool
is_counted_anew found.Nothing cleared = cleared
is_counted_anew found.Invalid cleared = true
is_counted_anew (found.Valid direction) cleared = true

-- The record then has this count, where it had `c` and opening gave `o`.
abbrev pub put_in_then : Opening → PutIn → PutIn
put_in_then o c = cond (is_counted_anew o.found o.cleared) (record { 0 = 0 }) c

-- ---- act

-- An act leaves these: the marks, left, the number of bytes `sent`, the answer by its number, the number of packets `taken` in the whole
-- poll, whether both endpoints are `stalled`, and the bytes of the IO buffer.
pub record Doing : Type 0 where
  pub marks : Marks
  pub left : Left
  pub sent : ℕ
  pub answer : Answering
  pub taken : ℕ
  pub stalled : Bool
  pub io : List ℕ

abbrev pub doing : Marks → Left → ℕ → Answering → ℕ → Bool → List ℕ → Doing
doing m l sent t taken stalled io = record { marks = m; left = l; sent = sent; answer = t; taken = taken; stalled = stalled; io = io }

-- This reads what the code returned, `r`, and the IO buffer `io` after it, as such a record.
abbrev pub doing_of : Did → List ℕ → Doing
doing_of r io = doing r.marks r.left r.sent (answer_of r.answer) r.taken r.stalled io

-- A function that acts promises this: it returns `r` and leaves `io'`, which together are `x`; the packet buffer is then `packet'`, which
-- is `packet`.
pub record Acts (x : Doing) (packet : List ℕ) (r : Did) (io' packet' : List ℕ) : Type 0 where
  pub leaves : doing_of r io' ≡ x
  pub into : packet' ≡ packet

-- Nothing crosses the wire after opening gave `o`. This is what the code returns.
abbrev pub rest_did : Opened → Bool → Did
rest_did o stalled = record { marks = o.marks; left = o.left; sent = 0; answer = o.answer; taken = o.taken; stalled = stalled }

-- This is the same by 01's numbers, with the IO buffer `io`.
abbrev pub rested : Opening → Bool → List ℕ → Doing
rested o stalled io = doing o.marks o.left 0 o.answer o.taken stalled io

-- The marks `m` become 0 if the act says that the buffer is emptied first.
abbrev pub emptied_marks : Before → Marks → Marks
emptied_marks before.Nothing m = m
emptied_marks before.Whole m = m
emptied_marks before.Fill m = m
emptied_marks before.Status m = m
emptied_marks before.Empty m = at 0 0

-- One more packet was taken if `more` is true.
abbrev pub one_more : ℕ → Bool → ℕ
one_more taken more = cond more (taken + 1) taken

-- The offered `packet` is read into the buffer `s`, and left falls by its bytes: `p` is the packet size, and `e` is what the OUT endpoint
-- does. Opening gave `o`.
unfoldable pub took_from : ℕ → Endpoint → List ℕ → Buffer → Opening → Doing
took_from p e packet s o = doing (received p e packet s).marks (fallen o.left (brought p e packet s)) 0 (read_answer p e s) (one_more o.taken (takes_one p e s)) false (received p e packet s).bytes

-- A packet of data is read into the IO buffer `io` from the offers `one` and `two`, with the OUT answers of `turn`: `b` says what is done
-- to the buffer first, and `p` is the packet size. Opening gave `o`.
unfoldable pub took : Before → ℕ → Opening → List ℕ → List ℕ → List ℕ → Turn → Doing
took b p o io one two turn = took_from p (offered_by o.taken turn) (offered_packet o.taken one two) (buffer io (emptied_marks b o.marks)) o

-- A packet is refused with 4 only if a whole one is due: `left` is at least `p`, and `n`, the number of unread bytes, is below `p`.
abbrev pub is_refused : Before → ℕ → Left → ℕ → Bool
is_refused before.Nothing p left n = false
is_refused before.Whole p left n = falls_short p left n
is_refused before.Fill p left n = false
is_refused before.Status p left n = false
is_refused before.Empty p left n = false

-- This is the buffer from which the packet is sent: `s` itself, `s` filled up, or `s` with the status of `n` in it.
abbrev pub readied : Before → ℕ → Buffer → Left → Numbers → Buffer
readied before.Nothing p s left n = s
readied before.Whole p s left n = s
readied before.Fill p s left n = filled_up p left s
readied before.Status p s left n = status_put n.tag n.status s
readied before.Empty p s left n = s

-- One packet is sent from the buffer `s`: `p` is the packet size, and `e` is what the IN endpoint does. Opening gave `o`. If `counts` is
-- true, left falls by the bytes sent.
unfoldable pub sent_from : Bool → ℕ → Endpoint → Buffer → Opening → Doing
sent_from counts p e s o = doing (sent_off p e s).marks (left_then counts o.left (sent_count p e s)) (sent_count p e s) (send_answer e (unread s)) o.taken false (sent_off p e s).bytes

-- This is the same with a check before it, in a poll that starts with the numbers `n`: if `is_refused` is true, nothing is sent, and the
-- answer is 4. Otherwise the buffer is readied as `b` says, and a packet is sent. Opening gave `o` and the IO buffer `io`.
unfoldable pub sent_by : Before → Bool → Numbers → Opening → List ℕ → Endpoint → Doing
sent_by b counts n o io e =
    cond (is_refused b n.fixed.packetsize o.left (o.marks.write - o.marks.read))
    (doing o.marks o.left 0 (answer 4) o.taken false io)
    (sent_from counts n.fixed.packetsize e (readied b n.fixed.packetsize (buffer io o.marks) o.left n) o)

-- This is the packet buffer after that; it was `packet`.
unfoldable pub sent_packet : Before → Numbers → Opening → List ℕ → Endpoint → List ℕ → List ℕ
sent_packet b n o io e packet =
    cond (is_refused b n.fixed.packetsize o.left (o.marks.write - o.marks.read))
    packet
    (sent_into n.fixed.packetsize e (readied b n.fixed.packetsize (buffer io o.marks) o.left n) packet)

-- One of four is picked by what crosses the wire: `a` if nothing does, `b` if nothing does and both endpoints are stalled, `c` if a
-- packet is read, `d` if one is sent.
abbrev pub by_kind : {A : Type 0} → Kind → A → A → A → A → A
by_kind kind.Rest a b c d = a
by_kind kind.Stall a b c d = b
by_kind kind.Read a b c d = c
by_kind kind.Send a b c d = d

-- An act does what its `row` says, in a poll that starts with the numbers `n` and was given `g`. Opening gave `o` and the IO buffer `io`.
unfoldable pub acted : Row → Numbers → Opening → List ℕ → Given → Doing
acted row n o io g =
    by_kind row.1
    (rested o false io)
    (rested o true io)
    (took row.2 n.fixed.packetsize o io g.one g.two g.turn)
    (sent_by row.2 row.3 n o io (endpoint_of g.turn.write))

-- This is the packet buffer after that act.
unfoldable pub acted_packet : Row → Numbers → Opening → List ℕ → Given → List ℕ
acted_packet row n o io g = by_kind row.1 g.packet g.packet g.packet (sent_packet row.2 n o io (endpoint_of g.turn.write) g.packet)

-- ---- what a poll changes

-- A poll changes these, apart from the wrapper, and reports them: `cleared` says whether the status is cleared, and `io` and `packet` are
-- the two buffers at the end.
pub record Ended : Type 0 where
  pub state : State
  pub marks : Marks
  pub left : Left
  pub cleared : Bool
  pub answer : Answering
  pub taken : ℕ
  pub sent : ℕ
  pub stalls : Stalls
  pub io : List ℕ
  pub packet : List ℕ

-- This reads what the code returned, `c`, with the buffers `io` and `packet` after it, as such a record.
abbrev pub ended_of : Change → List ℕ → List ℕ → Ended
ended_of c io packet = record { state = c.state; marks = c.marks; left = c.left; cleared = c.cleared; answer = answer_of c.report.answer; taken = c.report.taken; sent = c.report.sent; stalls = c.report.stalls; io = io; packet = packet }

-- The poll ends in the state `s`, after opening gave `o` and the act gave `x`, with the packet buffer `packet`.
abbrev pub ended_by : State → Opening → Doing → List ℕ → Ended
ended_by s o x packet = record { state = s; marks = x.marks; left = x.left; cleared = o.cleared; answer = x.answer; taken = x.taken; sent = x.sent; stalls = stalls_of o.cleared x.stalled; io = x.io; packet = packet }

-- The poll ends with the act of this `row`.
unfoldable pub ends_with : Row → Numbers → Opening → List ℕ → Given → Ended
ends_with row n o io g = ended_by row.0 o (acted row n o io g) (acted_packet row n o io g)

-- After opening gave `o`, the handlers decide on the act, and the poll ends with it.
unfoldable pub gone_on : Numbers → Opening → List ℕ → Given → Ended
gone_on n o io g = ends_with (row_of (settled n.state n.left.0 (is_present n.status) (eqb (n.marks.write - n.marks.read) 0) o.found o.left.0)) n o io g

-- This is the record `d` with the changes `c`, the wrapper `w` and the count `putin` of what was put in.
abbrev pub changed_by : Device → Change → Wrapper → PutIn → Device
changed_by d c w putin = with_put_in putin (rebuilt d c.state c.marks w (cond c.cleared None d.status) c.left)

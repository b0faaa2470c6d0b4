-- To open, decide and act is the poll of document 01, whatever the leaves do: `same`. There is one lemma for each act and one for each
-- handler; the tests are variables. Assumes nothing.
use mathlib.Core.Path.{◌≡◌, refl}
use mathlib.Core.Bool.{Bool, true, false, cond, ◌&&◌}
use mathlib.Core.List.{List}
use Prim.Native.Nat.{ℕ, ◌+◌, ◌-◌}
use native.Mathlib.Omega.{arith}
use lib.Dec.{eqb, leb}
use Rattle.std.specs.Prelude.{None}
use Rattle.buffer.specs.declared.Marks.{Marks}
use Rattle.buffer.specs.Buffer.{Buffer, buffer, at, unread}
use Rattle.answers.specs.declared.Endpoint.{Endpoint}
use Rattle.answers.specs.Answers.{Answering, answer, endpoint_of}
use Rattle.ring.specs.declared.State.{State}
use Rattle.ring.specs.declared.State.TheVariants.{CommandTransfer, CommandTransferInvalid, DataTransferNoData, StatusTransfer, DataTransferToHost, DataTransferToHostStatusAwait, DataTransferToHostEnding, DataTransferFromHost, DataTransferFromHostEnding}
use Rattle.ring.specs.declared.Found.{Found}
use Rattle.ring.specs.declared.Found.TheVariants.{Nothing, Invalid, Valid}
use Rattle.ring.specs.declared.Act.{Act}
use Rattle.ring.specs.declared.Act.TheVariants.{Stay, Stall, Next, Enter, Send, Wait, Fill, Take, Drop}
use Rattle.ring.specs.Inner.Ring.{row_of, status_await_act, no_data_act, to_host_ending_act, to_host_act, from_host_ending_act, from_host_act, start_act, read_cbw_act, status_transfer_act}
use Rattle.ring.specs.States.{by_direction}
use Rattle.wrapper.specs.declared.DataDirection.{DataDirection}
use Rattle.wrapper.specs.declared.DataDirection.TheVariants.{Out, In, NotExpected}
use Rattle.wrapper.specs.declared.Wrapper.{Wrapper}
use Rattle.wrapper.specs.declared.counters.Left.{Left}
use Rattle.wrapper.specs.declared.counters.PutIn.{PutIn}
use Rattle.wrapper.specs.Wrapper.{is_valid, wrapper_of}
use Rattle.packets.specs.Packets.{read_answer, takes_one, received, filled_up}
use Rattle.device.specs.declared.Device.{Device}
use Rattle.device.specs.Device.{is_present, numbers_of, in_state, rebuilt, with_put_in}
use Rattle.bbb.specs.Poll.{Given, Polling, Point, point, reaching, leaving, ending, ends, send_by, send, send_status, send_data, take_by, take_data, enter_status, status_await_rule, no_data_rule, to_host_ending_rule, falls_short, to_host_rule, from_host_ending_rule, from_host_rule, start_rule, message_at, parsing, parse_rule, read_by, read_one_by, read_cbw_rule, status_transfer_rule, invalid_rule, rule_in}
use Rattle.bbb.specs.Inner.Phases.{Opening, opening, marks_past31, parsed_open, open_after, read_open, opens_in, is_opening, opened, opened_io, just_read, wrapper_then, put_in_then, Doing, took_from, took, sent_from, sent_by, sent_packet, acted, acted_packet, Ended, ended_by, ends_with, gone_on}

-- This is the record with what changed, the wrapper `w` and the count `putin`, and what is reported.
abbrev pub finish : Device → Ended → Wrapper → PutIn → Polling
finish d x w putin = record {
  device = with_put_in putin (rebuilt d x.state x.marks w (cond x.cleared None d.status) x.left);
  answer = x.answer;
  taken = x.taken;
  sent = x.sent;
  stalls = x.stalls;
  io = x.io;
  packet = x.packet;
}

-- The poll comes to the act `a` after opening gave `o`, and this is its end.
abbrev goes : Device → Opening → List ℕ → Given → Wrapper → Act → Polling
goes d o io g w a = finish d (ends_with (row_of a) (numbers_of d) o io g) w (put_in_then o d.putin)

-- The act begins at this point: the record has what opening gave, any state `z`, and the wrapper `w`.
abbrev start : Device → State → Opening → List ℕ → Wrapper → Point
start d z o io w = point (with_put_in (put_in_then o d.putin) (rebuilt d z o.marks w (cond o.cleared None d.status) o.left)) io o.taken o.cleared

-- ---- the acts

module _ (d : Device) (z : State) (io : List ℕ) (g : Given) (w : Wrapper) (f : Found) (m : Marks) (l : Left) (k : ℕ) (c : Bool) where
  abbrev o : Answering → Opening
  o t = opening f m l t k c

  stays : (t : Answering) → goes d (o t) io g w Stay ≡ ends g (reaching CommandTransfer (start d z (o t) io w)) t
  unfolding ends_with acted acted_packet
  stays t = refl

  stalls : goes d (o (answer 0)) io g w Stall ≡ ending (reaching CommandTransferInvalid (start d z (o (answer 0)) io w)) (answer 0) 0 true g.packet
  unfolding ends_with acted acted_packet
  stalls = refl

  waits : goes d (o (answer 0)) io g w Wait ≡ ends g (reaching DataTransferToHostStatusAwait (start d z (o (answer 0)) io w)) (answer 0)
  unfolding ends_with acted acted_packet
  waits = refl

  nexts : goes d (o (answer 0)) io g w Next ≡ send_status g (reaching StatusTransfer (start d z (o (answer 0)) io w))
  unfolding ends_with acted acted_packet sent_by sent_from sent_packet send send_by
  nexts = refl

  fills : goes d (o (answer 0)) io g w Fill ≡ send_data g (reaching DataTransferToHostEnding (leaving (filled_up d.fixed.packetsize l (buffer io m)) (start d z (o (answer 0)) io w)))
  unfolding ends_with acted acted_packet sent_by sent_from sent_packet send send_by
  fills = refl

  -- A packet of data is sent, or 4 is answered.
  short : (b : Bool) (x y : Doing) (p q : List ℕ) (n : PutIn) → finish d (ended_by DataTransferToHost (o (answer 0)) (cond b x y) (cond b p q)) w n
      ≡ cond b (finish d (ended_by DataTransferToHost (o (answer 0)) x p) w n) (finish d (ended_by DataTransferToHost (o (answer 0)) y q) w n)
  short true x y p q n = refl
  short false x y p q n = refl

  sends : goes d (o (answer 0)) io g w Send
      ≡ cond (falls_short d.fixed.packetsize l (m.write - m.read))
      (ends g (reaching DataTransferToHost (start d z (o (answer 0)) io w)) (answer 4))
      (send_data g (reaching DataTransferToHost (start d z (o (answer 0)) io w)))
  unfolding ends_with acted acted_packet sent_by sent_from sent_packet send send_by
  sends = short (falls_short d.fixed.packetsize l (m.write - m.read)) _ _ _ _ _

  takes : goes d (o (answer 0)) io g w Take ≡ take_data g (reaching DataTransferFromHost (start d z (o (answer 0)) io w))
  unfolding ends_with acted acted_packet took took_from take_data take_by
  takes = refl

  drops : goes d (o (answer 0)) io g w Drop ≡ take_data g (reaching DataTransferFromHostEnding (leaving (buffer io (at 0 0)) (start d z (o (answer 0)) io w)))
  unfolding ends_with acted acted_packet took took_from take_data take_by
  drops = refl

-- A test, or a direction, picks one act of several.
split : (d : Device) (x : Opening) (io : List ℕ) (g : Given) (w : Wrapper) (b : Bool) (a a' : Act) {y y' : Polling}
    → goes d x io g w a ≡ y → goes d x io g w a' ≡ y' → goes d x io g w (cond b a a') ≡ cond b y y'
split d x io g w true a a' h h' = h
split d x io g w false a a' h h' = h'

directed : (d : Device) (x : Opening) (io : List ℕ) (g : Given) (w : Wrapper) (q : DataDirection) (a b c : Act) {y z v : Polling}
    → goes d x io g w a ≡ y → goes d x io g w b ≡ z → goes d x io g w c ≡ v → goes d x io g w (by_direction q a b c) ≡ by_direction q y z v
directed d x io g w Out a b c h i j = h
directed d x io g w In a b c h i j = i
directed d x io g w NotExpected a b c h i j = j

-- ---- the handlers of a poll that does not reach the wrapper: nothing was found, read or cleared

module _ (d : Device) (io : List ℕ) (g : Given) where
  abbrev same_open : Opening
  same_open = opening Nothing d.marks d.left (answer 0) 0 false

  abbrev here : Point
  here = point d io 0 false

  enters : goes d same_open io g d.wrapper Enter ≡ enter_status g here
  unfolding ends_with acted acted_packet sent_by sent_from sent_packet enter_status send send_by
  enters = refl

  await : goes d same_open io g d.wrapper (status_await_act (is_present d.status)) ≡ status_await_rule g here
  unfolding status_await_act status_await_rule
  await = split d same_open io g d.wrapper (is_present d.status) Enter Wait enters (waits d d.state io g d.wrapper Nothing d.marks d.left 0 false)

  none : goes d same_open io g d.wrapper (no_data_act (is_present d.status)) ≡ no_data_rule g here
  unfolding no_data_act no_data_rule
  none = await

  to_ending : goes d same_open io g d.wrapper (to_host_ending_act d.left.0) ≡ to_host_ending_rule g here
  unfolding to_host_ending_act to_host_ending_rule
  to_ending = split d same_open io g d.wrapper (eqb d.left.0 0) Enter Fill enters (fills d d.state io g d.wrapper Nothing d.marks d.left 0 false)

  to_host_lem : goes d same_open io g d.wrapper (to_host_act d.left.0 (is_present d.status)) ≡ to_host_rule g here
  unfolding to_host_act to_host_rule
  to_host_lem =
      split d same_open io g d.wrapper (eqb d.left.0 0) _ _ await
      (split d same_open io g d.wrapper (is_present d.status) _ _ to_ending (sends d d.state io g d.wrapper Nothing d.marks d.left 0 false))

  from_ending : goes d same_open io g d.wrapper (from_host_ending_act d.left.0) ≡ from_host_ending_rule g here
  unfolding from_host_ending_act from_host_ending_rule
  from_ending = split d same_open io g d.wrapper (eqb d.left.0 0) Enter Drop enters (drops d d.state io g d.wrapper Nothing d.marks d.left 0 false)

  from_host_lem : goes d same_open io g d.wrapper (from_host_act d.left.0 (is_present d.status)) ≡ from_host_rule g here
  unfolding from_host_act from_host_rule
  from_host_lem =
      split d same_open io g d.wrapper (eqb d.left.0 0) _ _ await
      (split d same_open io g d.wrapper (is_present d.status) _ _ from_ending (takes d d.state io g d.wrapper Nothing d.marks d.left 0 false))

-- ---- the handlers after a wrapper: no status is present

module _ (d : Device) (c : Bool) (absent : is_present (cond c None d.status) ≡ false) (io : List ℕ) (g : Given) (w : Wrapper) where
  module _ (m : Marks) (l : Left) (q : DataDirection) where
    abbrev valid_open : Opening
    valid_open = opening (Valid q) m l (answer 0) 1 c

    abbrev there : Point
    there = start d CommandTransfer valid_open io w

    await_0 : goes d valid_open io g w (status_await_act false) ≡ status_await_rule g there
    unfolding status_await_act status_await_rule
    await_0 = rw absent (waits d CommandTransfer io g w (Valid q) m l 1 c)

    none_0 : goes d valid_open io g w (no_data_act false) ≡ no_data_rule g there
    unfolding no_data_act no_data_rule
    none_0 = await_0

    to_host_0 : goes d valid_open io g w (to_host_act l.0 false) ≡ to_host_rule g there
    unfolding to_host_act to_host_rule
    to_host_0 = rw absent (split d valid_open io g w (eqb l.0 0) _ _ await_0 (sends d CommandTransfer io g w (Valid q) m l 1 c))

    from_host_0 : goes d valid_open io g w (from_host_act l.0 false) ≡ from_host_rule g there
    unfolding from_host_act from_host_rule
    from_host_0 = rw absent (split d valid_open io g w (eqb l.0 0) _ _ await_0 (takes d CommandTransfer io g w (Valid q) m l 1 c))

-- ---- the wrapper's handler, after the packet that it reads

-- The bytes just before the read mark are those that were the first unread.
just_read_lem : (t : Buffer) → just_read t.bytes (marks_past31 t.marks) ≡ message_at t
unfolding just_read message_at
just_read_lem t = let k : t.marks.read + 31 - 31 ≡ t.marks.read = omega arith in rw k

-- The poll comes to the act `a`, with the wrapper that the record has then.
abbrev decides : Device → Opening → List ℕ → Given → Act → Polling
decides d x io g a = goes d x io g (wrapper_then x io d.wrapper) a

module _ (d : Device) (c : Bool) (absent : is_present (cond c None d.status) ≡ false) (g : Given) where
  abbrev reading : Opening → List ℕ → Polling
  reading x io = decides d x io g (read_cbw_act x.found x.left.0)

  -- The poll is in 0 with the buffer `t`, and `k` packets are taken. If it entered 0, what is put in is counted from 0 on.
  abbrev waiting : Buffer → Left → ℕ → Point
  waiting t l k = point (with_put_in (cond c (record { 0 = 0 }) d.putin) (rebuilt d CommandTransfer t.marks d.wrapper (cond c None d.status) l)) t.bytes k c

  -- This is the wrapper that a valid message holds.
  abbrev said : Buffer → Wrapper
  said t = wrapper_of (message_at t)

  judges : (v : Bool) (t : Buffer) (l : Left)
      → reading (cond v (opening (Valid (said t).direction) (marks_past31 t.marks) (record { 0 = (said t).length }) (answer 0) 1 c) (opening Invalid (marks_past31 t.marks) l (answer 0) 1 c)) t.bytes
      ≡ cond v (start_rule (said t) g (parsing (waiting t l 1))) (ending (reaching CommandTransferInvalid (parsing (waiting t l 1))) (answer 0) 0 true g.packet)
  unfolding wrapper_then read_cbw_act start_act start_rule
  judges true t l =
      rw (just_read_lem t)
      (directed d _ t.bytes g (said t) (said t).direction _ _ _
      (from_host_0 d c absent t.bytes g (said t) (marks_past31 t.marks) (record { 0 = (said t).length }) (said t).direction)
      (to_host_0 d c absent t.bytes g (said t) (marks_past31 t.marks) (record { 0 = (said t).length }) (said t).direction)
      (none_0 d c absent t.bytes g (said t) (marks_past31 t.marks) (record { 0 = (said t).length }) (said t).direction))
  judges false t l = stalls d CommandTransfer t.bytes g d.wrapper Invalid (marks_past31 t.marks) l 1 c

  parses : (t : Buffer) (l : Left) → reading (parsed_open t l c) t.bytes ≡ parse_rule g (waiting t l 1)
  unfolding parsed_open parse_rule
  parses t l = judges (is_valid (message_at t)) t l

  reads : (took r : Bool) (t : Buffer) (says : Answering) (l : Left)
      → reading (cond (took && r) (parsed_open t l c) (opening Nothing t.marks l says (cond took 1 0) c)) t.bytes
      ≡ cond (took && r) (parse_rule g (waiting t l (cond took 1 0))) (ends g (waiting t l (cond took 1 0)) says)
  unfolding wrapper_then read_cbw_act
  reads true true t says l = parses t l
  reads true false t says l = stays d CommandTransfer t.bytes g d.wrapper Nothing t.marks l 1 c says
  reads false r t says l = stays d CommandTransfer t.bytes g d.wrapper Nothing t.marks l 0 c says

  wrapper : (e : Endpoint) (s : Buffer) (l : Left) → reading (read_open d.fixed.packetsize e g.one l c s) (received d.fixed.packetsize e g.one s).bytes ≡ read_one_by d.fixed.packetsize e s g (waiting s l 0)
  unfolding read_open open_after read_one_by read_by
  wrapper e s l = reads (takes_one d.fixed.packetsize e s) (leb 31 (unread (received d.fixed.packetsize e g.one s))) (received d.fixed.packetsize e g.one s) (read_answer d.fixed.packetsize e s) l

-- In 3, something is unread or nothing is.
status : (d : Device) (g : Given) (b : Bool) (x y : Opening) (io io' : List ℕ) {v w : Polling}
    → decides d x io g (read_cbw_act x.found x.left.0) ≡ v → decides d y io' g Next ≡ w
    → decides d (cond b x y) (cond b io io') g (status_transfer_act b false (cond b x y).found (cond b x y).left.0) ≡ cond b v w
unfolding status_transfer_act
status d g true x y io io' h i = h
status d g false x y io io' h i = i

-- ---- all states

-- This is a poll from what opening gave.
abbrev pub follows : Device → Opening → List ℕ → Given → Polling
follows d o io g = finish d (gone_on (numbers_of d) o io g) (wrapper_then o io d.wrapper) (put_in_then o d.putin)

pub same : (s : State) (d : Device) (io : List ℕ) (g : Given) → (s ≡ CommandTransfer → is_present d.status ≡ false)
    → follows (in_state s d) (opened (numbers_of (in_state s d)) io g.one (endpoint_of g.turn.first)) (opened_io (numbers_of (in_state s d)) io g.one (endpoint_of g.turn.first)) g
    ≡ rule_in s g (point (in_state s d) io 0 false)
unfolding wrapper_then gone_on opened opened_io is_opening opens_in rule_in read_cbw_rule status_transfer_rule invalid_rule
same CommandTransfer d io g h = wrapper (in_state CommandTransfer d) false (h refl) g (endpoint_of g.turn.first) (buffer io d.marks) d.left
same CommandTransferInvalid d io g h = stalls (in_state CommandTransferInvalid d) CommandTransferInvalid io g d.wrapper Nothing d.marks d.left 0 false
same DataTransferNoData d io g h = none (in_state DataTransferNoData d) io g
same StatusTransfer d io g h =
    status (in_state StatusTransfer d) g (eqb (d.marks.write - d.marks.read) 0) _ _ _ _
    (wrapper (in_state StatusTransfer d) true refl g (endpoint_of g.turn.first) (buffer io d.marks) (record { 0 = 0 }))
    (nexts (in_state StatusTransfer d) StatusTransfer io g d.wrapper Nothing d.marks d.left 0 false)
same DataTransferToHost d io g h = to_host_lem (in_state DataTransferToHost d) io g
same DataTransferToHostStatusAwait d io g h = await (in_state DataTransferToHostStatusAwait d) io g
same DataTransferToHostEnding d io g h = to_ending (in_state DataTransferToHostEnding d) io g
same DataTransferFromHost d io g h = from_host_lem (in_state DataTransferFromHost d) io g
same DataTransferFromHostEnding d io g h = from_ending (in_state DataTransferFromHostEnding d) io g

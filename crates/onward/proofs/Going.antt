-- Polls in the middle of a transfer are 01's polls.
--     is_steady, is_ready     what the tests of the numbers that stay tell
--     may_send, may_take      what the tests of the record's bytes tell
--     send_rule, take_rule    what such a poll does, by 01's rules of 4 and 6, and of 7
--     ways                    what each way owes through the functions that look for such polls, and through those that make them
-- Assumes nothing.
use mathlib.Core.Path.{◌≡◌, refl, sym, ap, ◌∙◌}
use mathlib.Core.Bool.{Bool, true, false, not, cond, ◌&&◌, ◌||◌}
use mathlib.Core.List.{List, [], ◌∷◌}
use Prim.Native.Nat.{ℕ, ◌+◌, ◌-◌, ◌≤◌, min}
use Rattle.std.specs.Prelude.{Some, None}
use native.Mathlib.Nat.{min-le_right, min-eq_right, max-eq_left}
use native.Mathlib.Omega.{arith}
use lib.Dec.{eqb, ltb, leb}
use lib.ListN.{length, take, drop}
use lib.Seq.{take-take, take_all}
use borrow.Table.Steps.{cases}
use borrow.Author.Tests.{eq-eqb, ne_eqb, eqb-true, eqb-false, le-ltb, le-leb, leb-true}
use Rattle.fields.specs.Field.{get}
use Rattle.fields.specs.Overlay.{overlay}
use Rattle.fields.proofs.Bools.{and_left, and_right, not_true, not_false, clash}
use Rattle.buffer.specs.declared.Marks.{Marks}
use Rattle.buffer.specs.Buffer.{Buffer, buffer, at, unread, unread_bytes, room, with_room, appended, lacks_room, written_all, ready, ready_bytes, read_off}
use Rattle.answers.specs.declared.Endpoint.TheVariants.{Served}
use Rattle.answers.specs.declared.Stalls.TheVariants.{Kept}
use Rattle.answers.specs.Answers.{answer, endpoint_of}
use Rattle.ring.specs.declared.State.{State}
use Rattle.ring.specs.declared.State.TheVariants as ring
use Rattle.ring.specs.declared.State.TheVariants.{DataTransferToHost, DataTransferToHostEnding, DataTransferFromHost}
use Rattle.ring.specs.States.{state_number, state_of_number}
use Rattle.ring.proofs.Numbers.{state_number_lem}
use Rattle.wrapper.specs.declared.counters.Left.{Left}
use Rattle.wrapper.specs.Counters.{fallen}
use Rattle.packets.specs.Packets.{handed, read_answer, takes_one, brought, received, accepted, sent_count, sent_off, sent_into}
use Rattle.packets.proofs.Laws.{fills_none, answer_served}
use Rattle.device.specs.declared.Device.{Device}
use Rattle.device.specs.declared.Numbers.{Numbers}
use Rattle.device.specs.Create.{fixed, is_packet_size, creation_checks}
use Rattle.device.specs.Device.{is_present, numbers_of, in_state, with_marks, with_left}
use Rattle.device.specs.Broken.{status_fits, Whole}
use Rattle.device.proofs.Wholly.{whole_sound, packet_known, packet_bounds}
use Rattle.bbb.specs.Poll.{Given, Polling, Fits, is_fitting, point, send_by, send, falls_short, take_data, take_by, offered_packet, offered_by, to_host_ending_rule, to_host_rule, from_host_rule, rule_in, poll_rule, poll_call}
use Rattle.bbb.proofs.Keeping.{call_done}
use Rattle.recordbytes.specs.Layout as field
use Rattle.recordbytes.specs.Record.{status_by, status_at, marks_at, wrapper_at, fixed_at, device_at, store_state, store_marks, store_left}
use Rattle.recordbytes.proofs.Storing.{is_apart}
use Rattle.recordbytes.proofs.Stored.{write, get_elsewhere, known_is}
use Rattle.border.specs.Word.{word}
use Rattle.onward.specs.declared.Lengths.{Lengths}
use Rattle.onward.specs.Inner.Onward.{Steady, Ready, sends_in, Sending, CanSend, MaySend, Taking, CanTake, MayTake, buffer_of_numbers, SendsOrStays, TakesOrStays}

-- ---- the tests

-- A test that fails owes nothing.
pub fails : (P : Type 0) → false ≡ true → P
fails P h = absurd (clash (sym h))

or_nothing : (a : Bool) → a ≡ a || false
or_nothing true = refl
or_nothing false = refl

or_none : (a b : Bool) → a ≡ a || (b && false)
or_none a true = or_nothing a
or_none a false = or_nothing a

module _ (state flag : ℕ) where
  pub sends_without : flag ≡ 0 → eqb state 4 ≡ leb flag 1 && sends_in state (eqb flag 1)
  unfolding sends_in
  sends_without e = rw e (or_none (eqb state 4) (eqb state 6))

  pub sends_6 : flag ≡ 1 → state ≡ 6 → eqb state 6 ≡ leb flag 1 && sends_in state (eqb flag 1)
  unfolding sends_in
  sends_6 e q = rw (e, q)

  pub sends_4 : flag ≡ 1 → (state ≡ 6 → ⊥) → eqb state 4 ≡ leb flag 1 && sends_in state (eqb flag 1)
  unfolding sends_in
  sends_4 e n = rw (e, ne_eqb _ _ n) (or_nothing (eqb state 4))

  sends_known : sends_in state (eqb flag 1) ≡ true → state ≤ 8
  unfolding sends_in
  sends_known h =
      cases (eqb state 4) (λ e. omega (arith, eqb-true state 4 e))
      (λ e. omega (arith, eqb-true state 6 (and_left (eqb state 6) (eqb flag 1) (rw e at h))))

created_by : (p maxlun size : ℕ) → is_packet_size p ≡ true → maxlun ≤ 15 → 64 ≤ size → size ≤ 65536 → creation_checks (fixed p maxlun size) ≡ 0
unfolding creation_checks
created_by p maxlun size h a b c =
    rw (le-ltb 15 maxlun a, le-ltb size 31 (omega arith), le-ltb size p (omega (arith, (packet_bounds p h).1)), h, le-ltb 65536 size c)

pub is_steady : (r : List ℕ) (len : ℕ) {size maxlun status direction lun block : ℕ}
    → size ≡ get field.size r → size ≡ len → 64 ≤ len → maxlun ≡ get field.max_lun r → maxlun ≤ 15 → len ≤ 65536
    → status ≡ get field.status r → status ≤ 2 → direction ≡ get field.direction r → direction ≤ 2
    → lun ≡ get field.lun r → lun ≤ 15 → block ≡ get field.block_length r → leb block 16 ≡ true → Steady r len
unfolding fixed_at
is_steady r len es el a em c b et t ed d eu u eb k = record {
  lent = sym es ∙ el;
  small = b;
  created = λ q. created_by (get field.packet_size r) (get field.max_lun r) (get field.size r) q (omega (arith, em, c)) (omega (arith, es, el, a)) (omega (arith, es, el, b));
  status = rw (← et) t;
  direction = rw (← ed) d;
  lun = rw (← eu) u;
  block = rw (← eb) (leb-true _ _ k);
}

-- A state in which data goes out, with a status or without one.
sending_in : (P : State → Bool → Type 0) (s : State) (present : Bool) → sends_in (state_number s) present ≡ true
    → P DataTransferToHostEnding true → P DataTransferToHost true → P DataTransferToHost false → P s present
unfolding sends_in
sending_in P ring.CommandTransfer p h a b c = absurd (clash (sym h))
sending_in P ring.CommandTransferInvalid p h a b c = absurd (clash (sym h))
sending_in P ring.DataTransferNoData p h a b c = absurd (clash (sym h))
sending_in P ring.StatusTransfer p h a b c = absurd (clash (sym h))
sending_in P ring.DataTransferToHost true h a b c = b
sending_in P ring.DataTransferToHost false h a b c = c
sending_in P ring.DataTransferToHostStatusAwait p h a b c = absurd (clash (sym h))
sending_in P ring.DataTransferToHostEnding true h a b c = a
sending_in P ring.DataTransferToHostEnding false h a b c = absurd (clash (sym h))
sending_in P ring.DataTransferFromHost p h a b c = absurd (clash (sym h))
sending_in P ring.DataTransferFromHostEnding p h a b c = absurd (clash (sym h))

-- ---- what the tests tell

fits_into : (p packet one two : ℕ) → is_fitting p packet one two ≡ true → p ≤ packet
unfolding is_fitting
fits_into p packet one two h = leb-true _ _ (and_right (leb two p) (leb p packet) (and_right (leb one p) (leb two p && leb p packet) h))

the_other : (n : ℕ) → n ≤ 1 → eqb n 0 ≡ false → n ≡ 1
the_other n h e = cases (eqb n 1) (λ q. eqb-true n 1 q) (λ q. absurd (omega (arith, h, eqb-false n 0 e, eqb-false n 1 q)))

module _ (r : List ℕ) where
  -- The flag says whether a status is present.
  pub flag_says : get field.present r ≤ 1 → is_present (status_at r) ≡ eqb (get field.present r) 1
  unfolding status_at status_by
  flag_says h = cases (eqb (get field.present r) 0) (λ e. rw (eqb-true (get field.present r) 0 e)) (λ e. rw (the_other (get field.present r) h e))

  -- The poll is refused neither with 10 nor with 11.
  module _ (lent : Lengths) (long : length r ≡ field.record_size) (s : Steady r lent.io) (state : get field.state r ≤ 8) (flag : get field.present r ≤ 1)
      (order : get field.read_mark r ≤ get field.write_mark r) (within : get field.write_mark r ≤ lent.io)
      (suits : status_fits (state_of_number (get field.state r)) (is_present (status_at r)) ≡ true) (fits : is_fitting (get field.packet_size r) lent.packet lent.one lent.two ≡ true) where
    pub is_ready : is_packet_size (get field.packet_size r) ≡ true → Ready r lent
    unfolding device_at fixed_at marks_at wrapper_at
    is_ready sized = record {
      known = known_is r (record { long = long; state = state; flag = flag; status = s.status; direction = s.direction });
      whole = record { lent = s.lent; created = s.created sized; order = order; within = rw s.lent within; block = s.block; lun = s.lun; status = suits };
      fits = fits;
    }

  pub may_send : (lent : Lengths) (write : ℕ) {state flag p to from left : ℕ} {i s f : Bool}
      → length r ≡ field.record_size → state ≡ get field.state r → flag ≡ get field.present r → i ≡ leb flag 1 && sends_in state (eqb flag 1) → not i ≡ false → write ≡ 0
      → (s ≡ true → Steady r lent.io) → not s ≡ false → p ≡ get field.packet_size r → f ≡ is_fitting p lent.packet lent.one lent.two → not f ≡ false
      → to ≡ get field.write_mark r → to ≤ lent.io → from ≡ get field.read_mark r → from + p ≤ to → left ≡ get field.left r → leb p left ≡ true → MaySend r lent write
  unfolding device_at fixed_at marks_at
  may_send lent write {p = p} {left = left} {i = i} {s = s} {f = f} long es eg ei qi served steady qs ep ef qf et within er order el some =
      let kind : leb (get field.present r) 1 && sends_in (get field.state r) (eqb (get field.present r) 1) ≡ true = rw (es, eg) at (sym ei ∙ not_false i qi) in
      let flag : get field.present r ≤ 1 = leb-true _ _ (and_left (leb (get field.present r) 1) (sends_in (get field.state r) (eqb (get field.present r) 1)) kind) in
      let sends : sends_in (get field.state r) (eqb (get field.present r) 1) ≡ true = and_right (leb (get field.present r) 1) (sends_in (get field.state r) (eqb (get field.present r) 1)) kind in
      let known : get field.state r ≤ 8 = sends_known (get field.state r) (get field.present r) sends in
      let in_one : sends_in (state_number (state_of_number (get field.state r))) (is_present (status_at r)) ≡ true = rw (state_number_lem (get field.state r) known, flag_says flag) sends in
      let suits : status_fits (state_of_number (get field.state r)) (is_present (status_at r)) ≡ true =
      sending_in (λ (x : State) (b : Bool). status_fits x b ≡ true) (state_of_number (get field.state r)) (is_present (status_at r)) in_one refl refl refl in
      let fits : is_fitting (get field.packet_size r) lent.packet lent.one lent.two ≡ true = rw ep at (sym ef ∙ not_false f qf) in
      let st : Steady r lent.io = steady (not_false s qs) in
      let enough : p ≤ left = leb-true p left some in
      record {
        ready = is_ready lent long st known flag (omega (arith, er, et, order)) (omega (arith, et, within)) suits fits;
        sends = record { state = in_one; served = served; left = omega (arith, ep, el, enough); unread = omega (arith, ep, er, et, order) };
        can = record { small = st.small; within = omega (arith, et, within); unread = omega (arith, ep, er, et, order); into = fits_into _ lent.packet lent.one lent.two fits };
      }

  pub may_take : (lent : Lengths) (first : ℕ) {state flag p at from left : ℕ} {s f : Bool}
      → length r ≡ field.record_size → state ≡ get field.state r → state ≡ 7 → flag ≡ get field.present r → flag ≡ 0 → first ≡ 0
      → (s ≡ true → Steady r lent.io) → not s ≡ false → p ≡ get field.packet_size r → lent.one ≡ p → f ≡ is_fitting p lent.packet lent.one lent.two → not f ≡ false
      → at ≡ get field.write_mark r → from ≡ get field.read_mark r → from ≤ at → at + p ≤ lent.io → left ≡ get field.left r → leb p left ≡ true → MayTake r lent first
  unfolding device_at fixed_at marks_at state_of_number
  may_take lent first {p = p} {left = left} {s = s} {f = f} long es seven eg none-there served steady qs ep whole ef qf et er order fits el some =
      let state : get field.state r ≡ 7 = sym es ∙ seven in
      let flag : get field.present r ≡ 0 = sym eg ∙ none-there in
      let absent : is_present (status_at r) ≡ false = rw flag at (flag_says (omega (arith, flag))) in
      let st : Steady r lent.io = steady (not_false s qs) in
      let enough : p ≤ left = leb-true p left some in
      record {
        ready = is_ready lent long st (omega (arith, state)) (omega (arith, flag)) (omega (arith, er, et, order)) (omega (arith, et, fits)) (rw state) (rw ep at (sym ef ∙ not_false f qf));
        takes = record { state = rw state; absent = absent; served = served; left = omega (arith, ep, el, enough); whole = whole ∙ ep; room = omega (arith, ep, et, fits) };
        can = record { small = st.small; room = omega (arith, ep, et, fits); whole = whole ∙ ep };
      }

-- ---- a packet of data goes out: 01's rules of 4 and 6

module _ (d : Device) (io : List ℕ) (g : Given) (w : Whole (numbers_of d) (length io)) (f : Fits d.fixed.packetsize g.packet g.one g.two) where
  abbrev s : Buffer
  s = buffer io d.marks

  -- Marks and left change; with a status present, 6 is reached.
  abbrev pub sent_device : Bool → Device
  sent_device present =
      let moved : Device = with_marks (read_off d.fixed.packetsize s).marks (with_left (fallen d.left (ready d.fixed.packetsize s)) d) in
      cond present (in_state DataTransferToHostEnding moved) moved

  abbrev pub sent_by : Bool → Polling
  sent_by present = record {
    device = sent_device present;
    answer = answer 0;
    taken = 0;
    sent = ready d.fixed.packetsize s;
    stalls = Kept;
    io = io;
    packet = overlay g.packet 0 (ready_bytes d.fixed.packetsize s);
  }

  abbrev pub sent_on : Polling
  sent_on = sent_by (is_present d.status)

  module _ (h : Sending (numbers_of d) g.turn.write) where
    some : eqb d.left.0 0 ≡ false
    some = ne_eqb d.left.0 0 (λ z. absurd (omega (arith, z, h.left, (packet_bounds d.fixed.packetsize (packet_known (numbers_of d) (length io) w)).0)))

    due : min d.left.0 d.fixed.packetsize ≤ d.marks.write - d.marks.read
    due = omega (arith, h.unread, min-le_right d.left.0 d.fixed.packetsize)

    whole_there : falls_short d.fixed.packetsize d.left (unread s) ≡ false
    unfolding falls_short
    whole_there = rw (le-leb _ _ h.left, le-ltb _ _ h.unread)

    ending_sends : to_host_ending_rule g (point d io 0 false) ≡ sent_by true
    unfolding to_host_ending_rule send send_by sent_count sent_off sent_into accepted read_off endpoint_of
    ending_sends =
        rw (some, ← (fills_none d.fixed.packetsize d.left s refl (whole_sound (numbers_of d) io w) due).same, h.served, answer_served Served (unread s) refl)

    in_6 : d.state ≡ DataTransferToHostEnding → is_present d.status ≡ true → rule_in DataTransferToHostEnding g (point d io 0 false) ≡ sent_by true
    unfolding rule_in
    in_6 e q = ending_sends

    in_4 : d.state ≡ DataTransferToHost → is_present d.status ≡ true → rule_in DataTransferToHost g (point d io 0 false) ≡ sent_by true
    unfolding rule_in to_host_rule
    in_4 e q = rw (some, q) ending_sends

    stays_in_4 : d.state ≡ DataTransferToHost → is_present d.status ≡ false → rule_in DataTransferToHost g (point d io 0 false) ≡ sent_by false
    unfolding rule_in to_host_rule send send_by sent_count sent_off sent_into accepted read_off endpoint_of
    stays_in_4 e q = rw (some, q, whole_there, h.served, answer_served Served (unread s) refl, ← e)

    pub send_rule : poll_call d io g ≡ sent_on
    unfolding poll_rule
    send_rule =
        call_done d io g w f
        ∙ sending_in (λ (x : State) (b : Bool). d.state ≡ x → is_present d.status ≡ b → rule_in x g (point d io 0 false) ≡ sent_by b) d.state (is_present d.status) h.state in_6 in_4 stays_in_4 refl refl

-- ---- a packet of data comes in: 01's rule of 7

in_7 : (s : State) → eqb (state_number s) 7 ≡ true → s ≡ DataTransferFromHost
in_7 ring.CommandTransfer h = absurd (clash (sym h))
in_7 ring.CommandTransferInvalid h = absurd (clash (sym h))
in_7 ring.DataTransferNoData h = absurd (clash (sym h))
in_7 ring.StatusTransfer h = absurd (clash (sym h))
in_7 ring.DataTransferToHost h = absurd (clash (sym h))
in_7 ring.DataTransferToHostStatusAwait h = absurd (clash (sym h))
in_7 ring.DataTransferToHostEnding h = absurd (clash (sym h))
in_7 ring.DataTransferFromHost h = refl
in_7 ring.DataTransferFromHostEnding h = absurd (clash (sym h))

-- Where there is room for a packet, nothing moves.
roomy : (p : ℕ) (s : Buffer) → p ≤ room s → (with_room p s ≡ s) × (lacks_room p s ≡ false)
unfolding with_room lacks_room
roomy p s h = let fits : ltb (room s) p ≡ false = le-ltb _ _ h in (rw fits, rw (fits, fits))

takes_all : (p : ℕ) (s : Buffer) (one : List ℕ) → p ≤ room s → length one ≤ p → written_all p one s ≡ appended one s
unfolding written_all
takes_all p s one h k = rw (max-eq_left k, (roomy p s h).1, (roomy p s h).0)

module _ (d : Device) (io : List ℕ) (g : Given) (w : Whole (numbers_of d) (length io)) (f : Fits d.fixed.packetsize g.packet g.one g.two) where
  abbrev pub taken_on : Polling
  taken_on = record {
    device = with_marks (at d.marks.read (d.marks.write + length g.one)) (with_left (fallen d.left (length g.one)) d);
    answer = answer 0;
    taken = 1;
    sent = 0;
    stalls = Kept;
    io = overlay io d.marks.write g.one;
    packet = g.packet;
  }

  module _ (h : Taking (numbers_of d) (length io) (length g.one) g.turn.first) where
    some_left : eqb d.left.0 0 ≡ false
    some_left = ne_eqb d.left.0 0 (λ z. absurd (omega (arith, z, h.left, (packet_bounds d.fixed.packetsize (packet_known (numbers_of d) (length io) w)).0)))

    from_host_takes : from_host_rule g (point d io 0 false) ≡ taken_on
    unfolding from_host_rule take_data take_by offered_packet offered_by received read_answer takes_one brought handed endpoint_of appended
    from_host_takes =
        let s : Buffer = buffer io d.marks in
        rw (some_left, h.absent, h.served, (roomy d.fixed.packetsize s h.room).1, takes_all d.fixed.packetsize s g.one h.room f.first, ← in_7 d.state (eq-eqb _ _ h.state))

    pub take_rule : poll_call d io g ≡ taken_on
    unfolding poll_rule rule_in
    take_rule = call_done d io g w f ∙ ap (λ (x : State). rule_in x g (point d io 0 false)) (in_7 d.state (eq-eqb _ _ h.state)) ∙ from_host_takes

-- ---- what the functions that move such a packet owe

-- The state stands apart from the marks.
write_stays : (r : List ℕ) (s : State) (present : Bool) → length r ≡ field.record_size → (marks_at (cond present (store_state s r) r)).write ≡ (marks_at r).write
unfolding marks_at store_state is_apart
write_stays r s true long = get_elsewhere field.record_size field.write_mark (write field.state (state_number s) ∷ []) r long refl refl
write_stays r s false long = refl

-- A whole packet is unread, so a read takes all of it.
module _ (n : Numbers) (io : List ℕ) (h : n.fixed.packetsize ≤ n.marks.write - n.marks.read) where
  all_ready : n.fixed.packetsize ≡ ready n.fixed.packetsize (buffer_of_numbers n io)
  unfolding ready
  all_ready = sym (min-eq_right h)

  all_given : take n.fixed.packetsize (drop n.marks.read io) ≡ ready_bytes n.fixed.packetsize (buffer_of_numbers n io)
  unfolding ready_bytes unread_bytes
  all_given = rw (← all_ready) (sym (take-take n.fixed.packetsize (n.marks.write - n.marks.read) (drop n.marks.read io) h))

  all_read : at (n.marks.read + n.fixed.packetsize) n.marks.write ≡ (read_off n.fixed.packetsize (buffer_of_numbers n io)).marks
  unfolding read_off
  all_read = ap (λ (k : ℕ). at (n.marks.read + k) n.marks.write) all_ready

module _ (n : Numbers) (io r p : List ℕ) {t : Bool} {p' : List ℕ} (et : t ≡ is_packet_size n.fixed.packetsize)
    (ep : p' ≡ cond (is_packet_size n.fixed.packetsize) (overlay p 0 (take n.fixed.packetsize (drop n.marks.read io))) p) where
  pub stays_sent : not t ≡ true → SendsOrStays n io r p None r p'
  stays_sent q =
      let no : is_packet_size n.fixed.packetsize ≡ false = sym et ∙ not_true t q in
      record { sends = λ yes. absurd (clash (sym yes ∙ no)); stays = λ _. record { answer = refl; bytes = refl; buffer = rw no at ep } }

  pub leaves_sent : not t ≡ false → length r ≡ field.record_size → n ≡ numbers_of (device_at r) → (len packet : ℕ) → CanSend n len packet
      → {k x : ℕ} {falls : Left} {a b l : List ℕ}
      → falls ≡ fallen n.left n.fixed.packetsize → a ≡ cond (is_present n.status) (store_state DataTransferToHostEnding r) r
      → b ≡ store_marks (at (n.marks.read + n.fixed.packetsize) (marks_at a).write) a → l ≡ store_left falls b → k ≡ n.fixed.packetsize → x ≡ word 0 0 0 0 k
      → SendsOrStays n io r p (Some x) l p'
  unfolding device_at
  leaves_sent q long en len packet can {b = b} ef ea eb el ek ex =
      let yes : is_packet_size n.fixed.packetsize ≡ true = sym et ∙ not_false t q in
      let h : n.fixed.packetsize ≤ n.marks.write - n.marks.read = omega (arith, can.unread) in
      let there : List ℕ = cond (is_present n.status) (store_state DataTransferToHostEnding r) r in
      let mark : (marks_at there).write ≡ n.marks.write = write_stays r DataTransferToHostEnding (is_present n.status) long ∙ ap (λ (m : Numbers). m.marks.write) (sym en) in
      let moved : b ≡ store_marks (read_off n.fixed.packetsize (buffer_of_numbers n io)).marks there = eb ∙ rw (ea, mark) (ap (λ (m : Marks). store_marks m there) (all_read n io h)) in
      record {
        sends = λ _. record {
          answer = ap Some (ex ∙ ap (word 0 0 0 0) (ek ∙ all_ready n io h));
          bytes = el ∙ rw (moved, ef) (ap (λ (k : ℕ). store_left (fallen n.left k) (store_marks (read_off n.fixed.packetsize (buffer_of_numbers n io)).marks there)) (all_ready n io h));
          packet = rw yes at ep ∙ ap (overlay p 0) (all_given n io h);
        };
        stays = λ no. absurd (clash (sym yes ∙ no));
      }

module _ (n : Numbers) (io r one : List ℕ) {t : Bool} {io' : List ℕ} (et : t ≡ is_packet_size n.fixed.packetsize)
    (eio : io' ≡ cond (is_packet_size n.fixed.packetsize) (overlay io n.marks.write (take n.fixed.packetsize (drop 0 one))) io) where
  pub stays_taken : not t ≡ true → TakesOrStays n io r one None r io'
  stays_taken q =
      let no : is_packet_size n.fixed.packetsize ≡ false = sym et ∙ not_true t q in
      record { takes = λ yes. absurd (clash (sym yes ∙ no)); stays = λ _. record { answer = refl; bytes = refl; buffer = rw no at eio } }

  pub leaves_taken : not t ≡ false → n ≡ numbers_of (device_at r) → (len : ℕ) → CanTake n len (length one) → {x : ℕ} {falls : Left} {a l : List ℕ}
      → falls ≡ fallen n.left n.fixed.packetsize → a ≡ store_marks (at (marks_at r).read (n.marks.write + n.fixed.packetsize)) r → l ≡ store_left falls a → x ≡ word 0 0 0 1 0
      → TakesOrStays n io r one (Some x) l io'
  unfolding device_at
  leaves_taken q en len can ef ea el ex =
      let yes : is_packet_size n.fixed.packetsize ≡ true = sym et ∙ not_false t q in
      let mark : (marks_at r).read ≡ n.marks.read = ap (λ (m : Numbers). m.marks.read) (sym en) in
      let all : take n.fixed.packetsize (drop 0 one) ≡ one = take_all n.fixed.packetsize one (omega (arith, can.whole)) in
      record {
        takes = λ _. record { answer = ap Some ex; bytes = el ∙ rw (ea, ef, mark, ← can.whole); io = rw yes at eio ∙ ap (overlay io n.marks.write) all };
        stays = λ no. absurd (clash (sym yes ∙ no));
      }

module _ (r : List ℕ) (s : State) (b : Bool) {t : Bool} (et : t ≡ b) where
  pub reaches : t ≡ true → {l : List ℕ} → l ≡ store_state s r → l ≡ cond b (store_state s r) r
  reaches q e = rw (← et, q) e

  pub reaches_not : t ≡ false → r ≡ cond b (store_state s r) r
  reaches_not q = rw (← et, q)

pub ruleset ways = (sends_without, sends_6, sends_4, stays_sent, stays_taken, reaches, reaches_not)

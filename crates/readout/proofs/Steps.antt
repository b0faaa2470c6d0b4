-- What each event does to a command's transfer, whatever the endpoints answer, and whether the call is accepted or refused. Assumes
-- nothing.
use mathlib.Core.Path.{◌≡◌, refl, sym, ap, ap₂, ◌∙◌}
use mathlib.Core.Bool.{Bool, true, false, cond, ◌&&◌}
use mathlib.Core.List.{List, [], ◌++◌, append_assoc, append-nil, flatten}
use Prim.Native.Nat.{ℕ, ◌+◌, ◌-◌, ◌≤◌, ◌<◌, min, zero-le}
use native.Mathlib.Nat.{add-zero}
use native.Mathlib.Omega.{arith}
use lib.Dec.{eqb}
use borrow.Author.Tests.{ne_eqb, eqb-true, eqb-false}
use borrow.Table.Steps.{cases}
use lib.ListN.{length, take}
use lib.Seq.{take-take, take-length}
use Rattle.std.specs.Prelude.{Option}
use Rattle.fields.proofs.Bools.{clash}
use Rattle.buffer.specs.Buffer.{unread, unread_bytes, lacks_room}
use Rattle.buffer.proofs.Kept.{length_unread}
use Rattle.ring.specs.declared.State.{State}
use Rattle.ring.specs.declared.State.TheVariants.{StatusTransfer, DataTransferToHost, DataTransferFromHost}
use Rattle.ring.specs.States.{state_number}
use Rattle.wrapper.specs.declared.Wrapper.{Wrapper}
use Rattle.device.specs.declared.Device.{Device}
use Rattle.device.specs.declared.Told.{Told}
use Rattle.device.specs.Device.{numbers_of, is_present, with_marks, with_put_in}
use Rattle.device.specs.Broken.{Whole}
use Rattle.device.proofs.Wholly.{whole_sound, wrapper_fits, packet_fits, packet_known, packet_bounds}
use Rattle.answers.specs.declared.Stalls.{Stalls}
use Rattle.answers.specs.declared.Stalls.TheVariants.{Kept}
use Rattle.answers.specs.Answers.{Answering, answer}
use Rattle.bbb.specs.Poll.{Given, Polling, Point, point, buffer_of_point, send_status, status_transfer_rule, rule_in, poll_rule, Fits, refusing, poll_call}
use Rattle.bbb.proofs.Keeping.{by_call, call_whole, call_sizes, packet_is}
use Rattle.calls.specs.declared.FirmwareStatus.{FirmwareStatus}
use Rattle.calls.specs.declared.Request.{Request}
use Rattle.calls.specs.Checks.{is_in, buffer_of}
use Rattle.calls.specs.Status.{Stating, takes_status, with_figure}
use Rattle.calls.specs.Data.{Moving, limited, read_data_call, write_data_call, write_data_all_call}
use Rattle.calls.specs.Bus.{Handling}
use Rattle.calls.proofs.After.{by_status, status_whole, data_elsewhere, read_keeps, read_whole, write_keeps, write_whole, write_most, write_unread, write_all_keeps, write_all_whole, write_all_answer, write_all_unread, by_request}
use Rattle.readout.specs.History.{Socket, socket, Event, poll, status, write, write_all, read, reset, control, command, command_step, mislent, Shows, quietly, of_status, of_bus, shows, is_served, is_poll, served, is_reset, is_status, accepts}
use Rattle.readout.specs.Demand.{Full, ceiling}
use Rattle.readout.proofs.Ceiling.{ceiling_none}
use Rattle.readout.proofs.Transfer.{Phase, to_host, waiting, to_host_ending, from_host, from_host_ending, sending, Transfer, unread_in, due, due_in}
use Rattle.readout.proofs.Rules.{bytes_of, poll_long, still, Fit, Leads, leads_status, leads_await, leads_to_ending, leads_to, leads_from_ending, leads_from}

-- What holds after an event at the socket `s` that shows `o`; `k` is 1 for a served poll and 0 otherwise. The invariant holds. Only an
-- accepted status changes the status. With a status present, what is due has fallen by `k`. In a state in which a status is taken, left
-- has fallen by what crossed the wire.
pub record Steps (w : Wrapper) (p : ℕ) (got put : List ℕ) (s : Socket) (accepted : Bool) (k : ℕ) (o : Shows) : Type 0 where
  pub transfer : Transfer w p (got ++ o.sent) (put ++ o.put) o.socket
  pub status : accepted ≡ false → o.socket.device.status ≡ s.device.status
  pub count : is_present s.device.status ≡ true → Full (min s.device.fixed.packetsize s.device.left.0) o.taken → due o.socket + k ≡ due s
  pub wire : takes_status (state_number o.socket.device.state) ≡ true → o.socket.device.left.0 ≡ s.device.left.0 - (length o.sent + length (flatten o.taken))

-- The same of the event `e` at the socket `s`.
abbrev pub StepsBy : Wrapper → ℕ → List ℕ → List ℕ → Event → Socket → Type 0
StepsBy w p got put e s = Steps w p got put s (accepts e (shows e s)) (served e (shows e s)) (shows e s)

-- Where nothing crosses the wire, left stays.
nothing_moved : (l : ℕ) → l ≡ l - (0 + length {A = ℕ} (flatten []))
unfolding flatten
nothing_moved l = still l refl

-- ---- polls

module _ (w : Wrapper) (p : ℕ) (got put : List ℕ) (few : length put ≤ w.length) (s : Socket) (t : Transfer w p got put s) (g : Given) (unfinished : 0 < due s) where
  abbrev start : Point
  start = point s.device s.io 0 false

  abbrev GoesOn : Polling → Type 0
  GoesOn o = Leads w got put g 0 s.device.fixed.packetsize s.device.status s.device.left.0 (due s) o

  fit : Fit w start
  fit =
      let n = numbers_of s.device in
      let len = length s.io in
      record {
        sound = whole_sound n s.io t.whole;
        some = omega (arith, (packet_bounds s.device.fixed.packetsize (packet_known n len t.whole)).0);
        packet = packet_fits n len t.whole;
        status = omega (arith, wrapper_fits n len t.whole);
        wrapper = t.wrapper;
      }

  -- What a poll does, by the state in which it starts.
  module _ (fits : Fits s.device.fixed.packetsize g.packet g.one g.two) where
    -- In 3 something is unread.
    unread_some : s.device.state ≡ StatusTransfer → 0 < length (unread_in s)
    unread_some e =
        let n : ℕ = length (unread_in s) in
        cases (eqb n 0)
        (λ h.
        let none : n ≡ 0 = eqb-true n 0 h in
        let z : 0 < ceiling 0 s.device.fixed.packetsize = rw (e, none) at unfinished in
        absurd (omega (arith, ceiling_none s.device.fixed.packetsize fit.some)))
        (λ h. omega (arith, eqb-false n 0 h))

    -- The poll is the rule of the state `σ`.
    abbrev GoesIn : State → Type 0
    GoesIn σ = length (bytes_of (rule_in σ g start)) ≡ (rule_in σ g start).sent
        → Leads w got put g 0 s.device.fixed.packetsize s.device.status s.device.left.0 (due_in σ s.device.fixed.packetsize s.device.left.0 (length (unread_in s))) (rule_in σ g start)

    in_3 : s.device.state ≡ StatusTransfer → (length (bytes_of (send_status g start)) ≡ (send_status g start).sent → Leads w got put g 0 s.device.fixed.packetsize s.device.status s.device.left.0 (ceiling (length (unread_in s)) s.device.fixed.packetsize) (send_status g start))
        → GoesIn StatusTransfer
    unfolding rule_in status_transfer_rule
    in_3 e sends =
        let some : eqb (unread (buffer_of_point start)) 0 ≡ false = ne_eqb (unread (buffer_of_point start)) 0 (λ (none : unread (buffer_of_point start) ≡ 0). omega (arith, unread_some e, length_unread (buffer_of_point start) fit.sound)) in
        rw some sends

    rule_leads : (σ : State) → Phase w got put σ s.device.status s.device.left.0 (unread_in s) → s.device.state ≡ σ → GoesIn σ
    unfolding rule_in
    rule_leads σ (to_host e dir same sum) at-σ = rw e (leads_to w got put g start fit dir same sum few)
    rule_leads σ (waiting e none all) at-σ = rw e (leads_await w got put g start fit none all)
    rule_leads σ (to_host_ending e dir all few') at-σ = rw e (leads_to_ending w got put g start fit dir all few' (rw (at-σ, e) at t.whole.status))
    rule_leads σ (from_host e dir none) at-σ = rw e (leads_from w got put g start fit dir none (λ _. refl) zero-le fits.first)
    rule_leads σ (from_host_ending e dir none) at-σ = rw e (leads_from_ending w got put g start fit dir none refl fits.first (rw (at-σ, e) at t.whole.status))
    rule_leads σ (sending t e here all) at-σ = rw e (in_3 (at-σ ∙ e) (leads_status w got put g start fit t here (at-σ ∙ e) all (unread_some (at-σ ∙ e))))

    poll_leads : GoesOn (poll_rule s.device s.io g)
    unfolding poll_rule
    poll_leads = rule_leads s.device.state t.phase refl (poll_long s.device s.io g t.whole fits)

  -- A refused poll is not served, and everything is as before.
  refused_leads : (n : ℕ) → is_served (answer n) ≡ false → GoesOn (refusing s.device s.io g n)
  refused_leads n unserved = record { wrapper = t.wrapper; status = refl; phase = rw append-nil t.phase; count = λ _ _. rw unserved (add-zero _); wire = λ _. nothing_moved s.device.left.0 }

  call_leads : GoesOn (poll_call s.device s.io g)
  unfolding is_served
  call_leads = by_call s.device s.io g GoesOn (refused_leads 10 refl) (refused_leads 11 refl) (λ _. poll_leads)

  poll_steps : StepsBy w p got put (poll g) s
  unfolding shows served is_poll is_served
  poll_steps =
      let l : GoesOn (poll_call s.device s.io g) = call_leads in
      record {
        transfer = record {
          whole = call_whole s.device s.io g t.whole;
          packetsize = packet_is (call_sizes s.device s.io g).fixed ∙ t.packetsize;
          wrapper = l.wrapper;
          phase = rw append-nil l.phase;
        };
        status = λ _. l.status;
        count = l.count;
        wire = l.wire;
      }

-- ---- the other calls

module _ (w : Wrapper) (p : ℕ) (got put : List ℕ) (s : Socket) (t : Transfer w p got put s) where
  -- A call that changes nothing.
  unchanged : (n : Answering) (stalls : Stalls) (delivered : List ℕ) (accepted : Bool) → Steps w p got put s accepted 0 (quietly s n stalls delivered)
  unchanged n stalls delivered accepted = record { transfer = rw (append-nil, append-nil) t; status = λ _. refl; count = λ _ _. add-zero _; wire = λ _. nothing_moved s.device.left.0 }

  -- In 3 no status is taken. In the states in which one is taken, the phase does not depend on the status.
  restated : (σ : State) (st : Option Told) → takes_status (state_number σ) ≡ true → Phase w got put σ s.device.status s.device.left.0 (unread_in s) → Phase w got put σ st s.device.left.0 (unread_in s)
  unfolding takes_status
  restated σ st takes (to_host e dir same sum) = to_host e dir same sum
  restated σ st takes (waiting e none all) = waiting e none all
  restated σ st takes (to_host_ending e dir all few) = to_host_ending e dir all few
  restated σ st takes (from_host e dir none) = from_host e dir none
  restated σ st takes (from_host_ending e dir none) = from_host_ending e dir none
  restated σ st takes (sending t e here all) = absurd (clash (sym (rw e at takes)))

  status_steps : (f : FirmwareStatus) → StepsBy w p got put (status f) s
  unfolding shows served is_poll accepts is_status with_figure
  status_steps f =
      by_status s.device s.io f
      (λ (o : Stating). Whole (numbers_of o.device) (length s.io) → Steps w p got put s (eqb o.answer.number 0) 0 (of_status s.io o))
      (λ _. unchanged (answer 10) Kept [] false) (λ _. unchanged (answer 12) Kept [] false)
      (λ takes _ whole. record {
        transfer = record { whole = whole; packetsize = t.packetsize; wrapper = t.wrapper; phase = rw (append-nil, append-nil) (restated s.device.state _ takes t.phase) };
        status = λ refused. absurd (clash refused);
        count = λ _ _. add-zero _;
        wire = λ _. nothing_moved s.device.left.0;
      })
      (status_whole s.device s.io f t.whole)

  control_steps : (q : Request) → is_reset (control q) ≡ false → StepsBy w p got put (control q) s
  unfolding shows served is_poll accepts is_status is_reset
  control_steps q kept =
      by_request s.device s.io q (λ (o : Handling). Steps w p got put s false 0 (of_bus s.io o))
      (λ n _. unchanged n _ _ false)
      (λ counts ff. absurd (clash (sym (ap₂ ◌&&◌ counts ff) ∙ kept)))

  -- A call that changes only the marks of the record, and the count of what was put in.
  module _ (d : Device) (io : List ℕ) (keeps : with_put_in s.device.putin (with_marks s.device.marks d) ≡ s.device) (whole : Whole (numbers_of d) (length io)) where
    same_state : d.state ≡ s.device.state
    same_state = ap (λ (x : Device). x.state) keeps

    same_status : d.status ≡ s.device.status
    same_status = ap (λ (x : Device). x.status) keeps

    same_left : d.left.0 ≡ s.device.left.0
    same_left = ap (λ (x : Device). x.left.0) keeps

    same_packetsize : d.fixed.packetsize ≡ s.device.fixed.packetsize
    same_packetsize = ap (λ (x : Device). x.fixed.packetsize) keeps

    marked : (σ : State) → s.device.state ≡ σ → (n : Answering) (ys delivered : List ℕ) → Phase w got (put ++ ys) σ s.device.status s.device.left.0 (unread_bytes (buffer_of d io)) → ((k m : ℕ) → due_in σ p s.device.left.0 k ≡ due_in σ p s.device.left.0 m)
        → Steps w p got put s false 0 (record { socket = socket d io; answer = n; stalls = Kept; taken = []; sent = []; put = ys; delivered = delivered })
    marked σ at-σ n ys delivered phase level = record {
      transfer = record {
        whole = whole;
        packetsize = same_packetsize ∙ t.packetsize;
        wrapper = ap (λ (x : Device). x.wrapper) keeps ∙ t.wrapper;
        phase = rw (append-nil, same_state, same_status, same_left, at-σ) phase;
      };
      status = λ _. same_status;
      count = λ _ _. rw (same_state, same_left, same_packetsize, at-σ, t.packetsize) (add-zero _ ∙ level _ _);
      wire = λ _. same_left ∙ nothing_moved s.device.left.0;
    }

    -- In 4 the bytes `ys` are put in after the unread ones.
    put_in : is_in 4 s.device ≡ true → (n : Answering) (ys : List ℕ) → unread_bytes (buffer_of d io) ≡ unread_in s ++ ys → (σ : State) → s.device.state ≡ σ → Phase w got put σ s.device.status s.device.left.0 (unread_in s)
        → Steps w p got put s false 0 (record { socket = socket d io; answer = n; stalls = Kept; taken = []; sent = []; put = ys; delivered = [] })
    unfolding is_in
    put_in in4 n ys behind σ at-σ (to_host e dir same sum) =
        marked DataTransferToHost (at-σ ∙ e) n ys [] (to_host refl dir (ap (λ (l : List ℕ). got ++ l) behind ∙ sym (append_assoc got (unread_in s) ys) ∙ ap (λ (l : List ℕ). l ++ ys) same) sum) (λ _ _. refl)
    put_in in4 n ys behind σ at-σ (waiting e none all) = absurd (clash (sym (rw (at-σ, e) at in4)))
    put_in in4 n ys behind σ at-σ (to_host_ending e dir all few) = absurd (clash (sym (rw (at-σ, e) at in4)))
    put_in in4 n ys behind σ at-σ (from_host e dir none) = absurd (clash (sym (rw (at-σ, e) at in4)))
    put_in in4 n ys behind σ at-σ (from_host_ending e dir none) = absurd (clash (sym (rw (at-σ, e) at in4)))
    put_in in4 n ys behind σ at-σ (sending t e here all) = absurd (clash (sym (rw (at-σ, e) at in4)))

    -- In 7 the unread bytes do not matter.
    read_off_lem : is_in 7 s.device ≡ true → (n : Answering) (delivered : List ℕ) (σ : State) → s.device.state ≡ σ → Phase w got put σ s.device.status s.device.left.0 (unread_in s)
        → Steps w p got put s false 0 (quietly (socket d io) n Kept delivered)
    unfolding is_in
    read_off_lem in7 n delivered σ at-σ (to_host e dir same sum) = absurd (clash (sym (rw (at-σ, e) at in7)))
    read_off_lem in7 n delivered σ at-σ (waiting e none all) = absurd (clash (sym (rw (at-σ, e) at in7)))
    read_off_lem in7 n delivered σ at-σ (to_host_ending e dir all few) = absurd (clash (sym (rw (at-σ, e) at in7)))
    read_off_lem in7 n delivered σ at-σ (from_host e dir none) = marked DataTransferFromHost (at-σ ∙ e) n [] delivered (from_host refl dir none) (λ _ _. refl)
    read_off_lem in7 n delivered σ at-σ (from_host_ending e dir none) = absurd (clash (sym (rw (at-σ, e) at in7)))
    read_off_lem in7 n delivered σ at-σ (sending t e here all) = absurd (clash (sym (rw (at-σ, e) at in7)))

  read_steps : (dst : List ℕ) → StepsBy w p got put (read dst) s
  unfolding shows served is_poll accepts is_status
  read_steps dst =
      let d : Device = s.device in
      let io : List ℕ = s.io in
      cases (is_in 7 d)
      (λ in7. read_off_lem (read_data_call d io dst).device io (ap (with_put_in d.putin) (read_keeps d io dst)) (read_whole d io t.whole dst) in7 _ _ d.state refl t.phase)
      (λ elsewhere. rw (data_elsewhere 7 d io dst _ t.whole elsewhere) (unchanged _ Kept [] false))

  write_steps : (src : List ℕ) → StepsBy w p got put (write src) s
  unfolding shows served is_poll accepts is_status limited
  write_steps src =
      let d : Device = s.device in
      let io : List ℕ = s.io in
      cases (is_in 4 d)
      (λ in4.
      let n : ℕ = (write_data_call d io src).count in
      let within : n ≤ d.left.0 = write_most d io t.whole src in4 in
      put_in (write_data_call d io src).device (write_data_call d io src).bytes (write_keeps d io src) (write_whole d io t.whole src) in4 _ (take n src)
      (write_unread d io t.whole src in4 ∙ ap (λ (l : List ℕ). unread_in s ++ l) (take-take n d.left.0 src within)) d.state refl t.phase)
      (λ elsewhere. rw (data_elsewhere 4 d io io _ t.whole elsewhere) (unchanged _ Kept [] false))

  write_all_steps : (src : List ℕ) → StepsBy w p got put (write_all src) s
  unfolding shows served is_poll accepts is_status
  write_all_steps src =
      let d : Device = s.device in
      let io : List ℕ = s.io in
      let o : Moving = write_data_all_call d io src in
      cases (is_in 4 d)
      (λ in4.
      let counted : o.count ≡ cond (lacks_room (length src) (buffer_of d io)) 0 (length src) = (write_all_answer d io t.whole src in4).1 in
      put_in o.device o.bytes (write_all_keeps d io src) (write_all_whole d io t.whole src) in4 _ (take o.count src)
      (write_all_unread d io t.whole src in4 ∙ cases (lacks_room (length src) (buffer_of d io)) (λ full. rw (counted, full) (sym (append-nil (unread_in s)))) (λ room. rw (counted, room, take-length))) d.state refl t.phase)
      (λ elsewhere. rw (data_elsewhere 4 d io io _ t.whole elsewhere) (unchanged _ Kept [] false))

-- This holds for every event but a reset.
pub event_steps : (w : Wrapper) (p : ℕ) (got put : List ℕ) → length put ≤ w.length → (s : Socket) → Transfer w p got put s → 0 < due s → (e : Event) → is_reset e ≡ false → StepsBy w p got put e s
unfolding is_reset shows served is_poll accepts is_status
event_steps w p got put few s t unfinished (poll g) kept = poll_steps w p got put few s t g unfinished
event_steps w p got put few s t unfinished (status f) kept = status_steps w p got put s t f
event_steps w p got put few s t unfinished (write src) kept = write_steps w p got put s t src
event_steps w p got put few s t unfinished (write_all src) kept = write_all_steps w p got put s t src
event_steps w p got put few s t unfinished (read dst) kept = read_steps w p got put s t dst
event_steps w p got put few s t unfinished reset kept = absurd (clash kept)
event_steps w p got put few s t unfinished (control q) kept = control_steps w p got put s t q kept
event_steps w p got put few s t unfinished command kept = unchanged w p got put s t _ _ _ false
event_steps w p got put few s t unfinished (command_step extended) kept = unchanged w p got put s t _ _ _ false
event_steps w p got put few s t unfinished mislent kept = unchanged w p got put s t _ _ _ false

-- While the wrapper arrives: as long as fewer than 31 bytes have come, nothing is sent and nothing is put in, whatever happens. Assumes
-- nothing.
use mathlib.Core.Path.{◌≡◌, refl, sym, ap, ◌∙◌}
use mathlib.Core.Bool.{true, false}
use mathlib.Core.List.{List, [], ◌∷◌, ◌++◌, append_assoc, append-nil, flatten}
use Prim.Native.Nat.{ℕ, ◌<◌}
use native.Mathlib.Omega.{arith}
use lib.Dec.{eqb}
use lib.ListN.{length, length-append}
use Rattle.fields.proofs.Bools.{clash}
use Rattle.buffer.specs.Buffer.{unread_bytes}
use Rattle.answers.specs.declared.Stalls.{Stalls}
use Rattle.answers.specs.declared.Stalls.TheVariants.{Kept}
use Rattle.answers.specs.Answers.{Answering, answer}
use Rattle.ring.specs.declared.State.TheVariants.{CommandTransfer, StatusTransfer}
use Rattle.ring.specs.States.{state_number}
use Rattle.device.specs.declared.Device.{Device}
use Rattle.bbb.specs.Poll.{Given, Polling, Point, ends, poll_rule, Fits, refusing, poll_call}
use Rattle.bbb.proofs.Keeping.{by_call, call_whole, call_sizes, packet_is}
use Rattle.bbb.proofs.After.{buffer_after, arrived, read_unread}
use Rattle.calls.specs.Checks.{is_in}
use Rattle.calls.specs.Status.{Stating, takes_status}
use Rattle.calls.specs.Bus.{Handling, handling_of_reset}
use Rattle.calls.proofs.After.{by_status, data_elsewhere, reset_done, by_request}
use Rattle.readout.specs.History.{Socket, Event, poll, status, write, write_all, read, reset, control, command, command_step, mislent, Shows, quietly, of_status, of_bus, shows, next, history_of, reached, all, sent_in, put_in, taken_in, first_packet_of, arrived_in}
use Rattle.readout.specs.Demand.{waits_in}
use Rattle.readout.proofs.Rules.{bytes_of, packets_of}
use Rattle.readout.proofs.Waiting.{Arriving, waits_by, apart, From, from_count, Reads, idle, short, ripe, ripe_first, by_reading}

-- What an event that shows `o` does to a device that waits for a wrapper of which the bytes `m` have come.
record Arrives (p : ℕ) (m : List ℕ) (o : Shows) : Type 0 where
  arriving : Arriving p (m ++ first_packet_of o.taken) o.socket
  sent : o.sent ≡ []
  put : o.put ≡ []
  alone : flatten o.taken ≡ first_packet_of o.taken

module _ (p : ℕ) (m : List ℕ) (s : Socket) (a : Arriving p m s) where
  -- ---- polls

  module _ (g : Given) where
    -- Where a poll whose outcome is `o` leaves the device.
    record Shown (o : Polling) : Type 0 where
      state : waits_in o.device.state ≡ true
      none_in_3 : o.device.state ≡ StatusTransfer → m ++ first_packet_of (packets_of g o) ≡ []
      unread : unread_bytes (buffer_after o) ≡ m ++ first_packet_of (packets_of g o)
      sent : bytes_of o ≡ []
      alone : flatten (packets_of g o) ≡ first_packet_of (packets_of g o)

    shown_in_0 : (o : Polling) → o.device.state ≡ CommandTransfer → unread_bytes (buffer_after o) ≡ m ++ first_packet_of (packets_of g o) → bytes_of o ≡ [] → flatten (packets_of g o) ≡ first_packet_of (packets_of g o) → Shown o
    shown_in_0 o e same none alone = record { state = rw e; none_in_3 = λ in3. absurd (apart e in3); unread = same; sent = none; alone = alone }

    module _ (x : Point) (f : From m g x) where
      shown : (o : Polling) → Reads g x o → length (m ++ first_packet_of (packets_of g o)) < 31 → Shown o
      unfolding flatten
      shown o (idle i) few =
          shown_in_0 o (ap (λ (d : Device). d.state) i.device ∙ f.state) (i.unread ∙ f.unread ∙ sym (rw (i.taken, f.taken) (append-nil m))) (rw i.sent) (rw (i.taken, f.taken))
      shown o (short room serving e under) few =
          rw e (shown_in_0 (ends g (arrived g x) (answer 0)) f.state (read_unread g x f.sound f.small room serving ∙ rw (f.unread, f.taken)) refl (rw f.taken (append-nil g.one)))
      shown o (ripe room serving e many) few =
          absurd (omega (arith, length-append m g.one, rw (ripe_first g x o e) at few, from_count f))

    rule_shown : Fits s.device.fixed.packetsize g.packet g.one g.two → length (m ++ first_packet_of (packets_of g (poll_rule s.device s.io g))) < 31 → Shown (poll_rule s.device s.io g)
    rule_shown fits few = by_reading p m s a g fits (λ x f r. shown x f (poll_rule s.device s.io g) r few)

    -- This is so for a poll, refused or not.
    poll_arrives : length (m ++ first_packet_of (shows (poll g) s).taken) < 31 → Arrives p m (shows (poll g) s)
    unfolding shows flatten
    poll_arrives few =
        let o : Polling = poll_call s.device s.io g in
        let refused : (n : ℕ) → length (m ++ []) < 31 → Shown (refusing s.device s.io g n) =
        λ n _. record { state = a.waits; none_in_3 = λ e. rw append-nil (a.none_in_3 e); unread = rw append-nil a.unread; sent = refl; alone = refl } in
        let here : Shown o = by_call s.device s.io g (λ (o : Polling). length (m ++ first_packet_of (packets_of g o)) < 31 → Shown o) (refused 10) (refused 11) (λ _. rule_shown) few in
        record {
          arriving = record {
            whole = call_whole s.device s.io g a.whole;
            packetsize = packet_is (call_sizes s.device s.io g).fixed ∙ a.packetsize;
            waits = here.state;
            unread = here.unread;
            none_in_3 = here.none_in_3;
          };
          sent = here.sent;
          put = refl;
          alone = here.alone;
        }

  -- ---- the other calls

  nothing_arrives : (x : Answering) (stalls : Stalls) (delivered : List ℕ) → Arrives p m (quietly s x stalls delivered)
  unfolding flatten
  nothing_arrives x stalls delivered = record { arriving = rw append-nil a; sent = refl; put = refl; alone = refl }

  -- Entering 0 keeps the bytes that came.
  reset_arrives : Arrives p m (of_bus s.io (handling_of_reset s.device))
  unfolding flatten handling_of_reset
  reset_arrives = record {
    arriving = record {
      whole = record { lent = a.whole.lent; created = a.whole.created; order = a.whole.order; within = a.whole.within; block = a.whole.block; lun = a.whole.lun; status = refl };
      packetsize = a.packetsize;
      waits = refl;
      unread = rw append-nil a.unread;
      none_in_3 = λ in3. absurd (apart refl in3);
    };
    sent = refl;
    put = refl;
    alone = refl;
  }

  -- The device is in no state in which a status or data is taken.
  elsewhere : (k : ℕ) → (eqb 0 k ≡ false) → (eqb 3 k ≡ false) → is_in k s.device ≡ false
  unfolding is_in
  elsewhere k a0 a3 = waits_by s.device.state a.waits (λ e. rw e a0) (λ e. rw e a3)

  no_status : takes_status (state_number s.device.state) ≡ false
  unfolding takes_status
  no_status = waits_by s.device.state a.waits (λ e. rw e) (λ e. rw e)

  event_arrives : (e : Event) → length (m ++ first_packet_of (shows e s).taken) < 31 → Arrives p m (shows e s)
  unfolding shows handling_of_reset
  event_arrives (poll g) few = poll_arrives g few
  event_arrives (status f) few = by_status s.device s.io f (λ (o : Stating). Arrives p m (of_status s.io o)) (nothing_arrives (answer 10) Kept []) (nothing_arrives (answer 12) Kept []) (λ takes _. absurd (clash (sym takes ∙ no_status)))
  event_arrives (write src) few = rw (data_elsewhere 4 s.device s.io s.io _ a.whole (elsewhere 4 refl refl)) (nothing_arrives _ Kept [])
  event_arrives (write_all src) few = rw (data_elsewhere 4 s.device s.io s.io _ a.whole (elsewhere 4 refl refl)) (nothing_arrives _ Kept [])
  event_arrives (read dst) few = rw (data_elsewhere 7 s.device s.io dst _ a.whole (elsewhere 7 refl refl)) (nothing_arrives _ Kept [])
  event_arrives reset few = rw (reset_done s.device s.io a.whole) reset_arrives
  event_arrives (control q) few = by_request s.device s.io q (λ (o : Handling). Arrives p m (of_bus s.io o)) (λ x bytes. nothing_arrives x Kept bytes) (λ _ _. reset_arrives)
  event_arrives command few = nothing_arrives _ _ _
  event_arrives (command_step extended) few = nothing_arrives _ _ _
  event_arrives mislent few = nothing_arrives _ _ _

-- ---- a history

-- The same for a history `h` that starts at the socket `s`.
pub record Arrived (p : ℕ) (m : List ℕ) (h : List Event) (s : Socket) : Type 0 where
  pub arriving : Arriving p (m ++ arrived_in (history_of h s)) (reached (history_of h s) s)
  pub sent : sent_in (history_of h s) ≡ []
  pub put : put_in (history_of h s) ≡ []
  pub alone : taken_in (history_of h s) ≡ arrived_in (history_of h s)

-- It holds while fewer than 31 bytes have come.
pub history_arrives : (p : ℕ) (h : List Event) (m : List ℕ) (s : Socket) → Arriving p m s → length (m ++ arrived_in (history_of h s)) < 31 → Arrived p m h s
unfolding all
history_arrives p [] m s a few = record { arriving = rw append-nil a; sent = refl; put = refl; alone = refl }
history_arrives p (e ∷ h) m s a few =
    let ys : List ℕ = first_packet_of (shows e s).taken in
    let zs : List ℕ = arrived_in (history_of h (next e s)) in
    let first : Arrives p m (shows e s) = event_arrives p m s a e (omega (arith, length-append m (ys ++ zs), length-append ys zs, length-append m ys)) in
    let rest : Arrived p (m ++ ys) h (next e s) = history_arrives p h (m ++ ys) (next e s) first.arriving (rw append_assoc few) in
    record { arriving = rw (← append_assoc m ys zs) rest.arriving; sent = rw (first.sent, rest.sent); put = rw (first.put, rest.put); alone = rw (first.alone, rest.alone) }

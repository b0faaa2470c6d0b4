-- The poll that completes a valid wrapper starts its transfer: nothing was sent or put in for it before, and a status is taken then.
-- Assumes nothing.
use mathlib.Core.Path.{◌≡◌, refl, sym, ap, ◌∙◌, subst}
use mathlib.Core.Bool.{true, false}
use mathlib.Core.List.{List, [], ◌++◌, flatten}
use Prim.Native.Nat.{ℕ, ◌+◌, ◌-◌, ◌≤◌, ◌<◌, zero-le}
use native.Mathlib.Nat.{add-zero}
use native.Mathlib.Omega.{arith}
use lib.ListN.{length, take, drop, length-append, drop_of_length-le}
use lib.Seq.{take_all}
use Rattle.std.specs.Prelude.{Option}
use Rattle.fields.proofs.Bools.{clash}
use Rattle.buffer.specs.Buffer.{unread, unread_bytes, lacks_room}
use Rattle.buffer.proofs.Kept.{length_unread}
use Rattle.answers.specs.Answers.{serves}
use Rattle.ring.specs.declared.State.{State}
use Rattle.ring.specs.States.{state_number, by_direction}
use Rattle.wrapper.specs.declared.DataDirection.{DataDirection}
use Rattle.wrapper.specs.declared.DataDirection.TheVariants.{Out, In, NotExpected}
use Rattle.wrapper.specs.declared.Wrapper.{Wrapper}
use Rattle.wrapper.specs.Wrapper.{Valid, wrapper_of}
use Rattle.wrapper.proofs.Cbw.{valid_is, no_data_only}
use Rattle.device.specs.declared.Told.{Told}
use Rattle.device.specs.Device.{numbers_of, is_present}
use Rattle.device.specs.Broken.{status_fits, Whole}
use Rattle.bbb.specs.Poll.{Given, Polling, Point, buffer_of_point, no_data_rule, to_host_rule, from_host_rule, starting, start_rule, message_at, parsing, parse_rule, refusing, poll_rule, poll_call}
use Rattle.bbb.proofs.Keeping.{Follows, follows_received, follows_31, by_call, call_whole, call_sizes, packet_is}
use Rattle.bbb.proofs.After.{P, first_for, arrived, read_unread, parse_message, parse_rest, parse_valid}
use Rattle.calls.specs.Status.{takes_status}
use Rattle.readout.specs.History.{Socket, poll, Shows, shows, first_packet_of}
use Rattle.readout.proofs.Transfer.{Phase, to_host, waiting, to_host_ending, from_host, from_host_ending, sending, Transfer}
use Rattle.readout.proofs.Rules.{bytes_of, packets_of, poll_long, owing, Fit, Leads, leads_await, leads_to, leads_from}
use Rattle.readout.proofs.Waiting.{Arriving, From, from_count, Reads, idle, short, ripe, ripe_first, by_reading}

-- Without a status the device is in a state in which one is taken.
absent_takes : {w : Wrapper} {got put : List ℕ} {σ : State} {st : Option Told} {left : ℕ} {xs : List ℕ} → Phase w got put σ st left xs → is_present st ≡ false → status_fits σ (is_present st) ≡ true → takes_status (state_number σ) ≡ true
unfolding takes_status
absent_takes (to_host e dir same sum) absent fits = rw e
absent_takes (waiting e none all) absent fits = rw e
absent_takes (to_host_ending e dir all few) absent fits = absurd (clash (sym (rw (e, absent) at fits)))
absent_takes (from_host e dir none) absent fits = rw e
absent_takes (from_host_ending e dir none) absent fits = absurd (clash (sym (rw (e, absent) at fits)))
absent_takes (sending t e here all) absent fits = absurd (clash (sym (rw (e, absent) at fits)))

-- ---- after the packet that completed it

-- The wrapper is that of the message `msg`, at a point `y` where nothing is unread and no status is present.
module _ (msg : List ℕ) (g : Given) (y : Point) (fit : Fit (wrapper_of msg) (starting (wrapper_of msg) y)) (none : unread_bytes (buffer_of_point y) ≡ []) (absent : is_present y.device.status ≡ false) (once : y.taken ≤ 1) (small : length g.one ≤ P y) where
  abbrev w : Wrapper
  w = wrapper_of msg

  abbrev z : Point
  z = starting (wrapper_of msg) y

  abbrev Starts : Polling → Type 0
  Starts o = length (bytes_of o) ≡ o.sent → Leads w [] [] g y.taken (P y) y.device.status w.length (owing z) o

  start_by : (q : DataDirection) → w.direction ≡ q → Starts (by_direction q (from_host_rule g z) (to_host_rule g z) (no_data_rule g z))
  unfolding no_data_rule wrapper_of
  start_by Out e = leads_from w [] [] g z fit e refl (λ present. absurd (clash (sym present ∙ absent))) once small
  start_by In e = leads_to w [] [] g z fit e none (add-zero _) zero-le
  start_by NotExpected e = leads_await w [] [] g z fit (no_data_only w.length _ e) (rw e)

  leads_start : Starts (start_rule w g y)
  unfolding start_rule
  leads_start = start_by w.direction refl

-- ---- the poll

-- A transfer has begun with the poll that shows `o`: what was sent and put in for it so far, and what is left.
pub record Opened (p : ℕ) (msg : List ℕ) (o : Shows) : Type 0 where
  pub transfer : Transfer (wrapper_of msg) p o.sent o.put o.socket
  pub takes : takes_status (state_number o.socket.device.state) ≡ true
  pub wire : o.socket.device.left.0 ≡ (wrapper_of msg).length - (length o.sent + length (flatten (drop 1 o.taken)))

module _ (m : List ℕ) (g : Given) where
  -- Where a poll leads that completes a message.
  record Begins (o : Polling) : Type 0 where
    n : ℕ
    p : ℕ
    status : Option Told
    absent : is_present status ≡ false
    leads : Leads (wrapper_of (m ++ first_packet_of (packets_of g o))) [] [] g 1 p status (wrapper_of (m ++ first_packet_of (packets_of g o))).length n o

  module _ (x : Point) (f : From m g x) (few : length m < 31) where
    module _ (room : lacks_room (P x) (buffer_of_point x) ≡ false) (serving : serves (first_for g) ≡ true) (valid : Valid (m ++ g.one)) where
      abbrev y : Point
      y = parsing (arrived g x)

      came : unread_bytes (buffer_of_point (arrived g x)) ≡ m ++ g.one
      came = read_unread g x f.sound f.small room serving ∙ ap (λ (l : List ℕ). l ++ g.one) f.unread

      arrived_follows : Follows (buffer_of_point (arrived g x)) (buffer_of_point x)
      arrived_follows = follows_received (P x) (first_for g) g.one (buffer_of_point x) f.sound

      thirty_one : unread (buffer_of_point (arrived g x)) ≡ 31
      thirty_one = sym (length_unread (buffer_of_point (arrived g x)) arrived_follows.sound) ∙ ap length came ∙ valid.whole

      read_message : message_at (buffer_of_point (arrived g x)) ≡ m ++ g.one
      read_message = parse_message (buffer_of_point (arrived g x)) (omega (arith, thirty_one)) ∙ ap (take 31) came ∙ take_all 31 (m ++ g.one) (omega (arith, valid.whole))

      nothing_behind : unread_bytes (buffer_of_point y) ≡ []
      nothing_behind =
          parse_rest (buffer_of_point (arrived g x)) (omega (arith, thirty_one)) arrived_follows.sound
          ∙ ap (drop 31) came ∙ drop_of_length-le (m ++ g.one) {i = 31} (omega (arith, valid.whole))

      fit : Fit (wrapper_of (m ++ g.one)) (starting (wrapper_of (m ++ g.one)) y)
      fit = record {
        sound = (follows_31 (buffer_of_point (arrived g x)) arrived_follows.sound (omega (arith, thirty_one))).sound;
        some = f.some;
        packet = rw arrived_follows.long f.packet;
        status = rw arrived_follows.long (omega (arith, f.wide));
        wrapper = refl;
      }

      parsed : parse_rule g (arrived g x) ≡ start_rule (wrapper_of (m ++ g.one)) g y
      parsed = parse_valid g (arrived g x) (rw read_message (valid_is (m ++ g.one) valid)) ∙ rw read_message

    begins : (o : Polling) → Reads g x o → length (bytes_of o) ≡ o.sent → Valid (m ++ first_packet_of (packets_of g o)) → Begins o
    begins o (idle i) long valid = absurd (omega (arith, length-append m [], (rw (i.taken, f.taken) at valid).whole))
    begins o (short room serving e under) long valid = absurd (omega (arith, length-append m g.one, (rw (e, f.taken) at valid).whole, from_count f))
    begins o (ripe room serving e many) long valid =
        let it : first_packet_of (packets_of g o) ≡ g.one = ripe_first g x o e in
        let v : Valid (m ++ g.one) = rw it at valid in
        let w : Wrapper = wrapper_of (m ++ g.one) in
        let z : Point = y room serving v in
        let second : z.taken ≡ 1 = ap (λ (k : ℕ). k + 1) f.taken in
        record {
          n = owing (starting w z);
          p = P x;
          status = x.device.status;
          absent = f.absent;
          leads = rw (it, e, parsed room serving v) (subst (λ (k : ℕ). Leads w [] [] g k (P x) x.device.status w.length (owing (starting w z)) (start_rule w g z)) second
              (leads_start (m ++ g.one) g z (fit room serving v) (nothing_behind room serving v) f.absent (omega arith) f.small (rw (e, parsed room serving v) at long)));
        }

module _ (p : ℕ) (m : List ℕ) (s : Socket) (a : Arriving p m s) (few : length m < 31) (g : Given) where
  -- A refusal completes nothing.
  none_begins : (n : ℕ) → Valid (m ++ []) → Begins m g (refusing s.device s.io g n)
  none_begins n valid = absurd (omega (arith, length-append m [], valid.whole))

  call_begins : Valid (m ++ first_packet_of (packets_of g (poll_call s.device s.io g))) → Begins m g (poll_call s.device s.io g)
  call_begins =
      by_call s.device s.io g (λ (o : Polling). Valid (m ++ first_packet_of (packets_of g o)) → Begins m g o) (none_begins 10) (none_begins 11)
      (λ whole fits. by_reading p m s a g fits (λ x f r. begins m g x f few (poll_rule s.device s.io g) r (poll_long s.device s.io g whole fits)))

  pub opens : Valid (m ++ first_packet_of (shows (poll g) s).taken) → Opened p (m ++ first_packet_of (shows (poll g) s).taken) (shows (poll g) s)
  unfolding shows
  opens valid =
      let b : Begins m g (poll_call s.device s.io g) = call_begins valid in
      let whole : Whole (numbers_of (poll_call s.device s.io g).device) (length (poll_call s.device s.io g).io) = call_whole s.device s.io g a.whole in
      let takes : takes_status (state_number (poll_call s.device s.io g).device.state) ≡ true = absent_takes b.leads.phase (rw b.leads.status b.absent) whole.status in
      record {
        transfer = record { whole = whole; packetsize = packet_is (call_sizes s.device s.io g).fixed ∙ a.packetsize; wrapper = b.leads.wrapper; phase = b.leads.phase };
        takes = takes;
        wire = b.leads.wire takes;
      }

-- Request 7 of document 02: the account of a read-out.
--     carried    from any whole record in 4 or 6, through every history that stays there
--     begins     the poll that parses the wrapper starts the count at 0, and leaves nothing unread
--     account    the two together; starts_whole: its record is not broken
-- Assumes nothing.
use mathlib.Core.Path.{◌≡◌, refl, sym, ap, ◌∙◌, subst}
use mathlib.Core.Bool.{true, false, not}
use mathlib.Core.List.{List, [], ◌∷◌, ◌++◌}
use Prim.Native.Nat.{ℕ, ◌+◌, ◌≤◌, min, zero-le}
use native.Mathlib.Nat.{zero-add}
use native.Mathlib.Omega.{arith}
use lib.Dec.{eqb}
use lib.ListN.{length, length-append, drop_of_length-le}
use borrow.Author.Tests.{eqb-true}
use borrow.Table.Steps.{cases}
use Rattle.fields.proofs.Bools.{of_picked, clash}
use Rattle.fields.proofs.Seq.{none_of}
use Rattle.buffer.specs.Buffer.{unread, unread_bytes}
use Rattle.buffer.specs.Inner.Buffer.{Sound}
use Rattle.buffer.proofs.Kept.{length_unread}
use Rattle.ring.specs.declared.State.{State}
use Rattle.ring.specs.declared.State.TheVariants.{StatusTransfer}
use Rattle.wrapper.specs.declared.counters.PutIn.{PutIn}
use Rattle.wrapper.specs.Counters.{risen}
use Rattle.wrapper.specs.Wrapper.{is_valid, wrapper_of}
use Rattle.device.specs.declared.Device.{Device}
use Rattle.device.specs.Device.{numbers_of, is_present}
use Rattle.device.specs.Broken.{is_whole}
use Rattle.device.proofs.Wholly.{is_whole_lem, whole_sound}
use Rattle.bbb.specs.Poll.{Given, Polling, Point, point, buffer_of_point, send_by, send, take_by, take_data, no_data_rule, to_host_rule, from_host_ending_rule, from_host_rule, starting, start_rule, message_at, parsing, parse_rule, status_transfer_rule, rule_in, poll_rule, Fits, poll_call}
use Rattle.bbb.proofs.Keeping.{Follows, follows_received, follows_31, by_call, by_direction_lem}
use Rattle.bbb.proofs.After.{P, buffer_after, first_for, arrived, read_unread, parse_rest, parse_valid, parse_invalid}
use Rattle.calls.specs.Checks.{buffer_of}
use Rattle.readout.specs.History.{Socket, Event, poll, Shows, shows, next, history_of, reached, all, sent_in, put_in, first_packet_of, Throughout, ByValue, Faithful, is_poll}
use Rattle.readout.specs.Demand.{waits_in}
use Rattle.readout.specs.Account.{Readout, all_since, readout_of, reached_by, count_since, put_in_since, sent_since, unread_at, comes_to6, is_refusal, filled_by, filled_in, filled_since, is_to_host, Lasts, SupposedReadout, Account}
use Rattle.readout.proofs.Transfer.{unread_in}
use Rattle.readout.proofs.Rules.{bytes_of, packets_of}
use Rattle.readout.proofs.Waiting.{waits_by, apart, From, Reads, idle, short, ripe, ripe_first, by_reading}
use Rattle.readout.proofs.Histories.{throughout_map, events, replayed}
use Rattle.readout.proofs.Keeping.{WholeIn, refused, stays_whole}
use Rattle.readout.proofs.Flow.{await_leaves, enter_leaves, to_goes, Flows, event_flows}

-- ---- through a history

-- What a history `h` leaves that starts at the socket `s`.
pub record Carried (h : List Event) (s : Socket) : Type 0 where
  pub whole : WholeIn (reached (history_of h s) s)
  pub flow : length (unread_in (reached (history_of h s) s)) + length (sent_in (history_of h s)) ≡ length (unread_in s) + length (put_in (history_of h s)) + filled_in (history_of h s) s
  pub count : (reached (history_of h s) s).device.putin ≡ risen s.device.putin (length (put_in (history_of h s)))

risen_none : (c : PutIn) → c.0 ≤ 4294967295 → c ≡ risen c 0
unfolding risen
risen_none c h = ap (λ (n : ℕ). record { 0 = n }) (omega arith)

risen_twice : (c : PutIn) (a b : ℕ) → risen (risen c a) b ≡ risen c (a + b)
unfolding risen
risen_twice c a b = ap (λ (n : ℕ). record { 0 = n }) (omega arith)

risen_stored : (c : PutIn) (n : ℕ) → (risen c n).0 ≤ 4294967295
unfolding risen
risen_stored c n = omega arith

pub carried : (h : List Event) (s : Socket) → WholeIn s → is_to_host s.device.state ≡ true → s.device.putin.0 ≤ 4294967295 → Throughout Lasts (history_of h s) s → Carried h s
unfolding all filled_in
carried [] s w in46 stored _ = record { whole = w; flow = omega arith; count = risen_none s.device.putin stored }
carried (e ∷ h) s w in46 stored (lasts, rest) =
    let f : Flows s (filled_by e s (shows e s)) (shows e s) = event_flows s w in46 stored e lasts in
    let more : Carried h (next e s) = carried h (next e s) (stays_whole e s w) lasts (rw f.count (risen_stored s.device.putin (length (shows e s).put))) rest in
    record {
      whole = more.whole;
      flow = omega (arith, f.flow, more.flow, length-append (shows e s).sent (sent_in (history_of h (next e s))), length-append (shows e s).put (put_in (history_of h (next e s))));
      count = more.count ∙ rw f.count (risen_twice s.device.putin (length (shows e s).put) (length (put_in (history_of h (next e s))))) ∙ ap (risen s.device.putin) (sym (length-append (shows e s).put (put_in (history_of h (next e s)))));
    }

-- ---- the poll that parses the wrapper

-- Such a poll leaves nothing unread that it did not send, and nothing counts as put in.
record Begun (o : Polling) : Type 0 where
  flow : length (unread_bytes (buffer_after o)) + length (bytes_of o) ≡ 0
  count : o.device.putin ≡ record { 0 = 0 }

-- It ends in 4 or 6.
abbrev Begins : Polling → Type 0
Begins o = is_to_host o.device.state ≡ true → Begun o

-- A device that waits is in neither.
waits_not : (σ : State) → waits_in σ ≡ true → is_to_host σ ≡ true → ⊥
waits_not σ waits h = waits_by σ waits (λ e. clash (sym (rw e at h))) (λ e. clash (sym (rw e at h)))

from_leaves : (g : Given) (x : Point) → is_to_host (from_host_rule g x).device.state ≡ true → ⊥
unfolding from_host_rule from_host_ending_rule take_data take_by
from_leaves g x =
    let Not : Polling → Type 0 = λ (o : Polling). is_to_host o.device.state ≡ true → ⊥ in
    of_picked Not (eqb x.device.left.0 0) (λ _. await_leaves g x)
    (λ _. of_picked Not (is_present x.device.status)
    (λ _. of_picked Not (eqb x.device.left.0 0) (λ _. enter_leaves g x) (λ _ h. clash (sym h)))
    (λ _ h. clash (sym h)))

-- The message is parsed at the point `y`, where its bytes are all that is unread.
module _ (g : Given) (y : Point) (sound : Sound (buffer_of_point y)) (wide : P y ≤ length y.io) (absent : is_present y.device.status ≡ false) (all-of-it : length (unread_bytes (buffer_of_point y)) ≡ 31) where
  abbrev message : List ℕ
  message = message_at (buffer_of_point y)

  abbrev begun : Point
  begun = starting (wrapper_of message) (parsing y)

  thirty_one : unread (buffer_of_point y) ≡ 31
  thirty_one = sym (length_unread (buffer_of_point y) sound) ∙ all-of-it

  nothing_behind : length (unread_bytes (buffer_of_point begun)) ≡ 0
  nothing_behind =
      ap length (parse_rest (buffer_of_point y) (omega (arith, thirty_one)) sound ∙ drop_of_length-le (unread_bytes (buffer_of_point y)) {i = 31} (omega (arith, all-of-it)))

  to_begins : Begins (to_host_rule g begun)
  to_begins lasts =
      let m = to_goes g begun (follows_31 (buffer_of_point y) sound (omega (arith, thirty_one))).sound wide lasts in
      record { flow = rw (absent, nothing_behind) at m.flow; count = m.count }

  start_begins : Begins (start_rule (wrapper_of message) g (parsing y))
  unfolding start_rule no_data_rule
  start_begins =
      by_direction_lem Begins (wrapper_of message).direction
      (λ lasts. absurd (from_leaves g begun lasts)) to_begins (λ lasts. absurd (await_leaves g begun lasts))

  parse_begins : Begins (parse_rule g y)
  parse_begins =
      cases (is_valid message)
      (λ valid. rw (parse_valid g y valid) start_begins)
      (λ invalid. rw (parse_invalid g y invalid) (λ lasts. absurd (clash (sym lasts))))

module _ (g : Given) (m : List ℕ) (x : Point) (f : From m g x) where
  follows : Follows (buffer_of_point (arrived g x)) (buffer_of_point x)
  follows = follows_received (P x) (first_for g) g.one (buffer_of_point x) f.sound

  read_begins : (o : Polling) → Reads g x o → length (m ++ first_packet_of (packets_of g o)) ≡ 31 → Begins o
  read_begins o (idle i) all-of-it lasts = absurd (clash (sym (rw (ap (λ (d : Device). d.state) i.device ∙ f.state) at lasts)))
  read_begins o (short room serving e few) all-of-it lasts = absurd (clash (sym (rw (e, f.state) at lasts)))
  read_begins o (ripe room serving e many) all-of-it lasts =
      let came : unread_bytes (buffer_of_point (arrived g x)) ≡ m ++ g.one = read_unread g x f.sound f.small room serving ∙ ap (λ (l : List ℕ). l ++ g.one) f.unread in
      rw e (parse_begins g (arrived g x) follows.sound (rw follows.long f.packet) f.absent (ap length came ∙ rw (ripe_first g x o e) at all-of-it) (rw e at lasts))

module _ (s : Socket) (g : Given) (waits : waits_in s.device.state ≡ true) where
  abbrev start : Point
  start = point s.device s.io 0 false

  -- In 3, with something unread, the poll stays in 3.
  sends_in_3 : s.device.state ≡ StatusTransfer → eqb (unread (buffer_of_point start)) 0 ≡ false → is_to_host (poll_rule s.device s.io g).device.state ≡ true → ⊥
  unfolding poll_rule rule_in status_transfer_rule send send_by
  sends_in_3 e some = subst (λ (σ : State). is_to_host (rule_in σ g start).device.state ≡ true → ⊥) (sym e) (λ h. clash (sym (rw (some, e) at h)))

  rule_begins : WholeIn s → Fits s.device.fixed.packetsize g.packet g.one g.two → length (unread_in s ++ first_packet_of (packets_of g (poll_rule s.device s.io g))) ≡ 31 → Begins (poll_rule s.device s.io g)
  rule_begins w fits all-of-it =
      let reading : (s.device.state ≡ StatusTransfer → unread_in s ≡ []) → Begins (poll_rule s.device s.io g) =
      λ none. by_reading s.device.fixed.packetsize (unread_in s) s (record { whole = w; packetsize = refl; waits = waits; unread = refl; none_in_3 = none }) g fits
      (λ x f r. read_begins g (unread_in s) x f (poll_rule s.device s.io g) r all-of-it) in
      waits_by s.device.state waits
      (λ in0. reading (λ in3. absurd (apart in0 in3)))
      (λ in3. cases (eqb (unread (buffer_of_point start)) 0)
      (λ none. reading (λ _. none_of (unread_in s) (length_unread (buffer_of_point start) (whole_sound (numbers_of s.device) s.io w) ∙ eqb-true _ _ none)))
      (λ some lasts. absurd (sends_in_3 in3 some lasts)))

  -- A refused poll leaves the device waiting.
  call_begins : length (unread_in s ++ first_packet_of (packets_of g (poll_call s.device s.io g))) ≡ 31 → is_to_host (poll_call s.device s.io g).device.state ≡ true → WholeIn s × Begun (poll_call s.device s.io g)
  call_begins =
      by_call s.device s.io g (λ (o : Polling). length (unread_in s ++ first_packet_of (packets_of g o)) ≡ 31 → is_to_host o.device.state ≡ true → WholeIn s × Begun o)
      (λ _ lasts. absurd (waits_not s.device.state waits lasts)) (λ _ lasts. absurd (waits_not s.device.state waits lasts))
      (λ w fits all-of-it lasts. (w, rule_begins w fits all-of-it lasts))

  -- Such a poll fills nothing in.
  comes_not : comes_to6 s ≡ false
  comes_not = waits_by s.device.state waits (λ e. rw e) (λ e. rw e)

  none_filled : filled_by (poll g) s (shows (poll g) s) ≡ 0
  unfolding filled_by is_poll
  none_filled = rw comes_not (cases (not (is_refusal (shows (poll g) s).answer)) (λ e. rw e) (λ e. rw e))

-- ---- the account

-- A read-out that is computed from its events.
module _ (start : Socket) (completing : Given) (h : List Event) (u : SupposedReadout (readout_of start completing h)) where
  abbrev r : Readout
  r = readout_of start completing h

  abbrev after : Socket
  after = r.completed.socket

  abbrev first : Polling
  first = poll_call start.device start.io completing

  begins : WholeIn start × Begun first
  unfolding shows
  begins = call_begins start completing u.waits u.nothing u.lasts.0

  starts_at_0 : after.device.putin ≡ record { 0 = 0 }
  unfolding shows
  starts_at_0 = begins.1.count

  since : Carried h after
  since = carried h after (stays_whole (poll completing) start begins.0) u.lasts.0 (rw starts_at_0 zero-le) u.lasts.1

  -- The poll itself puts nothing in.
  put_since : put_in_since r ≡ length (put_in r.since)
  unfolding shows all
  put_since = refl

  sent_since_lem : sent_since r ≡ length (bytes_of first) + length (sent_in r.since)
  unfolding shows all
  sent_since_lem = length-append (bytes_of first) (sent_in r.since)

  filled_since_lem : filled_since r ≡ filled_in r.since after
  unfolding filled_in
  filled_since_lem = rw (none_filled start completing u.waits) (zero-add _)

  left_over : length (unread_in after) + length (bytes_of first) ≡ 0
  unfolding shows
  left_over = begins.1.flow

  counted : count_since r ≡ min (put_in_since r) 4294967295
  unfolding risen all
  counted = ap (λ (c : PutIn). c.0) since.count ∙ rw (starts_at_0, put_since) (ap (λ (n : ℕ). min n 4294967295) (zero-add _))

  flow : unread_at (reached_by r) + sent_since r ≡ put_in_since r + filled_since r
  flow = omega (arith, since.flow, left_over, put_since, sent_since_lem, filled_since_lem, length_unread (buffer_of (reached_by r).device (reached_by r).io) (whole_sound (numbers_of (reached_by r).device) (reached_by r).io since.whole))

  account_of : Account r
  account_of = record {
    counted = counted;
    flow = flow;
    less = λ c. omega (arith, counted, flow, c.unfilled, c.below);
    within = λ c. omega (arith, counted, flow, c.unfilled, c.below);
  }

-- A read-out that happened by value is that of its events.
readout_by : (r : Readout) (h : List Event) → r.completed ≡ shows (poll r.completing) r.start → r.since ≡ history_of h r.completed.socket → r ≡ readout_of r.start r.completing h
readout_by r h completes goes = rw (goes, completes)

-- A read-out starts with a whole record: a broken one would go on waiting.
pub starts_whole : (r : Readout) → ByValue (poll r.completing) r.start r.completed → SupposedReadout r → WholeIn r.start
starts_whole r completes u =
    cases (is_whole (numbers_of r.start.device) (length r.start.io)) (is_whole_lem _ _)
    (λ broken. absurd (waits_not r.start.device.state u.waits (subst (λ (s : Socket). is_to_host s.device.state ≡ true) (ap (λ (o : Shows). o.socket) completes ∙ (refused (poll r.completing) r.start broken).0) u.lasts.0)))

-- Every read-out that happened and meets what is supposed has its account.
pub account : (Does : Event → Socket → Shows → Type 0) → Faithful Does → (r : Readout) → Throughout Does (all_since r) r.start → SupposedReadout r → Account r
account Does faithful r happened =
    let (completes, goes) = throughout_map Does ByValue faithful (all_since r) r.start happened in
    let same : r ≡ readout_of r.start r.completing (events r.since) = readout_by r (events r.since) completes (replayed r.since r.completed.socket goes) in
    subst (λ (x : Readout). SupposedReadout x → Account x) (sym same) (account_of r.start r.completing (events r.since))

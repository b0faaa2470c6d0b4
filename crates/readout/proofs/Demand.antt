-- The mission's third demand is proved, for every story that happened and that meets its premises. It is proved first for a story that is
-- computed from its events; every story that happened is such a one. Assumes nothing.
use mathlib.Core.Path.{◌≡◌, refl, sym, ap, ap₂, ◌∙◌, subst}
use mathlib.Core.Bool.{true}
use mathlib.Core.List.{List, [], ◌∷◌, ◌++◌, append_assoc, append-nil, flatten}
use Prim.Native.Nat.{ℕ, ◌+◌, ◌-◌, ◌≤◌, ◌<◌}
use native.Mathlib.Omega.{arith}
use lib.ListN.{length, drop, length-append}
use lib.Seq.{drop_at}
use Rattle.std.specs.Prelude.{Some}
use Rattle.fields.proofs.Seq.{none_of}
use Rattle.buffer.proofs.Kept.{length_unread}
use Rattle.wrapper.specs.declared.DataDirection.{DataDirection}
use Rattle.wrapper.specs.declared.DataDirection.TheVariants.{Out, In, NotExpected}
use Rattle.wrapper.specs.declared.Wrapper.{Wrapper}
use Rattle.wrapper.specs.Counters.{residue_of}
use Rattle.wrapper.specs.Status.{status_of_number}
use Rattle.wrapper.proofs.Csw.{length_status}
use Rattle.wrapper.proofs.Numbers.{status_number_lem}
use Rattle.device.specs.declared.Device.{Device}
use Rattle.device.specs.Device.{numbers_of, told}
use Rattle.device.proofs.Wholly.{whole_sound, packet_known, packet_bounds}
use Rattle.bbb.specs.Poll.{Given}
use Rattle.calls.specs.Checks.{buffer_of}
use Rattle.calls.specs.Status.{with_figure, set_status_call}
use Rattle.calls.proofs.After.{Accepted, status_accepted}
use Rattle.readout.specs.History.{Socket, Event, poll, status, Shows, shows, next, did, history_of, reached, all, sent_in, put_in, taken_in, first_packet_of, arrived_in, ByValue, Faithful, is_served, is_poll, served, is_reset, is_status, accepts}
use Rattle.readout.specs.Demand.{Story, to_status, history, Happened, after_wrapper, before_status, after_status, ended, message, wrapper, L, P, R, host, firmware, served_since, crossed, Between, Later, Supposed, polls_due, data_of, the_data, the_status, NotYet, Ends, Demand, Script, played}
use Rattle.readout.proofs.Filled.{length_filled}
use Rattle.readout.proofs.Transfer.{Transfer, unread_in, due}
use Rattle.readout.proofs.Steps.{StepsBy, event_steps}
use Rattle.readout.proofs.Histories.{reached_append, all_append, throughout_parts, throughout_map, events, replayed}
use Rattle.readout.proofs.Carried.{takes_due, some_due, Before, before, After, after}
use Rattle.readout.proofs.Waiting.{Arriving}
use Rattle.readout.proofs.Arrival.{Arrived, history_arrives}
use Rattle.readout.proofs.Opening.{Opened, opens}
use Rattle.readout.proofs.Willing.{willing_served}
use Rattle.readout.proofs.Owed.{bytes_for, Owes, owes, Rests, rests}

-- ---- the wrapper

-- How many bytes of data the host gets.
abbrev pub data_length : DataDirection → ℕ → ℕ
data_length Out l = 0
data_length In l = l
data_length NotExpected l = 0

pub waits_arriving : (s : Socket) → Between s → Arriving s.device.fixed.packetsize [] s
waits_arriving s b = record {
  whole = b.whole;
  packetsize = refl;
  waits = b.waits;
  unread = none_of (unread_in s) (length_unread (buffer_of s.device s.io) (whole_sound (numbers_of s.device) s.io b.whole) ∙ b.nothing);
  none_in_3 = λ _. refl;
}

-- The length of all packets is that of the first packet and that of the others.
first_rest : (packets : List (List ℕ)) → length (flatten packets) ≡ length (first_packet_of packets) + length (flatten (drop 1 packets))
unfolding flatten
first_rest [] = refl
first_rest (packet ∷ packets) = length-append packet (flatten packets)

-- ---- a story

-- A poll puts nothing in.
poll_puts : (g : Given) (s : Socket) → (shows (poll g) s).put ≡ []
unfolding shows
poll_puts g s = refl

module _ (p : Script) (u : Supposed (played p)) where
  abbrev t : Story
  t = played p

  came : Arrived (P t) [] p.arrival p.start
  came = history_arrives (P t) p.arrival [] p.start (waits_arriving p.start u.between) u.unfinished

  -- The poll that takes the last packet of the wrapper.
  opened : Opened (P t) (message t) t.completed
  opened = opens (P t) (arrived_in t.arrival) (reached t.arrival t.start) came.arriving u.unfinished t.completing u.valid

  -- Nothing was sent or put in before it.
  sent_before : sent_in (to_status t) ≡ t.completed.sent ++ sent_in t.before
  unfolding all
  sent_before = all_append (λ (o : Shows). o.sent) t.arrival _ ∙ rw came.sent

  put_before : put_in (to_status t) ≡ t.completed.put ++ put_in t.before
  unfolding all
  put_before = all_append (λ (o : Shows). o.put) t.arrival _ ∙ rw came.put

  -- ---- its status

  earlier_put : firmware t ≡ put_in (to_status t) ++ (t.stated.put ++ put_in t.after)
  unfolding all
  earlier_put = all_append (λ (o : Shows). o.put) (to_status t) (did (status t.last_status) t.stated ∷ t.after)

  few_before : length (put_in (to_status t)) ≤ L t
  few_before = omega (arith, u.few, ap length earlier_put, length-append (put_in (to_status t)) (t.stated.put ++ put_in t.after))

  met_before : Before (wrapper t) (P t) t.completed.sent t.completed.put p.before (after_wrapper t)
  met_before = before (wrapper t) (P t) p.before (after_wrapper t) _ _ opened.transfer opened.takes u.earlier (rw put_before at few_before)

  arrived_there : Transfer (wrapper t) (P t) (sent_in (to_status t)) (put_in (to_status t)) (before_status t)
  arrived_there = rw (sent_before, put_before) met_before.transfer

  here : Accepted (before_status t).device t.last_status (set_status_call (before_status t).device (before_status t).io t.last_status)
  unfolding accepts is_status shows
  here = status_accepted (before_status t).device (before_status t).io t.last_status u.accepted

  -- The record with the status in it.
  told_is : (after_status t).device ≡ with_figure t.last_status (before_status t).device
  unfolding shows
  told_is = here.device

  told_status : (after_status t).device.status ≡ Some (told (status_of_number t.last_status.status) (residue_of (L t) t.last_status.figure))
  unfolding with_figure
  told_status = ap (λ (d : Device). d.status) told_is ∙ ap (λ (w : Wrapper). Some (told (status_of_number t.last_status.status) (residue_of w.length t.last_status.figure))) arrived_there.wrapper

  -- What is due when the status has come.
  told_due : due (after_status t) ≡ polls_due t
  unfolding with_figure
  told_due =
      let d : Device = (before_status t).device in
      let same_state : (after_status t).device.state ≡ d.state = ap (λ (d : Device). d.state) told_is in
      let same_left : (after_status t).device.left.0 ≡ R t = ap (λ (d : Device). d.left.0) told_is in
      let same_size : (after_status t).device.fixed.packetsize ≡ P t = ap (λ (d : Device). d.fixed.packetsize) told_is ∙ arrived_there.packetsize in
      takes_due (after_status t).device.state (after_status t).device.fixed.packetsize (after_status t).device.left.0 (length (unread_in (after_status t))) (rw same_state met_before.takes) ∙ rw (same_left, same_size)

  -- The invariant of the transfer still holds when the status has come.
  with_status_lem : Transfer (wrapper t) (P t) (sent_in (to_status t) ++ t.stated.sent) (put_in (to_status t) ++ t.stated.put) (after_status t)
  unfolding is_reset
  with_status_lem = (event_steps (wrapper t) (P t) _ _ few_before (before_status t) arrived_there (some_due (wrapper t) (P t) (before_status t) _ _ arrived_there met_before.takes) (status t.last_status) refl).transfer

  -- ---- after it

  host_is : host t ≡ (sent_in (to_status t) ++ t.stated.sent) ++ sent_in t.after
  unfolding all
  host_is = all_append (λ (o : Shows). o.sent) (to_status t) (did (status t.last_status) t.stated ∷ t.after) ∙ sym (append_assoc (sent_in (to_status t)) t.stated.sent (sent_in t.after))

  firmware_is : firmware t ≡ (put_in (to_status t) ++ t.stated.put) ++ put_in t.after
  firmware_is = earlier_put ∙ sym (append_assoc (put_in (to_status t)) t.stated.put (put_in t.after))

  -- What holds at the end of a story with fewer served polls than the number: the invariant, the status, and what is still due.
  record Sum : Type 0 where
    transfer : Transfer (wrapper t) (P t) (host t) (firmware t) (ended t)
    status : (ended t).device.status ≡ Some (told (status_of_number t.last_status.status) (residue_of (L t) t.last_status.figure))
    count : due (ended t) + served_since t ≡ polls_due t

  sum : served_since t < polls_due t → Sum
  sum less =
      let a : After (wrapper t) (P t) _ _ p.after (after_status t) =
      after (wrapper t) (P t) p.after (after_status t) _ _ with_status_lem (rw told_status) u.later (rw firmware_is at u.few) (rw told_due less) in
      record {
        transfer = rw (host_is, firmware_is) a.transfer;
        status = a.status ∙ told_status;
        count = a.count ∙ told_due;
      }

  -- ---- what crossed the wire

  taken_before : length (taken_in (to_status t)) ≡ 31 + length (flatten (drop 1 t.completed.taken)) + length (taken_in t.before)
  unfolding all
  taken_before =
      let m : List ℕ = arrived_in t.arrival in
      let ps : List (List ℕ) = t.completed.taken in
      let parts : taken_in (to_status t) ≡ taken_in t.arrival ++ (flatten ps ++ taken_in t.before) = all_append (λ (o : Shows). flatten o.taken) t.arrival _ in
      omega (
        arith,
        ap length parts,
        length-append (taken_in t.arrival) (flatten ps ++ taken_in t.before),
        length-append (flatten ps) (taken_in t.before),
        ap length came.alone,
        first_rest ps,
        length-append m (first_packet_of ps),
        u.valid.whole,
      )

  left_is : R t ≡ L t - crossed t
  left_is = omega (arith, opened.wire, met_before.wire, taken_before, ap length sent_before, length-append t.completed.sent (sent_in t.before))

  -- ---- what is promised

  -- The status that is promised is the one that is present.
  the_status_lem : bytes_for (wrapper t).tag (Some (told (status_of_number t.last_status.status) (residue_of (L t) t.last_status.figure))) ≡ the_status t
  the_status_lem = rw (status_number_lem t.last_status.status here.byte)

  positive : 0 < P t
  positive = omega (arith, (packet_bounds (P t) (packet_known (numbers_of t.start.device) (length t.start.io) u.between.whole)).0)

  not_yet : served_since t < polls_due t → NotYet t
  not_yet less =
      let z : Sum = sum less in
      let k : Device = (ended t).device in
      let more : 0 < due (ended t) = omega (arith, z.count) in
      let o : Owes (wrapper t) (host t) (firmware t) k.status =
      owes (wrapper t) (host t) (firmware t) k.fixed.packetsize (rw z.transfer.packetsize positive) k.state k.status k.left.0 (unread_in (ended t)) _ z.status z.transfer.phase more in
      record { rest = o.rest; some = o.some; prefix = o.whole ∙ rw (z.status, the_status_lem) }

  ends : served_since t + 1 ≡ polls_due t → (g : Given) → Later (poll g) (ended t) (shows (poll g) (ended t)) → is_served (shows (poll g) (ended t)).answer ≡ true → Ends t (shows (poll g) (ended t))
  unfolding is_poll served
  ends last g later does =
      let z : Sum = sum (omega arith) in
      let e : Socket = ended t in
      let st : StepsBy (wrapper t) (P t) (host t) (firmware t) (poll g) e =
      event_steps (wrapper t) (P t) (host t) (firmware t) u.few e z.transfer (omega (arith, z.count)) (poll g) later.no_reset in
      let o : Socket = next (poll g) e in
      let same : o.device.status ≡ Some (told (status_of_number t.last_status.status) (residue_of (L t) t.last_status.figure)) = st.status later.no_status ∙ z.status in
      let none_due : due o ≡ 0 = omega (arith, rw does at (st.count (rw z.status) later.full), z.count) in
      let r : Rests (wrapper t) (host t ++ (shows (poll g) e).sent) (firmware t ++ (shows (poll g) e).put) o.device.state o.device.status (unread_in o) =
      rests (wrapper t) _ _ o.device.fixed.packetsize (rw st.transfer.packetsize positive) o.device.state o.device.status o.device.left.0 (unread_in o) _ same st.transfer.phase none_due in
      let bytes : host t ++ (shows (poll g) e).sent ≡ the_data t ++ the_status t =
      r.whole ∙ ap₂ (λ (ys zs : List ℕ). data_of (wrapper t).direction (L t) ys ++ zs) (ap (λ (l : List ℕ). firmware t ++ l) (poll_puts g e) ∙ append-nil (firmware t)) (ap (bytes_for (wrapper t).tag) same ∙ the_status_lem) in
      record {
        bytes = bytes;
        status = ap (drop (length (the_data t))) bytes ∙ drop_at (the_data t) (the_status t) (length (the_data t)) refl;
        again = record { whole = st.transfer.whole; waits = rw r.state; nothing = sym (length_unread (buffer_of o.device o.io) (whole_sound (numbers_of o.device) o.io st.transfer.whole)) ∙ ap length r.none };
      }

-- The host is promised L bytes and 13 for a read, and 13 otherwise.
pub promised_length : (t : Story) → length (firmware t) ≤ L t → length (the_data t ++ the_status t) ≡ data_length (wrapper t).direction (L t) + 13
promised_length t few = length-append (the_data t) (the_status t) ∙ ap₂ ◌+◌ (by (wrapper t).direction) (length_status (wrapper t).tag (residue_of (L t) t.last_status.figure) t.last_status.status)
  where
    by : (q : DataDirection) → length (data_of q (L t) (firmware t)) ≡ data_length q (L t)
    by Out = refl
    by In = length_filled _ (L t) (firmware t) few
    by NotExpected = refl

-- The mission's third demand, for a story that is computed from its events.
demand_played : (p : Script) → Supposed (played p) → Demand ByValue (played p)
demand_played p u = record {
  left = left_is p u;
  not_before = not_yet p u;
  exactly = λ last g o does. subst (λ (o : Shows). Later (poll g) (ended (played p)) o → is_served o.answer ≡ true → Ends (played p) o) (sym does) (ends p u last g);
  reachable = λ less g o does w. rw does (willing_served g (ended (played p)) (sum p u less).transfer.whole w);
}

-- ---- every story

-- A story that happened by value is that of its events.
abbrev script_of : Story → Script
script_of t = record { start = t.start; arrival = events t.arrival; completing = t.completing; before = events t.before; last_status = t.last_status; after = events t.after }

story_by : (t : Story) (h k l : List Event) → t.arrival ≡ history_of h t.start → t.completed ≡ shows (poll t.completing) (reached t.arrival t.start) → t.before ≡ history_of k (after_wrapper t)
    → t.stated ≡ shows (status t.last_status) (before_status t) → t.after ≡ history_of l (after_status t)
    → t ≡ played (record { start = t.start; arrival = h; completing = t.completing; before = k; last_status = t.last_status; after = l })
story_by t h k l arrives completes goes states last = rw (last, states, goes, completes, arrives)

story_is : (t : Story) → Happened ByValue t → t ≡ played (script_of t)
story_is t h =
    let (first, (states, last)) = throughout_parts ByValue (to_status t) (did (status t.last_status) t.stated ∷ t.after) t.start h in
    let (arrives, (completes, goes)) = throughout_parts ByValue t.arrival (did (poll t.completing) t.completed ∷ t.before) t.start first in
    let there : reached (to_status t) t.start ≡ before_status t = reached_append t.arrival (did (poll t.completing) t.completed ∷ t.before) t.start in
    story_by t (events t.arrival) (events t.before) (events t.after) (replayed t.arrival t.start arrives) completes (replayed t.before (after_wrapper t) goes) (rw there at states) (replayed t.after (after_status t) last)

-- The mission's third demand.
pub demand : (Does : Event → Socket → Shows → Type 0) → Faithful Does → (t : Story) → Happened Does t → Supposed t → Demand Does t
demand Does faithful t h u =
    let d : Demand ByValue t = subst (λ (t : Story). Supposed t → Demand ByValue t) (sym (story_is t (throughout_map Does ByValue faithful (history t) t.start h))) (demand_played (script_of t)) u in
    record {
      left = d.left;
      not_before = d.not_before;
      exactly = λ last g o does. d.exactly last g o (faithful (poll g) (ended t) o does);
      reachable = λ less g o does. d.reachable less g o (faithful (poll g) (ended t) o does);
    }

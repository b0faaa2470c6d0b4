-- The poll that sends the status is 01's poll.
--     may_end       what the tests of the record's bytes tell
--     end_rule      what such a poll does: 01's rules of 4 to 8 all go on to 3
--     leaves_ended  what the function that makes it owes
-- Assumes nothing.
use mathlib.Core.Path.{◌≡◌, refl, sym, ap, ◌∙◌}
use mathlib.Core.Bool.{Bool, true, false, not}
use mathlib.Core.List.{List}
use Prim.Native.Nat.{ℕ, ◌-◌, ◌^◌, ◌≤◌, ◌<◌}
use native.Mathlib.Nat.{min-le_left}
use native.Mathlib.Omega.{arith}
use lib.Dec.{eqb}
use lib.ListN.{length}
use borrow.Author.Tests.{eq-eqb}
use Rattle.fields.specs.Field.{get}
use Rattle.fields.specs.Overlay.{overlay}
use Rattle.fields.proofs.Bools.{not_false}
use Rattle.buffer.specs.declared.Marks.{Marks}
use Rattle.buffer.specs.Buffer.{Buffer, buffer, at, unread, ready, ready_bytes, read_off}
use Rattle.buffer.specs.Inner.Buffer.{Sound, Leaves}
use Rattle.answers.specs.declared.Endpoint.TheVariants.{Served}
use Rattle.answers.specs.declared.Stalls.TheVariants.{Kept}
use Rattle.answers.specs.Answers.{answer, endpoint_of}
use Rattle.ring.specs.declared.State.{State}
use Rattle.ring.specs.declared.State.TheVariants as ring
use Rattle.ring.specs.declared.State.TheVariants.{DataTransferToHost, DataTransferToHostStatusAwait, DataTransferToHostEnding, DataTransferFromHost, DataTransferFromHostEnding, StatusTransfer}
use Rattle.ring.specs.States.{state_number, state_of_number}
use Rattle.ring.proofs.Numbers.{state_number_lem}
use Rattle.wrapper.specs.declared.status.CommandStatus.{CommandStatus}
use Rattle.wrapper.specs.Status.{status_number, status_of_number}
use Rattle.packets.specs.Packets.{accepted, sent_count, sent_off, sent_into, status_written}
use Rattle.packets.proofs.Laws.{answer_served}
use Rattle.device.specs.declared.Device.{Device}
use Rattle.device.specs.Create.{is_packet_size}
use Rattle.device.specs.Device.{is_present, numbers_of, in_state, with_marks}
use Rattle.device.specs.Broken.{status_fits, Whole}
use Rattle.bbb.specs.Poll.{Given, Polling, Fits, is_fitting, point, send_by, send, status_put, enter_status, status_await_rule, to_host_ending_rule, to_host_rule, from_host_rule, from_host_ending_rule, rule_in, poll_rule, poll_call}
use Rattle.bbb.proofs.Keeping.{call_done}
use Rattle.recordbytes.specs.Layout as field
use Rattle.recordbytes.specs.Record.{status_at, device_at, store_state, store_marks}
use Rattle.border.specs.Word.{word}
use Rattle.onward.specs.declared.Lengths.{Lengths}
use Rattle.onward.specs.Inner.Onward.{Steady, Ending, MayEnd, status_in, EndsOn}
use Rattle.onward.proofs.Going.{flag_says, is_ready}

-- ---- the states

-- The state has a number from 4 on.
ending_in : (P : State → Type 0) (s : State) → 4 ≤ state_number s → P DataTransferToHost → P DataTransferToHostStatusAwait → P DataTransferToHostEnding → P DataTransferFromHost → P DataTransferFromHostEnding → P s
ending_in P ring.CommandTransfer h a b c d e = absurd (omega (arith, h))
ending_in P ring.CommandTransferInvalid h a b c d e = absurd (omega (arith, h))
ending_in P ring.DataTransferNoData h a b c d e = absurd (omega (arith, h))
ending_in P ring.StatusTransfer h a b c d e = absurd (omega (arith, h))
ending_in P ring.DataTransferToHost h a b c d e = a
ending_in P ring.DataTransferToHostStatusAwait h a b c d e = b
ending_in P ring.DataTransferToHostEnding h a b c d e = c
ending_in P ring.DataTransferFromHost h a b c d e = d
ending_in P ring.DataTransferFromHostEnding h a b c d e = e

-- ---- what the tests tell

pub may_end : (r : List ℕ) (lent : Lengths) (write : ℕ) {state flag left p to from : ℕ} {s f v : Bool}
    → length r ≡ field.record_size → state ≡ get field.state r → 4 ≤ state → state ≤ 8 → flag ≡ get field.present r → flag ≡ 1 → write ≡ 0 → left ≡ get field.left r → left ≡ 0
    → (s ≡ true → Steady r lent.io) → not s ≡ false → p ≡ get field.packet_size r → f ≡ is_fitting p lent.packet lent.one lent.two → not f ≡ false
    → to ≡ get field.write_mark r → to ≤ lent.io → from ≡ get field.read_mark r → from ≤ to → v ≡ is_packet_size p → v ≡ true → MayEnd r lent write
unfolding device_at
may_end r lent write {s = s} {f = f} long es low known eg one-there served el none steady qs ep ef qf et within er order ev sized =
    let flag : get field.present r ≡ 1 = sym eg ∙ one-there in
    let there : is_present (status_at r) ≡ true = rw flag at (flag_says r (omega (arith, flag))) in
    let up : get field.state r ≤ 8 = rw es at known in
    let number : 4 ≤ state_number (state_of_number (get field.state r)) = rw (state_number_lem (get field.state r) up, ← es) low in
    let suits : status_fits (state_of_number (get field.state r)) (is_present (status_at r)) ≡ true = rw there (ending_in (λ (x : State). status_fits x true ≡ true) (state_of_number (get field.state r)) number refl refl refl refl refl) in
    let st : Steady r lent.io = steady (not_false s qs) in
    record {
      ready = is_ready r lent long st up (omega (arith, flag)) (omega (arith, er, et, order)) (omega (arith, et, within)) suits (rw ep at (sym ef ∙ not_false f qf)) (rw ep at (sym ev ∙ sized));
      ends = record { state = number; present = there; left = sym el ∙ none; served = served };
      small = st.small;
    }

-- ---- 01's rules of 4 to 8

module _ (d : Device) (io : List ℕ) (g : Given) (w : Whole (numbers_of d) (length io)) (f : Fits d.fixed.packetsize g.packet g.one g.two) where
  -- The buffer with the status in it.
  abbrev pub end_buffer : Buffer
  end_buffer = status_put d.wrapper.tag d.status (buffer io d.marks)

  abbrev pub ended_on : Polling
  ended_on = record {
    device = in_state StatusTransfer (with_marks (read_off d.fixed.packetsize end_buffer).marks d);
    answer = answer 0;
    taken = 0;
    sent = ready d.fixed.packetsize end_buffer;
    stalls = Kept;
    io = end_buffer.bytes;
    packet = overlay g.packet 0 (ready_bytes d.fixed.packetsize end_buffer);
  }

  module _ (h : Ending (numbers_of d) g.turn.write) where
    none_left : eqb d.left.0 0 ≡ true
    none_left = eq-eqb _ _ h.left

    enters : enter_status g (point d io 0 false) ≡ ended_on
    unfolding enter_status send send_by sent_count sent_off sent_into accepted read_off endpoint_of
    enters = rw (h.served, answer_served Served (unread end_buffer) refl)

    awaits : status_await_rule g (point d io 0 false) ≡ ended_on
    unfolding status_await_rule
    awaits = rw h.present enters

    in_4 : to_host_rule g (point d io 0 false) ≡ ended_on
    unfolding to_host_rule
    in_4 = rw none_left awaits

    in_6 : to_host_ending_rule g (point d io 0 false) ≡ ended_on
    unfolding to_host_ending_rule
    in_6 = rw none_left enters

    in_7 : from_host_rule g (point d io 0 false) ≡ ended_on
    unfolding from_host_rule
    in_7 = rw none_left awaits

    in_8 : from_host_ending_rule g (point d io 0 false) ≡ ended_on
    unfolding from_host_ending_rule
    in_8 = rw none_left enters

    pub end_rule : poll_call d io g ≡ ended_on
    unfolding poll_rule rule_in
    end_rule = call_done d io g w f ∙ ending_in (λ (x : State). rule_in x g (point d io 0 false) ≡ ended_on) d.state h.state in_4 awaits in_6 in_7 in_8

-- ---- what the function that makes it owes

-- The marks of a buffer that is not too long fit into their places, and so does what is read from it.
module _ {s : Buffer} {len : ℕ} (sound : Sound s) (small : len ≤ 65536) (long : length s.bytes ≡ len) where
  pub marks_fit : (s.marks.read < 2 ^ 32) × (s.marks.write < 2 ^ 32)
  marks_fit = (omega (arith, sound.order, sound.within, long, small), omega (arith, sound.within, long, small))

  pub count_fits : (n : ℕ) {k : ℕ} → k ≡ ready n s → k < 2 ^ 32
  unfolding ready
  count_fits n e = omega (arith, e, min-le_left (s.marks.write - s.marks.read) n, sound.within, long, small)

pub leaves_ended : (r io p : List ℕ) {n number tag residue k j x : ℕ} {status : CommandStatus} {m after : Marks} {io' p' a l : List ℕ}
    → n ≡ get field.packet_size r → number ≡ get field.status r → status ≡ status_of_number number → tag ≡ get field.tag r → residue ≡ get field.residue r
    → Leaves (buffer io' m) (status_written tag (record { 0 = residue }) (status_number status) (buffer io (at 0 0)))
    → k ≡ ready n (buffer io' m) → Leaves (buffer io' after) (read_off n (buffer io' m)) → p' ≡ overlay p 0 (ready_bytes n (buffer io' m))
    → a ≡ store_state StatusTransfer r → l ≡ store_marks after a → j ≡ k → x ≡ word 0 0 0 0 j
    → EndsOn r io p x l io' p'
leaves_ended r io p {m = m} {io' = io'} en eb es et eu written ek read ep ea el ej ex =
    let there : buffer io' m ≡ status_in r io = rw (← eb, ← es, ← et, ← eu) written.same in
    record {
      answer = rw (ex, ej, ek, there, en);
      bytes = el ∙ rw (ea, ap (λ (b : Buffer). b.marks) read.same, there, en);
      io = ap (λ (b : Buffer). b.bytes) there;
      packet = rw (ep, there, en);
    }

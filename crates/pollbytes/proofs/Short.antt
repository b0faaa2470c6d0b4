-- A poll that goes the short way is 01's poll, by what the tests before it tell and by what the functions after them leave. Assumes
-- nothing.
use mathlib.Core.Path.{◌≡◌, refl, sym, ◌∙◌, subst}
use mathlib.Core.Bool.{Bool, true, false, cond}
use mathlib.Core.List.{List}
use Prim.Native.Nat.{ℕ, ◌≤◌}
use Rattle.std.specs.Prelude.{Option, Some, None}
use Rattle.std.proofs.lemmas.Option.{same_Some, none-some}
use lib.Dec.{eqb}
use lib.ListN.{length}
use borrow.Table.Steps.{cases}
use borrow.Author.Tests.{ne_eqb}
use Rattle.fields.specs.Field.{get}
use Rattle.fields.proofs.Bools.{clash}
use Rattle.buffer.specs.declared.Marks.{Marks}
use Rattle.buffer.specs.Buffer.{buffer, emptied}
use Rattle.ring.specs.declared.State.TheVariants.{DataTransferToHostEnding}
use Rattle.wrapper.specs.declared.counters.Left.{Left}
use Rattle.packets.specs.Packets.{status_written}
use Rattle.device.specs.declared.Numbers.{Numbers}
use Rattle.device.specs.Create.{is_packet_size}
use Rattle.device.specs.Device.{is_present, numbers_of, in_state, with_marks, with_left}
use Rattle.bbb.specs.declared.Turn.{Turn}
use Rattle.bbb.specs.Poll.{Given, given, Fits, status_put}
use Rattle.bbb.proofs.Polling as bbb
use Rattle.recordbytes.specs.Layout as field
use Rattle.recordbytes.specs.Record.{is_known, status_by, status_at, fixed_at, wrapper_at, device_at, store_state, store_marks, store_left, store_device}
use Rattle.recordbytes.proofs.Stored.{Known, is_known_lem}
use Rattle.recordbytes.proofs.Parts.{moved_to, moved_within, reached}
use Rattle.border.specs.Word.{upper_half}
use Rattle.border.specs.Record.{on_device}
use Rattle.onward.specs.declared.Lengths.{Lengths}
use Rattle.onward.specs.Inner.Onward.{Ready, Sending, MaySend, SendsOn, SendsOrStays, Taking, MayTake, TakesOn, TakesOrStays, MayEnd, status_in, EndsOn}
use Rattle.onward.proofs.Going.{sent_on, send_rule, taken_on, take_rule}
use Rattle.onward.proofs.Entering.{ended_on, end_rule}
use Rattle.ringbytes.specs.Poll.{poll_outcome, poll_on}
use Rattle.ringbytes.proofs.Round.{on}
use Rattle.pollbytes.specs.Inner.Short.{PollsOrStays}

-- The lengths of what a poll is lent.
abbrev lengths : List ℕ → List ℕ → List ℕ → List ℕ → Lengths
lengths io packet one two = record { io = length io; packet = length packet; one = length one; two = length two }

module _ (r io packet one two : List ℕ) (y : Ready r (lengths io packet one two)) where
  offers_fit : Fits (device_at r).fixed.packetsize packet one two
  offers_fit = bbb.is_fitting_lem (device_at r).fixed.packetsize packet one two refl y.fits

-- ---- what the functions that make such a poll require

module _ (r io packet one two : List ℕ) {turn : ℕ} {t : Bool} where
  pub end_needs : (t ≡ true → MayEnd r (lengths io packet one two) turn) → t ≡ true
      → (length r ≡ field.record_size) × (get field.packet_size r ≤ length packet) × (length io ≤ 65536)
  unfolding device_at fixed_at
  end_needs tells q =
      let y = tells q in
      ((is_known_lem r y.ready.known).long, (offers_fit r io packet one two y.ready).into, y.small)

-- ---- a packet of data goes out

-- With a status present, 6 was stored too.
sent_bytes : (r : List ℕ) (k : Known r) (present : Bool) (m : Marks) (l : Left)
    → store_device (cond present (in_state DataTransferToHostEnding (with_marks m (with_left l (device_at r)))) (with_marks m (with_left l (device_at r)))) r
    ≡ store_left l (store_marks m (cond present (store_state DataTransferToHostEnding r) r))
sent_bytes r k true m l = moved_to r k DataTransferToHostEnding m l
sent_bytes r k false m l = moved_within r k m l

module _ (r io : List ℕ) (g : Given) where
  sends : (y : Ready r (lengths io g.packet g.one g.two)) → Sending (numbers_of (device_at r)) g.turn.write
      → {x : Option ℕ} {r' packet' : List ℕ} → SendsOn (numbers_of (device_at r)) io r g.packet x r' packet' → (k : ℕ) → x ≡ Some k → poll_outcome k r' io packet' ≡ poll_on r io g
  unfolding upper_half
  sends y s {r' = r'} it k q =
      let fits = offers_fit r io g.packet g.one g.two y in
      let kept : r' ≡ store_device (sent_on (device_at r) io g y.whole fits).device r = it.bytes ∙ sym (sent_bytes r (is_known_lem r y.known) (is_present (device_at r).status) _ _) in
      rw (same_Some _ _ (sym q ∙ it.answer), it.packet, kept) (on r io g y.known (sent_on (device_at r) io g y.whole fits) (send_rule (device_at r) io g y.whole fits s))

  pub short_sends : {t : Bool} → (t ≡ true → MaySend r (lengths io g.packet g.one g.two) g.turn.write) → t ≡ true → {n : Numbers} → n ≡ numbers_of (device_at r)
      → {x : Option ℕ} {r' packet' : List ℕ} → SendsOrStays n io r g.packet x r' packet' → PollsOrStays r io g x r' io packet'
  unfolding device_at fixed_at
  short_sends tells q en {x} {r'} {packet'} h =
      let y = tells q in
      let it : SendsOrStays (numbers_of (device_at r)) io r g.packet x r' packet' = subst (λ (m : Numbers). SendsOrStays m io r g.packet x r' packet') en h in
      record {
        polls = λ k q. cases (is_packet_size (get field.packet_size r)) (λ yes. sends (y.ready yes) y.sends (it.sends yes) k q) (λ no. absurd (none-some k (sym (it.stays no).answer ∙ q)));
        stays = λ none. cases (is_packet_size (get field.packet_size r)) (λ yes. absurd (none-some _ (sym none ∙ (it.sends yes).answer))) (λ no. ((it.stays no).bytes, refl, (it.stays no).buffer));
      }

  -- ---- a packet of data comes in

  takes : (y : Ready r (lengths io g.packet g.one g.two)) → Taking (numbers_of (device_at r)) (length io) (length g.one) g.turn.first
      → {x : Option ℕ} {r' io' : List ℕ} → TakesOn (numbers_of (device_at r)) io r g.one x r' io' → (k : ℕ) → x ≡ Some k → poll_outcome k r' io' g.packet ≡ poll_on r io g
  unfolding upper_half
  takes y s {r' = r'} it k q =
      let fits = offers_fit r io g.packet g.one g.two y in
      let kept : r' ≡ store_device (taken_on (device_at r) io g y.whole fits).device r = it.bytes ∙ sym (moved_within r (is_known_lem r y.known) _ _) in
      rw (same_Some _ _ (sym q ∙ it.answer), it.io, kept) (on r io g y.known (taken_on (device_at r) io g y.whole fits) (take_rule (device_at r) io g y.whole fits s))

  pub short_takes : {t : Bool} → (t ≡ true → MayTake r (lengths io g.packet g.one g.two) g.turn.first) → t ≡ true → {n : Numbers} → n ≡ numbers_of (device_at r)
      → {x : Option ℕ} {r' io' : List ℕ} → TakesOrStays n io r g.one x r' io' → PollsOrStays r io g x r' io' g.packet
  unfolding device_at fixed_at
  short_takes tells q en {x} {r'} {io'} h =
      let y = tells q in
      let it : TakesOrStays (numbers_of (device_at r)) io r g.one x r' io' = subst (λ (m : Numbers). TakesOrStays m io r g.one x r' io') en h in
      record {
        polls = λ k q. cases (is_packet_size (get field.packet_size r)) (λ yes. takes (y.ready yes) y.takes (it.takes yes) k q) (λ no. absurd (none-some k (sym (it.stays no).answer ∙ q)));
        stays = λ none. cases (is_packet_size (get field.packet_size r)) (λ yes. absurd (none-some _ (sym none ∙ (it.takes yes).answer))) (λ no. ((it.stays no).bytes, (it.stays no).buffer, refl));
      }

  -- No poll was made.
  pub short_none : PollsOrStays r io g None r io g.packet
  short_none = record { polls = λ k q. absurd (none-some k q); stays = λ _. (refl, refl, refl) }

  -- ---- the status goes out

  -- The status of the record's bytes is that of the device which they hold.
  status_there : is_present (device_at r).status ≡ true → status_put (device_at r).wrapper.tag (device_at r).status (buffer io (device_at r).marks) ≡ status_in r io
  unfolding device_at wrapper_at status_at status_by status_put status_written emptied
  status_there h = cases (eqb (get field.present r) 0) (λ e. absurd (clash (sym (rw e at h)))) (λ e. rw e)

  pub ends : {t : Bool} → (t ≡ true → MayEnd r (lengths io g.packet g.one g.two) g.turn.write) → t ≡ true
      → {x : ℕ} {r' io' packet' : List ℕ} → EndsOn r io g.packet x r' io' packet' → poll_outcome x r' io' packet' ≡ poll_on r io g
  unfolding fixed_at device_at upper_half
  ends tells q {r' = r'} it =
      let y = tells q in
      let fits = offers_fit r io g.packet g.one g.two y.ready in
      let there = status_there y.ends.present in
      let o = ended_on (device_at r) io g y.ready.whole fits in
      let kept : r' ≡ store_device o.device r = it.bytes ∙ rw (← there) (sym (reached r (is_known_lem r y.ready.known) _ _)) in
      rw (it.answer, it.io, it.packet, kept, ← there) (on r io g y.ready.known o (end_rule (device_at r) io g y.ready.whole fits y.ends))

-- What was not made the short way is made the other way, on what stayed as it was.
pub goes_on : (r io : List ℕ) (g : Given) {x : Option ℕ} {y : ℕ} {r' io' p' l b c : List ℕ} → PollsOrStays r io g x r' io' p' → x ≡ None
    → poll_outcome y l b c ≡ poll_on r' io' (given p' g.one g.two g.turn) → poll_outcome y l b c ≡ poll_on r io g
goes_on r io g {y = y} {l = l} {b = b} {c = c} h q e =
    let same = h.stays q in
    e ∙ rw (same.0, same.1, same.2)

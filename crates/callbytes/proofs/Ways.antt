-- What each way through a call owes (`ways`): the call by value was made on the device that the bytes hold, and the parts that it changes
-- were stored. Assumes nothing.
use mathlib.Core.Path.{◌≡◌, refl, sym, ap, ◌∙◌}
use mathlib.Core.Bool.{Bool, true, false, not}
use mathlib.Core.List.{List, []}
use Prim.Native.Nat.{ℕ, ◌^◌, ◌<◌}
use lib.Dec.{lit<}
use lib.ListN.{length, get_or}
use borrow.Author.Tests.{eq-eqb, ne_eqb}
use Rattle.std.specs.Prelude.{Option, Some, None, Result, Ok, Err}
use Rattle.answers.specs.declared.Answer.{Answer}
use Rattle.answers.specs.declared.Stalls.{Stalls}
use Rattle.answers.specs.declared.Stalls.TheVariants.{Kept}
use Rattle.answers.specs.Answers.{Answering, answer, answer_of}
use Rattle.device.specs.declared.Fixed.{Fixed}
use Rattle.device.specs.declared.Device.{Device}
use Rattle.device.specs.Device.{in_state, with_status, with_left, with_put_in}
use Rattle.device.proofs.Wholly.{either, packet_below, lun_below, size_below}
use Rattle.calls.specs.declared.FirmwareStatus.{FirmwareStatus}
use Rattle.calls.specs.declared.Stated.{Stated}
use Rattle.calls.specs.Status.{Stating, stating_of, set_status_call}
use Rattle.calls.specs.declared.Request.{Request}
use Rattle.calls.specs.declared.Handled.{Handled}
use Rattle.calls.specs.Bus.{Handling, handling, replied, handling_of, handling_of_reset, reset_call, control_call}
use Rattle.device.specs.Create.{creation_checks, creation_of, create_call}
use Rattle.device.proofs.Laws as creation
use Rattle.calls.proofs.After.{by_request, status_keeps}
use Rattle.recordbytes.specs.Layout.{record_size}
use Rattle.recordbytes.specs.Record.{is_known, device_at, store_state, store_left, store_put_in, store_status, store_device, new_record}
use Rattle.recordbytes.specs.Inner.Storable.{StorableFixed}
use Rattle.recordbytes.proofs.Stored.{is_known_lem}
use Rattle.recordbytes.proofs.Parts.{status_alone, counted_entered}
use Rattle.border.specs.Word.{word, answer_word, stalls_number}
use Rattle.border.specs.Record.{on_device}
use Rattle.callbytes.specs.Calls.{call_outcome, create_on, call_outcome_of_status, set_status_on, call_outcome_of_bus, reset_on, control_on}
use Rattle.border.proofs.Lending.{known_then, long_then, unknown, made}

-- ---- the status

module _ (r io : List ℕ) (f : FirmwareStatus) {k : Bool} (ek : k ≡ is_known r) where
  pub status_unknown : not k ≡ true → call_outcome 10 r ≡ set_status_on r io f
  unfolding set_status_on
  status_unknown q = unknown r ek (call_outcome 10 r) (λ (d : Device). call_outcome_of_status r (set_status_call d io f)) q

  pub status_set : not k ≡ false → (s : Stated) {d : Device} {n : ℕ} {l : List ℕ} → d ≡ device_at r → stating_of s ≡ set_status_call d io f → l ≡ store_status s.device.status r → n ≡ (answer_of s.answer).number
      → call_outcome n l ≡ set_status_on r io f
  unfolding set_status_on
  status_set q s {l = l} ed es el en =
      let test = known_then r ek q in
      let to : stating_of s ≡ set_status_call (device_at r) io f = rw ed at es in
      let alone : s.device ≡ with_status s.device.status (device_at r) =
      ap (λ (o : Stating). with_status s.device.status (with_status (device_at r).status o.device)) to ∙ ap (with_status s.device.status) (status_keeps (device_at r) io f) in
      let kept : l ≡ store_device s.device r = el ∙ sym (status_alone r (is_known_lem r test) s.device.status) ∙ ap (λ (d : Device). store_device d r) (sym alone) in
      rw (en, kept) (ap (call_outcome_of_status r) to ∙ made r (call_outcome 10 r) (λ (d : Device). call_outcome_of_status r (set_status_call d io f)) test)

-- ---- the bus: the count of what was put in, status, state and left changed

-- What a reply is in a result.
module _ (number stalls : ℕ) where
  pub replies_nothing : (reply : Option ℕ) → reply ≡ None → {x : ℕ} → x ≡ word number 0 stalls 0 0 → x ≡ word number 0 stalls (length (replied reply)) (get_or (replied reply) 0 0)
  replies_nothing reply e h = rw e h

  pub replies_lun : (reply : Option ℕ) (n : ℕ) → reply ≡ Some n → {x : ℕ} → x ≡ word number 0 stalls 1 n → x ≡ word number 0 stalls (length (replied reply)) (get_or (replied reply) 0 0)
  replies_lun reply n e h = rw e h

pub bus_told : (h : Handled) {a s x : ℕ} → a ≡ (answer_of h.report.answer).number → s ≡ stalls_number h.report.stalls
    → x ≡ word a 0 s (length (replied h.report.reply)) (get_or (replied h.report.reply) 0 0)
    → x ≡ word (answer_of h.report.answer).number 0 (stalls_number h.report.stalls) (length (replied h.report.reply)) (get_or (replied h.report.reply) 0 0)
bus_told h ea es ex = rw (← ea, ← es, ex)

pub bus_stored : (r : List ℕ) (d : Device) {q a b l : List ℕ} → q ≡ store_put_in d.putin r → a ≡ store_status d.status q → b ≡ store_state d.state a → l ≡ store_left d.left b
    → l ≡ store_left d.left (store_state d.state (store_status d.status (store_put_in d.putin r)))
bus_stored r d eq ea eb el = rw (← eq, ← ea, ← eb, el)

-- Everything in the device `d` but these four stays, and the count stays or has 32 bits.
record Keeps (d : Device) (o : Handling) : Type 0 where
  rest : with_put_in d.putin (in_state d.state (with_status d.status (with_left d.left o.device))) ≡ d
  small : (d.putin.0 ≡ o.device.putin.0 → ⊥) → o.device.putin.0 < 2 ^ 32

-- The device entered 0 or stayed as it was.
bus_made : (r : List ℕ) (call : Device → Handling) {k : Bool} → k ≡ is_known r → not k ≡ false
    → Keeps (device_at r) (call (device_at r)) → (m : Handled) → handling_of m ≡ call (device_at r)
    → {x : ℕ} {l : List ℕ} → (x ≡ word (answer_of m.report.answer).number 0 (stalls_number m.report.stalls) (length (replied m.report.reply)) (get_or (replied m.report.reply) 0 0))
    × (l ≡ store_left m.device.left (store_state m.device.state (store_status m.device.status (store_put_in m.device.putin r))))
    → call_outcome x l ≡ on_device r (call_outcome (answer_word 10) r) (λ (d : Device). call_outcome_of_bus r (call d))
unfolding device_at
bus_made r call ek q keeps m to {x} {l} e =
    let test = known_then r ek q in
    let with : Device → Device = λ (d : Device). in_state m.device.state (with_status m.device.status (with_left m.device.left (with_put_in m.device.putin d))) in
    let alone : m.device ≡ with (device_at r) =
    ap (λ (o : Handling). with (with_put_in (device_at r).putin (in_state (device_at r).state (with_status (device_at r).status (with_left (device_at r).left o.device))))) to ∙ ap with keeps.rest in
    let kept : l ≡ store_device m.device r =
    e.1 ∙ sym (counted_entered r (is_known_lem r test) m.device.putin (rw (← to) at keeps.small) m.device.status m.device.state m.device.left) ∙ ap (λ (d : Device). store_device d r) (sym alone) in
    rw (e.0, kept) (ap (call_outcome_of_bus r) to ∙ made r (call_outcome (answer_word 10) r) (λ (d : Device). call_outcome_of_bus r (call d)) test)

kept_all : (d : Device) (a : Answering) (stalls : Stalls) (bytes : List ℕ) → Keeps d (handling a stalls bytes d)
kept_all d a stalls bytes = record { rest = refl; small = λ other. absurd (other refl) }

kept_entering : (d : Device) → Keeps d (handling_of_reset d)
unfolding handling_of_reset
kept_entering d = record { rest = refl; small = λ _. lit< tt }

reset_rest : (d : Device) (io : List ℕ) → Keeps d (reset_call d io)
unfolding reset_call
reset_rest d io = either d io (Keeps d) (kept_all d (answer 10) Kept []) (λ _. kept_entering d)

control_rest : (d : Device) (io : List ℕ) (q : Request) → Keeps d (control_call d io q)
control_rest d io q = by_request d io q (Keeps d) (λ a bytes. kept_all d a Kept bytes) (λ _ _. kept_entering d)

module _ (r io : List ℕ) {k : Bool} (ek : k ≡ is_known r) where
  pub reset_unknown : not k ≡ true → call_outcome 10 r ≡ reset_on r io
  unfolding reset_on word
  reset_unknown q = unknown r ek (call_outcome (answer_word 10) r) (λ (d : Device). call_outcome_of_bus r (reset_call d io)) q

  pub reset_made : not k ≡ false → (m : Handled) {d : Device} → d ≡ device_at r → handling_of m ≡ reset_call d io
      → {x : ℕ} {l : List ℕ} → (x ≡ word (answer_of m.report.answer).number 0 (stalls_number m.report.stalls) (length (replied m.report.reply)) (get_or (replied m.report.reply) 0 0))
      × (l ≡ store_left m.device.left (store_state m.device.state (store_status m.device.status (store_put_in m.device.putin r))))
      → call_outcome x l ≡ reset_on r io
  unfolding reset_on
  reset_made q m ed em e = bus_made r (λ (d : Device). reset_call d io) ek q (reset_rest (device_at r) io) m (rw ed at em) e

  module _ (request : Request) where
    pub control_unknown : not k ≡ true → call_outcome 10 r ≡ control_on r io request
    unfolding control_on word
    control_unknown q = unknown r ek (call_outcome (answer_word 10) r) (λ (d : Device). call_outcome_of_bus r (control_call d io request)) q

    pub control_made : not k ≡ false → (m : Handled) {d : Device} → d ≡ device_at r → handling_of m ≡ control_call d io request
        → {x : ℕ} {l : List ℕ} → (x ≡ word (answer_of m.report.answer).number 0 (stalls_number m.report.stalls) (length (replied m.report.reply)) (get_or (replied m.report.reply) 0 0))
        × (l ≡ store_left m.device.left (store_state m.device.state (store_status m.device.status (store_put_in m.device.putin r))))
        → call_outcome x l ≡ control_on r io request
    unfolding control_on
    control_made q m ed em e = bus_made r (λ (d : Device). control_call d io request) ek q (control_rest (device_at r) io request) m (rw ed at em) e

-- ---- creation

module _ (r : List ℕ) (f : Fixed) (c : Result Device Answer) (ec : creation_of c ≡ create_call f) where
  pub create_refused : (why : Answer) → c ≡ Err why → {n : ℕ} → n ≡ (answer_of why).number → call_outcome n r ≡ create_on r f
  unfolding create_on
  create_refused why e en =
      let told = creation.refused f why (rw e at ec) in
      rw (ne_eqb _ _ told.1, en, told.0)

  module _ (d : Device) (e : c ≡ Ok d) where
    accepted : creation_checks f ≡ 0
    accepted = (creation.made f d (rw e at ec)).0

    pub create_unlent : (length r ≡ record_size → ⊥) → call_outcome 10 r ≡ create_on r f
    unfolding create_on
    create_unlent k = rw (eq-eqb _ _ accepted, ne_eqb _ _ k)

    -- What creation accepts fits into its places in a record.
    pub create_fits : StorableFixed f
    create_fits = record { packetsize = packet_below f accepted; maxlun = lun_below f accepted; size = size_below f accepted }

    pub create_made : length r ≡ record_size → {l : List ℕ} → l ≡ new_record f → call_outcome 0 l ≡ create_on r f
    unfolding create_on
    create_made k el = rw (eq-eqb _ _ accepted, eq-eqb _ _ k, el)

pub ruleset ways = (long_then, status_unknown, status_set, replies_nothing, replies_lun, bus_told, bus_stored, reset_unknown, reset_made, control_unknown, control_made, create_refused, create_unlent, create_fits, create_made)

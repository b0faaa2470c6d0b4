-- What each way through a call owes (`ways`): the record is refused, it shows or offers nothing, or its command went into what the caller
-- lent for it. Assumes nothing.
use mathlib.Core.Path.{◌≡◌, refl, sym, ap, ◌∙◌}
use mathlib.Core.Bool.{Bool, true, false, not, cond, ◌&&◌}
use mathlib.Core.List.{List, [], ◌∷◌}
use Prim.Native.Nat.{ℕ, ◌+◌, ◌-◌, ◌≤◌, ◌<◌}
use Rattle.std.specs.Prelude.{Result, Ok, Err}
use native.Mathlib.Nat.{add-sub_cancel_left}
use native.Mathlib.Omega.{arith}
use lib.Dec.{eqb}
use lib.ListN.{length, take, drop}
use lib.Seq.{take-take}
use borrow.Author.Tests.{eq-eqb, ne_eqb, le-leb, lt-leb}
use Rattle.fields.specs.Field.{bytes_at, get}
use Rattle.fields.specs.Overlay.{overlay}
use Rattle.fields.proofs.Bools.{and_left, and_right, not_true, not_false}
use Rattle.fields.proofs.Overlay.{overlay_whole}
use Rattle.fields.proofs.Seq.{length_part}
use Rattle.answers.specs.Answers.{answer}
use Rattle.device.specs.declared.Device.{Device}
use Rattle.device.specs.declared.Numbers.{Numbers}
use Rattle.device.specs.Device.{numbers_of}
use Rattle.device.specs.Broken.{is_whole, unless_broken}
use Rattle.device.proofs.Wholly.{is_whole_lem}
use Rattle.scsi.specs.Decoding.{Decoding, decoded, decode_call, plain_is_extended}
use Rattle.scsi.specs.declared.numbers.Refusal.{Refusal}
use Rattle.scsi.specs.declared.numbers.Refusal.TheVariants.{BrokenRecord, EmptyBlock}
use Rattle.scsi.specs.Inner.Numbers.{refusal_number, outcome_number}
use Rattle.scsi.specs.Numbers.{DecodeOutcome, decode_outcome, decode_outcome_of}
use Rattle.ring.specs.declared.State.TheVariants.{CommandTransfer}
use Rattle.ring.specs.States.{state_number}
use Rattle.calls.specs.Checks.{is_in}
use Rattle.calls.specs.Command.{Showing, hiding, showing, is_shown, command_call, Stepping, stepping, is_offered, stepping_of_decoding, block_of, command_step_told_call}
use Rattle.recordbytes.specs.Layout as field
use Rattle.recordbytes.specs.Record.{is_known, wrapper_at, device_at}
use Rattle.recordbytes.proofs.Stored.{is_known_lem}
use Rattle.border.specs.Word.{word}
use Rattle.border.specs.Record.{on_device}
use Rattle.border.proofs.Lending.{long_then}
use Rattle.commandbytes.specs.Command.{CommandOutcome, command_outcome, command_outcome_of, command_on, command_outcome_of_step, command_step_by, command_step_on, command_step_told_on}

-- ---- the record

module _ (r io : List ℕ) where
  -- This is the test of a call.
  stands : Bool
  stands = is_known r && is_whole (numbers_of (device_at r)) (length io)

  pub no_record : {k : Bool} → k ≡ is_known r → not k ≡ true → false ≡ is_known r && is_whole (numbers_of (device_at r)) (length io)
  no_record {k} ek q = rw (← ek, not_true k q)

  pub a_record : {k : Bool} → k ≡ is_known r → not k ≡ false → {n : Numbers} → n ≡ numbers_of (device_at r) → {w : Bool} → w ≡ is_whole n (length io)
      → w ≡ is_known r && is_whole (numbers_of (device_at r)) (length io)
  a_record {k} ek q en ew = rw (← ek, not_false k q, ← en) ew

  module _ {u : Bool} (eu : u ≡ is_known r && is_whole (numbers_of (device_at r)) (length io)) (q : not u ≡ false) where
    holds : stands ≡ true
    unfolding stands
    holds = sym eu ∙ not_false u q

    pub long : length r ≡ field.record_size
    unfolding stands
    long = (is_known_lem r (and_left _ _ holds)).long

    pub block_fits : get field.block_length r ≤ 16
    unfolding stands device_at wrapper_at
    block_fits = (is_whole_lem _ _ (and_right (is_known r) _ holds)).block

  -- A record that is missing and one that is broken look the same to the caller; on any other the call is made.
  module _ {A B : Type 0} (out : A → B) (refused : A) (done : Device → A) where
    called : B
    called = on_device r (out refused) (λ (d : Device). out (unless_broken d io refused (done d)))

    none : stands ≡ false → out refused ≡ called
    unfolding stands called on_device unless_broken
    none = by (is_known r)
      where
        by : (k : Bool) → k && is_whole (numbers_of (device_at r)) (length io) ≡ false
            → out refused ≡ cond k (out (cond (is_whole (numbers_of (device_at r)) (length io)) (done (device_at r)) refused)) (out refused)
        by true e = rw e
        by false e = refl

    made : stands ≡ true → out (done (device_at r)) ≡ called
    unfolding stands called on_device unless_broken
    made e = rw (and_left (is_known r) _ e, and_right (is_known r) _ e)

-- ---- the block where it stands in the record

pub shows_block : (r was : List ℕ) → length r ≡ field.record_size → length was ≡ 16 → {lun n x : ℕ} {l : List ℕ}
    → l ≡ overlay was 0 (take 16 (drop 36 r)) → lun ≡ get field.lun r → n ≡ get field.block_length r → x ≡ word 0 lun 0 1 n
    → command_outcome x l ≡ command_outcome_of was (showing (wrapper_at r))
unfolding wrapper_at bytes_at
shows_block r was h e el en ek ex =
    rw (ex, en, ek, el) (ap (command_outcome _) (overlay_whole was (take 16 (drop 36 r)) (length_part 36 16 r (omega arith) ∙ sym e)))

pub tells_lun : (r : List ℕ) {lun x : ℕ} → lun ≡ get field.lun r → x ≡ word 0 lun 0 1 0 → x ≡ word 0 (get field.lun r) 0 1 0
tells_lun r en ex = rw en at ex

-- The part of the record up to the end of the block is the block of the wrapper.
pub decodes_block : (extended : Bool) (r was : List ℕ) → get field.block_length r ≤ 16 → {n : ℕ} → n ≡ get field.block_length r → {a : ℕ} {l : List ℕ}
    → decode_outcome a l ≡ decode_outcome_of was (decode_call extended (take (36 + n - 36) (drop 36 r))) → decode_outcome a l ≡ decode_outcome_of was (decode_call extended (block_of (wrapper_at r)))
unfolding wrapper_at block_of bytes_at
decodes_block extended r was h {n} en e =
    e ∙ ap (λ (b : List ℕ). decode_outcome_of was (decode_call extended b))
    (ap (λ (k : ℕ). take k (drop 36 r)) (add-sub_cancel_left 36 n ∙ en) ∙ sym (take-take (get field.block_length r) 16 (drop 36 r) h))

-- ---- a block that was decoded, as a step

-- This is what a step that gives `o` leaves, where the numbers `was` were lent.
left : List ℕ → Stepping → CommandOutcome
left was o = command_outcome_of_step o.answer.number was o.offers

module _ (extended : Bool) (lun : ℕ) (block was : List ℕ) {a : ℕ} {l : List ℕ} (six : length was ≡ 6)
    (h : decode_outcome a l ≡ decode_outcome_of was (decode_call extended block)) where
  -- The decoder finds an empty block (`true`) or a command.
  found : Bool → Decoding
  found b = cond b (record { answer = 13; commands = [] }) (record { answer = 0; commands = decoded extended block ∷ [] })

  Decoded : Bool → Type 0
  Decoded b = decode_outcome a l ≡ decode_outcome_of was (found b)

  Steps : Bool → ℕ → Type 0
  Steps b x = command_outcome x l ≡ left was (stepping_of_decoding lun (found b))

  given : Decoded (eqb (length block) 0)
  unfolding Decoded found decode_call
  given = h

  empty_by : (b : Bool) → Decoded b → (a ≡ 0 → ⊥) → Steps b a
  unfolding Decoded Steps found left decode_outcome_of stepping_of_decoding word
  empty_by true e n = rw (eq-eqb _ _ six) at (ap (λ (o : DecodeOutcome). command_outcome o.number o.lent) e)
  empty_by false e n = absurd (n (rw (eq-eqb _ _ six) at (ap (λ (o : DecodeOutcome). o.number) e)))

  offered_by_lem : (b : Bool) → Decoded b → a ≡ 0 → {x : ℕ} → x ≡ word 0 lun 0 1 0 → Steps b x
  unfolding Decoded Steps found left decode_outcome_of stepping_of_decoding
  offered_by_lem true e z ex =
      let n : a ≡ 13 = rw (eq-eqb _ _ six) at (ap (λ (o : DecodeOutcome). o.number) e) in
      let no : ⊥ = omega arith in
      absurd no
  offered_by_lem false e z ex = rw (ex, rw (eq-eqb _ _ six) at (ap (λ (o : DecodeOutcome). o.lent) e))

  steps_empty : (a ≡ 0 → ⊥) → command_outcome a l ≡ left was (stepping_of_decoding lun (decode_call extended block))
  unfolding Steps found decode_call
  steps_empty n = empty_by (eqb (length block) 0) given n

  steps_offered : a ≡ 0 → {x : ℕ} → x ≡ word 0 lun 0 1 0 → command_outcome x l ≡ left was (stepping_of_decoding lun (decode_call extended block))
  unfolding Steps found decode_call
  steps_offered z ex = offered_by_lem (eqb (length block) 0) given z ex

-- No refusal has the number 0.
refuses : (f : Refusal) → refusal_number f ≡ 0 → ⊥
refuses BrokenRecord e = omega (arith, e)
refuses EmptyBlock e = omega (arith, e)

-- ---- the two calls

module _ (r io was : List ℕ) where
  pub command_wrong : (length was ≡ 16 → ⊥) → command_outcome 10 was ≡ command_on r io was
  unfolding command_on word
  command_wrong n = rw (ne_eqb _ _ n)

  pub step_wrong : (extended : Bool) → (length was ≡ 6 → ⊥) → command_outcome 10 was ≡ command_step_by extended r io was
  unfolding command_step_by word
  step_wrong extended n = rw (ne_eqb _ _ n)

  -- These are the two calls on a device that is not broken.
  shown : Device → Showing
  shown d = cond (is_shown d) (showing d.wrapper) (hiding (answer 0))

  stepped : Bool → Device → Stepping
  stepped extended d = cond (is_offered d) (stepping_of_decoding d.wrapper.lun (decode_call extended (block_of d.wrapper))) (stepping (answer 0) [])

  module _ {u : Bool} (eu : u ≡ is_known r && is_whole (numbers_of (device_at r)) (length io)) where
    fails : not u ≡ true → stands r io ≡ false
    unfolding stands
    fails q = sym eu ∙ not_true u q

    pub command_refused : length was ≡ 16 → not u ≡ true → command_outcome 10 was ≡ command_on r io was
    unfolding command_on command_call called shown word
    command_refused e q = rw (eq-eqb _ _ e) (none r io (command_outcome_of was) (hiding (answer 10)) shown (fails q))

    pub step_refused : (extended : Bool) → length was ≡ 6 → not u ≡ true → command_outcome 10 was ≡ command_step_by extended r io was
    unfolding command_step_by command_step_told_call called stepped left word
    step_refused extended e q = rw (eq-eqb _ _ e) (none r io (left was) (stepping (answer 10) []) (stepped extended) (fails q))

    module _ (q : not u ≡ false) {d : Device} (ed : d ≡ device_at r) where
      on_16 : length was ≡ 16 → command_outcome_of was (shown (device_at r)) ≡ command_on r io was
      unfolding command_on command_call called shown
      on_16 e = rw (eq-eqb _ _ e) (made r io (command_outcome_of was) (hiding (answer 10)) shown (holds r io eu q))

      on_6 : (extended : Bool) → length was ≡ 6 → left was (stepped extended (device_at r)) ≡ command_step_by extended r io was
      unfolding command_step_by command_step_told_call called stepped left
      on_6 extended e = rw (eq-eqb _ _ e) (made r io (left was) (stepping (answer 10) []) (stepped extended) (holds r io eu q))

      module _ {n : ℕ} (en : n ≡ state_number CommandTransfer) {t : Bool} (et : t ≡ is_in n d) where
        in_0 : t ≡ is_in 0 d
        in_0 = rw en at et

        pub command_none : length was ≡ 16 → t ≡ true → command_outcome 0 was ≡ command_on r io was
        unfolding shown is_shown word
        command_none e p = rw (← ed, ← in_0, p) at (on_16 e)

        pub command_shown : length was ≡ 16 → t ≡ false → {x : ℕ} {l : List ℕ} → command_outcome x l ≡ command_outcome_of was (showing (wrapper_at r)) → command_outcome x l ≡ command_on r io was
        unfolding shown is_shown device_at
        command_shown e p ex = ex ∙ rw (← ed, ← in_0, p) at (on_16 e)

      module _ (extended : Bool) {t : Bool} (et : t ≡ is_offered d) where
        pub step_none : length was ≡ 6 → not t ≡ true → command_outcome 0 was ≡ command_step_by extended r io was
        unfolding stepped left word
        step_none e p = rw (← ed, ← et, not_true t p) at (on_6 extended e)

        module _ (e : length was ≡ 6) (p : not t ≡ false) (o : Result (Unit {0}) Refusal) {l : List ℕ}
            (h : decode_outcome (outcome_number o) l ≡ decode_outcome_of was (decode_call extended (block_of (wrapper_at r)))) where
          decoded_step : left was (stepping_of_decoding (wrapper_at r).lun (decode_call extended (block_of (wrapper_at r)))) ≡ command_step_by extended r io was
          unfolding stepped device_at
          decoded_step = rw (← ed, ← et, not_false t p) at (on_6 extended e)

          pub step_empty : {f : Refusal} → o ≡ Err f → {x : ℕ} → x ≡ refusal_number f → command_outcome x l ≡ command_step_by extended r io was
          step_empty {f} eo ex =
              let n : outcome_number o ≡ refusal_number f = ap outcome_number eo in
              rw (ex, ← n) (steps_empty extended (wrapper_at r).lun (block_of (wrapper_at r)) was e h (λ z. refuses f (sym n ∙ z)) ∙ decoded_step)

          pub step_offered : {u : Unit {0}} → o ≡ Ok u → {x : ℕ} → x ≡ word 0 (get field.lun r) 0 1 0 → command_outcome x l ≡ command_step_by extended r io was
          unfolding wrapper_at
          step_offered eo ex = steps_offered extended (wrapper_at r).lun (block_of (wrapper_at r)) was e h (ap outcome_number eo) ex ∙ decoded_step

  -- ---- the plain step, and the one that is told a number

  module _ {o : CommandOutcome} where
    pub plainly : o ≡ command_step_by plain_is_extended r io was → o ≡ command_step_on r io was
    unfolding command_step_on
    plainly h = h

    pub told : (x : ℕ) → x ≤ 1 → o ≡ command_step_by (eqb x 1) r io was → o ≡ command_step_told_on x r io was
    unfolding command_step_told_on
    told x h e = rw (le-leb x 1 h) e

  pub no_flag : (x : ℕ) → 1 < x → command_outcome 10 was ≡ command_step_told_on x r io was
  unfolding command_step_told_on word
  no_flag x h = rw (lt-leb x 1 h)

-- The plain step is the one that is told 1.
pub plain_told : (r io was : List ℕ) → command_step_on r io was ≡ command_step_told_on 1 r io was
unfolding command_step_on command_step_told_on
plain_told r io was = refl

pub ruleset ways = (long_then, no_record, a_record, long, block_fits, shows_block, tells_lun, decodes_block, command_wrong, step_wrong, command_refused, step_refused, command_none, command_shown, step_none, step_empty, step_offered, plainly, told, no_flag)

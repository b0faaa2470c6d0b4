-- A command as six numbers: what the two entries have to do with each other, and that there is no refusal but two. Assumes nothing.
use mathlib.Core.Path.{◌≡◌, refl, ap}
use mathlib.Core.Bool.{Bool, true, false, cond}
use mathlib.Core.List.{List, [], ◌∷◌}
use Prim.Native.Nat.{ℕ}
use lib.Dec.{eqb}
use lib.ListN.{length}
use Rattle.scsi.specs.Decoding.{Decoding, decoding, decoded, decode_call, plain_call}
use Rattle.scsi.specs.Numbers.{DecodeOutcome, decode_outcome, decode_outcome_of, laid, shown_decode, shown_told}

-- The plain entry is the one that is told 1.
pub plain_told : (block was : List ℕ) → shown_decode block was ≡ shown_told 1 block was
unfolding shown_decode shown_told plain_call
plain_told block was = refl

-- The number of an outcome is 0, 13 or 10.
pub the_last_number : (extended : Bool) (block was : List ℕ) {n : ℕ} {l : List ℕ}
    → decode_outcome n l ≡ decode_outcome_of was (decode_call extended block) → (n ≡ 0 → ⊥) → (n ≡ 13 → ⊥) → n ≡ 10
unfolding decode_outcome_of decode_call
the_last_number extended block was {n} h not_0 not_13 = by (eqb (length was) 6) (eqb (length block) 0) (ap (λ (o : DecodeOutcome). o.number) h)
  where
    found : Bool → Decoding
    found b = cond b (decoding 13 []) (decoding 0 (decoded extended block ∷ []))

    by : (six empty : Bool) → n ≡ (cond six (decode_outcome (found empty).answer (laid was (found empty).commands)) (decode_outcome 10 was)).number → n ≡ 10
    by true true e = absurd (not_13 e)
    by true false e = absurd (not_0 e)
    by false b e = e

-- What a caller reads off a result is what was put into it.
--     reading_is       an answer with a count beside it, or with the bytes missing
--     reading_plain    an answer that is not 1, with a LUN or nothing in the second byte
-- Assumes nothing.
use mathlib.Core.Path.{◌≡◌, refl}
use mathlib.Core.Bool.{false}
use Prim.Native.Nat.{ℕ, ◌<◌, min}
use lib.Dec.{eqb, lit<}
use borrow.Author.Tests.{eqb-true, eqb-false}
use borrow.Table.Steps.{cases}
use Rattle.answers.specs.declared.Stalls.{Stalls}
use Rattle.answers.specs.declared.Stalls.TheVariants.{Kept, Stalled, Unstalled, UnstalledStalled}
use Rattle.answers.specs.Answers.{Answering}
use Rattle.answers.proofs.Legible.{Legible}
use Rattle.border.specs.Word.{word, stalls_number, upper_half, reading_of}
use Rattle.border.proofs.Parts.{answer_read_lem, carried_read, stalls_read, flag_read, stalls_told}
use Rattle.border.proofs.Upper.{upper_other, missing_read, counted_read}

stalls_small : (s : Stalls) → stalls_number s < 256
stalls_small Kept = lit< tt
stalls_small Stalled = lit< tt
stalls_small Unstalled = lit< tt
stalls_small UnstalledStalled = lit< tt

module _ (a : Answering) (stalls : Stalls) (flag count : ℕ) (l : Legible a count) (hf : flag < 256) (only : (a.number ≡ 1 → ⊥) → a.missing ≡ 0) where
  pub reading_is : reading_of (word a.number a.carried (stalls_number stalls) flag (upper_half a count))
      ≡ record { number = a.number; carried = a.carried; stalls = stalls; flag = flag; count = count; missing = min a.missing 4294967295 }
  unfolding reading_of
  reading_is =
      let hs : stalls_number stalls < 256 = stalls_small stalls in
      let n : ℕ = stalls_number stalls in
      let u : ℕ = upper_half a count in
      rw (
        missing_read a n flag count l.number l.carried hs hf,
        counted_read a n flag count l.number l.carried hs hf,
        answer_read_lem a.number a.carried n flag u l.number,
        carried_read a.number a.carried n flag u l.number l.carried,
        stalls_read a.number a.carried n flag u l.number l.carried hs,
        flag_read a.number a.carried n flag u l.number l.carried hs hf,
        stalls_told stalls,
      )
      (cases (eqb a.number 1) (λ e. rw (e, l.none (eqb-true a.number 1 e))) (λ e. rw (e, only (eqb-false a.number 1 e))))

pub reading_plain : (number lun : ℕ) (stalls : Stalls) (flag count : ℕ) → number < 256 → eqb number 1 ≡ false → lun < 256 → flag < 256
    → reading_of (word number lun (stalls_number stalls) flag count) ≡ record { number = number; carried = lun; stalls = stalls; flag = flag; count = count; missing = 0 }
reading_plain number lun stalls flag count small other hl hf =
    let a : Answering = record { number = number; carried = lun; missing = 0 } in
    rw (upper_other a count other) at
    (reading_is a stalls flag count (record { number = small; carried = hl; none = λ e. absurd (eqb-false number 1 other e) }) hf (λ _. refl))

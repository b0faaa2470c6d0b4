-- Bits 32 to 63 of a result: with every other answer than 1 they are the count (`upper_other`); what each way through `upper_half` owes; and
-- what a caller reads off a result (`missing_read`, `counted_read`). Assumes nothing.
use mathlib.Core.Path.{◌≡◌, sym, ◌∙◌}
use mathlib.Core.Bool.{false, cond}
use Prim.Native.Nat.{ℕ, ◌^◌, ◌/◌, ◌%◌, ◌<◌, min}
use native.Mathlib.Nat.{min-le_right}
use native.Mathlib.Omega.{arith}
use lib.Dec.{eqb}
use borrow.Author.Tests.{eq-eqb, ne_eqb}
use borrow.Table.Steps.{cases}
use Rattle.answers.specs.Answers.{Answering}
use Rattle.border.specs.Word.{word, upper_half}
use Rattle.border.proofs.Parts.{answer_read_lem, count_read}

pub upper_other : (a : Answering) (count : ℕ) → eqb a.number 1 ≡ false → upper_half a count ≡ count
unfolding upper_half
upper_other a count e = rw e

pub upper_fits : (n : ℕ) {k : ℕ} → k ≡ min n 4294967295 → k < 2 ^ 32
upper_fits n e = omega (arith, e, min-le_right n 4294967295)

module _ (a : Answering) (count : ℕ) {n : ℕ} (en : n ≡ a.number) where
  pub upper_missing : n ≡ 1 → {m k x : ℕ} → m ≡ a.missing → k ≡ min m 4294967295 → x ≡ k → x ≡ upper_half a count
  unfolding upper_half
  upper_missing q em ek ex = rw (← en, eq-eqb _ _ q, ← em, ← ek) ex

  pub upper_count : (n ≡ 1 → ⊥) → count ≡ upper_half a count
  upper_count q = sym (upper_other a count (ne_eqb _ _ (λ e. q (en ∙ e))))

-- A caller reads a result as the header does: with answer 1 these bits are the bytes missing and the count is 0, and with every other answer
-- they are the count and nothing is missing.
module _ (a : Answering) (stalls flag count : ℕ) (ha : a.number < 256) (hc : a.carried < 256) (hs : stalls < 256) (hf : flag < 256) where
  abbrev result : ℕ
  result = word a.number a.carried stalls flag (upper_half a count)

  number : result % 256 ≡ a.number
  number = answer_read_lem a.number a.carried stalls flag (upper_half a count) ha

  upper : result / 4294967296 ≡ upper_half a count
  upper = count_read a.number a.carried stalls flag (upper_half a count) ha hc hs hf

  pub missing_read : cond (eqb (result % 256) 1) (result / 4294967296) 0 ≡ cond (eqb a.number 1) (min a.missing 4294967295) 0
  unfolding upper_half
  missing_read = rw (number, upper) (cases (eqb a.number 1) (λ e. rw e) (λ e. rw e))

  pub counted_read : cond (eqb (result % 256) 1) 0 (result / 4294967296) ≡ cond (eqb a.number 1) 0 count
  unfolding upper_half
  counted_read = rw (number, upper) (cases (eqb a.number 1) (λ e. rw e) (λ e. rw e))

-- A result word shows an answer in one byte, what it carries in another, and a count beside them.
--     Legible           what it can show
--     Plain, plain      an answer that is one byte, not 1, with nothing beside it; each such number is one
--     plain_legible, legible_plain    such an answer can be shown with any count
--     legible_lacking   answer 1, with nothing to count
--     legible_asked     what the endpoint that is asked answers, with any count
-- Assumes nothing.
use mathlib.Core.Path.{◌≡◌, refl, ap}
use mathlib.Core.Bool.{false}
use Prim.Native.Nat.{ℕ, ◌%◌, ◌<◌}
use native.Mathlib.Nat.{mod-lt}
use native.Mathlib.Omega.{arith}
use lib.Dec.{eqb, lit<}
use borrow.Author.Tests.{eqb-false}
use Rattle.fields.proofs.Bools.{of_picked}
use Rattle.answers.specs.declared.Endpoint.{Endpoint}
use Rattle.answers.specs.Answers.{Answering, answer, lacking, failing, endpoint_of, answered_by}

-- What a result word can show of an answer and of the count beside it. With answer 1 the count's place has the bytes missing, so there
-- must be nothing to count.
pub record Legible (a : Answering) (count : ℕ) : Type 0 where
  pub number : a.number < 256
  pub carried : a.carried < 256
  pub none : a.number ≡ 1 → count ≡ 0

-- The answer is one byte and not 1: it carries nothing, and nothing is missing.
pub record Plain (a : Answering) : Type 0 where
  pub number : a.number < 256
  pub other : eqb a.number 1 ≡ false
  pub alone : a ≡ answer a.number

pub plain : (n : ℕ) → n < 256 → eqb n 1 ≡ false → Plain (answer n)
plain n small other = record { number = small; other = other; alone = refl }

pub plain_legible : (a : Answering) (count : ℕ) → Plain a → Legible a count
plain_legible a count p = record {
  number = p.number;
  carried = omega (arith, ap (λ (b : Answering). b.carried) p.alone);
  none = λ e. absurd (eqb-false a.number 1 p.other e);
}

pub legible_plain : (n count : ℕ) → n < 256 → eqb n 1 ≡ false → Legible (answer n) count
legible_plain n count small other = plain_legible (answer n) count (plain n small other)

pub legible_lacking : (n : ℕ) → Legible (lacking n) 0
legible_lacking n = record { number = lit< tt; carried = lit< tt; none = λ _. refl }

legible_failing : (n count : ℕ) → n < 256 → Legible (failing n) count
legible_failing n count small = record { number = lit< tt; carried = small; none = λ e. absurd (eqb-false 7 1 refl e) }

-- An endpoint's answer is a byte, and so is the number of its error.
pub legible_asked : (byte count : ℕ) → Legible (answered_by (endpoint_of byte)) count
unfolding endpoint_of
legible_asked byte count =
    let P : Endpoint → Type 0 = λ (e : Endpoint). Legible (answered_by e) count in
    of_picked P (eqb (byte % 256) 0) (λ _. legible_plain 0 count (lit< tt) refl)
    (λ _. of_picked P (eqb (byte % 256) 1) (λ _. legible_plain 6 count (lit< tt) refl) (λ _. legible_failing (byte % 256) count (mod-lt byte (lit< tt))))

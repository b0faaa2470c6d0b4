-- A result determines each of its parts: at bits 0 to 7, 8 to 15, 16 to 23, 24 to 31 and 32 to 63 a caller reads the answer, the number
-- carried, what is asked of both endpoints, the flag and the count. So results that differ in a part differ. Assumes nothing.
use mathlib.Core.Path.{◌≡◌, refl, sym, ap, ◌∙◌}
use Prim.Native.Nat.{ℕ, ◌+◌, ◌*◌, ◌/◌, ◌%◌, ◌<◌}
use native.Mathlib.Nat.{div-div-eq-div-mul}
use native.Mathlib.Omega.{arith}
use Rattle.answers.specs.declared.Stalls.{Stalls}
use Rattle.answers.specs.declared.Stalls.TheVariants.{Kept, Stalled, Unstalled, UnstalledStalled}
use Rattle.border.specs.Word.{word, stalls_number, stalls_of_number}

-- One part stands below the others: % reads it, and / takes it off.
module _ (part rest : ℕ) (h : part < 256) where
  low : (part + 256 * rest) % 256 ≡ part
  low = omega (arith, h)

  above : (part + 256 * rest) / 256 ≡ rest
  above = omega (arith, h)

-- To divide by `m * 256` is to divide by `m` and then by 256.
over : (n m : ℕ) → n / (m * 256) ≡ n / m / 256
over n m = sym (div-div-eq-div-mul n m 256)

module _ (answer carried stalls flag count : ℕ) where
  abbrev whole : ℕ
  whole = word answer carried stalls flag count

  nested : whole ≡ answer + 256 * (carried + 256 * (stalls + 256 * (flag + 256 * count)))
  unfolding word
  nested = omega arith

  module _ (ha : answer < 256) where
    above_answer : whole / 256 ≡ carried + 256 * (stalls + 256 * (flag + 256 * count))
    above_answer = rw nested (above answer _ ha)

    pub answer_read_lem : whole % 256 ≡ answer
    answer_read_lem = rw nested (low answer _ ha)

    module _ (hc : carried < 256) where
      above_carried : whole / 65536 ≡ stalls + 256 * (flag + 256 * count)
      above_carried = over whole 256 ∙ ap (λ (n : ℕ). n / 256) above_answer ∙ above carried _ hc

      pub carried_read : whole / 256 % 256 ≡ carried
      carried_read = rw above_answer (low carried _ hc)

      module _ (hs : stalls < 256) where
        above_stalls : whole / 16777216 ≡ flag + 256 * count
        above_stalls = over whole 65536 ∙ ap (λ (n : ℕ). n / 256) above_carried ∙ above stalls _ hs

        pub stalls_read : whole / 65536 % 256 ≡ stalls
        stalls_read = rw above_carried (low stalls _ hs)

        module _ (hf : flag < 256) where
          pub flag_read : whole / 16777216 % 256 ≡ flag
          flag_read = rw above_stalls (low flag _ hf)

          pub count_read : whole / 4294967296 ≡ count
          count_read = over whole 16777216 ∙ ap (λ (n : ℕ). n / 256) above_stalls ∙ above flag count hf

-- These are the five parts; `Bytes` says that four of them are bytes.
pub record Parts : Type 0 where
  pub answer : ℕ
  pub carried : ℕ
  pub stalls : ℕ
  pub flag : ℕ
  pub count : ℕ

pub record Bytes (p : Parts) : Type 0 where
  pub answer : p.answer < 256
  pub carried : p.carried < 256
  pub stalls : p.stalls < 256
  pub flag : p.flag < 256

abbrev pub word_of : Parts → ℕ
word_of p = word p.answer p.carried p.stalls p.flag p.count

abbrev pub read : ℕ → Parts
read n = record { answer = n % 256; carried = n / 256 % 256; stalls = n / 65536 % 256; flag = n / 16777216 % 256; count = n / 4294967296 }

pub parts_read : (p : Parts) → Bytes p → read (word_of p) ≡ p
parts_read p h =
    rw (
      answer_read_lem p.answer p.carried p.stalls p.flag p.count h.answer,
      carried_read p.answer p.carried p.stalls p.flag p.count h.answer h.carried,
      stalls_read p.answer p.carried p.stalls p.flag p.count h.answer h.carried h.stalls,
      flag_read p.answer p.carried p.stalls p.flag p.count h.answer h.carried h.stalls h.flag,
      count_read p.answer p.carried p.stalls p.flag p.count h.answer h.carried h.stalls h.flag,
    )

-- One result has only one value of each part.
pub parts_once : (p q : Parts) → Bytes p → Bytes q → word_of p ≡ word_of q → p ≡ q
parts_once p q hp hq e = sym (parts_read p hp) ∙ ap read e ∙ parts_read q hq

-- The number of what is asked of both endpoints determines what is asked.
pub stalls_told : (s : Stalls) → stalls_of_number (stalls_number s) ≡ s
unfolding stalls_of_number
stalls_told Kept = refl
stalls_told Stalled = refl
stalls_told Unstalled = refl
stalls_told UnstalledStalled = refl

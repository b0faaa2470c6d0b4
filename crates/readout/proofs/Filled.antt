-- Laws of bytes that are filled up with a filler to a given number. Assumes nothing.
use mathlib.Core.Path.{◌≡◌, sym, ap, ◌∙◌}
use mathlib.Core.List.{List, ◌++◌, append_assoc, append-nil}
use Prim.Native.Nat.{ℕ, ◌+◌, ◌-◌, ◌≤◌}
use native.Mathlib.Omega.{arith}
use lib.ListN.{length, replicate, length-append, length-replicate, replicate-append-replicate}
use Rattle.readout.specs.Demand.{filled_with}

module _ (v : ℕ) where
  fillers : ℕ → List ℕ
  fillers n = replicate n v

  length_fillers : (n : ℕ) → length (fillers n) ≡ n
  unfolding fillers
  length_fillers n = length-replicate {A = ℕ} n v

  pub length_filled : (n : ℕ) (xs : List ℕ) → length xs ≤ n → length (filled_with v n xs) ≡ n
  unfolding filled_with fillers
  length_filled n xs few = omega (arith, length-append xs (fillers (n - length xs)), length_fillers (n - length xs))

  -- Where there are enough bytes already, nothing is filled.
  pub filled_already : (n : ℕ) (xs : List ℕ) → n ≤ length xs → filled_with v n xs ≡ xs
  unfolding filled_with fillers
  filled_already n xs many =
      let none : n - length xs ≡ 0 = omega arith in
      ap (λ (k : ℕ). xs ++ fillers k) none ∙ append-nil xs

  -- Bytes in front count too.
  pub filled_behind : (l n : ℕ) (front xs : List ℕ) → l + length front ≡ n → front ++ filled_with v l xs ≡ filled_with v n (front ++ xs)
  unfolding filled_with fillers
  filled_behind l n front xs e =
      let same : l - length xs ≡ n - length (front ++ xs) = omega (arith, length-append front xs) in
      sym (append_assoc front xs (fillers (l - length xs))) ∙ ap (λ (k : ℕ). front ++ xs ++ fillers k) same

  -- Where some of the same filler is there already, the outcome is the same.
  pub filled_partly : (n k : ℕ) (xs : List ℕ) → length xs + k ≤ n → filled_with v n (xs ++ replicate k v) ≡ filled_with v n xs
  unfolding filled_with fillers
  filled_partly n k xs few =
      let m : ℕ = n - length (xs ++ fillers k) in
      let rest : k + m ≡ n - length xs = omega (arith, length-append xs (fillers k), length_fillers k) in
      append_assoc xs (fillers k) (fillers m) ∙ ap (λ (l : List ℕ). xs ++ l) (replicate-append-replicate {A = ℕ} k m v ∙ ap fillers rest)

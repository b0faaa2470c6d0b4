-- The quotient rounded up, for every P above 0: it is 0 for 0 bytes, and one packet makes it smaller by 1. Assumes nothing.
use mathlib.Core.Path.{◌≡◌, refl, sym, ap, ◌∙◌}
use mathlib.Core.Bool.{Bool, true, false}
use Prim.Native.Nat.{ℕ, ◌+◌, ◌-◌, ◌/◌, ◌≤◌, ◌<◌, min}
use native.Mathlib.Nat.{div-eq_of_lt, div-eq-sub-div}
use native.Mathlib.Omega.{arith}
use lib.Dec.{ltb}
use borrow.Author.Tests.{ltb-true, ltb-false}
use Rattle.readout.specs.Demand.{ceiling}

pub ceiling_none : (p : ℕ) → 0 < p → ceiling 0 p ≡ 0
unfolding ceiling
ceiling_none p some = div-eq_of_lt (omega arith)

-- Of `n` bytes min(P, n) go out, and `m` are left.
pub ceiling_falls : (p n m : ℕ) → 0 < p → 0 < n → m ≡ n - min p n → ceiling m p + 1 ≡ ceiling n p
unfolding ceiling
ceiling_falls p n m some more e = ap (λ (q : ℕ). q + 1) (by (ltb n p) refl) ∙ sym (div-eq-sub-div some (omega arith))
  where
    by : (b : Bool) → ltb n p ≡ b → (m + (p - 1)) / p ≡ (n + (p - 1) - p) / p
    by true h =
        let few : n < p = ltb-true n p h in
        div-eq_of_lt (omega arith) ∙ sym (div-eq_of_lt (omega arith))
    by false h =
        let many : p ≤ n = ltb-false n p h in
        ap (λ (q : ℕ). q / p) (omega arith)

-- Where something is left to send, at least one poll is due.
pub ceiling_some : (p n : ℕ) → 0 < p → 0 < n → 0 < ceiling n p
ceiling_some p n some more = omega (arith, ceiling_falls p n (n - min p n) some more refl)

-- What holds of each number up to k, one by one, holds of every number up to k. Assumes nothing.
use mathlib.Core.Path.{sym, subst}
use Prim.Native.Nat.{ℕ, zero, suc, ◌≤◌}
use native.Mathlib.Omega.{arith}
use lib.Dec.{eqb}
use borrow.Table.Steps.{cases}
use borrow.Author.Tests.{eqb-true, eqb-false}

abbrev pub AllUpTo : (P : ℕ → Type 0) → ℕ → Type 0
AllUpTo P zero = P 0
AllUpTo P (suc k) = AllUpTo P k × P (suc k)

pub up_to : (P : ℕ → Type 0) (k n : ℕ) → n ≤ k → AllUpTo P k → P n
up_to P zero n h p = subst P (omega arith) p
up_to P (suc k) n h p = cases (eqb n (suc k)) (λ e. subst P (sym (eqb-true n (suc k) e)) p.1) (λ e. up_to P k n (omega (arith, eqb-false n (suc k) e)) p.0)

-- These facts about tests are not in the library. Assumes nothing.
use mathlib.Core.Path.{◌≡◌, refl, sym, subst}
use mathlib.Core.Bool.{Bool, true, false, not, cond, ◌&&◌}
use lib.Dec.{T}

pub and_left : (a b : Bool) → a && b ≡ true → a ≡ true
and_left true b e = refl
and_left false b e = e

pub and_right : (a b : Bool) → a && b ≡ true → b ≡ true
and_right true b e = e
and_right false true e = refl
and_right false false e = e

-- A test picks `s` or `t`. If P holds of each of them where it is picked, P holds of the one that is picked.
pub of_picked : {A : Type 0} (P : A → Type 0) (b : Bool) {s t : A} → (b ≡ true → P s) → (b ≡ false → P t) → P (cond b s t)
of_picked P true p q = p refl
of_picked P false p q = q refl

-- A negated test tells what the test is.
pub not_true : (b : Bool) → not b ≡ true → b ≡ false
not_true true e = sym e
not_true false e = refl

pub not_false : (b : Bool) → not b ≡ false → b ≡ true
not_false true e = refl
not_false false e = sym e

-- The two truth values differ.
pub clash : true ≡ false → ⊥
clash e = subst T e tt

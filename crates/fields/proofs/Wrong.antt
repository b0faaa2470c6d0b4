-- A table with a wrong case does not hold, whatever the kind of that case is and whatever stands around it. Assumes nothing.
use mathlib.Core.Path.{◌≡◌, refl, ap}
use mathlib.Core.Bool.{true, false, not}
use mathlib.Core.List.{List, [], ◌∷◌, ◌++◌}
use lib.ListN.{get_or}
use Prim.Native.Nat.{ℕ, ◌+◌}
use borrow.Author.Tests.{eqb-false}
use Rattle.fields.specs.Field.{digits}
use Rattle.fields.specs.Case.{Case, case, AllHold}
use Rattle.fields.proofs.Bools.{clash}

-- If a table holds, each of its cases does.
pub holds_there : (before : List Case) (c : Case) (behind : List Case) → AllHold (before ++ c ∷ behind) → c.computed ≡ c.expected
unfolding AllHold
holds_there [] c behind (holds, _) = holds
holds_there (_ ∷ before) c behind (_, rest) = holds_there before c behind rest

pub bites : {A : Type 0} (before : List Case) (x y : A) (behind : List Case) → (x ≡ y → ⊥) → AllHold (before ++ case x y ∷ behind) → ⊥
bites before x y behind differ holds = differ (holds_there before (case x y) behind holds)

-- ---- three small tables, each with a right case and then a wrong one

pub wrong_number : AllHold (case (1 + 2) 3 ∷ case (2 + 2) 5 ∷ []) → ⊥
wrong_number = bites (case (1 + 2) 3 ∷ []) (2 + 2) 5 [] (eqb-false 4 5 refl)

pub wrong_bool : AllHold (case (not true) false ∷ case (not false) false ∷ []) → ⊥
wrong_bool = bites (case (not true) false ∷ []) (not false) false [] clash

pub wrong_list : AllHold (case (1 + 2) 3 ∷ case (digits 2 1) (1 ∷ 1 ∷ []) ∷ []) → ⊥
unfolding digits
wrong_list = bites (case (1 + 2) 3 ∷ []) (digits 2 1) (1 ∷ 1 ∷ []) [] (λ h. eqb-false 0 1 refl (ap (λ (l : List ℕ). get_or l 1 0) h))

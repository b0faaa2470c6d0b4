-- This file says what it means that a contract has no second answer, for any function of any crate. Assumes nothing.
use mathlib.Core.Path.{◌≡◌, sym, ap, ◌∙◌}
use mathlib.Core.List.{List}
use Prim.Native.Nat.{ℕ}
use contract.Lifetimes.{Lfts}
use denote.Triple.Clauses.{AtExit}
use borrow.Fn.Kinds.{ParamKind, ResultKind, Out, Dens, res_t, ended_of}

-- Two answers that meet a contract with the same arguments are the same, and so is what `look` sees at exit.
abbrev pub Only : {B : Type 0} (n : ℕ) (ps : List (ParamKind n)) (r : ResultKind n) → Out n ps r → ((κs : Lfts n) → AtExit (ended_of n ps r) κs → B) → Type 0
Only n ps r Post look =
    (κs : Lfts n) (a : Dens κs ps) (x y : (res_t r κs).Denot) (s t : AtExit (ended_of n ps r) κs)
    → Post κs a x s → Post κs a y t → (x ≡ y) × (look κs s ≡ look κs t)

-- If `told` tells something of an answer, and `untold` gives the answer back from it, then two
-- answers of which the same is told are the same.
pub once : {A B : Type 0} (told : A → B) (untold : B → A) → ((x : A) → untold (told x) ≡ x) → (x y : A) {o : B} → told x ≡ o → told y ≡ o → x ≡ y
once told untold back x y p q = sym (back x) ∙ ap untold (p ∙ sym q) ∙ back y

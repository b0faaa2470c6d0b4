-- Rules of the calculus of `Types/Kit.antt` for a list of locals, of any types and any number: together they are one item of the context.
-- A walk through code that has such a list of locals can then name the places of its other locals. Assumes nothing.
--     Addresses τs, Values τs    an address, and a value that fits, for each type
--     locals, env                the locals of a function, and its environment, with these before others
--     rooms, cells               room for each, or its cell with its value; and with each the right to free it
--     allots, passes_all, frees_all    they are allocated, given their arguments, and freed
--     at_local                   a place begins at a local whose spot is known by an equation
--     opds_as                    operands are read in a context that is written another way
use Prim.Native.Nat.{ℕ, zero}
use mathlib.Core.Path.{◌≡◌, refl, sym, subst}
use mathlib.Core.List.{[], ◌∷◌, List}
use seplogic.Ra.Ura.{Ura}
use base.Fraction.{full_share}
use mir.Syntax.{Ty, Local, local, value_local, Step as PStep, place, Opd as Operand}
use mir.Val.{Val}
use base.Logic.{ent, via}
use base.Fml.{ftrue, fat, froom, fdies}
use prog.Wp.{Heap, Env, Spot, spot_of, walk}
use types.Logic.{Logic}
use types.Kit.{Item, ‵, ◌⊛◌, ⋆, Goal, allocs, passes, frees, prop, Seq, Step, step, ◌$◌, move, drop, split, join, done}
use types.Run.{Walks, Finds, Opds, init, forget, alloc1, pass1, pass0, free1}
use denote.Steps.{nothing}
use Rattle.thin.proofs.Data.{Fits}

abbrev pub Addresses : List Ty → Type 0
Addresses [] = Unit {0}
Addresses (τ ∷ τs) = ℕ × Addresses τs

abbrev pub Values : List Ty → Type 0
Values [] = Unit {0}
Values (τ ∷ τs) = ((v : Val) × Fits τ v) × Values τs

abbrev pub values : (τs : List Ty) → Values τs → List Val
values [] vs = []
values (τ ∷ τs) vs = vs.0.0 ∷ values τs vs.1

abbrev pub locals : List Ty → List Local → List Local
locals [] ls = ls
locals (τ ∷ τs) ls = local τ value_local ∷ locals τs ls

-- These are a local's room, its cell with a value, and the right to free it.
abbrev pub room : {M : Type 1} (𝓤 : Ura M) → Ty → ℕ → Item 𝓤
room 𝓤 τ b = ‵ (froom τ b zero)

abbrev pub cell : {M : Type 1} (𝓤 : Ura M) → Ty → ℕ → Val → Item 𝓤
cell 𝓤 τ b v = ‵ (fat full_share τ b zero v)

abbrev pub right : {M : Type 1} (𝓤 : Ura M) → Ty → ℕ → Item 𝓤
right 𝓤 τ b = ‵ (fdies τ b)

module _ {M : Type 1} (𝓤 : Ura M) (H : Heap 𝓤) where
  abbrev pub env : (τs : List Ty) → Addresses τs → Env 𝓤 H → Env 𝓤 H
  env [] bs E = E
  env (τ ∷ τs) bs E = (τ, bs.0) ∷ env τs bs.1 E

  abbrev pub rooms : (τs : List Ty) → Addresses τs → Item 𝓤
  rooms [] bs = ‵ ftrue
  rooms (τ ∷ τs) bs = (room 𝓤 τ bs.0 ⊛ right 𝓤 τ bs.0) ⊛ rooms τs bs.1

  abbrev pub cells : (τs : List Ty) → Addresses τs → Values τs → Item 𝓤
  cells [] bs vs = ‵ ftrue
  cells (τ ∷ τs) bs vs = (cell 𝓤 τ bs.0 vs.0.0 ⊛ right 𝓤 τ bs.0) ⊛ cells τs bs.1 vs.1

module _ {M : Type 1} {𝓤 : Ura M} {𝓛 : Logic 𝓤} {K : Type 0} where
  open 𝓛 use {H}

  pub allots : K → (τs : List Ty) (ls : List Local) {Kt : Env 𝓤 H → Goal 𝓤 H} {Γ : List (Item 𝓤)}
      → ((bs : Addresses τs) → Seq K 𝓛 (rooms 𝓤 H τs bs ∷ Γ) (allocs ls (λ E. Kt (env 𝓤 H τs bs E)))) → Seq K 𝓛 Γ (allocs (locals τs ls) Kt)
  allots t [] ls k = nothing t $ k tt
  allots t (τ ∷ τs) ls k = alloc1 t (λ b. allots t τs ls (λ bs. move t (1 ∷ 2 ∷ 0 ∷ []) $ join t $ join t $ k (b, bs)))

  pub passes_all : K → (τs : List Ty) (bs : Addresses τs) (vs : Values τs) (E : Env 𝓤 H) {g : Goal 𝓤 H} {Γ : List (Item 𝓤)}
      → Step K 𝓛 (cells 𝓤 H τs bs vs ∷ Γ) g (rooms 𝓤 H τs bs ∷ Γ) (passes (env 𝓤 H τs bs E) (values τs vs) g)
  passes_all t [] bs vs E = pass0 t
  passes_all t (τ ∷ τs) bs vs E = step (λ s.
      split t $ split t $ pass1 t (init t 0 refl vs.0.1) $ move t (2 ∷ []) $ passes_all t τs bs.1 vs.1 E $ move t (1 ∷ 2 ∷ 0 ∷ []) $ join t $ join t $ s)

  pub frees_all : K → (τs : List Ty) (bs : Addresses τs) (vs : Values τs) (E : Env 𝓤 H) {g : Goal 𝓤 H} {Γ : List (Item 𝓤)}
      → Step K 𝓛 Γ (frees E g) (cells 𝓤 H τs bs vs ∷ Γ) (frees (env 𝓤 H τs bs E) g)
  frees_all t [] bs vs E = drop t
  frees_all t (τ ∷ τs) bs vs E = step (λ s. split t $ split t $ forget t 0 refl $ free1 t $ frees_all t τs bs.1 vs.1 E $ s)

  pub at_local : K → {Γ : List (Item 𝓤)} {E : Env 𝓤 H} {i : ℕ} {st : List PStep} {sp sp' : Spot 𝓤 H}
      → spot_of 𝓤 H E i ≡ sp → Walks K 𝓛 Γ E sp st sp' → Finds K 𝓛 Γ E (place i st) sp'
  at_local t {Γ} {E} {i} {st} {sp} {sp'} e w = record { go = λ Kt h. subst (λ (s : Spot 𝓤 H). ent 𝓤 (⋆ 𝓛 Γ) (walk 𝓤 H E s st Kt)) (sym e) (w.go Kt h) }

  pub opds_as : K → {Γ Γ' : List (Item 𝓤)} {E : Env 𝓤 H} {xs : List Operand} {vs : List Val}
      → ((G : Goal 𝓤 H) → Step K 𝓛 Γ' G Γ G) → ((G : Goal 𝓤 H) → Step K 𝓛 Γ G Γ' G)
      → Opds K 𝓛 Γ' E xs vs → Opds K 𝓛 Γ E xs vs
  opds_as t {Γ} {Γ'} to from os = record {
    go = λ Kt h. via 𝓤 (⋆ 𝓛 Γ') (to (prop (⋆ 𝓛 Γ')) $ done t).prf (os.go Kt (via 𝓤 (⋆ 𝓛 Γ) (from (prop (⋆ 𝓛 Γ)) $ done t).prf h));
  }

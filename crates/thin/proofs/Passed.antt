-- The parameters that a thin call passes on, of any number and order. The machine sees two kinds: a `&mut [u8]`, which is reborrowed for
-- the call, and a `&[u8]` or a plain value, which is copied. Assumes nothing.
--     Passed             the kinds.        Held k     what is held of such a parameter
--     tys, anew          the MIR types of the parameters, and of the locals in which slices are reborrowed
--     borrowing ps p t b    the statements that reborrow and go on as b, if the parameters' locals are p and on, the others t and on
--     operands ps p t       what the call is passed
--     borrows, passed_on    the code runs like this, and the operands have the values that the parameters had
--     found              where the locals stand in an environment
--     anew_after, end_found    the place after the locals in which slices are reborrowed, and what stands there
use Prim.Native.Nat.{ℕ, zero, suc}
use mathlib.Core.Path.{◌≡◌, refl, ap, ◌∙◌}
use mathlib.Core.List.{[], ◌∷◌, List, ◌++◌}
use lib.ListN.{get_or, length}
use seplogic.Ra.Ura.{Ura}
use mir.Syntax.{Ty, Lifetime, Body, Opd as Operand, place, deref, field, copy, assign, addr_of, aggregate, seq, erased, mut, w8, w64, ty_int, ty_ref}
use mir.Val.{Val, vint, vptr, WT}
use prog.Wp.{Heap, Env, Spot, spot_of, no_local, Calls, Loops}
use types.Logic.{Logic}
use types.Kit.{Item, ◌⊛◌, Goal, Post, runs, Step, step, ◌$◌, move, split, join}
use types.Run.{Opds, look, init, stop, hop, fld, load, addr, and_then, no_more, assigns}
use types.Part.{agg, whole, sub, look_in}
use denote.Slice.{slice_val, slice_ty}
use Rattle.thin.proofs.Data.{Fits}
use Rattle.thin.proofs.Frame.{Addresses, Values, values, env, cell, right, rooms, cells, at_local, opds_as}

pub data Passed : Type 0 where
  lends : Lifetime → Passed
  copies : Ty → Passed

-- These are the place and length of a slice, or any value that fits.
abbrev pub Held : Passed → Type 0
Held (lends ℓ) = (ℕ × ℕ) × ((n : ℕ) × WT (vint w64 n))
Held (copies τ) = (v : Val) × Fits τ v

abbrev pub Helds : List Passed → Type 0
Helds [] = Unit {0}
Helds (k ∷ ps) = Held k × Helds ps

-- These are the types of a pointer to a byte and of a slice of bytes that are reborrowed.
abbrev byte_ref : Ty
byte_ref = ty_ref erased mut (ty_int w8)

abbrev byte_slice : Ty
byte_slice = slice_ty byte_ref

abbrev pub type : Passed → Ty
type (lends ℓ) = slice_ty (ty_ref ℓ mut (ty_int w8))
type (copies τ) = τ

abbrev pub tys : List Passed → List Ty
tys [] = []
tys (k ∷ ps) = type k ∷ tys ps

abbrev pub anew : List Passed → List Ty
anew [] = []
anew (lends ℓ ∷ ps) = byte_ref ∷ byte_slice ∷ anew ps
anew (copies τ ∷ ps) = anew ps

abbrev pub held : (k : Passed) → Held k → (v : Val) × Fits (type k) v
held (lends ℓ) h = (slice_val h.0 h.1.0, (tt, (tt, (h.1.1, tt))))
held (copies τ) h = h

abbrev pub helds : (ps : List Passed) → Helds ps → Values (tys ps)
helds [] hs = tt
helds (k ∷ ps) hs = (held k hs.0, helds ps hs.1)

abbrev pub helds_anew : (ps : List Passed) → Helds ps → Values (anew ps)
helds_anew [] hs = tt
helds_anew (lends ℓ ∷ ps) hs =
    ((vptr hs.0.0.0 hs.0.0.1, (tt, tt)), ((slice_val hs.0.0 hs.0.1.0, (tt, (tt, (hs.0.1.1, tt)))), helds_anew ps hs.1))
helds_anew (copies τ ∷ ps) hs = helds_anew ps hs.1

-- ---- the code

abbrev pub borrowing : List Passed → ℕ → ℕ → Body → Body
borrowing [] p t b = b
borrowing (lends ℓ ∷ ps) p t b =
    seq (assign (place t []) (addr_of (place p (field 0 ∷ deref (ty_int w8) ∷ []))))
    (seq (assign (place (suc t) []) (aggregate (copy (place t []) ∷ copy (place p (field 1 ∷ [])) ∷ [])))
    (borrowing ps (suc p) (suc (suc t)) b))
borrowing (copies τ ∷ ps) p t b = borrowing ps (suc p) t b

abbrev pub operands : List Passed → ℕ → ℕ → List Operand
operands [] p t = []
operands (lends ℓ ∷ ps) p t = copy (place (suc t) []) ∷ operands ps (suc p) (suc (suc t))
operands (copies τ ∷ ps) p t = copy (place p []) ∷ operands ps (suc p) t

-- ---- where the locals stand

-- This is the place after as many locals as there are parameters.
abbrev pub local_after : List Passed → ℕ → ℕ
local_after [] n = n
local_after (k ∷ ps) n = suc (local_after ps n)

-- This is the place after the locals in which slices are reborrowed.
abbrev pub anew_after : List Passed → ℕ → ℕ
anew_after [] n = n
anew_after (lends ℓ ∷ ps) n = suc (suc (anew_after ps n))
anew_after (copies τ ∷ ps) n = anew_after ps n

-- This is the j-th place from p on.
abbrev on : ℕ → ℕ → ℕ
on zero p = p
on (suc j) p = on j (suc p)

on_suc : (j p : ℕ) → on j (suc p) ≡ suc (on j p)
on_suc zero p = refl
on_suc (suc j) p = on_suc j (suc p)

on_zero : (j : ℕ) → on j zero ≡ j
on_zero zero = refl
on_zero (suc j) = on_suc j zero ∙ ap suc (on_zero j)

module _ {M : Type 1} (𝓤 : Ura M) (H : Heap 𝓤) where
  abbrev local_at : Env 𝓤 H → ℕ → Ty × ℕ
  local_at E i = get_or E i (no_local 𝓤 H)

  abbrev spot : Ty × ℕ → Spot 𝓤 H
  spot e = (e.0, e.1, zero)

  skips : (e : Ty × ℕ) (E : Env 𝓤 H) (j p : ℕ) → local_at (e ∷ E) (on j (suc p)) ≡ local_at E (on j p)
  skips e E j p = ap (local_at (e ∷ E)) (on_suc j p)

  skips_all : (ps : List Passed) (bs : Addresses (tys ps)) (E : Env 𝓤 H) (j n : ℕ) → local_at (env 𝓤 H (tys ps) bs E) (on j (local_after ps n)) ≡ local_at E (on j n)
  skips_all [] bs E j n = refl
  skips_all (k ∷ ps) bs E j n = skips (type k, bs.0) (env 𝓤 H (tys ps) bs.1 E) j (local_after ps n) ∙ skips_all ps bs.1 E j n

  skips_anew : (ps : List Passed) (cs : Addresses (anew ps)) (E : Env 𝓤 H) (n : ℕ) → local_at (env 𝓤 H (anew ps) cs E) (anew_after ps n) ≡ local_at E n
  skips_anew [] cs E n = refl
  skips_anew (lends ℓ ∷ ps) cs E n = skips_anew ps cs.1.1 E n
  skips_anew (copies τ ∷ ps) cs E n = skips_anew ps cs E n

  pub end_found : (ps : List Passed) (cs : Addresses (anew ps)) (E : Env 𝓤 H) (i : ℕ) → spot_of 𝓤 H (env 𝓤 H (anew ps) cs E) (anew_after ps i) ≡ spot_of 𝓤 H E i
  end_found ps cs E i = ap spot (skips_anew ps cs E i)

  module _ (E : Env 𝓤 H) where
    abbrev pub Found : (ps : List Passed) → ℕ → ℕ → Addresses (tys ps) → Addresses (anew ps) → Type 0
    Found [] p t bs cs = Unit {0}
    Found (lends ℓ ∷ ps) p t bs cs =
        (spot_of 𝓤 H E p ≡ (type (lends ℓ), bs.0, zero)) × (spot_of 𝓤 H E t ≡ (byte_ref, cs.0, zero)) × (spot_of 𝓤 H E (suc t) ≡ (byte_slice, cs.1.0, zero))
        × Found ps (suc p) (suc (suc t)) bs.1 cs.1.1
    Found (copies τ ∷ ps) p t bs cs = (spot_of 𝓤 H E p ≡ (τ, bs.0, zero)) × Found ps (suc p) t bs.1 cs

    found_on : (ps : List Passed) (p t : ℕ) (bs : Addresses (tys ps)) (cs : Addresses (anew ps)) (F G : Env 𝓤 H)
        → ((j : ℕ) → local_at E (on j p) ≡ local_at (env 𝓤 H (tys ps) bs F) j)
        → ((j : ℕ) → local_at E (on j t) ≡ local_at (env 𝓤 H (anew ps) cs G) j) → Found ps p t bs cs
    found_on [] p t bs cs F G at_p at-t = tt
    found_on (lends ℓ ∷ ps) p t bs cs F G at_p at-t =
        (ap spot (at_p 0), ap spot (at-t 0), ap spot (at-t 1), found_on ps (suc p) (suc (suc t)) bs.1 cs.1.1 F G (λ j. at_p (suc j)) (λ j. at-t (suc (suc j))))
    found_on (copies τ ∷ ps) p t bs cs F G at_p at-t = (ap spot (at_p 0), found_on ps (suc p) t bs.1 cs F G (λ j. at_p (suc j)) at-t)

  skips_these : (gs E : Env 𝓤 H) (j : ℕ) → local_at (gs ++ E) (on j (length gs)) ≡ local_at E j
  skips_these [] E j = ap (local_at E) (on_zero j)
  skips_these (g ∷ gs) E j = skips g (gs ++ E) j (length gs) ∙ skips_these gs E j

  -- The environment of a call has its result, its first parameter, the parameters that are passed on, its own locals, those for slices
  -- that are reborrowed, and what stands at the end.
  module _ (e f : Ty × ℕ) (gs ends : Env 𝓤 H) (ps : List Passed) (bs : Addresses (tys ps)) (cs : Addresses (anew ps)) where
    abbrev pub last_env : Env 𝓤 H
    last_env = gs ++ env 𝓤 H (anew ps) cs ends

    abbrev pub whole_env : Env 𝓤 H
    whole_env = e ∷ f ∷ env 𝓤 H (tys ps) bs last_env

    -- The i-th of its own locals stands here.
    pub own_found : (i : ℕ) → spot_of 𝓤 H whole_env (suc (suc (local_after ps i))) ≡ spot_of 𝓤 H last_env i
    own_found i = ap spot (skips_all ps bs last_env 0 i)

    pub found : Found whole_env ps 2 (suc (suc (local_after ps (length gs)))) bs cs
    found = found_on whole_env ps 2 (suc (suc (local_after ps (length gs)))) bs cs last_env ends
        (λ j. skips e (f ∷ env 𝓤 H (tys ps) bs last_env) j 1 ∙ skips f (env 𝓤 H (tys ps) bs last_env) j 0 ∙ ap (local_at (env 𝓤 H (tys ps) bs last_env)) (on_zero j))
        (λ j. skips e (f ∷ env 𝓤 H (tys ps) bs last_env) j (suc (local_after ps (length gs))) ∙ skips f (env 𝓤 H (tys ps) bs last_env) j (local_after ps (length gs))
        ∙ skips_all ps bs last_env j (length gs) ∙ skips_these gs (env 𝓤 H (anew ps) cs ends) j)

-- ---- the rules

module _ {M : Type 1} {𝓤 : Ura M} {𝓛 : Logic 𝓤} {K : Type 0} {Γ : List (Item 𝓤)} {G : Goal 𝓤 𝓛.H} where
  -- The first parameter is taken out of those that stand as one item, and put back: here one that is copied,
  takes_1 : K → {c d ps ts : Item 𝓤} → Step K 𝓛 (ps ∷ ts ∷ c ∷ d ∷ Γ) G (((c ⊛ d) ⊛ ps) ∷ ts ∷ Γ) G
  takes_1 k = step (λ s. split k $ split k $ move k (2 ∷ 3 ∷ []) $ s)

  puts_1 : K → {c d ps ts : Item 𝓤} → Step K 𝓛 (((c ⊛ d) ⊛ ps) ∷ ts ∷ Γ) G (ps ∷ ts ∷ c ∷ d ∷ Γ) G
  puts_1 k = step (λ s. move k (2 ∷ 3 ∷ 0 ∷ []) $ join k $ join k $ s)

  -- and here one that is lent, with the pointer and the slice that are reborrowed.
  takes_3 : K → {c d c₁ d₁ c₂ d₂ ps ts : Item 𝓤} → Step K 𝓛 (ps ∷ ts ∷ c ∷ d ∷ c₁ ∷ d₁ ∷ c₂ ∷ d₂ ∷ Γ) G (((c ⊛ d) ⊛ ps) ∷ ((c₁ ⊛ d₁) ⊛ ((c₂ ⊛ d₂) ⊛ ts)) ∷ Γ) G
  takes_3 k = step (λ s. split k $ split k $ move k (3 ∷ []) $ split k $ split k $ move k (2 ∷ []) $ split k $ split k $ move k (7 ∷ 2 ∷ 5 ∷ 6 ∷ 3 ∷ 4 ∷ []) $ s)

  puts_3 : K → {c d c₁ d₁ c₂ d₂ ps ts : Item 𝓤} → Step K 𝓛 (((c ⊛ d) ⊛ ps) ∷ ((c₁ ⊛ d₁) ⊛ ((c₂ ⊛ d₂) ⊛ ts)) ∷ Γ) G (ps ∷ ts ∷ c ∷ d ∷ c₁ ∷ d₁ ∷ c₂ ∷ d₂ ∷ Γ) G
  puts_3 k = step (λ s. move k (6 ∷ 7 ∷ 1 ∷ []) $ join k $ join k $ move k (4 ∷ 5 ∷ 0 ∷ []) $ join k $ join k $ move k (2 ∷ 3 ∷ 1 ∷ []) $ join k $ join k $ s)

module _ {M : Type 1} {𝓤 : Ura M} {𝓛 : Logic 𝓤} {K : Type 0} {E : Env 𝓤 𝓛.H} where
  open 𝓛 use {H}

  pub borrows : K → {C : Calls 𝓤 H} {Λ : Loops 𝓤 H} {q : Post 𝓤 H} (b : Body) (ps : List Passed) (hs : Helds ps) (p t : ℕ)
      (bs : Addresses (tys ps)) (cs : Addresses (anew ps)) {Γ : List (Item 𝓤)}
      → Found 𝓤 H E ps p t bs cs
      → Step K 𝓛 (cells 𝓤 H (tys ps) bs (helds ps hs) ∷ cells 𝓤 H (anew ps) cs (helds_anew ps hs) ∷ Γ) (runs C Λ E b q)
      (cells 𝓤 H (tys ps) bs (helds ps hs) ∷ rooms 𝓤 H (anew ps) cs ∷ Γ) (runs C Λ E (borrowing ps p t b) q)
  borrows k b [] hs p t bs cs f = step (λ s. s)
  borrows k b (lends ℓ ∷ ps) hs p t bs cs f = step (λ s. takes_3 k $
      assigns k (addr k (at_local k f.0 (fld k refl (hop k (look_in k 2 (sub k 0 refl (whole k))) (stop k))))) (at_local k f.1 (stop k)) (init k 4 refl (tt, tt)) $
      assigns k (agg k (and_then k (load k (at_local k f.1 (stop k)) (look k 4 refl))
      (and_then k (load k (at_local k f.0 (fld k refl (stop k))) (look_in k 2 (sub k 1 refl (whole k)))) (no_more k))))
      (at_local k f.2 (stop k)) (init k 6 refl (tt, (tt, (hs.0.1.1, tt)))) $
      borrows k b ps hs.1 (suc p) (suc (suc t)) bs.1 cs.1.1 f.3 $ puts_3 k $ s)
  borrows k b (copies τ ∷ ps) hs p t bs cs f = step (λ s. takes_1 k $ borrows k b ps hs.1 (suc p) t bs.1 cs f.1 $ puts_1 k $ s)

  pub passed_on : K → (Γ : List (Item 𝓤)) (ps : List Passed) (hs : Helds ps) (p t : ℕ) (bs : Addresses (tys ps)) (cs : Addresses (anew ps)) → Found 𝓤 H E ps p t bs cs
      → Opds K 𝓛 (cells 𝓤 H (tys ps) bs (helds ps hs) ∷ cells 𝓤 H (anew ps) cs (helds_anew ps hs) ∷ Γ) E (operands ps p t) (values (tys ps) (helds ps hs))
  passed_on k Γ [] hs p t bs cs f = no_more k
  passed_on k Γ (lends ℓ ∷ ps) hs p t bs cs f =
      let slice : Val = slice_val hs.0.0 hs.0.1.0 in
      let pointer : Val = vptr hs.0.0.0 hs.0.0.1 in
      let τ : Ty = type (lends ℓ) in
      let Δ : List (Item 𝓤) = cell 𝓤 τ bs.0 slice ∷ right 𝓤 τ bs.0 ∷ cell 𝓤 byte_ref cs.0 pointer ∷ right 𝓤 byte_ref cs.0
      ∷ cell 𝓤 byte_slice cs.1.0 slice ∷ right 𝓤 byte_slice cs.1.0 ∷ Γ in
      opds_as k (λ G. takes_3 k) (λ G. puts_3 k)
      (and_then k (load k (at_local k f.2 (stop k)) (look k 6 refl)) (passed_on k Δ ps hs.1 (suc p) (suc (suc t)) bs.1 cs.1.1 f.3))
  passed_on k Γ (copies τ ∷ ps) hs p t bs cs f =
      let Δ : List (Item 𝓤) = cell 𝓤 τ bs.0 hs.0.0 ∷ right 𝓤 τ bs.0 ∷ Γ in
      opds_as k (λ G. takes_1 k) (λ G. puts_1 k)
      (and_then k (load k (at_local k f.0 (stop k)) (look k 2 refl)) (passed_on k Δ ps hs.1 (suc p) t bs.1 cs f.1))

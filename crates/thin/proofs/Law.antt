-- The law of a thin call (`Thin.antt`), over any list of parameters after the record: each is a `&mut [u8]`, a `&[u8]` or a plain value.
-- The thin call has one lifetime more than the core: the record's, which comes first. Assumes nothing.
--     Kind          a parameter.        slots     the core's slots for them.        passed up    what the machine sees of them
--     all_values, all_tell, all_held    their machine values; there are no others; what is held of them at entry
--     Promise       a relation that core and thin call both promise, of the record and such parameters at entry and at exit
--     TheCore       the core's contract.        the_thin k     the MIR of a thin call of the core k
--     Thin          the thin call's contract: with the parameters written out, what `triple_of` computes to at its own signature
--     thin_meets    the thin call meets it, if the core meets its own.        thin_spec     the same, as a function's proof file needs it
use Prim.Native.Nat.{ℕ, suc}
use mathlib.Core.Path.{◌≡◌, refl, ap, subst}
use mathlib.Core.List.{[], ◌∷◌, List, ◌++◌}
use lib.ListN.{length}
use seplogic.Ra.Ura.{Ura}
use mir.Syntax.{Callee, Fn, named, imm, w8, ty_int, ty_ref}
use mir.Val.{Val}
use base.Logic.{SProp, ent, sep, wand, emp, via, comm∗, assoc∗, assoc', mono_r, fst∗, wand_i, apply∗}
use base.Fml.{Lft, fsep}
use prog.Wp.{Calls, Loops, WpFn, Closed}
use prog.Model.{Model}
use prog.Routine.{Routine, Env}
use types.Logic.{Logic, sem}
use sound.WpLaws.{FmC, fm_of}
use contract.Running.{Running, MachineTables, tables, tables_of}
use contract.Lifetimes.{Lfts, Shares, Within, lft_at, toks}
use denote.RattleType.{Denots, Valss, owns, flat}
use denote.Laws.{Are, Ises, Spells, valss, Tellss}
use denote.Builtin.{u8}
use denote.Exit.{yes}
use denote.Ref.{MutBor, MutRef, mut_vals, mut_Tells}
use denote.Slice.{slice_val, slice_ty, mut_slice_vals, shr_slice_vals, mut_slice_Tells, shr_slice_Tells}
use denote.Signature.{Signature, Slot, plain, mut_slice_of, shr_slice_of, types_at}
use denote.Steps.{said}
use denote.Triple.End.{Kepts, all, Outs}
use denote.Triple.Statement.{Contract, Triple}
use denote.Triple.Table.{entered, cited}
use Rattle.thin.proofs.Data.{Data, Pair}
use Rattle.thin.proofs.Frame.{values}
use Rattle.thin.proofs.Passed.{Passed, lends, copies, Helds, tys, helds}
use Rattle.thin.proofs.Thin.{Core, thin, Exit, thin_runs}

-- The number of a slice is that of its lifetime among the core's lifetimes.
pub data Kind (n : ℕ) : Type 2 where
  mutable : (i : ℕ) → Within n i → Kind n
  shared : (i : ℕ) → Within n i → Kind n
  given : Data → Kind n

module _ {n : ℕ} where
  abbrev pub slots : List (Kind n) → List (Slot n)
  slots [] = []
  slots (mutable i ok ∷ ks) = mut_slice_of (i ∷ []) ok (plain (λ _. u8)) ∷ slots ks
  slots (shared i ok ∷ ks) = shr_slice_of (i ∷ []) ok (plain (λ _. u8)) ∷ slots ks
  slots (given P ∷ ks) = plain (λ _. P.row) ∷ slots ks

  -- The core's i-th lifetime is the function's own (up i)-th.
  abbrev pub passed : (ℕ → ℕ) → List (Kind n) → List Passed
  passed up [] = []
  passed up (mutable i ok ∷ ks) = lends (named (up i)) ∷ passed up ks
  passed up (shared i ok ∷ ks) = copies (slice_ty (ty_ref (named (up i)) imm (ty_int w8))) ∷ passed up ks
  passed up (given P ∷ ks) = copies P.ty ∷ passed up ks

  module _ (κs : Lfts n) where
    abbrev pub all_values : (ks : List (Kind n)) → Spells (types_at (slots ks) κs)
    all_values [] = tt
    all_values (mutable i ok ∷ ks) = (mut_slice_vals, all_values ks)
    all_values (shared i ok ∷ ks) = (shr_slice_vals, all_values ks)
    all_values (given P ∷ ks) = ((λ y. P.val y ∷ []), all_values ks)

    abbrev pub all_tell : (ks : List (Kind n)) → Tellss (types_at (slots ks) κs) (Ises (types_at (slots ks) κs)) (all_values ks)
    all_tell [] = tt
    all_tell (mutable i ok ∷ ks) = (mut_slice_Tells (named i) (lft_at n i ok κs) u8, all_tell ks)
    all_tell (shared i ok ∷ ks) = (shr_slice_Tells (named i) (lft_at n i ok κs) u8, all_tell ks)
    all_tell (given P ∷ ks) = (P.tells, all_tell ks)

    -- These are the relations of the arguments at their machine values.
    abbrev Told : (ks : List (Kind n)) → Denots (types_at (slots ks) κs) → Type 0
    Told ks a = Are (types_at (slots ks) κs) (Ises (types_at (slots ks) κs)) a (valss (types_at (slots ks) κs) (all_values ks) a)

    module _ {M : Type 1} {𝓤 : Ura M} (𝓛 : Logic 𝓤) (up : ℕ → ℕ) where
      abbrev pub all_held : (ks : List (Kind n)) (a : Denots (types_at (slots ks) κs)) → Told ks a → Helds (passed up ks)
      all_held [] a are = tt
      all_held (mutable i ok ∷ ks) a are = ((a.0.ref_ptr, (length a.0.now, record { fits = are.0.0.1.0 })), all_held ks a.1 are.1)
      all_held (shared i ok ∷ ks) a are =
          ((slice_val a.0.ref_ptr (length a.0.now), (tt, (tt, (record { fits = are.0.0.1.0 }, tt)))), all_held ks a.1 are.1)
      all_held (given P ∷ ks) a are = ((P.val a.0, P.typed 𝓛 a.0 are.0), all_held ks a.1 are.1)

      pub all_same : (ks : List (Kind n)) (a : Denots (types_at (slots ks) κs)) (are : Told ks a)
          → values (tys (passed up ks)) (helds (passed up ks) (all_held ks a are)) ≡ flat (types_at (slots ks) κs) (valss (types_at (slots ks) κs) (all_values ks) a)
      all_same [] a are = refl
      all_same (mutable i ok ∷ ks) a are = ap (◌∷◌ (slice_val a.0.ref_ptr (length a.0.now))) (all_same ks a.1 are.1)
      all_same (shared i ok ∷ ks) a are = ap (◌∷◌ (slice_val a.0.ref_ptr (length a.0.now))) (all_same ks a.1 are.1)
      all_same (given P ∷ ks) a are = ap (◌∷◌ (P.val a.0)) (all_same ks a.1 are.1)

module _ (D X : Data) (O : Pair D X) {n : ℕ} (ks : List (Kind n)) where
  abbrev ss : List (Slot n)
  ss = slots ks

  abbrev kept : Kepts ss
  kept = all yes ss

  -- These are the arguments after the record, and their machine values.
  abbrev Args : Lfts n → Type 0
  Args κs = Denots (types_at ss κs)

  abbrev Vals : Lfts n → Type 0
  Vals κs = Valss (types_at ss κs)

  -- A promise speaks of the record and the arguments at entry, and of the record, the X and the arguments at exit.
  abbrev pub Promise : Type 1
  Promise = (κs : Lfts n) → D.row.Denot → Args κs → D.row.Denot → X.row.Denot → Outs κs ss kept → Type 0

  module _ (Rel : Promise) where
    abbrev pub TheCore : {M : Type 1} {𝓤 : Ura M} (𝓛 : Logic 𝓤) → Contract 𝓤
    TheCore 𝓛 = Core D X O n ss kept Rel 𝓛

    abbrev pub the_thin : Callee → Fn
    the_thin k = thin D X O n ss kept Rel (passed suc ks) k

    module _ {M : Type 1} {𝓤 : Ura M} (𝓛 : Logic 𝓤) where
      -- A caller chooses these: the lifetimes and shares, the record's first; the arguments, the reference first; and their machine
      -- values.
      open 𝓛 use {H, A}

      abbrev Chosen : Type 0
      Chosen = ((κs : Lfts (suc n)) × (qs : Shares (suc n)) × (Unit {0}) × (MutBor D.row.Denot × Args κs.1) × (List Val × Vals κs.1)) × (Unit {0})

      module _ (y : Chosen) where
        abbrev κ : Lft
        κ = y.0.0.0

        abbrev κs : Lfts n
        κs = y.0.0.1

        abbrev token : SProp 𝓤
        token = A.lft κ y.0.1.0

        abbrev tokens : SProp 𝓤
        tokens = toks 𝓛 n κs y.0.1.1

        abbrev x : MutBor D.row.Denot
        x = y.0.3.0

        abbrev a : Args κs
        a = y.0.3.1

        -- At machine values, these are what the parameters own, the values in a row, and what there is at entry.
        abbrev own : List Val × Vals κs → SProp 𝓤
        own vss = sem 𝓛 (fsep ((MutRef (named 0) κ D.row).own_val x vss.0) (owns (types_at ss κs) a vss.1))

        abbrev row : List Val × Vals κs → List Val
        row vss = vss.0 ++ flat (types_at ss κs) vss.1

        abbrev entry : List Val × Vals κs → SProp 𝓤
        entry vss = sep 𝓤 (sep 𝓤 token tokens) (own vss)

        abbrev post : Val → SProp 𝓤
        post = Exit D X O n ss kept Rel (passed suc ks) 𝓛 κ κs y.0.1.0 y.0.1.1 x.ref_ptr.0 x.ref_ptr.1 x.ghost_name x.now a

      abbrev pub Thin : Contract 𝓤
      Thin = record {
        Ghost = Chosen;
        args = λ y. row y y.0.4;
        pre = λ y. sep 𝓤 (entry y y.0.4) (emp 𝓤);
        post = post;
      }

      module _ (C : Calls 𝓤 H) (Λ : Loops 𝓤 H) (k : Callee) (fm : FmC 𝓤 H 𝓛.laws C) (known : Triple 𝓤 (C k) (TheCore 𝓛)) where
        module _ (y : Chosen) where
          -- These are the machine values of the arguments.
          abbrev spelt : Vals (κs y)
          spelt = valss (types_at ss (κs y)) (all_values (κs y) ks) (a y)

          abbrev told : List Val × Vals (κs y)
          told = (mut_vals (x y), spelt)

          abbrev runs : List Val × Vals (κs y) → SProp 𝓤
          runs vss = WpFn 𝓤 H C Λ (the_thin k) (row y vss) (post y)

          runs_at : Told (κs y) ks (a y) → ent 𝓤 (entry y told) (runs told)
          runs_at are =
              let same = all_same (κs y) 𝓛 suc ks (a y) are in
              subst (λ (us : List Val). ent 𝓤 (entry y told) (WpFn 𝓤 H C Λ (the_thin k) (mut_vals (x y) ++ us) (post y))) same
              (thin_runs D X O n ss kept Rel (passed suc ks) 𝓛 (κ y) (κs y) y.0.1.0 y.0.1.1 (x y).ref_ptr.0 (x y).ref_ptr.1 (x y).ghost_name (x y).now (a y)
              spelt (all_held (κs y) 𝓛 suc ks (a y) are) same C Λ k fm known)

          -- `said` is used at this signature, to learn what the machine values are: it has the core's lifetimes and all parameters, with
          -- the record's lifetime held fixed.
          abbrev S : Signature
          S = record { lifetimes = n; outlives = []; params = plain (λ _. MutRef (named 0) (κ y) D.row) ∷ ss; result = plain (λ _. X.row) }

          spells : ent 𝓤 (sep 𝓤 (tokens y) (own y y.0.4)) (wand 𝓤 (token y) (runs y.0.4))
          spells = said 𝓛 S (κs y) y.0.1.1 (mut_vals, all_values (κs y) ks) (mut_Tells (named 0) (κ y) D.row, all_tell (κs y) ks) (x y, a y)
              (λ vss. wand 𝓤 (token y) (runs vss)) y.0.4 (λ are. wand_i 𝓤 (sep 𝓤 (tokens y) (own y told)) (token y) (runs told)
              (via 𝓤 (sep 𝓤 (token y) (sep 𝓤 (tokens y) (own y told))) (comm∗ 𝓤 (sep 𝓤 (tokens y) (own y told)) (token y))
              (via 𝓤 (entry y told) (assoc' 𝓤 (token y) (tokens y) (own y told)) (runs_at are.1))))

        pub thin_meets : Triple 𝓤 (WpFn 𝓤 H C Λ (the_thin k)) Thin
        thin_meets y =
            let vss = y.0.4 in
            via 𝓤 (entry y vss) (fst∗ 𝓤 (entry y vss) (emp 𝓤))
            (via 𝓤 (sep 𝓤 (token y) (sep 𝓤 (tokens y) (own y vss))) (assoc∗ 𝓤 (token y) (tokens y) (own y vss))
            (via 𝓤 (sep 𝓤 (token y) (wand 𝓤 (token y) (runs y vss))) (mono_r 𝓤 (token y) (spells y)) (apply∗ 𝓤 (token y) (runs y vss))))

    -- The same holds of a function `f` whose code is thin, in the environment γ of that code, in which the core means a routine that is
    -- proved.
    module _ {M : Type 1} {𝓤 : Ura M} (𝓛 : Logic 𝓤) (𝓜 : Model 𝓤 𝓛.H) (𝓡 : Running 𝓤 𝓛.H 𝓜) (γ : Env) (f core : Callee) (body : Routine) where
      open 𝓛 use {H}

      abbrev 𝓣 : MachineTables 𝓤 H 𝓜
      𝓣 = tables 𝓤 H 𝓜 𝓡 γ

      pub thin_spec : Closed 𝓤 H 𝓣.C 𝓣.Λ f (the_thin core) → γ core ≡ body
          → Triple 𝓤 (𝓡.run body) (TheCore 𝓛) → Triple 𝓤 (𝓣.C f) (Thin 𝓛)
      unfolding tables_of
      thin_spec closed means met =
          entered 𝓤 H (Thin 𝓛) 𝓣.C 𝓣.Λ f (the_thin core) closed
          (thin_meets 𝓛 𝓣.C 𝓣.Λ core (fm_of 𝓤 H 𝓛.laws (tables_of 𝓤 H 𝓜 𝓣)) (cited 𝓤 H (TheCore 𝓛) 𝓜 𝓡 γ core body means met))

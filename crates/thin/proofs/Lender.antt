-- The other way: a record that is held by value is lent to a thin call, and taken back.
--     fn g(mut v: D, ..) -> O { let x = f(&mut v, ..); let w = v; O { w, x } }
-- This holds for any plain D and X, any struct O of a D and an X, any parameters after the record, any thin call f, and any relation Rel.
-- What f promises about the record in the reference at entry and at exit, g promises about the record that it is passed and the one that
-- it returns; the core of `Thin.antt` promises the same. No device is named. In the machine's code a copy of v is lent, called d below.
-- Assumes nothing.
--     lends_cell, cell_back    a local's cell is lent for a lifetime, and comes back with what the reference held last
--     lender k                 the MIR of such a function, over the thin call named k
--     lender_runs              from what g has at entry the code runs to what it owes, if the thin call meets its contract
--     lender_meets             g meets the core's contract, if the thin call meets its own
--     lender_spec              the same, as a function's proof file needs it
use Prim.Native.Nat.{ℕ, zero, suc}
use mathlib.Core.Path.{◌≡◌, refl, sym, ap, subst}
use mathlib.Core.List.{[], ◌∷◌, List}
use seplogic.Ra.Ura.{Ura}
use base.Fraction.{full_share}
use mir.Syntax.{Ty, Callee, Fn, Body, Local, local, value_local, memory_slot, place, copy, assign, rv_opd, addr_of, aggregate, call, seq, return, named, erased, mut, ty_ref}
use mir.Val.{Val, vptr, vstruct, vcons, vnil}
use mir.Raw.{raw as raw-type}
use base.Logic.{SProp, ent, sep, emp, ex, guard, id⊢, via, fst∗}
use base.Fml.{Fml, GName, Lft, fsep, fat, flft, fdead, flent, fres}
use prog.Wp.{Heap, Env, Calls, Loops, WpFn, Closed, spot_of}
use prog.Model.{Model}
use prog.Routine.{Routine, Env as Routines}
use types.Logic.{Logic, sem}
use contract.Monad.{fact}
use contract.Running.{Running, MachineTables, tables, tables_of}
use contract.Lifetimes.{Lfts, Shares, toks}
use types.Kit.{Item, ‵, raw, some, given, later, ◌⊛◌, ⋆, Go, ◌$◌, ◌∵◌, !, qed, by, move, drop, use0, use1, use2, use3, split, join, pick, learn, check}
use types.Kit.{rewrite, fsplit, fjoin, fpick, fpack, frame, show, await, updating, now as at_once, done}
use types.Tokens.{lft_new, lft_end}
use types.Run.{Opds, look, init, forget, stop, from, load, of_opd, addr, no_more, and_then, assigns, land, returns}
use types.Run.{enter, alloc1, alloc0, params1, pass1, free1, free0}
use types.Part.{agg}
use types.SemTy.{Body as Behind}
use sound.WpLaws.{FmC, fm_of}
use denote.RattleType.{Denots, Valss, owns, flat}
use denote.Laws.{Is, shows, valss}
use denote.Lend.{LentRef, lends_ref, ref_back}
use denote.Memory.{mem, pointee, cell_at, part_of}
use denote.Ref.{MutBor, MutRef}
use denote.Signature.{Signature, Slot, plain, types_at}
use denote.Steps.{only, owned, peeks, heard, nothing, said}
use denote.Struct.Steps.{spelt}
use denote.Triple.Entry.{on_entry}
use denote.Triple.Statement.{Triple}
use denote.Triple.Call.{calls_at}
use denote.Exit.{yes, Last, left}
use denote.Triple.End.{Kepts, Fins, all, outs, lasts_of}
use denote.Triple.Table.{entered, cited}
use denote.Triple.Walked.{says}
use Rattle.thin.proofs.Data.{Data, Pair, Built, Fits, pair_ty}
use Rattle.thin.proofs.Frame.{Addresses, values, locals, allots, passes_all, frees_all, at_local, opds_as}
use Rattle.thin.proofs.Passed.{Passed, Helds, tys, anew, helds, helds_anew, local_after, borrowing, operands, borrows, passed_on}
use Rattle.thin.proofs.Passed.{Found, last_env, whole_env, own_found, found}
use Rattle.thin.proofs.Thin.{core_ended}
use Rattle.thin.proofs.Law.{Kind, slots, passed, all_values, all_tell, all_held, all_same, Promise, TheCore, Thin}

-- ---- a local is lent, and comes back

module _ (D : Data) {M : Type 1} {𝓤 : Ura M} (𝓛 : Logic 𝓤) (κ : Lft) (b : ℕ) where
  open 𝓛 use {H}

  abbrev value_at : D.row.Denot → Item 𝓤
  value_at h = ‵ (fat full_share D.ty b zero (D.val h))

  lends_cell : (h : D.row.Denot) → Is D.row h (D.val h ∷ []) → ent 𝓤 (⋆ 𝓛 (value_at h ∷ [])) (H.⇛ (ex 𝓤 (LentRef 𝓛 D.row (named 0) κ h b zero)))
  unfolding part_of
  lends_cell h is =
      qed 𝓛 (value_at h ∷ []) ∵ use1 𝓛 (‵ (fat full_share (raw-type D.ty) b zero (D.val h))) (𝓛.laws.at_raw full_share D.ty b zero (D.val h)) $
      rewrite ! 0 (λ (τs : List Ty). ‵ (cell_at full_share τs (D.val h ∷ []) b zero)) (sym D.mir_is) refl $
      owned ! D.row (Is D.row) (D.makes 𝓛) h (D.val h ∷ []) is $ move ! (1 ∷ 0 ∷ []) $ fjoin ! $
      fpack ! (List Val) (λ us. fsep (cell_at full_share D.row.mir us b zero) (D.row.own_val h us)) (D.val h ∷ []) $
      by ! (lends_ref 𝓛 D.row (named 0) κ h b zero)

  cell_back : (γ : GName) (h : D.row.Denot)
      → ent 𝓤 (⋆ 𝓛 (‵ (fdead κ) ∷ ‵ (flent κ (Behind (mem D.row) b zero γ)) ∷ ‵ (fres γ (D.row.coded.code h)) ∷ []))
      (H.⇛ (guard 𝓤 (Is D.row h (D.val h ∷ [])) (H.at full_share D.ty b zero (D.val h))))
  unfolding part_of
  cell_back γ h =
      qed 𝓛 (‵ (fdead κ) ∷ ‵ (flent κ (Behind (mem D.row) b zero γ)) ∷ ‵ (fres γ (D.row.coded.code h)) ∷ []) ∵ updating ! $
      use3 𝓛 (later (‵ ((mem D.row).own_at h b zero))) (ref_back 𝓛 D.row κ γ h b zero) $ await ! tt $ fpick ! (λ vs. fsplit ! $
      spelt ! D.row (Is D.row) (shows 𝓛 D.row) (λ y. D.val y ∷ []) D.tells full_share h vs b zero $ move ! (1 ∷ []) $
      peeks ! D.row (Is D.row) (shows 𝓛 D.row) h (D.val h ∷ []) (λ is. drop ! $
      rewrite ! 0 (λ (τs : List Ty). ‵ (cell_at full_share τs (D.val h ∷ []) b zero)) D.mir_is refl $
      use1 𝓛 (value_at h) (𝓛.laws.raw_at full_share D.ty b zero (D.val h)) $ at_once ! $ check ! is $ done !))

module _ (D X : Data) (O : Pair D X) (B : Built D X O) {n : ℕ} (ks : List (Kind n)) (Rel : Promise D X O ks) where
  abbrev ss : List (Slot n)
  ss = slots ks

  abbrev kept : Kepts ss
  kept = all yes ss

  -- ---- the code: local 0 is its result, 1 the record, then come the parameters, then d, x, w and the reference r, then what is reborrowed

  abbrev ps : List Passed
  ps = passed (λ i. i) ks

  abbrev own_place : ℕ → ℕ
  own_place i = suc (suc (local_after ps i))

  abbrev d : ℕ
  d = own_place 0

  abbrev x : ℕ
  x = own_place 1

  abbrev w : ℕ
  w = own_place 2

  abbrev r : ℕ
  r = own_place 3

  abbrev t : ℕ
  t = own_place 4

  abbrev τ : Ty
  τ = pair_ty O.name D X

  abbrev ref_ty : Ty
  ref_ty = ty_ref erased mut (pointee D.row.written)

  abbrev own_locals : List Local
  own_locals = local D.ty memory_slot ∷ local X.ty value_local ∷ local D.ty value_local ∷ local ref_ty value_local ∷ locals (anew ps) []

  abbrev takes_back : Body
  takes_back =
      seq (assign (place w []) (rv_opd (copy (place d []))))
      (seq (assign (place 0 []) (aggregate (copy (place w []) ∷ copy (place x []) ∷ []))) return)

  abbrev calls_thin : Callee → Body
  calls_thin k = seq (call k (copy (place r []) ∷ operands ps 2 t) (place x [])) takes_back

  abbrev pub lender : Callee → Fn
  lender k = record {
    lifetimes = n;
    outlives = [];
    ty_params = [];
    givens = 0;
    params = suc (local_after ps 0);
    locals = local τ value_local ∷ local D.ty value_local ∷ locals (tys ps) own_locals;
    body = seq (assign (place d []) (rv_opd (copy (place 1 [])))) (seq (assign (place r []) (addr_of (place d []))) (borrowing ps 2 t (calls_thin k)));
  }

  -- The locals stand at these addresses.
  module _ {M : Type 1} (𝓤 : Ura M) (H : Heap 𝓤) (lo lv ld lx lw lr : ℕ) (bs : Addresses (tys ps)) (cs : Addresses (anew ps)) where
    abbrev own_env : Env 𝓤 H
    own_env = (D.ty, ld) ∷ (X.ty, lx) ∷ (D.ty, lw) ∷ (ref_ty, lr) ∷ []

    abbrev last : Env 𝓤 H
    last = last_env 𝓤 H (τ, lo) (D.ty, lv) own_env [] ps bs cs

    abbrev E : Env 𝓤 H
    E = whole_env 𝓤 H (τ, lo) (D.ty, lv) own_env [] ps bs cs

    at_own : (i : ℕ) → spot_of 𝓤 H E (own_place i) ≡ spot_of 𝓤 H last i
    at_own = own_found 𝓤 H (τ, lo) (D.ty, lv) own_env [] ps bs cs

    ps_found : Found 𝓤 H E ps 2 t bs cs
    ps_found = found 𝓤 H (τ, lo) (D.ty, lv) own_env [] ps bs cs

  module _ {M : Type 1} {𝓤 : Ura M} (𝓛 : Logic 𝓤) (κs : Lfts n) (qs : Shares n)
      (h : D.row.Denot) (a : Denots (types_at ss κs)) (vss : Valss (types_at ss κs)) where
    open 𝓛 use {H}

    abbrev tokens : SProp 𝓤
    tokens = toks 𝓛 n κs qs

    -- The record is now h', and the thin call has returned y, as it promised, with the last values zs of the others.
    abbrev Related : D.row.Denot → X.row.Denot → Fins κs ss kept a → Type 0
    Related h' y zs = Rel κs h a h' y (outs κs ss kept a zs)

    -- ---- the end

    abbrev Lasting : O.row.Denot → Last (D.row.exit yes) h × Fins κs ss kept a → SProp 𝓤
    Lasting o zs = sep 𝓤 (sem 𝓛 (lasts_of κs (plain (λ _. D.row) ∷ ss) (yes, kept) (h, a) zs)) (fact 𝓤 (Related (O.fst o) (O.snd o) zs.1))

    abbrev Returned : Val → O.row.Denot → SProp 𝓤
    Returned v o = sep 𝓤 (sep 𝓤 tokens (sem 𝓛 (O.row.own_val o (v ∷ [])))) (ex 𝓤 (Lasting o))

    abbrev Exit : Val → SProp 𝓤
    Exit v = H.⇛ (ex 𝓤 (Returned v))

    exits : (h' : D.row.Denot) (y : X.row.Denot) (zs : Fins κs ss kept a) → Related h' y zs → Is D.row h' (D.val h' ∷ []) → Is X.row y (X.val y ∷ [])
        → ent 𝓤 (⋆ 𝓛 (raw tokens ∷ ‵ (lasts_of κs ss kept a zs) ∷ [])) (Exit (vstruct (vcons (D.val h') (vcons (X.val y) vnil))))
    exits h' y zs e is is' =
        let o = B.build h' y in
        let e' = subst (λ (u : D.row.Denot). Related u (O.snd o) zs) (sym (B.fst_of h' y)) (subst (λ (u : X.row.Denot). Related h' u zs) (sym (B.snd_of h' y)) e) in
        qed 𝓛 (raw tokens ∷ ‵ (lasts_of κs ss kept a zs) ∷ []) ∵ updating ! $ at_once ! $ show ! (Returned _) o $
        owned ! O.row (Is O.row) (B.makes 𝓛) o _ (B.built_is h' y is is') $ move ! (1 ∷ 0 ∷ []) $ join ! $ frame ! $
        show ! (Lasting o) (B.last h, zs) $ says ! e' $
        use0 𝓛 (‵ (left (D.row.exit yes) h (B.last h))) (B.had 𝓛 h) $ fjoin ! $ done !

    -- ---- the call, with the record lent for the lifetime α under the name γ

    module _ (α : ℕ) (γ : GName) (b : ℕ) where
      abbrev lent : MutBor D.row.Denot
      lent = record { ref_ptr = (b, zero); ghost_name = γ; now = h }

      abbrev to_thin : (Thin D X O ks Rel 𝓛).Ghost
      to_thin = (((α ∷ [], κs), (full_share, qs), tt, (lent, a), (vptr b zero ∷ [], vss)), tt)

      abbrev the_token : Item 𝓤
      the_token = ‵ (flft (α ∷ []) full_share)

      abbrev the_loan : Item 𝓤
      the_loan = ‵ (flent (α ∷ []) (Behind (mem D.row) b zero γ))

      abbrev the_reference : Fml
      the_reference = (MutRef (named 0) (α ∷ []) D.row).own_val lent (vptr b zero ∷ [])

      abbrev thin_owns : Item 𝓤
      thin_owns = ‵ (fsep the_reference (owns (types_at ss κs) a vss))

      goes : ent 𝓤 (⋆ 𝓛 ((the_token ⊛ raw tokens) ∷ thin_owns ∷ [])) ((Thin D X O ks Rel 𝓛).pre to_thin)
      goes = qed 𝓛 ((the_token ⊛ raw tokens) ∷ thin_owns ∷ []) ∵ join ! $ nothing ! $ move ! (1 ∷ 0 ∷ []) $ join ! $ done !

      -- It leaves its answer y, and with it the last values and the promise.
      abbrev thin_says : X.row.Denot → D.row.Denot × Fins κs ss kept a → Item 𝓤
      thin_says y zs =
          ‵ (fsep (left ((MutRef (named 0) (α ∷ []) D.row).exit yes) lent zs.0) (lasts_of κs ss kept a zs.1)) ⊛ raw (fact 𝓤 (Related zs.0 y zs.1))

      abbrev thin_left : Val → X.row.Denot → Item 𝓤
      thin_left u y = ((the_token ⊛ raw tokens) ⊛ ‵ (X.row.own_val y (u ∷ []))) ⊛ some (thin_says y)

    -- ---- the walk

    module _ (is : Is D.row h (D.val h ∷ [])) (hs : Helds ps) (same : values (tys ps) (helds ps hs) ≡ flat (types_at ss κs) vss)
        (C : Calls 𝓤 H) (Λ : Loops 𝓤 H) (k : Callee) (fm : FmC 𝓤 H 𝓛.laws C) (known : Triple 𝓤 (C k) (Thin D X O ks Rel 𝓛)) where
      lender_runs : ent 𝓤 (sep 𝓤 tokens (sem 𝓛 (fsep (D.row.own_val h (D.val h ∷ [])) (owns (types_at ss κs) a vss))))
          (WpFn 𝓤 H C Λ (lender k) (D.val h ∷ values (tys ps) (helds ps hs)) Exit)
      lender_runs =
          qed 𝓛 (raw tokens ∷ ‵ (fsep (D.row.own_val h (D.val h ∷ [])) (owns (types_at ss κs) a vss)) ∷ []) ∵ move ! (1 ∷ []) $ fsplit ! $ drop ! $
          enter ! C Λ (lender k) (D.val h ∷ values (tys ps) (helds ps hs)) _ $
          alloc1 ! (λ lo. alloc1 ! (λ lv. allots ! (tys ps) own_locals (λ bs. alloc1 ! (λ ld. alloc1 ! (λ lx. alloc1 ! (λ lw. alloc1 ! (λ lr. allots ! (anew ps) [] (λ cs. alloc0 ! $
          params1 ! $ pass1 ! (init ! 10 refl (D.typed 𝓛 h is)) $ move ! (9 ∷ []) $ passes_all ! (tys ps) bs (helds ps hs) (last 𝓤 H lo lv ld lx lw lr bs cs) $
          -- [the parameters; what is reborrowed; r, w, x, d, v, the result, each with its right; what the others own; the tokens]
          -- d is a copy of v
          assigns ! (of_opd ! (load ! (from ! (stop !)) (look ! 10 refl))) (at_local ! (at_own 𝓤 H lo lv ld lx lw lr bs cs 0) (stop !)) (init ! 8 refl (D.typed 𝓛 h is)) $
          -- let x = f(&mut d, ..): d is lent for a lifetime that is made here, slices are reborrowed
          assigns ! (addr ! (at_local ! (at_own 𝓤 H lo lv ld lx lw lr bs cs 0) (stop !))) (at_local ! (at_own 𝓤 H lo lv ld lx lw lr bs cs 3) (stop !)) (init ! 2 refl (tt, tt)) $
          borrows ! (calls_thin k) ps hs 2 t bs cs (ps_found 𝓤 H lo lv ld lx lw lr bs cs) $
          move ! (8 ∷ []) $ lft_new ! tt (λ α. move ! (1 ∷ []) $
          use1 𝓛 (later (some (λ (γ : GName). ‵ (the_reference α γ ld) ⊛ the_loan α γ ld))) (lends_cell D 𝓛 (α ∷ []) ld h is) $ await ! tt $ pick ! (λ γ. split ! $
          move ! (0 ∷ 16 ∷ 2 ∷ 17 ∷ []) $ fjoin ! $ move ! (1 ∷ 2 ∷ []) $ join ! $ use2 𝓛 (raw ((Thin D X O ks Rel 𝓛).pre (to_thin α γ ld))) (goes α γ ld) $ move ! (0 ∷ 2 ∷ 3 ∷ []) $
          -- [what f asks; the parameters; what is reborrowed; the loan; r, w, x; the right to d; v, the result]
          calls_at ! fm (Thin D X O ks Rel 𝓛) known (to_thin α γ ld)
          (and_then ! (load ! (at_local ! (at_own 𝓤 H lo lv ld lx lw lr bs cs 3) (stop !)) (look ! 4 refl))
          (subst (Opds Go 𝓛 _ _ (operands ps 2 t)) same
          (opds_as ! (λ G. move ! (1 ∷ 2 ∷ 0 ∷ [])) (λ G. move ! (2 ∷ 0 ∷ 1 ∷ [])) (passed_on ! _ ps hs 2 t bs cs (ps_found 𝓤 H lo lv ld lx lw lr bs cs))))) (λ u.
          use1 𝓛 (later (some (thin_left α γ ld u))) (id⊢ 𝓤 _) $ await ! tt $ pick ! (λ y. split ! $ move ! (1 ∷ []) $ pick ! (λ zs. split ! $ move ! (1 ∷ []) $
          heard ! (Related zs.0 y zs.1) (λ e. fsplit ! $ fsplit ! $ move ! (1 ∷ []) $ drop ! $ move ! (2 ∷ []) $ split ! $ split ! $ move ! (2 ∷ []) $
          peeks ! X.row (Is X.row) (shows 𝓛 X.row) y (u ∷ []) (λ is₁. drop ! $
          let told : u ∷ [] ≡ X.val y ∷ [] = X.tells y (u ∷ []) is₁ in
          let is_y : Is X.row y (X.val y ∷ []) = subst (Is X.row y) told is₁ in
          -- [f's token; the other tokens; the record's last value; the others'; the parameters; ..; the loan; r, w, x; the right to d;
          -- v, the result]
          land ! (at_local ! (at_own 𝓤 H lo lv ld lx lw lr bs cs 1) (stop !)) (init ! 11 refl (subst (Fits X.ty) (sym (ap only told)) (X.typed 𝓛 y is_y))) $
          rewrite ! 11 (λ (c : Val). ‵ (fat full_share X.ty lx 0 c)) (ap only told) refl $
          -- the lifetime is ended, and d comes back
          lft_end ! tt $ move ! (0 ∷ 6 ∷ 2 ∷ []) $
          use3 𝓛 (later (given (Is D.row zs.0 (D.val zs.0 ∷ [])) (value_at D 𝓛 (α ∷ []) ld zs.0))) (cell_back D 𝓛 (α ∷ []) ld γ zs.0) $ await ! tt $ learn ! (λ is-h.
          -- [d; the tokens; the others' last values; the parameters; what was reborrowed; r, w, x; the right to d; v, the result]
          -- let w = d
          assigns ! (of_opd ! (load ! (at_local ! (at_own 𝓤 H lo lv ld lx lw lr bs cs 0) (stop !)) (look ! 0 refl)))
          (at_local ! (at_own 𝓤 H lo lv ld lx lw lr bs cs 2) (stop !)) (init ! 7 refl (D.typed 𝓛 zs.0 is-h)) $
          -- O { w, x }
          assigns ! (agg ! (and_then ! (load ! (at_local ! (at_own 𝓤 H lo lv ld lx lw lr bs cs 2) (stop !)) (look ! 7 refl))
          (and_then ! (load ! (at_local ! (at_own 𝓤 H lo lv ld lx lw lr bs cs 1) (stop !)) (look ! 9 refl)) (no_more !))))
          (from ! (stop !)) (init ! 14 refl (O.typed 𝓛 (B.build zs.0 y) _ (B.built_is zs.0 y is-h is_y))) $
          -- the locals are freed: the result, v, the parameters, d, x, w, r, what was reborrowed
          returns ! (look ! 14 refl) $ forget ! 14 refl $ move ! (14 ∷ 15 ∷ []) $ free1 ! $ forget ! 12 refl $ move ! (12 ∷ 13 ∷ []) $ free1 ! $
          move ! (3 ∷ []) $ frees_all ! (tys ps) bs (helds ps hs) (last 𝓤 H lo lv ld lx lw lr bs cs) $
          forget ! 0 refl $ move ! (0 ∷ 10 ∷ []) $ free1 ! $ forget ! 7 refl $ move ! (7 ∷ 8 ∷ []) $ free1 ! $ forget ! 5 refl $ move ! (5 ∷ 6 ∷ []) $ free1 ! $
          forget ! 3 refl $ move ! (3 ∷ 4 ∷ []) $ free1 ! $ move ! (2 ∷ []) $ frees_all ! (anew ps) cs (helds_anew ps hs) [] $ free0 ! $
          by ! (exits zs.0 y zs.1 e is-h is_y)))))))))))))))))

  -- ---- the law

  abbrev S : Signature
  S = (core_ended D X O n ss kept Rel).signature

  module _ {M : Type 1} {𝓤 : Ura M} (𝓛 : Logic 𝓤)
      (C : Calls 𝓤 𝓛.H) (Λ : Loops 𝓤 𝓛.H) (k : Callee) (fm : FmC 𝓤 𝓛.H 𝓛.laws C) (known : Triple 𝓤 (C k) (Thin D X O ks Rel 𝓛)) where
    open 𝓛 use {H}

    pub lender_meets : Triple 𝓤 (WpFn 𝓤 H C Λ (lender k)) (TheCore D X O ks Rel 𝓛)
    lender_meets y =
        let κs : Lfts n = y.0.0 in
        let qs : Shares n = y.0.1 in
        let h : D.row.Denot = y.0.3.0 in
        let a : Denots (types_at ss κs) = y.0.3.1 in
        let entry : SProp 𝓤 = on_entry 𝓛 S κs qs (h, a) y.0.4 in
        let spelled : Valss (types_at ss κs) = valss (types_at ss κs) (all_values κs ks) a in
        via 𝓤 entry (fst∗ 𝓤 entry (emp 𝓤))
        (said 𝓛 S κs qs ((λ z. D.val z ∷ []), all_values κs ks) (D.tells, all_tell κs ks) (h, a)
        (λ vss. WpFn 𝓤 H C Λ (lender k) (flat (types_at S.params κs) vss) ((TheCore D X O ks Rel 𝓛).post y)) y.0.4 (λ are.
        let same = all_same κs 𝓛 (λ i. i) ks a are.1 in
        subst (λ (us : List Val). ent 𝓤 (on_entry 𝓛 S κs qs (h, a) (D.val h ∷ [], spelled)) (WpFn 𝓤 H C Λ (lender k) (D.val h ∷ us) ((TheCore D X O ks Rel 𝓛).post y))) same
        (lender_runs 𝓛 κs qs h a spelled are.0 (all_held κs 𝓛 (λ i. i) ks a are.1) same C Λ k fm known)))

  -- The same holds of a function `f` whose code is that of a lender, in the environment γ of that code, in which the thin call means a
  -- routine that is proved.
  module _ {M : Type 1} {𝓤 : Ura M} (𝓛 : Logic 𝓤) (𝓜 : Model 𝓤 𝓛.H) (𝓡 : Running 𝓤 𝓛.H 𝓜) (γ : Routines) (f thin : Callee) (body : Routine) where
    open 𝓛 use {H}

    abbrev 𝓣 : MachineTables 𝓤 H 𝓜
    𝓣 = tables 𝓤 H 𝓜 𝓡 γ

    pub lender_spec : Closed 𝓤 H 𝓣.C 𝓣.Λ f (lender thin) → γ thin ≡ body
        → Triple 𝓤 (𝓡.run body) (Thin D X O ks Rel 𝓛) → Triple 𝓤 (𝓣.C f) (TheCore D X O ks Rel 𝓛)
    unfolding tables_of
    lender_spec closed means met =
        entered 𝓤 H (TheCore D X O ks Rel 𝓛) 𝓣.C 𝓣.Λ f (lender thin) closed
        (lender_meets 𝓛 𝓣.C 𝓣.Λ thin (fm_of 𝓤 H 𝓛.laws (tables_of 𝓤 H 𝓜 𝓣)) (cited 𝓤 H (Thin D X O ks Rel 𝓛) 𝓜 𝓡 γ thin body means met))

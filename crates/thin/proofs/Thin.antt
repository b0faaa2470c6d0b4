-- A thin call over a lent record, walked through once for every such call:
--     fn f(d: &mut D, ..) -> X { let v = *d; let r = core(v, ..); *d = r.0; r.1 }
-- This holds for any plain D and X, any struct of a D and an X that the core returns, any parameters after the record, any core, and any
-- relation Rel. What the core promises about the record passed in, and about the record and the X that come back, the thin call promises
-- about the record in the reference at entry, the record in it at exit, and the X that it returns. No device is named. In the machine's
-- code r.0 is copied to a local before it is put back, called u below. Assumes nothing.
--     Core         the core's contract.        thin k     the MIR of a thin call of the core named k
--     Entry        what the thin call has at entry: the tokens, the reference, and what its other parameters own
--     Exit         what it owes at exit: the tokens, the X, the record's borrow, closed, and last values of the record and of the others
--                  for which Rel holds
--     thin_runs    from Entry the code runs to Exit, if the core meets its contract
use Prim.Native.Nat.{ℕ, zero, suc}
use mathlib.Core.Path.{◌≡◌, refl, sym, subst, ◌∙◌}
use mathlib.Core.List.{[], ◌∷◌, List}
use seplogic.Ra.Ura.{Ura}
use base.Fraction.{full_share}
use mir.Syntax.{Ty, Callee, Fn, Body, Local, local, value_local, place, deref, field, copy, assign, rv_opd, call, seq, return, named, mut, ty_ref}
use mir.Val.{Val, vptr}
use base.Logic.{SProp, ent, sep, emp, ex, id⊢}
use base.Fml.{GName, Lft, Share, fsep, fat, flft, fobs, fbor, fres}
use prog.Wp.{Heap, Env, Calls, Loops, WpFn, spot_of}
use types.Logic.{Logic, sem}
use contract.Monad.{fact}
use contract.Lifetimes.{Lfts, Shares, toks}
use types.Kit.{Item, ‵, raw, some, later, ◌⊛◌, ⋆, Go, ◌$◌, ◌∵◌, !, qed, by, move, drop, use1, use2, split, join, pick}
use types.Kit.{rewrite, fsplit, fsplit3, fjoin, frame, show, await, updating, now as at_once, done}
use types.Run.{Opds, look, look_raw, store_raw, init, forget, stop, hop, fld, from, load, of_opd, and_then, assigns, land, returns}
use types.Run.{enter, alloc1, alloc0, params1, pass1, free1, free0}
use types.Part.{whole, sub, look_in}
use types.SemTy.{Body as Behind}
use sound.WpLaws.{FmC}
use denote.RattleType.{Denots, Valss, owns, flat}
use denote.Laws.{Is, shows}
use denote.Memory.{mem, pointee, cell_at}
use denote.Ref.{MutBor, MutRef}
use denote.Signature.{Slot, plain, types_at}
use denote.Steps.{opens, closes, owned, peeks, heard, nothing}
use denote.Struct.Steps.{spelt}
use denote.Triple.Spec.{triple_of}
use denote.Triple.Statement.{Contract, Triple}
use denote.Triple.Call.{calls_at}
use denote.Triple.End.{Kepts, Fins, Outs, outs, lasts_of}
use denote.Triple.Clauses.{Ended, Clauses, closing, ensured}
use denote.Triple.Walked.{says}
use denote.Exit.{yes, Last, left}
use Rattle.thin.proofs.Data.{Data, Pair, pair_ty}
use Rattle.thin.proofs.Frame.{Addresses, values, locals, allots, passes_all, frees_all, at_local, opds_as}
use Rattle.thin.proofs.Passed.{Passed, Helds, tys, anew, helds, helds_anew, local_after, anew_after, borrowing, operands, borrows, passed_on}
use Rattle.thin.proofs.Passed.{Found, last_env, whole_env, own_found, end_found, found}

module _ (D X : Data) (O : Pair D X) (n : ℕ) (ss : List (Slot n)) (kept : Kepts ss)
    (Rel : (κs : Lfts n) → D.row.Denot → Denots (types_at ss κs) → D.row.Denot → X.row.Denot → Outs κs ss kept → Type 0) where
  -- ---- the core, by value

  abbrev pub core_ended : Ended
  core_ended = record {
    signature = record { lifetimes = n; outlives = []; params = plain (λ _. D.row) ∷ ss; result = plain (λ _. O.row) };
    kept = (yes, kept);
  }

  abbrev core_clauses : {M : Type 1} (𝓤 : Ura M) → Clauses 𝓤 core_ended
  core_clauses 𝓤 κs a = record {
    ghost = Unit {0};
    requires = λ _. emp 𝓤;
    ensures = λ _ x e. fact 𝓤 (Rel κs a.0 a.1 (O.fst x) (O.snd x) e.1);
  }

  abbrev pub Core : {M : Type 1} {𝓤 : Ura M} (𝓛 : Logic 𝓤) → Contract 𝓤
  Core {𝓤 = 𝓤} 𝓛 = triple_of 𝓛 core_ended.signature (closing 𝓛 core_ended (core_clauses 𝓤))

  -- This is the type of what the core returns.
  abbrev τ : Ty
  τ = pair_ty O.name D X

  -- ---- the thin call: local 0 is its result, 1 the reference, then come the parameters, then v and r, then what is reborrowed, then u
  module _ (ps : List Passed) where
    abbrev v : ℕ
    v = suc (suc (local_after ps 0))

    abbrev r : ℕ
    r = suc (suc (local_after ps 1))

    abbrev t : ℕ
    t = suc (suc (local_after ps 2))

    abbrev u : ℕ
    u = suc (suc (local_after ps (suc (suc (anew_after ps 0)))))

    abbrev ref_ty : Ty
    ref_ty = ty_ref (named 0) mut (pointee D.row.written)

    abbrev own_locals : List Local
    own_locals = local D.ty value_local ∷ local τ value_local ∷ locals (anew ps) (local D.ty value_local ∷ [])

    abbrev puts_back : Body
    puts_back =
        seq (assign (place u []) (rv_opd (copy (place r (field 0 ∷ [])))))
        (seq (assign (place 1 (deref D.ty ∷ [])) (rv_opd (copy (place u []))))
        (seq (assign (place 0 []) (rv_opd (copy (place r (field 1 ∷ []))))) return))

    abbrev calls_core : Callee → Body
    calls_core k = seq (call k (copy (place v []) ∷ operands ps 2 t) (place r [])) puts_back

    abbrev pub thin : Callee → Fn
    thin k = record {
      lifetimes = suc n;
      outlives = [];
      ty_params = [];
      givens = 0;
      params = suc (local_after ps 0);
      locals = local X.ty value_local ∷ local ref_ty value_local ∷ locals (tys ps) own_locals;
      body = seq (assign (place v []) (rv_opd (copy (place 1 (deref D.ty ∷ []))))) (borrowing ps 2 t (calls_core k));
    }

    -- v, r, u and the parameters stand here, once the locals have their addresses.
    module _ {M : Type 1} (𝓤 : Ura M) (H : Heap 𝓤) (lx ld lv lr lu : ℕ) (bs : Addresses (tys ps)) (cs : Addresses (anew ps)) where
      abbrev own_env : Env 𝓤 H
      own_env = (D.ty, lv) ∷ (τ, lr) ∷ []

      abbrev ends : Env 𝓤 H
      ends = (D.ty, lu) ∷ []

      abbrev last : Env 𝓤 H
      last = last_env 𝓤 H (X.ty, lx) (ref_ty, ld) own_env ends ps bs cs

      abbrev E : Env 𝓤 H
      E = whole_env 𝓤 H (X.ty, lx) (ref_ty, ld) own_env ends ps bs cs

      v_found : spot_of 𝓤 H E v ≡ (D.ty, lv, zero)
      v_found = own_found 𝓤 H (X.ty, lx) (ref_ty, ld) own_env ends ps bs cs 0

      r_found : spot_of 𝓤 H E r ≡ (τ, lr, zero)
      r_found = own_found 𝓤 H (X.ty, lx) (ref_ty, ld) own_env ends ps bs cs 1

      u_found : spot_of 𝓤 H E u ≡ (D.ty, lu, zero)
      u_found = own_found 𝓤 H (X.ty, lx) (ref_ty, ld) own_env ends ps bs cs (suc (suc (anew_after ps 0))) ∙ end_found 𝓤 H ps cs ends 0

      ps_found : Found 𝓤 H E ps 2 t bs cs
      ps_found = found 𝓤 H (X.ty, lx) (ref_ty, ld) own_env ends ps bs cs

    -- The reference is to (b, o), under the name γ, the record is h, and the others are a. κ and q are the record's lifetime and its
    -- share.
    module _ {M : Type 1} {𝓤 : Ura M} (𝓛 : Logic 𝓤) (κ : Lft) (κs : Lfts n) (q : Share) (qs : Shares n)
        (b o : ℕ) (γ : GName) (h : D.row.Denot) (a : Denots (types_at ss κs)) where
      open 𝓛 use {H, A}

      abbrev lent : MutBor D.row.Denot
      lent = record { ref_ptr = (b, o); ghost_name = γ; now = h }

      abbrev tokens : SProp 𝓤
      tokens = toks 𝓛 n κs qs

      abbrev pub Entry : Valss (types_at ss κs) → SProp 𝓤
      Entry vss = sep 𝓤 (sep 𝓤 (A.lft κ q) tokens) (sem 𝓛 (fsep ((MutRef (named 0) κ D.row).own_val lent (vptr b o ∷ [])) (owns (types_at ss κs) a vss)))

      -- This is what is owed at the last values ws. What the reference leaves is that ws.0 is its last, and its borrow, closed.
      abbrev Lasting : X.row.Denot → D.row.Denot × Fins κs ss kept a → SProp 𝓤
      Lasting x ws =
          sep 𝓤 (sem 𝓛 (fsep (left ((MutRef (named 0) κ D.row).exit yes) lent ws.0) (lasts_of κs ss kept a ws.1)))
          (fact 𝓤 (Rel κs h a ws.0 x (outs κs ss kept a ws.1)))

      abbrev Returned : Val → X.row.Denot → SProp 𝓤
      Returned w x = sep 𝓤 (sep 𝓤 (sep 𝓤 (A.lft κ q) tokens) (sem 𝓛 (X.row.own_val x (w ∷ [])))) (ex 𝓤 (Lasting x))

      abbrev pub Exit : Val → SProp 𝓤
      Exit w = H.⇛ (ex 𝓤 (Returned w))

      -- The core's answer x is as it promised, with the last values zs of the others.
      abbrev Related : O.row.Denot → Fins κs ss kept a → Type 0
      Related x zs = Rel κs h a (O.fst x) (O.snd x) (outs κs ss kept a zs)

      module _ where
        -- This remains once the record's borrow is closed and the locals are freed.
        abbrev at_end : O.row.Denot → Fins κs ss kept a → List (Item 𝓤)
        at_end x zs =
            ‵ (fobs γ (D.row.coded.code (O.fst x))) ∷ ‵ (fbor κ (Behind (mem D.row) b o γ)) ∷ ‵ (flft κ q)
            ∷ raw tokens ∷ ‵ (lasts_of κs ss kept a zs) ∷ []

        exits : (x : O.row.Denot) (zs : Fins κs ss kept a) → Related x zs → Is X.row (O.snd x) (X.val (O.snd x) ∷ [])
            → ent 𝓤 (⋆ 𝓛 (at_end x zs)) (Exit (X.val (O.snd x)))
        exits x zs e is =
            let last = D.row.coded.code (O.fst x) in
            qed 𝓛 (at_end x zs) ∵ updating ! $ use1 𝓛 (‵ (fres γ last)) (𝓛.names.obs-res γ last) $ at_once ! $
            -- [the record's last value; its borrow; its token; the other tokens; the others' last values]
            show ! (Returned (X.val (O.snd x))) (O.snd x) $ move ! (2 ∷ 3 ∷ []) $ join ! $ owned ! X.row (Is X.row) (X.makes 𝓛) (O.snd x) _ is $
            move ! (1 ∷ 0 ∷ []) $ join ! $ frame ! $ show ! (Lasting (O.snd x)) (O.fst x, zs) $ says ! e $ fjoin ! $ fjoin ! $ done !

        module _ (vss : Valss (types_at ss κs)) where
          -- The core's triple binds these outside: the record out of the reference, and the others as they were passed.
          abbrev to_core : (Core 𝓛).Ghost
          to_core = ((κs, qs, tt, (h, a), (D.val h ∷ [], vss)), tt)

          abbrev core_owns : Item 𝓤
          core_owns = ‵ (fsep (D.row.own_val h (D.val h ∷ [])) (owns (types_at ss κs) a vss))

          goes : ent 𝓤 (⋆ 𝓛 (raw tokens ∷ core_owns ∷ [])) ((Core 𝓛).pre to_core)
          goes = qed 𝓛 (raw tokens ∷ core_owns ∷ []) ∵ join ! $ nothing ! $ move ! (1 ∷ 0 ∷ []) $ join ! $ done !

          -- The core leaves its answer, and with it the last values of the others and the promise.
          abbrev core_left : Val → O.row.Denot → Item 𝓤
          core_left w x = (raw tokens ⊛ ‵ (O.row.own_val x (w ∷ []))) ⊛ raw (ensured 𝓛 core_ended (core_clauses 𝓤) κs (h, a) tt x)

          abbrev core_says : O.row.Denot → Last (D.row.exit yes) h × Fins κs ss kept a → Item 𝓤
          core_says x zs = ‵ (lasts_of κs (plain (λ _. D.row) ∷ ss) (yes, kept) (h, a) zs) ⊛ raw (fact 𝓤 (Related x zs.1))

          module _ (hs : Helds ps) (same : values (tys ps) (helds ps hs) ≡ flat (types_at ss κs) vss)
              (C : Calls 𝓤 H) (Λ : Loops 𝓤 H) (k : Callee) (fm : FmC 𝓤 H 𝓛.laws C) (known : Triple 𝓤 (C k) (Core 𝓛)) where
            pub thin_runs : ent 𝓤 (Entry vss) (WpFn 𝓤 H C Λ (thin k) (vptr b o ∷ values (tys ps) (helds ps hs)) Exit)
            thin_runs =
                qed 𝓛 ((‵ (flft κ q) ⊛ raw tokens) ∷ ‵ (fsep ((MutRef (named 0) κ D.row).own_val lent (vptr b o ∷ [])) (owns (types_at ss κs) a vss)) ∷ []) ∵
                enter ! C Λ (thin k) (vptr b o ∷ values (tys ps) (helds ps hs)) _ $
                alloc1 ! (λ lx. alloc1 ! (λ ld. allots ! (tys ps) own_locals (λ bs. alloc1 ! (λ lv. alloc1 ! (λ lr. allots ! (anew ps) (local D.ty value_local ∷ []) (λ cs. alloc1 ! (λ lu.
                move ! (2 ∷ 3 ∷ 4 ∷ 5 ∷ 6 ∷ 7 ∷ 8 ∷ 9 ∷ 10 ∷ 11 ∷ []) $ alloc0 ! $
                params1 ! $ pass1 ! (init ! 6 refl (tt, tt)) $ move ! (5 ∷ []) $ passes_all ! (tys ps) bs (helds ps hs) (last 𝓤 H lx ld lv lr lu bs cs) $
                -- [the parameters; what is reborrowed; r, v, d, x, u, each with its right; the tokens; what is owned]
                move ! (13 ∷ []) $ fsplit ! $ fsplit3 ! $ drop ! $ move ! (15 ∷ []) $ split ! $ move ! (2 ∷ 3 ∷ 0 ∷ []) $
                -- let v = *d: the record's borrow is opened
                opens ! tt D.row {h = h} b o (λ vs.
                spelt ! D.row (Is D.row) (shows 𝓛 D.row) (λ y. D.val y ∷ []) D.tells full_share h vs b o $ move ! (1 ∷ []) $
                peeks ! D.row (Is D.row) (shows 𝓛 D.row) h (D.val h ∷ []) (λ is. drop ! $
                rewrite ! 0 (λ (τs : List Ty). ‵ (cell_at full_share τs (D.val h ∷ []) b o)) D.mir_is refl $
                -- [the record's cell, its open borrow, its name twice; the other tokens; what the others own; the parameters; ..;
                -- r, v, d, x, u]
                assigns ! (of_opd ! (load ! (from ! (hop ! (look ! 12 refl) (stop !))) (look_raw ! 0 refl)))
                (at_local ! (v_found 𝓤 H lx ld lv lr lu bs cs) (stop !)) (init ! 10 refl (D.typed 𝓛 h is)) $
                -- let r = core(v, ..): slices are reborrowed, and the core gets v and what the others own
                move ! (6 ∷ 7 ∷ []) $ borrows ! (calls_core k) ps hs 2 t bs cs (ps_found 𝓤 H lx ld lv lr lu bs cs) $
                owned ! D.row (Is D.row) (D.makes 𝓛) h (D.val h ∷ []) is $ move ! (0 ∷ 8 ∷ []) $ fjoin ! $ move ! (7 ∷ 0 ∷ []) $
                use2 𝓛 (raw ((Core 𝓛).pre to_core)) goes $
                calls_at ! fm (Core 𝓛) known to_core
                (and_then ! (load ! (at_local ! (v_found 𝓤 H lx ld lv lr lu bs cs) (stop !)) (look ! 9 refl))
                (subst (Opds Go 𝓛 _ _ (operands ps 2 t)) same
                (opds_as ! (λ G. move ! (1 ∷ 2 ∷ 0 ∷ [])) (λ G. move ! (2 ∷ 0 ∷ 1 ∷ [])) (passed_on ! _ ps hs 2 t bs cs (ps_found 𝓤 H lx ld lv lr lu bs cs))))) (λ w.
                use1 𝓛 (later (some (core_left w))) (id⊢ 𝓤 _) $ await ! tt $ pick ! (λ x. split ! $ move ! (1 ∷ []) $
                use1 𝓛 (some (core_says x)) (id⊢ 𝓤 _) $ pick ! (λ zs. split ! $ move ! (1 ∷ []) $ heard ! (Related x zs.1) (λ e. fsplit ! $ drop ! $
                move ! (1 ∷ []) $ split ! $ move ! (1 ∷ []) $ peeks ! O.row (Is O.row) (shows 𝓛 O.row) x (w ∷ []) (λ is'.
                -- [the answer; the other tokens; the others' last values; the parameters; ..; the record's cell, borrow and name;
                -- r, v, d, x, u]
                land ! (at_local ! (r_found 𝓤 H lx ld lv lr lu bs cs) (stop !)) (init ! 9 refl (O.typed 𝓛 x w is')) $
                rewrite ! 9 (λ (u : Val). ‵ (fat full_share τ lr 0 u)) (O.told x w is') refl $
                -- *d = r.0, by way of u
                assigns ! (of_opd ! (load ! (at_local ! (r_found 𝓤 H lx ld lv lr lu bs cs) (fld ! refl (stop !))) (look_in ! 9 (sub ! 0 refl (whole !)))))
                (at_local ! (u_found 𝓤 H lx ld lv lr lu bs cs) (stop !)) (init ! 17 refl (D.typed 𝓛 (O.fst x) (O.fst_is x w is'))) $
                assigns ! (of_opd ! (load ! (at_local ! (u_found 𝓤 H lx ld lv lr lu bs cs) (stop !)) (look ! 17 refl)))
                (from ! (hop ! (look ! 13 refl) (stop !))) (store_raw ! 5 refl (D.typed 𝓛 (O.fst x) (O.fst_is x w is'))) $
                -- r.1
                assigns ! (of_opd ! (load ! (at_local ! (r_found 𝓤 H lx ld lv lr lu bs cs) (fld ! refl (stop !))) (look_in ! 9 (sub ! 1 refl (whole !)))))
                (from ! (stop !)) (init ! 15 refl (X.typed 𝓛 (O.snd x) (O.snd_is x w is'))) $
                -- the record's borrow is closed at what d holds now
                rewrite ! 5 (λ (τs : List Ty). ‵ (cell_at full_share τs (D.val (O.fst x) ∷ []) b o)) (sym D.mir_is) refl $ drop ! $
                owned ! D.row (Is D.row) (D.makes 𝓛) (O.fst x) _ (O.fst_is x w is') $ move ! (5 ∷ 0 ∷ 6 ∷ 7 ∷ 8 ∷ []) $
                closes ! tt D.row (O.fst x) (D.val (O.fst x) ∷ []) b o $
                -- the locals are freed: x, d, the parameters, v, r, what was reborrowed, u
                returns ! (look ! 13 refl) $ forget ! 13 refl $ move ! (13 ∷ 14 ∷ []) $ free1 ! $ forget ! 11 refl $ move ! (11 ∷ 12 ∷ []) $ free1 ! $
                move ! (5 ∷ []) $ frees_all ! (tys ps) bs (helds ps hs) (last 𝓤 H lx ld lv lr lu bs cs) $
                forget ! 8 refl $ move ! (8 ∷ 9 ∷ []) $ free1 ! $ forget ! 6 refl $ move ! (6 ∷ 7 ∷ []) $ free1 ! $
                move ! (5 ∷ []) $ frees_all ! (anew ps) cs (helds_anew ps hs) (ends 𝓤 H lx ld lv lr lu bs cs) $ forget ! 5 refl $ move ! (5 ∷ 6 ∷ []) $ free1 ! $ free0 ! $
                by ! (exits x zs.1 e (O.snd_is x w is'))))))))))))))))

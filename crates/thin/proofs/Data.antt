-- What a thin call asks of the plain types that it names. Assumes nothing.
--     Data          a plain type: its row, its one MIR type, its one machine value, and the laws
--     Pair D X      a struct of a D and then an X: its row, its name, its two fields, and the laws
--     Built D X O   what is asked in addition by a function that builds such a struct, as a lender does (`Lender.antt`)
--     struct_data, enum_data, struct_pair    these, made from the modules that a check makes of a declared type
use mathlib.Core.Path.{◌≡◌, ap, subst, ◌∙◌}
use mathlib.Core.List.{[], ◌∷◌, List}
use lib.Dec.{T as Holds}
use seplogic.Ra.Ura.{Ura}
use mir.Syntax.{Ty, Sym, ty_struct, tcons, tnil}
use mir.Val.{Val, vstruct, vcons, vnil, has_ty, WT}
use base.Logic.{ent, emp}
use types.Logic.{Logic, sem}
use denote.RattleType.{RattleType}
use denote.Exit.{yes, Last, left}
use denote.Laws.{Is, Tells, Makes, Typed, valss}
use denote.Steps.{only}
use denote.Struct.Struct.{Plains, AreAll}
use denote.Struct.Declared as S
use denote.Struct.Laws as SL
use denote.Enum.Enum.{Plainss, Few}
use denote.Enum.Declared as E
use denote.Enum.Laws as EL

-- The machine value is one of the MIR type.
abbrev pub Fits : Ty → Val → Type 0
Fits τ v = Holds (has_ty τ v) × WT v

pub record Data : Type 2 where
  pub row : RattleType
  pub ty : Ty
  pub mir_is : row.mir ≡ ty ∷ []
  pub val : row.Denot → Val
  pub tells : Tells row (Is row) (λ y. val y ∷ [])
  pub typed : {M : Type 1} {𝓤 : Ura M} (𝓛 : Logic 𝓤) → (y : row.Denot) → Is row y (val y ∷ []) → Fits ty (val y)
  pub makes : {M : Type 1} {𝓤 : Ura M} (𝓛 : Logic 𝓤) → Makes 𝓛 row (Is row)

-- This is the MIR type of a struct of a D and then an X.
abbrev pub pair_ty : Sym → Data → Data → Ty
pair_ty name D X = ty_struct name (tcons D.ty (tcons X.ty tnil))

pub record Pair (D X : Data) : Type 2 where
  pub row : RattleType
  pub name : Sym
  pub fst : row.Denot → D.row.Denot
  pub snd : row.Denot → X.row.Denot
  pub told : (r : row.Denot) (w : Val) → Is row r (w ∷ []) → w ≡ vstruct (vcons (D.val (fst r)) (vcons (X.val (snd r)) vnil))
  pub typed : {M : Type 1} {𝓤 : Ura M} (𝓛 : Logic 𝓤) → (r : row.Denot) (w : Val) → Is row r (w ∷ []) → Fits (pair_ty name D X) w
  pub fst_is : (r : row.Denot) (w : Val) → Is row r (w ∷ []) → Is D.row (fst r) (D.val (fst r) ∷ [])
  pub snd_is : (r : row.Denot) (w : Val) → Is row r (w ∷ []) → Is X.row (snd r) (X.val (snd r) ∷ [])

-- Such a struct can be built from its two fields, and what is said of a D at a function's exit holds without more.
pub record Built (D X : Data) (O : Pair D X) : Type 2 where
  pub build : D.row.Denot → X.row.Denot → O.row.Denot
  pub fst_of : (d : D.row.Denot) (x : X.row.Denot) → O.fst (build d x) ≡ d
  pub snd_of : (d : D.row.Denot) (x : X.row.Denot) → O.snd (build d x) ≡ x
  pub built_is : (d : D.row.Denot) (x : X.row.Denot) → Is D.row d (D.val d ∷ []) → Is X.row x (X.val x ∷ [])
      → Is O.row (build d x) (vstruct (vcons (D.val d) (vcons (X.val x) vnil)) ∷ [])
  pub makes : {M : Type 1} {𝓤 : Ura M} (𝓛 : Logic 𝓤) → Makes 𝓛 O.row (Is O.row)
  pub last : (d : D.row.Denot) → Last (D.row.exit yes) d
  pub had : {M : Type 1} {𝓤 : Ura M} (𝓛 : Logic 𝓤) (d : D.row.Denot) → ent 𝓤 (emp 𝓤) (sem 𝓛 (left (D.row.exit yes) d (last d)))

-- ---- declared types: for any type that is written out, `refl` proves the arguments that are equations

abbrev pub struct_data : (T : S.Declared) (L : SL.Laws T) → Plains (S.fields T) → (τ : Ty) → (S.row T).mir ≡ τ ∷ [] → Data
struct_data T L plain τ mir_is = record {
  row = S.row T;
  ty = τ;
  mir_is = mir_is;
  val = SL.val T L;
  tells = SL.tells T L;
  typed = λ 𝓛 y is. (subst (λ (τs : List Ty). Typed τs (SL.val T L y ∷ [])) mir_is ((SL.lawful T L 𝓛).typed y _ is)).0;
  makes = λ 𝓛. SL.makes T plain 𝓛;
}

abbrev pub enum_data : (T : E.Declared) (L : EL.Laws T) → Few (E.shape T) → Plainss (E.variants T) → (τ : Ty) → (E.row T).mir ≡ τ ∷ [] → Data
enum_data T L few plain τ mir_is = record {
  row = E.row T;
  ty = τ;
  mir_is = mir_is;
  val = EL.val T L;
  tells = EL.tells T L;
  typed = λ 𝓛 y is. (subst (λ (τs : List Ty). Typed τs (EL.val T L y ∷ [])) mir_is ((EL.lawful T L 𝓛 few).typed y _ is)).0;
  makes = λ 𝓛. EL.makes T plain 𝓛;
}

module _ (D X : Data) (T : S.Declared) (L : SL.Laws T) where
  -- This is the relation of each field.
  abbrev Parts : T.D → Type 0
  Parts r = AreAll (S.fields T) (T.to r) (valss (S.fields T) (SL.spells T.parts L) (T.to r))

  module _ (name : Sym) (fst : T.D → D.row.Denot) (snd : T.D → X.row.Denot) where
    abbrev pub struct_pair : ((r : T.D) → SL.val T L r ≡ vstruct (vcons (D.val (fst r)) (vcons (X.val (snd r)) vnil))) → (S.row T).mir ≡ pair_ty name D X ∷ []
        → ((r : T.D) → Parts r → Is D.row (fst r) (D.val (fst r) ∷ [])) → ((r : T.D) → Parts r → Is X.row (snd r) (X.val (snd r) ∷ [])) → Pair D X
    struct_pair val_is mir_is fst_is snd_is = record {
      row = S.row T;
      name = name;
      fst = fst;
      snd = snd;
      told = λ r w is. ap only (SL.tells T L r _ is) ∙ val_is r;
      typed = λ 𝓛 r w is. (subst (λ (τs : List Ty). Typed τs (w ∷ [])) mir_is ((SL.lawful T L 𝓛).typed r _ is)).0;
      fst_is = λ r w is. fst_is r (SL.owed T L r _ is);
      snd_is = λ r w is. snd_is r (SL.owed T L r _ is);
    }

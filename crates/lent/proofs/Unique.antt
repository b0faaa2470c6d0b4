-- No second answer satisfies a promise, and the reference holds no second record: only one record at exit, one answer and one content of
-- the slices that the call may write to make the `ensures` of a lent call true. This follows from the same fact about the calls by value.
-- Assumes nothing.
use mathlib.Core.Path.{◌≡◌, ap}
use mathlib.Core.List.{List}
use Prim.Native.Nat.{ℕ}
use seplogic.Ra.Ura.{Ura}
use base.Logic.{SProp, ent, id⊢}
use prog.Memory.{Memory}
use prog.Routine.{Routine}
use types.Logic.{Logic}
use contract.Monad.{Fun, fact}
use contract.Lifetimes.{Lfts}
use denote.RattleType.{Denots}
use denote.Exit.{yes}
use denote.Signature.{types_at}
use denote.Triple.Entry.{Args, Res}
use denote.Triple.End.{all, Outs}
use denote.Triple.Clauses.{Ended, Clauses, AtExit}
use Rattle.bbb.proofs.Unique as bbb
use Rattle.calls.proofs.Unique as calls
use Rattle.thin.proofs.Data.{Data, Pair}
use Rattle.lent.proofs.Types.{device, report, polled, answer, stated, count, moved, controlled, handled}
use Rattle.thin.proofs.Law.{Kind, slots, Promise}
use Rattle.lent.proofs.Promises.{poll_others, poll_promise, set_status_others, set_status_promise}
use Rattle.lent.proofs.Promises.{read_data_others, read_data_promise, write_data_others, write_data_promise, try_write_data_all_others, try_write_data_all_promise}
use Rattle.lent.proofs.Promises.{reset_others, reset_promise, control_others, control_promise}
use Rattle.lent.specs.contracts.poll as poll
use Rattle.lent.specs.contracts.set_status as set-status
use Rattle.lent.specs.contracts.read_data as read-data
use Rattle.lent.specs.contracts.write_data as write-data
use Rattle.lent.specs.contracts.try_write_data_all as try-write-data-all
use Rattle.lent.specs.contracts.reset as reset
use Rattle.lent.specs.contracts.control as control

-- ---- the promises are the contracts: what is shown below of a promise holds of the call's own clause

-- The clause that a call ensures and the fact φ follow from each other.
abbrev Reads : {M : Type 1} (𝓤 : Ura M) (T : Ended) → Clauses 𝓤 T
    → ((κs : Lfts T.signature.lifetimes) → Args T.signature κs → Res T.signature κs → AtExit T κs → Type 0) → Type 1
Reads 𝓤 T c φ =
    (κs : Lfts T.signature.lifetimes) (a : Args T.signature κs) (g : (c κs a).ghost) (r : Res T.signature κs) (e : AtExit T κs)
    → ent 𝓤 ((c κs a).ensures g r e) (fact 𝓤 (φ κs a r e)) × ent 𝓤 (fact 𝓤 (φ κs a r e)) ((c κs a).ensures g r e)

module _ {M : Type 1} {𝓤 : Ura M} (𝓛 : Logic 𝓤) (m : Memory → SProp 𝓤) (run : Routine → Fun 𝓤) where
  pub poll_reads : Reads 𝓤 poll.ended (poll.clauses 𝓛 m run) (λ κs a r e. poll_promise κs.1 a.0.now a.1 e.0.now r e.1)
  poll_reads κs a g r e = (id⊢ 𝓤 _, id⊢ 𝓤 _)

  pub set_status_reads : Reads 𝓤 set-status.ended (set-status.clauses 𝓛 m run) (λ κs a r e. set_status_promise κs.1 a.0.now a.1 e.0.now r e.1)
  set_status_reads κs a g r e = (id⊢ 𝓤 _, id⊢ 𝓤 _)

  pub read_data_reads : Reads 𝓤 read-data.ended (read-data.clauses 𝓛 m run) (λ κs a r e. read_data_promise κs.1 a.0.now a.1 e.0.now r e.1)
  read_data_reads κs a g r e = (id⊢ 𝓤 _, id⊢ 𝓤 _)

  pub write_data_reads : Reads 𝓤 write-data.ended (write-data.clauses 𝓛 m run) (λ κs a r e. write_data_promise κs.1 a.0.now a.1 e.0.now r e.1)
  write_data_reads κs a g r e = (id⊢ 𝓤 _, id⊢ 𝓤 _)

  pub try_write_data_all_reads : Reads 𝓤 try-write-data-all.ended (try-write-data-all.clauses 𝓛 m run)
      (λ κs a r e. try_write_data_all_promise κs.1 a.0.now a.1 e.0.now r e.1)
  try_write_data_all_reads κs a g r e = (id⊢ 𝓤 _, id⊢ 𝓤 _)

  pub reset_reads : Reads 𝓤 reset.ended (reset.clauses 𝓛 m run) (λ κs a r e. reset_promise κs.1 a.0.now a.1 e.0.now r e.1)
  reset_reads κs a g r e = (id⊢ 𝓤 _, id⊢ 𝓤 _)

  pub control_reads : Reads 𝓤 control.ended (control.clauses 𝓛 m run) (λ κs a r e. control_promise κs.1 a.0.now a.1 e.0.now r e.1)
  control_reads κs a g r e = (id⊢ 𝓤 _, id⊢ 𝓤 _)

-- ---- no second answer

-- Two outcomes of a promise, for the same record and the same arguments, are the same: the record, the answer, and what `look` sees at
-- exit.
abbrev Only : {B : Type 0} (D X : Data) (O : Pair D X) {n : ℕ} (ks : List (Kind n)) → Promise D X O ks
    → ((κs : Lfts n) → Outs κs (slots ks) (all yes (slots ks)) → B) → Type 0
Only D X O {n} ks P look =
    (κs : Lfts n) (d : D.row.Denot) (a : Denots (types_at (slots ks) κs)) (x y : D.row.Denot) (r s : X.row.Denot)
    (z w : Outs κs (slots ks) (all yes (slots ks))) → P κs d a x r z → P κs d a y s w → (x ≡ y) × (r ≡ s) × (look κs z ≡ look κs w)

-- If the core's answer, the record with what it reports, is the same, then so are both of its parts.
apart : {B : Type 0} (D X : Data) (O : Pair D X) (m m' : O.row.Denot) {u v : B} → (m ≡ m') × (u ≡ v) → (O.fst m ≡ O.fst m') × (O.snd m ≡ O.snd m') × (u ≡ v)
apart D X O m m' e = (ap O.fst e.0, ap O.snd e.0, e.1)

pub poll_only : Only {B = List ℕ × List ℕ} device report polled poll_others poll_promise (λ κs z. (z.0.now, z.1.0.now))
poll_only κs d a x y r s z w p q =
    apart device report polled _ _ (bbb.poll_only κs (d, a) (record { device = x; report = r }) (record { device = y; report = s }) (d, z) (d, w) p q)

pub set_status_only : Only device answer stated set_status_others set_status_promise (λ κs z. tt {0})
set_status_only κs d a x y r s z w p q =
    apart device answer stated _ _ (calls.set_status_only κs (d, a) (record { device = x; answer = r }) (record { device = y; answer = s }) (d, z) (d, w) p q)

pub read_data_only : Only device count moved read_data_others read_data_promise (λ κs z. z.0.now)
read_data_only κs d a x y r s z w p q =
    apart device count moved _ _ (calls.read_data_only κs (d, a) (record { device = x; report = r }) (record { device = y; report = s }) (d, z) (d, w) p q)

pub write_data_only : Only device count moved write_data_others write_data_promise (λ κs z. z.0.now)
write_data_only κs d a x y r s z w p q =
    apart device count moved _ _ (calls.write_data_only κs (d, a) (record { device = x; report = r }) (record { device = y; report = s }) (d, z) (d, w) p q)

pub try_write_data_all_only : Only device count moved try_write_data_all_others try_write_data_all_promise (λ κs z. z.0.now)
try_write_data_all_only κs d a x y r s z w p q =
    apart device count moved _ _ (calls.try_write_data_all_only κs (d, a) (record { device = x; report = r }) (record { device = y; report = s }) (d, z) (d, w) p q)

pub reset_only : Only device controlled handled reset_others reset_promise (λ κs z. tt {0})
reset_only κs d a x y r s z w p q =
    apart device controlled handled _ _ (calls.reset_only κs (d, a) (record { device = x; report = r }) (record { device = y; report = s }) (d, z) (d, w) p q)

pub control_only : Only device controlled handled control_others control_promise (λ κs z. tt {0})
control_only κs d a x y r s z w p q =
    apart device controlled handled _ _ (calls.control_only κs (d, a) (record { device = x; report = r }) (record { device = y; report = s }) (d, z) (d, w) p q)

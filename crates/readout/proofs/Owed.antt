-- What the host still has to get in a transfer: at least one byte where served polls are due, and nothing where none is due. Assumes
-- nothing.
use mathlib.Core.Path.{◌≡◌, sym, ap, ◌∙◌}
use mathlib.Core.List.{List, [], ◌++◌, append_assoc, append-nil}
use Prim.Native.Nat.{ℕ, ◌+◌, ◌<◌}
use native.Mathlib.Omega.{arith}
use lib.Dec.{eqb}
use borrow.Author.Tests.{eqb-true, eqb-false}
use borrow.Table.Steps.{cases}
use lib.ListN.{length, length-append}
use Rattle.std.specs.Prelude.{Option, None, Some}
use Rattle.fields.proofs.Seq.{none_of}
use Rattle.ring.specs.declared.State.{State}
use Rattle.ring.specs.declared.State.TheVariants.{StatusTransfer}
use Rattle.wrapper.specs.declared.DataDirection.TheVariants.{In}
use Rattle.wrapper.specs.declared.Wrapper.{Wrapper}
use Rattle.wrapper.specs.Status.{status_number, status_bytes}
use Rattle.wrapper.proofs.Csw.{length_status}
use Rattle.device.specs.declared.Told.{Told}
use Rattle.readout.specs.Demand.{ceiling, filled_to, data_of}
use Rattle.readout.proofs.Ceiling.{ceiling_none, ceiling_some}
use Rattle.readout.proofs.Filled.{filled_behind}
use Rattle.readout.proofs.Transfer.{Phase, to_host, waiting, to_host_ending, from_host, from_host_ending, sending, due_in}

-- The bytes of a status that is present.
abbrev pub bytes_for : ℕ → Option Told → List ℕ
bytes_for tag None = []
bytes_for tag (Some t) = status_bytes tag t.residue (status_number t.status)

-- The host got `got`, and `rest` is still to come.
pub record Owes (w : Wrapper) (got put : List ℕ) (st : Option Told) : Type 0 where
  pub rest : List ℕ
  pub some : 0 < length rest
  pub whole : got ++ rest ≡ data_of w.direction w.length put ++ bytes_for w.tag st

-- Everything is out: the device is in 3, and nothing is unread.
pub record Rests (w : Wrapper) (got put : List ℕ) (σ : State) (st : Option Told) (xs : List ℕ) : Type 0 where
  pub whole : got ≡ data_of w.direction w.length put ++ bytes_for w.tag st
  pub state : σ ≡ StatusTransfer
  pub none : xs ≡ []

module _ (w : Wrapper) (got put : List ℕ) (p : ℕ) (size : 0 < p) (σ : State) (st : Option Told) (left : ℕ) (xs : List ℕ) (t : Told) (here : st ≡ Some t) where
  thirteen : length (bytes_for w.tag st) ≡ 13
  thirteen = rw here (length_status w.tag t.residue (status_number t.status))

  -- The rest of the data is still to come, and then the status.
  data_owed : w.direction ≡ In → got ++ filled_to left xs ≡ filled_to w.length put → Owes w got put st
  data_owed dir all = record {
    rest = filled_to left xs ++ bytes_for w.tag st;
    some = omega (arith, thirteen, length-append (filled_to left xs) (bytes_for w.tag st));
    whole = sym (append_assoc got (filled_to left xs) (bytes_for w.tag st)) ∙ rw (all, dir);
  }

  -- Only the status is still to come.
  status_owed : got ≡ data_of w.direction w.length put → Owes w got put st
  status_owed all = record { rest = bytes_for w.tag st; some = omega (arith, thirteen); whole = rw all }

  pub owes : Phase w got put σ st left xs → 0 < due_in σ p left (length xs) → Owes w got put st
  owes (to_host e dir same sum) more = data_owed dir (filled_behind _ left w.length got xs sum ∙ ap (filled_to w.length) same)
  owes (waiting e none all) more = status_owed all
  owes (to_host_ending e dir all few) more = data_owed dir all
  owes (from_host e dir none) more = status_owed (rw dir none)
  owes (from_host_ending e dir none) more = status_owed (rw dir none)
  owes (sending u e there all) more =
      let some : 0 < ceiling (length xs) p = rw e at more in
      record {
        rest = xs;
        some = cases (eqb (length xs) 0)
            (λ h. absurd (omega (arith, ceiling_none p size, ap (λ (n : ℕ). ceiling n p) (eqb-true (length xs) 0 h))))
            (λ h. omega (arith, eqb-false (length xs) 0 h));
        whole = rw there all;
      }

  -- Outside 3 a whole status is due.
  not_done : ceiling left p + ceiling 13 p ≡ 0 → ⊥
  not_done e = omega (arith, ceiling_some p 13 size (omega arith))

  pub rests : Phase w got put σ st left xs → due_in σ p left (length xs) ≡ 0 → Rests w got put σ st xs
  rests (to_host e dir same sum) done = absurd (not_done (rw e at done))
  rests (waiting e none all) done = absurd (not_done (rw e at done))
  rests (to_host_ending e dir all few) done = absurd (not_done (rw e at done))
  rests (from_host e dir none) done = absurd (not_done (rw e at done))
  rests (from_host_ending e dir none) done = absurd (not_done (rw e at done))
  rests (sending u e there all) done =
      let out : ceiling (length xs) p ≡ 0 = rw e at done in
      let none : xs ≡ [] = none_of xs (cases (eqb (length xs) 0) (λ h. eqb-true (length xs) 0 h) (λ h. absurd (omega (arith, ceiling_some p (length xs) size (omega (arith, eqb-false (length xs) 0 h)))))) in
      record { whole = sym (append-nil got) ∙ ap (λ (l : List ℕ). got ++ l) (sym none) ∙ rw there all; state = e; none = none }

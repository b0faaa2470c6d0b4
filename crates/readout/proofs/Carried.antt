-- The invariant of a transfer, and the number that falls, are carried through a history: up to the last accepted status, and after it.
-- Assumes nothing.
use mathlib.Core.Path.{◌≡◌, refl, sym, ◌∙◌}
use mathlib.Core.Bool.{true}
use mathlib.Core.List.{List, [], ◌∷◌, ◌++◌, append_assoc, append-nil, flatten}
use Prim.Native.Nat.{ℕ, ◌+◌, ◌-◌, ◌≤◌, ◌<◌}
use native.Mathlib.Nat.{add-zero}
use native.Mathlib.Omega.{arith}
use lib.ListN.{length, length-append}
use Rattle.fields.proofs.Bools.{clash}
use Rattle.ring.specs.declared.State.{State}
use Rattle.ring.specs.declared.State.TheVariants.{CommandTransfer, CommandTransferInvalid, DataTransferNoData, StatusTransfer, DataTransferToHost, DataTransferToHostStatusAwait, DataTransferToHostEnding, DataTransferFromHost, DataTransferFromHostEnding}
use Rattle.ring.specs.States.{state_number}
use Rattle.wrapper.specs.declared.Wrapper.{Wrapper}
use Rattle.device.specs.Device.{numbers_of, is_present}
use Rattle.device.proofs.Wholly.{packet_known, packet_bounds}
use Rattle.calls.specs.Status.{takes_status}
use Rattle.readout.specs.History.{Socket, Event, shows, next, history_of, reached, all, sent_in, put_in, taken_in, served, served_in, Throughout}
use Rattle.readout.specs.Demand.{Earlier, Later, ceiling}
use Rattle.readout.proofs.Ceiling.{ceiling_some}
use Rattle.readout.proofs.Transfer.{Transfer, unread_in, due, due_in}
use Rattle.readout.proofs.Rules.{still}
use Rattle.readout.proofs.Steps.{StepsBy, event_steps}

-- In a state in which a status is taken, everything that is left and a whole status are due.
pub takes_due : (σ : State) (p left n : ℕ) → takes_status (state_number σ) ≡ true → due_in σ p left n ≡ ceiling left p + ceiling 13 p
unfolding takes_status
takes_due CommandTransfer p left n takes = refl
takes_due CommandTransferInvalid p left n takes = refl
takes_due DataTransferNoData p left n takes = refl
takes_due StatusTransfer p left n takes = absurd (clash (sym takes))
takes_due DataTransferToHost p left n takes = refl
takes_due DataTransferToHostStatusAwait p left n takes = refl
takes_due DataTransferToHostEnding p left n takes = refl
takes_due DataTransferFromHost p left n takes = refl
takes_due DataTransferFromHostEnding p left n takes = refl

module _ (w : Wrapper) (p : ℕ) where
  pub some_due : (s : Socket) (got put : List ℕ) → Transfer w p got put s → takes_status (state_number s.device.state) ≡ true → 0 < due s
  some_due s got put t takes =
      let size : 8 ≤ s.device.fixed.packetsize = (packet_bounds s.device.fixed.packetsize (packet_known (numbers_of s.device) (length s.io) t.whole)).0 in
      omega (arith, takes_due s.device.state s.device.fixed.packetsize s.device.left.0 (length (unread_in s)) takes, ceiling_some s.device.fixed.packetsize 13 (omega arith) (omega arith))

  -- ---- up to the last accepted status

  pub record Before (got put : List ℕ) (h : List Event) (s : Socket) : Type 0 where
    pub transfer : Transfer w p (got ++ sent_in (history_of h s)) (put ++ put_in (history_of h s)) (reached (history_of h s) s)
    pub takes : takes_status (state_number (reached (history_of h s) s).device.state) ≡ true
    pub wire : (reached (history_of h s) s).device.left.0 ≡ s.device.left.0 - (length (sent_in (history_of h s)) + length (taken_in (history_of h s)))

  pub before : (h : List Event) (s : Socket) (got put : List ℕ) → Transfer w p got put s → takes_status (state_number s.device.state) ≡ true → Throughout Earlier (history_of h s) s → length (put ++ put_in (history_of h s)) ≤ w.length → Before got put h s
  unfolding all
  before [] s got put t takes _ few = record { transfer = rw (append-nil, append-nil) t; takes = takes; wire = still s.device.left.0 refl }
  before (e ∷ h) s got put t takes (f, fs) few =
      let o = shows e s in
      let st : StepsBy w p got put e s = event_steps w p got put (omega (arith, length-append put (o.put ++ put_in (history_of h (next e s))))) s t (some_due s got put t takes) e f.no_reset in
      let b : Before (got ++ o.sent) (put ++ o.put) h (next e s) = before h (next e s) (got ++ o.sent) (put ++ o.put) st.transfer f.same_command fs (rw append_assoc few) in
      record {
        transfer = rw (← append_assoc got o.sent (sent_in (history_of h (next e s))), ← append_assoc put o.put (put_in (history_of h (next e s)))) b.transfer;
        takes = b.takes;
        wire = omega (arith, st.wire f.same_command, b.wire, length-append o.sent (sent_in (history_of h (next e s))), length-append (flatten o.taken) (taken_in (history_of h (next e s))));
      }

  -- ---- after it

  pub record After (got put : List ℕ) (h : List Event) (s : Socket) : Type 0 where
    pub transfer : Transfer w p (got ++ sent_in (history_of h s)) (put ++ put_in (history_of h s)) (reached (history_of h s) s)
    pub status : (reached (history_of h s) s).device.status ≡ s.device.status
    pub count : due (reached (history_of h s) s) + served_in (history_of h s) ≡ due s

  pub after : (h : List Event) (s : Socket) (got put : List ℕ) → Transfer w p got put s → is_present s.device.status ≡ true → Throughout Later (history_of h s) s → length (put ++ put_in (history_of h s)) ≤ w.length → served_in (history_of h s) < due s → After got put h s
  unfolding all served_in
  after [] s got put t present _ few less = record { transfer = rw (append-nil, append-nil) t; status = refl; count = add-zero _ }
  after (e ∷ h) s got put t present (f, fs) few less =
      let o = shows e s in
      let st : StepsBy w p got put e s = event_steps w p got put (omega (arith, length-append put (o.put ++ put_in (history_of h (next e s))))) s t (omega arith) e f.no_reset in
      let falls : due (next e s) + served e o ≡ due s = st.count present f.full in
      let same : (next e s).device.status ≡ s.device.status = st.status f.no_status in
      let a : After (got ++ o.sent) (put ++ o.put) h (next e s) = after h (next e s) (got ++ o.sent) (put ++ o.put) st.transfer (rw same present) fs (rw append_assoc few) (omega arith) in
      record {
        transfer = rw (← append_assoc got o.sent (sent_in (history_of h (next e s))), ← append_assoc put o.put (put_in (history_of h (next e s)))) a.transfer;
        status = a.status ∙ same;
        count = omega (arith, a.count);
      }

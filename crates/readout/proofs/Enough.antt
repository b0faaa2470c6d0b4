-- Of the twelve premises of demand 3 ten are enough: `whole`, and `no_reset` up to the status, follow from the others.
--     whole_follows       a broken record takes no packet, so that no wrapper comes
--     no_reset_follows    a reset of a whole record enters 0, where no status is taken, so that it leaves the command
--     supposed, enough    all that is supposed, and the demand, without these two
-- Assumes nothing.
use mathlib.Core.Path.{◌≡◌, refl, sym, ap, ◌∙◌}
use mathlib.Core.Bool.{true, false}
use mathlib.Core.List.{List, [], ◌∷◌, ◌++◌, append-nil}
use Prim.Native.Nat.{ℕ, ◌≤◌, ◌<◌}
use native.Mathlib.Omega.{arith}
use lib.Dec.{eqb}
use lib.ListN.{length}
use borrow.Table.Steps.{cases}
use Rattle.fields.proofs.Bools.{clash}
use Rattle.buffer.specs.Buffer.{unread}
use Rattle.ring.specs.States.{state_number}
use Rattle.wrapper.specs.Wrapper.{Valid}
use Rattle.device.specs.Device.{numbers_of}
use Rattle.device.specs.Broken.{is_whole, unless_broken}
use Rattle.device.proofs.Wholly.{is_whole_lem, whole_is}
use Rattle.calls.specs.Checks.{buffer_of}
use Rattle.calls.specs.Status.{takes_status}
use Rattle.calls.specs.Bus.{handling_of_reset, reset_call, control_call}
use Rattle.calls.specs.Bus as bus
use Rattle.readout.specs.History.{Socket, Event, poll, status, write, write_all, read, reset, control, command, command_step, mislent, Shows, shows, Happening, did, reached, all, first_packet_of, arrived_in, Throughout, ByValue, Faithful, is_reset, accepts}
use Rattle.readout.specs.Demand.{Story, to_status, history, Happened, after_wrapper, after_status, message, L, firmware, waits_in, Earlier, Later, Supposed, Demand}
use Rattle.readout.proofs.Histories.{reached_append, all_append, throughout_parts, throughout_joined, throughout_map}
use Rattle.readout.proofs.Demand.{demand}
use Rattle.readout.proofs.Keeping.{WholeIn, refused, stays_whole, run_whole}

-- ---- a broken record

none_arrives : (xs : List Happening) (s : Socket) → is_whole (numbers_of s.device) (length s.io) ≡ false → Throughout ByValue xs s → arrived_in xs ≡ []
unfolding all
none_arrives [] s broken _ = refl
none_arrives (x ∷ xs) s broken (does, rest) =
    let (same, none) = refused x.event s broken in
    rw (does, none) (none_arrives xs s broken (rw (does, same) at rest))

-- The happenings of a story up to the poll that completes its wrapper.
abbrev to_wrapper : Story → List Happening
to_wrapper t = t.arrival ++ (did (poll t.completing) t.completed ∷ [])

message_is : (t : Story) → arrived_in (to_wrapper t) ≡ message t
unfolding all
message_is t = all_append (λ (o : Shows). first_packet_of o.taken) t.arrival (did (poll t.completing) t.completed ∷ []) ∙ ap (λ (l : List ℕ). arrived_in t.arrival ++ l) (append-nil _)

module _ (t : Story) (happened : Happened ByValue t) where
  -- What happened up to the wrapper, and between it and the status.
  to_status_lem : Throughout ByValue (to_status t) t.start
  to_status_lem = (throughout_parts ByValue (to_status t) (did (status t.last_status) t.stated ∷ t.after) t.start happened).0

  around_wrapper : Throughout ByValue t.arrival t.start × Throughout ByValue (did (poll t.completing) t.completed ∷ t.before) (reached t.arrival t.start)
  around_wrapper = throughout_parts ByValue t.arrival (did (poll t.completing) t.completed ∷ t.before) t.start to_status_lem

  to_wrapper_lem : Throughout ByValue (to_wrapper t) t.start
  to_wrapper_lem = throughout_joined ByValue t.arrival (did (poll t.completing) t.completed ∷ []) t.start around_wrapper.0 (around_wrapper.1.0, tt)

  pub whole_follows : Valid (message t) → WholeIn t.start
  whole_follows valid =
      cases (is_whole (numbers_of t.start.device) (length t.start.io)) (is_whole_lem _ _)
      (λ broken. absurd (omega (arith, valid.whole, ap length (sym (message_is t) ∙ none_arrives (to_wrapper t) t.start broken to_wrapper_lem))))

-- ---- a whole record

-- "its status": the event leaves the device in a state in which a status is taken.
abbrev SameCommand : Event → Socket → Shows → Type 0
SameCommand e s o = takes_status (state_number o.socket.device.state) ≡ true

pub no_reset_follows : (e : Event) (s : Socket) → WholeIn s → SameCommand e s (shows e s) → is_reset e ≡ false
unfolding shows is_reset takes_status handling_of_reset reset_call control_call bus.handling_of_request unless_broken
no_reset_follows (poll g) s w same = refl
no_reset_follows (status f) s w same = refl
no_reset_follows (write src) s w same = refl
no_reset_follows (write_all src) s w same = refl
no_reset_follows (read dst) s w same = refl
no_reset_follows reset s w same = absurd (clash (sym (rw (whole_is _ _ w) at same)))
no_reset_follows (control q) s w same =
    cases (eqb q.requesttype 0xA1)
    (λ h. cases (eqb q.request 0xFF) (λ k. absurd (clash (sym (rw (whole_is _ _ w, h, k) at same)))) (λ k. rw (h, k)))
    (λ h. rw h)
no_reset_follows command s w same = refl
no_reset_follows (command_step extended) s w same = refl
no_reset_follows mislent s w same = refl

earlier : (xs : List Happening) (s : Socket) → WholeIn s → Throughout ByValue xs s → Throughout SameCommand xs s → Throughout Earlier xs s
earlier [] s w _ _ = tt
earlier (x ∷ xs) s w (does, goes) (same, rest) =
    (record { no_reset = no_reset_follows x.event s w (rw does at same); same_command = same }, earlier xs x.shown.socket (rw does (stays_whole x.event s w)) goes rest)

-- ---- the demand

-- Everything that is supposed, without the two.
pub record Enough (t : Story) : Type 0 where
  pub waits : waits_in t.start.device.state ≡ true
  pub nothing : unread (buffer_of t.start.device t.start.io) ≡ 0
  pub unfinished : length (arrived_in t.arrival) < 31
  pub valid : Valid (message t)
  pub same_command : Throughout SameCommand t.before (after_wrapper t)
  pub accepted : accepts (status t.last_status) t.stated ≡ true
  pub later : Throughout Later t.after (after_status t)
  pub few : length (firmware t) ≤ L t

pub supposed : (t : Story) → Happened ByValue t → Enough t → Supposed t
supposed t h n =
    let w : WholeIn t.start = whole_follows t h n.valid in
    let parsed : WholeIn (after_wrapper t) = rw reached_append at (run_whole (to_wrapper t) t.start w (to_wrapper_lem t h)) in
    record {
      between = record { whole = w; waits = n.waits; nothing = n.nothing };
      unfinished = n.unfinished;
      valid = n.valid;
      earlier = earlier t.before (after_wrapper t) parsed (around_wrapper t h).1.1 n.same_command;
      accepted = n.accepted;
      later = n.later;
      few = n.few;
    }

pub enough : (Does : Event → Socket → Shows → Type 0) → Faithful Does → (t : Story) → Happened Does t → Enough t → Demand Does t
enough Does faithful t h n = demand Does faithful t h (supposed t (throughout_map Does ByValue faithful (history t) t.start h) n)

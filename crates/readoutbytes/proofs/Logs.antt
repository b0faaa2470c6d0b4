-- A log of exported calls is a history, and a history by value: what is proved of those holds of the calls that firmware makes. Assumes
-- nothing.
--     seen_faithful    if what is said of calls is true, what the firmware reads of a call is what its event does: this is all that a theorem over histories asks for
--     log_happened     each happening of a log is what the firmware read of a call
--     log_reached      the socket that a log reaches is the one in its last memory
--     log_holds        bytes that hold a record hold one at the end of every log
use mathlib.Core.Path.{◌≡◌, refl, sym, ap, ◌∙◌, subst}
use mathlib.Core.List.{List}
use Rattle.readout.specs.History.{Socket, Event, Shows, shows, Happening, reached, Throughout, ByValue, Faithful}
use Rattle.readout.proofs.Histories.{throughout_map}
use Rattle.readout.proofs.Keeping.{WholeIn, run_whole}
use Rattle.readoutbytes.specs.Calls.{Memory, socket_in, HoldsRecord, Call, Outcome, seen}
use Rattle.readoutbytes.specs.Logs.{Truthful, read_beside, Log, none, then, beside, Seen, saw, saw_beside}
use Rattle.readoutbytes.proofs.Held.{held_whole, whole_held}
use Rattle.readoutbytes.proofs.Same.{same, seen_socket}
use Rattle.readoutbytes.proofs.Refused.{broken_refused}

module _ (Made : Call → Memory → Outcome → Type 0) where
  pub log_happened : {xs : List Happening} {m last : Memory} → Log Made xs m last → Throughout (Seen Made) xs (socket_in m)
  log_happened none = tt
  log_happened (then {c} {m} {last} {o} {xs} made rest) = (saw made, subst (Throughout (Seen Made) xs) (sym (seen_socket c o)) (log_happened rest))
  log_happened (beside made not rest) = (saw_beside made not, log_happened rest)

  pub log_reached : {xs : List Happening} {m last : Memory} → Log Made xs m last → reached xs (socket_in m) ≡ socket_in last
  log_reached none = refl
  log_reached (then {c} {m} {last} {o} {xs} made rest) = ap (reached xs) (seen_socket c o) ∙ log_reached rest
  log_reached (beside made not rest) = log_reached rest

  seen_does : Truthful Made → {e : Event} {s : Socket} {o : Shows} → Seen Made e s o → ByValue e s o
  unfolding shows
  seen_does true_of (saw {c} {m} {o} made) = ap (seen c) (true_of c m o made) ∙ same c m
  seen_does true_of (saw_beside {c} {other} {o} {s} made not) = ap (read_beside s) (true_of c other o made ∙ broken_refused c other not)

pub seen_faithful : (Made : Call → Memory → Outcome → Type 0) → Truthful Made → Faithful (Seen Made)
seen_faithful Made true_of e s o x = seen_does Made true_of x

pub log_holds : (Made : Call → Memory → Outcome → Type 0) → Truthful Made → (xs : List Happening) (m last : Memory) → Log Made xs m last → HoldsRecord m → HoldsRecord last
log_holds Made true_of xs m last l h =
    let happened : Throughout ByValue xs (socket_in m) = throughout_map (Seen Made) ByValue (seen_faithful Made true_of) xs (socket_in m) (log_happened Made l) in
    whole_held last (subst WholeIn (log_reached Made l) (run_whole xs (socket_in m) (held_whole m h) happened))

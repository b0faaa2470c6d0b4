-- Every story that can be told by its events can be called, from every memory that holds its start. So what firmware is promised is not
-- empty, and nothing that is supposed can be left out. Assumes nothing.
--     event_back             each event is some call's
--     realised               the calls of events, one after the other, are a log of their history
--     story_logged           the calls of a script are its story
--     reaches                the calls of events lead from a created record to a memory that holds what the events lead to
--     met-..                 01's three stories, from a record that was created
--     needed-..              each premise of demand 3 that is needed by value is needed here: its story, called
use mathlib.Core.Path.{◌≡◌, refl, sym, ap, ap₂, ◌∙◌, subst}
use mathlib.Core.Bool.{true, false}
use mathlib.Core.List.{List, [], ◌∷◌, ◌++◌}
use Prim.Native.Nat.{ℕ}
use lib.ListN.{take, replicate, length-replicate}
use Rattle.device.specs.Create.{fixed, is_packet_size, creation_checks}
use Rattle.bbb.specs.Poll.{Given}
use Rattle.recordbytes.specs.Layout.{record_size}
use Rattle.callbytes.specs.Calls.{create_on}
use Rattle.readout.specs.History.{Socket, Event, poll, status, write, write_all, read, reset, control, command, command_step, mislent, Shows, shows, next, Happening, did, history_of, reached, ByValue, is_served}
use Rattle.readout.specs.Demand.{Story, to_status, before_status, ended, polls_due, Later, Supposed, Ends, Willing, Demand, Script, played}
use Rattle.readout.proofs.Histories.{reached_append}
use Rattle.readout.specs.Cases.{taking, new_socket, cbw, read64, bare8, short8}
use Rattle.readout.proofs.Premises as premises
use Rattle.readout.proofs.Needed as needed
use Rattle.readoutbytes.specs.Calls.{Memory, socket_in, HoldsRecord, souk_poll, call_on, event_of, seen}
use Rattle.readoutbytes.specs.Created.{StartsNew}
use Rattle.readoutbytes.specs.Logs.{ByBytes, Log, none, then}
use Rattle.readoutbytes.specs.Demand.{Logged, polls_due_on, polled, DemandOn}
use Rattle.readoutbytes.specs.Cases.{call_of, ran_on, new_memory, events_before, events_since}
use Rattle.readoutbytes.proofs.Held.{whole_held}
use Rattle.readoutbytes.proofs.Same.{same, leaves}
use Rattle.readoutbytes.proofs.Logs.{log_reached, log_holds}
use Rattle.readoutbytes.proofs.Demand.{ended_is, left_is, due_is}
use Rattle.readoutbytes.proofs.Created.{created}

-- ---- calls for events

event_back : (e : Event) → event_of (call_of e) ≡ e
event_back (poll g) = refl
event_back (status f) = refl
event_back (write src) = refl
event_back (write_all src) = refl
event_back (read dst) = refl
event_back reset = refl
event_back (control q) = refl
event_back command = refl
event_back (command_step true) = refl
event_back (command_step false) = refl
event_back mislent = refl

-- What the call of the event `e` shows in the memory `m`.
module _ (e : Event) (m : Memory) where
  call_shows : seen (call_of e) (call_on (call_of e) m) ≡ shows e (socket_in m)
  call_shows = same (call_of e) m ∙ ap (λ (x : Event). shows x (socket_in m)) (event_back e)

  call_leaves : socket_in (call_on (call_of e) m).memory ≡ next e (socket_in m)
  call_leaves = leaves (call_of e) m ∙ ap (λ (x : Event). next x (socket_in m)) (event_back e)

  call_happens : did (event_of (call_of e)) (seen (call_of e) (call_on (call_of e) m)) ≡ did e (shows e (socket_in m))
  call_happens = ap₂ did (event_back e) call_shows

pub realised : (h : List Event) (m : Memory) → Log ByBytes (history_of h (socket_in m)) m (ran_on h m)
realised [] m = none
realised (e ∷ h) m =
    let after : Memory = (call_on (call_of e) m).memory in
    let rest : Log ByBytes (history_of h (next e (socket_in m))) after (ran_on h after) = subst (λ (s : Socket). Log ByBytes (history_of h s) after (ran_on h after)) (call_leaves e m) (realised h after) in
    subst (λ (x : Happening). Log ByBytes (x ∷ history_of h (next e (socket_in m))) m (ran_on h after)) (call_happens e m) (then {c = call_of e} {m = m} {o = call_on (call_of e) m} refl rest)

-- A log from a memory that holds the socket at which its events start.
pub realised_from : (h : List Event) (s : Socket) (m : Memory) → s ≡ socket_in m → Log ByBytes (history_of h s) m (ran_on h m)
realised_from h s m e = subst (λ (x : Socket). Log ByBytes (history_of h x) m (ran_on h m)) (sym e) (realised h m)

-- ---- stories

history_append : (h k : List Event) (s : Socket) → history_of (h ++ k) s ≡ history_of h s ++ history_of k (reached (history_of h s) s)
history_append [] k s = refl
history_append (e ∷ h) k s = ap (λ (xs : List Happening). did e (shows e s) ∷ xs) (history_append h k (next e s))

-- The memory right before the status of the script `p`, which is called from the memory `m` on; and at its end.
abbrev before_on : Script → Memory → Memory
before_on p m = ran_on (events_before p) m

abbrev last_on : Script → Memory → Memory
last_on p m = ran_on (events_since p) (before_on p m)

pub story_logged : (p : Script) (m : Memory) → p.start ≡ socket_in m → Logged ByBytes (played p) m (before_on p m) (last_on p m)
story_logged p m starts =
    let t : Story = played p in
    let parts : history_of (events_before p) p.start ≡ to_status t = history_append p.arrival (poll p.completing ∷ p.before) p.start in
    let first : Log ByBytes (to_status t) m (before_on p m) = subst (λ (xs : List Happening). Log ByBytes xs m (before_on p m)) parts (realised_from (events_before p) p.start m starts) in
    let there : before_status t ≡ socket_in (before_on p m) =
    sym (reached_append t.arrival (did (poll t.completing) t.completed ∷ t.before) t.start) ∙ ap (reached (to_status t)) starts ∙ log_reached ByBytes first in
    record { starts = starts; to_status_lem = first; since = realised_from (events_since p) (before_status t) (before_on p m) there }

-- ---- from a record that was created

module _ (q size : ℕ) (accepted : creation_checks (fixed q 0 size) ≡ 0) where
  new_starts : StartsNew (fixed q 0 size) (new_memory q size).bytes (new_memory q size).io
  unfolding create_on
  new_starts = created (replicate record_size 9) (fixed q 0 size) (replicate size 0) (length-replicate size 0) (rw accepted)

  new_held : new_socket q size ≡ socket_in (new_memory q size)
  new_held = sym new_starts.device

  new_holds : HoldsRecord (new_memory q size)
  new_holds = whole_held (new_memory q size) new_starts.between.whole

-- The memory `m` holds the socket `s`, and a record.
pub record Reaches (s : Socket) (m : Memory) : Type 0 where
  pub starts : s ≡ socket_in m
  pub holds : HoldsRecord m

-- So does the memory to which the calls of the events `h` lead from a new device.
pub reaches : (q size : ℕ) → creation_checks (fixed q 0 size) ≡ 0 → (h : List Event) → Reaches (reached (history_of h (new_socket q size)) (new_socket q size)) (ran_on h (new_memory q size))
reaches q size accepted h =
    let first : Memory = new_memory q size in
    let l : Log ByBytes (history_of h (new_socket q size)) first (ran_on h first) = realised_from h (new_socket q size) first (new_held q size accepted) in
    record {
      starts = ap (reached (history_of h (new_socket q size))) (new_held q size accepted) ∙ log_reached ByBytes l;
      holds = log_holds ByBytes (λ c m o is. is) (history_of h (new_socket q size)) first (ran_on h first) l (new_holds q size accepted);
    }

-- The story of the script `p`, called from the memory `m` on, is one of those that demand 3 speaks of.
pub record MeetsOn (p : Script) (m : Memory) : Type 0 where
  pub logged : Logged ByBytes (played p) m (before_on p m) (last_on p m)
  pub supposed : Supposed (played p)

meets_new : (q size : ℕ) → creation_checks (fixed q 0 size) ≡ 0 → (p : Script) → p.start ≡ new_socket q size → Supposed (played p) → MeetsOn p (new_memory q size)
meets_new q size accepted p starts u = record { logged = story_logged p (new_memory q size) (starts ∙ new_held q size accepted); supposed = u }

pub met_read64 : MeetsOn read64 (new_memory 64 64)
unfolding creation_checks is_packet_size read64
met_read64 = meets_new 64 64 refl read64 refl premises.met_read64

pub met_bare8 : MeetsOn bare8 (new_memory 8 40)
unfolding creation_checks is_packet_size bare8
met_bare8 = meets_new 8 40 refl bare8 refl premises.met_bare8

pub met_short8 : MeetsOn short8 (new_memory 8 40)
unfolding creation_checks is_packet_size short8
met_short8 = meets_new 8 40 refl short8 refl premises.met_short8

-- ---- every premise is needed

-- A story that breaks a premise, called from the memory `m` on, and of which the demand is not true.
pub record FailsOn (p : Script) (m : Memory) : Type 0 where
  pub logged : Logged ByBytes (played p) m (before_on p m) (last_on p m)
  pub fails : DemandOn ByBytes (played p) m (before_on p m) (last_on p m) → ⊥

-- What is promised of the calls is promised by value.
to_value : (t : Story) (first before last : Memory) → Logged ByBytes t first before last → HoldsRecord first → DemandOn ByBytes t first before last → Demand ByValue t
to_value t first before last l holds d =
    let due : polls_due t ≡ polls_due_on first before = due_is ByBytes (λ c m o is. is) t first before last l holds in
    let there : ended t ≡ socket_in last = ended_is ByBytes (λ c m o is. is) t first before last l holds in
    let is : (g : Given) → polled g (call_on (souk_poll g) last) ≡ shows (poll g) (ended t) = λ g. same (souk_poll g) last ∙ ap (shows (poll g)) (sym there) in
    record {
      left = left_is ByBytes (λ c m o is. is) t first before last l holds ∙ d.left;
      not_before = λ less. d.not_before (rw due at less);
      exactly = λ full g o does.
          subst (λ (x : Shows). Later (poll g) (ended t) x → is_served x.answer ≡ true → Ends t x) (is g ∙ sym does)
          (λ later served. (d.exactly (full ∙ due) g (call_on (souk_poll g) last) refl (subst (λ (s : Socket). Later (poll g) s (polled g (call_on (souk_poll g) last))) there later) served).0);
      reachable = λ less g o does.
          subst (λ (x : Shows). Willing g (ended t) → is_served x.answer ≡ true) (is g ∙ sym does)
          (λ w. d.reachable (rw due at less) g (call_on (souk_poll g) last) refl (subst (Willing g) there w));
    }

fails_on : (p : Script) (m : Memory) → p.start ≡ socket_in m → HoldsRecord m → (Demand ByValue (played p) → ⊥) → FailsOn p m
fails_on p m starts holds fails =
    let l : Logged ByBytes (played p) m (before_on p m) (last_on p m) = story_logged p m starts in
    record { logged = l; fails = λ d. fails (to_value (played p) m (before_on p m) (last_on p m) l holds d) }

-- The script starts where the events `h` lead from a new device.
fails_after : (q size : ℕ) → creation_checks (fixed q 0 size) ≡ 0 → (h : List Event) (p : Script) → p.start ≡ reached (history_of h (new_socket q size)) (new_socket q size) → (Demand ByValue (played p) → ⊥) → FailsOn p (ran_on h (new_memory q size))
fails_after q size accepted h p starts fails =
    let there : Reaches (reached (history_of h (new_socket q size)) (new_socket q size)) (ran_on h (new_memory q size)) = reaches q size accepted h in
    fails_on p (ran_on h (new_memory q size)) (starts ∙ there.starts) there.holds fails

accepts_32 : creation_checks (fixed 32 0 64) ≡ 0
unfolding creation_checks is_packet_size
accepts_32 = refl

accepts_8 : creation_checks (fixed 8 0 64) ≡ 0
unfolding creation_checks is_packet_size
accepts_8 = refl

-- The stories of `readout.proofs.Needed`, called. What each breaks stands there, in `needed_table`.
pub needed_waits : FailsOn needed.without_waits (ran_on (poll (taking 32 (cbw 9 0 31)) ∷ []) (new_memory 32 64))
unfolding needed.without_waits
needed_waits = fails_after 32 64 accepts_32 (poll (taking 32 (cbw 9 0 31)) ∷ []) needed.without_waits refl needed.needed_waits

pub needed_nothing : FailsOn needed.without_nothing (ran_on (poll (taking 32 (take 15 (cbw 7 0x80 1))) ∷ []) (new_memory 32 64))
unfolding needed.without_nothing
needed_nothing = fails_after 32 64 accepts_32 (poll (taking 32 (take 15 (cbw 7 0x80 1))) ∷ []) needed.without_nothing refl needed.needed_nothing

pub needed_unfinished : FailsOn needed.without_unfinished (new_memory 32 64)
unfolding needed.without_unfinished
needed_unfinished = fails_after 32 64 accepts_32 [] needed.without_unfinished refl needed.needed_unfinished

pub needed_valid : FailsOn needed.without_valid (new_memory 32 64)
unfolding needed.without_valid
needed_valid = fails_after 32 64 accepts_32 [] needed.without_valid refl needed.needed_valid

pub needed_valid_signature : FailsOn needed.without_valid_signature (new_memory 32 64)
unfolding needed.without_valid_signature
needed_valid_signature = fails_after 32 64 accepts_32 [] needed.without_valid_signature refl needed.needed_valid_signature

pub needed_no_reset_before : FailsOn needed.without_no_reset_before (new_memory 32 64)
unfolding needed.without_no_reset_before
needed_no_reset_before = fails_after 32 64 accepts_32 [] needed.without_no_reset_before refl needed.needed_no_reset_before

pub needed_same_command : FailsOn needed.without_same_command (new_memory 32 64)
unfolding needed.without_same_command
needed_same_command = fails_after 32 64 accepts_32 [] needed.without_same_command refl needed.needed_same_command

pub needed_accepted : FailsOn needed.without_accepted (new_memory 32 64)
unfolding needed.without_accepted
needed_accepted = fails_after 32 64 accepts_32 [] needed.without_accepted refl needed.needed_accepted

pub needed_no_reset : FailsOn needed.without_no_reset (new_memory 32 64)
unfolding needed.without_no_reset
needed_no_reset = fails_after 32 64 accepts_32 [] needed.without_no_reset refl needed.needed_no_reset

pub needed_no_status : FailsOn needed.without_no_status (new_memory 32 64)
unfolding needed.without_no_status
needed_no_status = fails_after 32 64 accepts_32 [] needed.without_no_status refl needed.needed_no_status

pub needed_full : FailsOn needed.without_full (new_memory 32 64)
unfolding needed.without_full
needed_full = fails_after 32 64 accepts_32 [] needed.without_full refl needed.needed_full

pub needed_no_reset_within : FailsOn needed.without_no_reset_within (new_memory 8 64)
unfolding needed.without_no_reset_within
needed_no_reset_within = fails_after 8 64 accepts_8 [] needed.without_no_reset_within refl needed.needed_no_reset_within

pub needed_few : FailsOn needed.without_few (new_memory 8 64)
unfolding needed.without_few
needed_few = fails_after 8 64 accepts_8 [] needed.without_few refl needed.needed_few

pub needed_few_twice : FailsOn needed.without_few_twice (new_memory 8 64)
unfolding needed.without_few_twice
needed_few_twice = fails_after 8 64 accepts_8 [] needed.without_few_twice refl needed.needed_few_twice

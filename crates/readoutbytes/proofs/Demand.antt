-- Demand 3 and request 7 for the calls that firmware makes. Both are the theorems over calls by value, of the history that the log is.
-- Assumes nothing.
--     demand     demand 3; enough: with ten of its twelve premises
--     account    request 7
use mathlib.Core.Path.{◌≡◌, sym, ap, ap₂, ◌∙◌, subst}
use mathlib.Core.List.{List, ◌∷◌, ◌++◌}
use Prim.Native.Nat.{ℕ, ◌+◌, ◌-◌}
use Rattle.device.specs.declared.Device.{Device}
use Rattle.bbb.specs.Poll.{Given}
use Rattle.recordbytes.specs.Record.{device_at, fixed_at, marks_at}
use Rattle.readout.specs.History.{Socket, poll, Happening, did, reached, Throughout, ByValue}
use Rattle.readout.specs.Demand.{Story, to_status, history, Happened, before_status, ended, R, polls_due, ceiling, Later, Supposed, Ends, Willing, Demand}
use Rattle.readout.specs.Account.{Readout, all_since, reached_by, count_since, unread_at, SupposedReadout, Account}
use Rattle.readout.proofs.Histories.{reached_append, throughout_map}
use Rattle.readout.proofs.Enough.{Enough, supposed}
use Rattle.readout.proofs.Keeping.{WholeIn}
use Rattle.readout.proofs.Demand as value
use Rattle.readout.proofs.Account as value-account
use Rattle.readoutbytes.specs.Calls.{Memory, socket_in, HoldsRecord, Call, souk_poll, Outcome}
use Rattle.readoutbytes.specs.Logs.{Truthful, Log, none, then, beside, Seen, saw}
use Rattle.readoutbytes.specs.Demand.{Logged, packet_size_in, left_in, polls_due_on, polled, DemandOn, LoggedReadout, count_in, unread_in, AccountOn}
use Rattle.readoutbytes.proofs.Held.{held_known, whole_held}
use Rattle.readoutbytes.proofs.Same.{seen_socket}
use Rattle.readoutbytes.proofs.Logs.{log_happened, log_reached, seen_faithful, log_holds}

-- A log that goes on.
log_joined : (Made : Call → Memory → Outcome → Type 0) {xs ys : List Happening} {a b c : Memory} → Log Made xs a b → Log Made ys b c → Log Made (xs ++ ys) a c
log_joined Made none l = l
log_joined Made (then made rest) l = then made (log_joined Made rest l)
log_joined Made (beside made not rest) l = beside made not (log_joined Made rest l)

-- What the record's bytes say of a socket.
record Reads (s : Socket) (m : Memory) : Type 0 where
  packetsize : s.device.fixed.packetsize ≡ packet_size_in m
  left : s.device.left.0 ≡ left_in m

reads : (s : Socket) (m : Memory) → s ≡ socket_in m → HoldsRecord m → Reads s m
unfolding device_at fixed_at
reads s m e h =
    let same : s.device ≡ device_at m.bytes = ap (λ (x : Socket). x.device) (e ∙ held_known m h.known) in
    record { packetsize = ap (λ (d : Device). d.fixed.packetsize) same; left = ap (λ (d : Device). d.left.0) same }

module _ (Made : Call → Memory → Outcome → Type 0) (true_of : Truthful Made) where
  -- ---- demand 3

  happened : (t : Story) (first before last : Memory) → Logged Made t first before last → Happened (Seen Made) t
  happened t first before last l = subst (Throughout (Seen Made) (history t)) (sym l.starts) (log_happened Made (log_joined Made l.to_status_lem l.since))

  -- What the record's bytes say of a story, where they hold a record at its start: then they hold one later.
  module _ (t : Story) (first before last : Memory) (l : Logged Made t first before last) (holds : HoldsRecord first) where
    -- The sockets right before the status and at the end.
    before_is : before_status t ≡ socket_in before
    before_is = sym (reached_append t.arrival (did (poll t.completing) t.completed ∷ t.before) t.start) ∙ ap (reached (to_status t)) l.starts ∙ log_reached Made l.to_status_lem

    pub ended_is : ended t ≡ socket_in last
    ended_is = log_reached Made l.since

    pub left_is : R t ≡ left_in before
    left_is = (reads (before_status t) before before_is (log_holds Made true_of (to_status t) first before l.to_status_lem holds)).left

    pub due_is : polls_due t ≡ polls_due_on first before
    due_is = ap₂ (λ (r p : ℕ). ceiling r p + ceiling 13 p) left_is (reads t.start first l.starts holds).packetsize

    -- What is promised by value is promised of the calls.
    from_value : Demand (Seen Made) t → DemandOn Made t first before last
    from_value d =
        let made_last : (g : Given) (o : Outcome) → Made (souk_poll g) last o → Seen Made (poll g) (ended t) (polled g o) = λ g o made. subst (λ (s : Socket). Seen Made (poll g) s (polled g o)) (sym ended_is) (saw made) in
        record {
          left = sym left_is ∙ d.left;
          not_before = λ less. d.not_before (rw due_is less);
          exactly = λ full g o made later does.
              let e : Ends t (polled g o) = d.exactly (full ∙ sym due_is) g (polled g o) (made_last g o made) (subst (λ (s : Socket). Later (poll g) s (polled g o)) (sym ended_is) later) does in
              (e, whole_held o.memory (subst WholeIn (seen_socket (souk_poll g) o) e.again.whole));
          reachable = λ less g o made w. d.reachable (rw due_is less) g (polled g o) (made_last g o made) (subst (Willing g) (sym ended_is) w);
        }

  -- ---- request 7

  -- What the record's bytes say of a read-out, where they hold a record at its start.
  module _ (r : Readout) (first last : Memory) (l : LoggedReadout Made r first last) (holds : HoldsRecord first) where
    device_is : (reached_by r).device ≡ device_at last.bytes
    device_is = ap (λ (x : Socket). x.device) (ap (reached (all_since r)) l.starts ∙ log_reached Made l.calls ∙ held_known last (log_holds Made true_of (all_since r) first last l.calls holds).known)

    pub count_is : count_since r ≡ count_in last
    unfolding device_at
    count_is = ap (λ (d : Device). d.putin.0) device_is

    pub unread_is : unread_at (reached_by r) ≡ unread_in last
    unfolding device_at marks_at
    unread_is = ap (λ (d : Device). d.marks.write - d.marks.read) device_is

    account_from_value : Account r → AccountOn r last
    account_from_value a = record {
      counted = sym count_is ∙ a.counted;
      flow = rw unread_is at a.flow;
      less = λ c. rw (count_is, unread_is) at (a.less (record { unfilled = c.unfilled; below = rw count_is c.below }));
      within = λ c. rw count_is at (a.within (record { unfilled = c.unfilled; below = rw count_is c.below }));
    }

-- ---- the theorems

pub demand : (Made : Call → Memory → Outcome → Type 0) → Truthful Made → (t : Story) (first before last : Memory) → Logged Made t first before last → Supposed t → DemandOn Made t first before last
demand Made true_of t first before last l u =
    let holds : HoldsRecord first = whole_held first (subst WholeIn l.starts u.between.whole) in
    from_value Made true_of t first before last l holds (value.demand (Seen Made) (seen_faithful Made true_of) t (happened Made true_of t first before last l) u)

-- It need not be supposed that the record is whole, nor that no reset comes before the status. Where bytes hold no record every call is
-- refused, so that no wrapper comes; and a reset leaves the command.
pub enough : (Made : Call → Memory → Outcome → Type 0) → Truthful Made → (t : Story) (first before last : Memory) → Logged Made t first before last → Enough t → DemandOn Made t first before last
enough Made true_of t first before last l n =
    let by_value : Happened ByValue t = throughout_map (Seen Made) ByValue (seen_faithful Made true_of) (history t) t.start (happened Made true_of t first before last l) in
    demand Made true_of t first before last l (supposed t by_value n)

pub account : (Made : Call → Memory → Outcome → Type 0) → Truthful Made → (r : Readout) (first last : Memory) → LoggedReadout Made r first last → SupposedReadout r → AccountOn r last
account Made true_of r first last l u =
    let happens : Throughout (Seen Made) (all_since r) r.start = subst (Throughout (Seen Made) (all_since r)) (sym l.starts) (log_happened Made l.calls) in
    let completes : ByValue (poll r.completing) r.start r.completed = seen_faithful Made true_of (poll r.completing) r.start r.completed happens.0 in
    let holds : HoldsRecord first = whole_held first (subst WholeIn l.starts (value-account.starts_whole r completes u)) in
    account_from_value Made true_of r first last l holds (value-account.account (Seen Made) (seen_faithful Made true_of) r happens u)

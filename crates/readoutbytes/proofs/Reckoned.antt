-- The account of a read-out can be met by calls, and nothing that it supposes can be left out: the read-outs of `readout.proofs.Reckoned`,
-- called. Assumes nothing.
--     met_too_long                      a read-out that meets what is supposed
--     needed-..                        each thing that is supposed: a read-out that breaks this one, and has no such account
--     unfilled_needed, below_needed    "before any filling" and "Unless the count has stopped there"
use mathlib.Core.Path.{◌≡◌, refl, ◌∙◌}
use mathlib.Core.List.{List, [], ◌∷◌, ◌++◌}
use Prim.Native.Nat.{◌-◌}
use lib.ListN.{replicate}
use Rattle.device.specs.Create.{fixed, is_packet_size, creation_checks}
use Rattle.bbb.specs.Poll.{Given}
use Rattle.readout.specs.History.{Socket, Event, poll, status, write, write_all}
use Rattle.readout.specs.Account.{Readout, readout_of, reached_by, count_since, sent_since, unread_at, SupposedReadout, Account}
use Rattle.readout.specs.Cases.{taking, sending, busy, new_socket, cbw_to_host, too_long, half_filled}
use Rattle.readout.proofs.Reckoned as reckoned
use Rattle.readoutbytes.specs.Calls.{Memory}
use Rattle.readoutbytes.specs.Logs.{ByBytes}
use Rattle.readoutbytes.specs.Demand.{LoggedReadout, count_in, unread_in, AccountOn}
use Rattle.readoutbytes.specs.Cases.{ran_on, new_memory}
use Rattle.readoutbytes.proofs.Demand.{count_is, unread_is}
use Rattle.readoutbytes.proofs.Realised.{realised_from, Reaches, reaches}

-- ---- read-outs that are called

-- The read-out of the events `since`, called from the memory `m` on, which holds its start.
module _ (start : Socket) (completing : Given) (since : List Event) (m : Memory) (r : Reaches start m) where
  abbrev whole : Readout
  whole = readout_of start completing since

  abbrev last : Memory
  last = ran_on (poll completing ∷ since) m

  logged : LoggedReadout ByBytes whole m last
  logged = record { starts = r.starts; calls = realised_from (poll completing ∷ since) start m r.starts }

  to_value : AccountOn whole last → Account whole
  to_value a =
      let count = count_is ByBytes (λ c m o is. is) whole m last logged r.holds in
      let unread = unread_is ByBytes (λ c m o is. is) whole m last logged r.holds in
      record {
        counted = count ∙ a.counted;
        flow = rw unread a.flow;
        less = λ c. rw (count, unread) (a.less (record { unfilled = c.unfilled; below = rw count at c.below }));
        within = λ c. rw count (a.within (record { unfilled = c.unfilled; below = rw count at c.below }));
      }

-- A read-out that has no such account by value has none here.
pub record FailsOn (r : Readout) (first last : Memory) : Type 0 where
  pub logged : LoggedReadout ByBytes r first last
  pub fails : AccountOn r last → ⊥

fails_on : (start : Socket) (completing : Given) (since : List Event) (m : Memory) → Reaches start m → (Account (readout_of start completing since) → ⊥) → FailsOn (readout_of start completing since) m (ran_on (poll completing ∷ since) m)
fails_on start completing since m r fails = record { logged = logged start completing since m r; fails = λ a. fails (to_value start completing since m r a) }

in_64 : creation_checks (fixed 64 0 64) ≡ 0
unfolding creation_checks is_packet_size
in_64 = refl

in_128 : creation_checks (fixed 64 0 128) ≡ 0
unfolding creation_checks is_packet_size
in_128 = refl

-- ---- it can be met

pub met_too_long : LoggedReadout ByBytes too_long (new_memory 64 128) (ran_on (poll (taking 64 (cbw_to_host 2)) ∷ write_all (replicate 70 1) ∷ poll (sending 64) ∷ []) (new_memory 64 128)) × SupposedReadout too_long
unfolding too_long
met_too_long = (logged (new_socket 64 128) (taking 64 (cbw_to_host 2)) (write_all (replicate 70 1) ∷ poll (sending 64) ∷ []) (new_memory 64 128) (reaches 64 128 in_128 []), reckoned.met_too_long)

-- ---- what is supposed

-- The calls that lead to the start of the read-out, in which the device does not wait.
abbrev not_waiting : List Event
not_waiting = poll (taking 64 (cbw_to_host 100)) ∷ write_all (replicate 31 1) ∷ []

pub needed_waits : FailsOn reckoned.without_waits (ran_on not_waiting (new_memory 64 64)) (ran_on (poll (sending 64) ∷ []) (ran_on not_waiting (new_memory 64 64)))
unfolding reckoned.without_waits
needed_waits = fails_on _ (sending 64) [] (ran_on not_waiting (new_memory 64 64)) (reaches 64 64 in_64 not_waiting) (reckoned.needed_waits).2

pub needed_nothing : FailsOn reckoned.without_nothing (new_memory 64 64) (ran_on (poll (reckoned.taking_busy 64 (cbw_to_host 2 ++ (0xAB ∷ []))) ∷ []) (new_memory 64 64))
unfolding reckoned.without_nothing
needed_nothing = fails_on _ (reckoned.taking_busy 64 (cbw_to_host 2 ++ (0xAB ∷ []))) [] (new_memory 64 64) (reaches 64 64 in_64 []) (reckoned.needed_nothing).2

-- The calls of the read-out that has left 6 for 3.
abbrev leaving_six : List Event
leaving_six = status (record { status = 0; figure = 0 }) ∷ poll (sending 64) ∷ poll (sending 64) ∷ []

pub needed_lasts : FailsOn reckoned.without_lasts (new_memory 64 128) (ran_on (poll (taking 64 (cbw_to_host 2)) ∷ leaving_six) (new_memory 64 128))
unfolding reckoned.without_lasts
needed_lasts = fails_on _ (taking 64 (cbw_to_host 2)) leaving_six (new_memory 64 128) (reaches 64 128 in_128 []) (reckoned.needed_lasts).2

-- ---- 02's sentence

-- "unread bytes .. equal this count less bytes sent", of a read-out whose calls left the memory `last`.
abbrev LessOn : Readout → Memory → Type 0
LessOn r last = unread_in last ≡ count_in last - sent_since r

less_to_value : (start : Socket) (completing : Given) (since : List Event) (m : Memory) → Reaches start m → LessOn (readout_of start completing since) (ran_on (poll completing ∷ since) m)
    → unread_at (reached_by (readout_of start completing since)) ≡ count_since (readout_of start completing since) - sent_since (readout_of start completing since)
less_to_value start completing since m r less =
    let l = logged start completing since m r in
    rw (count_is ByBytes (λ c m o is. is) (readout_of start completing since) m _ l r.holds, unread_is ByBytes (λ c m o is. is) (readout_of start completing since) m _ l r.holds) less

-- Half of the data was filled in.
abbrev half_way : List Event
half_way = write (1 ∷ []) ∷ status (record { status = 0; figure = 1 }) ∷ poll (busy 64) ∷ []

pub unfilled_needed : LessOn half_filled (ran_on (poll (taking 64 (cbw_to_host 2)) ∷ half_way) (new_memory 64 128)) → ⊥
unfolding half_filled
unfilled_needed less = (reckoned.unfilled_needed).2 (less_to_value (new_socket 64 128) (taking 64 (cbw_to_host 2)) half_way (new_memory 64 128) (reaches 64 128 in_128 []) less)

-- 2^32 bytes were put in, and the count has stopped.
abbrev until_stopped : List Event
until_stopped = write_all (replicate 64 0) ∷ poll (sending 64) ∷ reckoned.rounds 67108862

pub below_needed : LessOn reckoned.stopped (ran_on (poll (taking 64 reckoned.longest) ∷ until_stopped) (new_memory 64 64)) → ⊥
unfolding reckoned.stopped
below_needed less = (reckoned.below_needed).2 (less_to_value (new_socket 64 64) (taking 64 reckoned.longest) until_stopped (new_memory 64 64) (reaches 64 64 in_64 []) less)

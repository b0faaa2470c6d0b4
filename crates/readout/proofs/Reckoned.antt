-- The account of a read-out can be met, and nothing that it supposes can be left out.
--     met-..        a read-out that meets what is supposed
--     needed-..     each thing that is supposed: a read-out that breaks this one, and has no such account
--     unfilled_needed, below_needed    "before any filling" and "Unless the count has stopped there": without them 02's sentence is false
-- Assumes nothing.
use mathlib.Core.Path.{◌≡◌, refl, sym, ap, ◌∙◌, subst}
use mathlib.Core.Bool.{true}
use mathlib.Core.List.{List, [], ◌∷◌, ◌++◌}
use Prim.Native.Nat.{ℕ, zero, suc, ◌+◌, ◌-◌, ◌*◌, ◌≤◌, ◌<◌}
use native.Mathlib.Omega.{arith}
use lib.Dec.{lit<}
use lib.ListN.{length, replicate, length-append}
use borrow.Author.Tests.{eqb-false, ne_eqb, le-leb, leb-true}
use Rattle.std.specs.Prelude.{None}
use Rattle.buffer.specs.Buffer.{at}
use Rattle.ring.specs.declared.State.TheVariants.{DataTransferToHost}
use Rattle.wrapper.specs.declared.counters.PutIn.{PutIn}
use Rattle.wrapper.specs.Counters.{risen}
use Rattle.wrapper.specs.Wrapper.{wrapper_of}
use Rattle.bbb.specs.Poll.{Given, given}
use Rattle.device.specs.Create.{fixed}
use Rattle.calls.specs.Data.{write_all_in}
use Rattle.readout.specs.History.{Socket, socket, Event, poll, status, write_all, shows, next, history_of, all, sent_in, put_in, Throughout, ByValue, is_poll}
use Rattle.readout.specs.Account.{Readout, all_since, readout_of, reached_by, count_since, put_in_since, sent_since, unread_at, filled_by, filled_in, filled_since, arrived_for, is_to_host, Lasts, SupposedReadout, Account}
use Rattle.readout.specs.Demand.{waits_in}
use Rattle.readout.specs.Cases.{taking, sending, new_socket, cbw_to_host, read2, too_long, half_filled}
use Rattle.readout.proofs.Computing.{computing}
use Rattle.readout.proofs.Histories.{computed_happened}
use Rattle.readout.proofs.Flow.{LastsBy}
use Rattle.readout.proofs.Account.{account}

-- To unfold this is to unfold everything that the read-outs compute with.
unfoldable reckoning : Unit {0}
unfolding computing write_all_in
reckoning = tt

-- ---- it can be met

pub met_too_long : SupposedReadout too_long
unfolding reckoning too_long
met_too_long = record { waits = refl; nothing = refl; lasts = (refl, (refl, (refl, tt))) }

pub met_half_filled : SupposedReadout half_filled
unfolding reckoning half_filled
met_half_filled = record { waits = refl; nothing = refl; lasts = (refl, (refl, (refl, (refl, tt)))) }

-- ---- what is supposed

-- The device does not wait: it is in 4, where 31 bytes are unread that were put in before.
unfoldable pub without_waits : Readout
without_waits = readout_of (next (write_all (replicate 31 1)) (next (poll (taking 64 (cbw_to_host 100))) (new_socket 64 64))) (sending 64) []

pub needed_waits : (length (arrived_for without_waits) ≡ 31) × Throughout Lasts (all_since without_waits) without_waits.start × (Account without_waits → ⊥)
unfolding reckoning without_waits
needed_waits = (refl, (refl, tt), λ a. eqb-false 31 0 refl a.counted)

-- A poll with a packet buffer of `n` bytes of 7, in which OUT offers one packet, `packet`, and IN is busy.
abbrev pub taking_busy : ℕ → List ℕ → Given
taking_busy n packet = given (replicate n 7) packet [] (record { first = 0; second = 1; write = 1 })

-- A byte came behind the wrapper, in the same packet, and it is unread: nobody put it in.
unfoldable pub without_nothing : Readout
without_nothing = readout_of (new_socket 64 64) (taking_busy 64 (cbw_to_host 2 ++ (0xAB ∷ []))) []

pub needed_nothing : (waits_in without_nothing.start.device.state ≡ true) × Throughout Lasts (all_since without_nothing) without_nothing.start × (Account without_nothing → ⊥)
unfolding reckoning without_nothing
needed_nothing = (refl, (refl, tt), λ a. eqb-false 1 0 refl a.flow)

-- The device has left 6 for 3: two bytes of 0xFF and the 13 bytes of the status went out.
unfoldable pub without_lasts : Readout
without_lasts = read2 (status (record { status = 0; figure = 0 }) ∷ poll (sending 64) ∷ poll (sending 64) ∷ [])

pub needed_lasts : (waits_in without_lasts.start.device.state ≡ true) × (length (arrived_for without_lasts) ≡ 31) × (Account without_lasts → ⊥)
unfolding reckoning without_lasts
needed_lasts = (refl, refl, λ a. eqb-false 15 2 refl a.flow)

-- ---- 02's sentence

-- "unread bytes .. equal this count less bytes sent"
abbrev Less : Readout → Type 0
Less r = unread_at (reached_by r) ≡ count_since r - sent_since r

-- Half of the data was filled in: two bytes are unread, and one was put in.
pub unfilled_needed : SupposedReadout half_filled × (count_since half_filled < 4294967295) × (Less half_filled → ⊥)
unfolding reckoning half_filled
unfilled_needed = (met_half_filled, lit< tt, eqb-false 2 1 refl)

-- ---- the stopped count

-- L is the largest number, P is 64, and the IO buffer has room for one packet. The firmware puts in a packet, a poll sends it, and so on.
abbrev zeros : List ℕ
zeros = replicate 64 0

abbrev pub longest : List ℕ
longest = 0x55 ∷ 0x53 ∷ 0x42 ∷ 0x43 ∷ 1 ∷ 0 ∷ 0 ∷ 0 ∷ 0xFF ∷ 0xFF ∷ 0xFF ∷ 0xFF ∷ 0x80 ∷ 0 ∷ 6 ∷ replicate 16 0

-- This many more packets are sent, and after them one is put in that is not.
pub rounds : ℕ → List Event
rounds zero = write_all zeros ∷ []
rounds (suc k) = write_all zeros ∷ poll (sending 64) ∷ rounds k

-- The socket between two packets, with `left` bytes left and the count `c`.
abbrev between : ℕ → PutIn → Socket
between left c = socket (record { fixed = fixed 64 0 64; state = DataTransferToHost; marks = at 64 64; wrapper = wrapper_of longest; status = None; left = record { 0 = left }; putin = c }) zeros

-- A packet is put in and sent.
round : (left : ℕ) (c : PutIn) → 64 ≤ left → next (poll (sending 64)) (next (write_all zeros) (between left c)) ≡ between (left - 64) (risen c 64)
unfolding reckoning
round left c h = rw (ne_eqb left 0 (λ e. omega arith), le-leb 64 left h)

-- What these two events show.
module _ (left : ℕ) (c : PutIn) where
  abbrev filled_up : Socket
  filled_up = next (write_all zeros) (between left c)

  write_lasts : LastsBy (write_all zeros) (between left c)
  unfolding reckoning
  write_lasts = refl

  write_shows : ((shows (write_all zeros) (between left c)).put ≡ zeros) × ((shows (write_all zeros) (between left c)).sent ≡ [])
  unfolding reckoning
  write_shows = (refl, refl)

  module _ (h : 64 ≤ left) where
    poll_lasts : LastsBy (poll (sending 64)) filled_up
    poll_lasts = ap (λ (s : Socket). is_to_host s.device.state) (round left c h)

    poll_shows : ((shows (poll (sending 64)) filled_up).put ≡ []) × (length (shows (poll (sending 64)) filled_up).sent ≡ 64)
    unfolding reckoning
    poll_shows = (refl, rw (ne_eqb left 0 (λ e. omega arith), le-leb 64 left h))

    none_filled : filled_by (poll (sending 64)) filled_up (shows (poll (sending 64)) filled_up) ≡ 0
    unfolding reckoning
    none_filled = rw (ne_eqb left 0 (λ e. omega arith), le-leb 64 left h)

-- What all of them show.
record Runs (k left : ℕ) (c : PutIn) : Type 0 where
  lasts : Throughout Lasts (history_of (rounds k) (between left c)) (between left c)
  put : length (put_in (history_of (rounds k) (between left c))) ≡ 64 * k + 64
  out : length (sent_in (history_of (rounds k) (between left c))) ≡ 64 * k
  none : filled_in (history_of (rounds k) (between left c)) (between left c) ≡ 0

runs : (k left : ℕ) (c : PutIn) → 64 * k ≤ left → Runs k left c
unfolding rounds all filled_in filled_by is_poll
runs zero left c h = record { lasts = (write_lasts left c, tt); put = rw (write_shows left c).0; out = rw (write_shows left c).1; none = refl }
runs (suc k) left c h =
    let room : 64 ≤ left = omega arith in
    let more : Runs k (left - 64) (risen c 64) = runs k (left - 64) (risen c 64) (omega arith) in
    let there = round left c room in
    let wrote = write_shows left c in
    let polled = poll_shows left c room in
    record {
      lasts = (write_lasts left c, (poll_lasts left c room, subst (λ (s : Socket). Throughout Lasts (history_of (rounds k) s) s) (sym there) more.lasts));
      put = rw (wrote.0, polled.0, there) (omega (arith, more.put, length-append zeros (put_in (history_of (rounds k) (between (left - 64) (risen c 64))))));
      out = rw (wrote.1, there) (omega (arith, more.out, polled.1, length-append (shows (poll (sending 64)) (filled_up left c)).sent (sent_in (history_of (rounds k) (between (left - 64) (risen c 64))))));
      none = rw (none_filled left c room, there, more.none);
    }

-- 2^26 packets are put in, and all but the last are sent: the bytes are 2^32, one more than the count can hold.
unfoldable pub stopped : Readout
stopped = readout_of (new_socket 64 64) (taking 64 longest) (write_all zeros ∷ poll (sending 64) ∷ rounds 67108862)

-- The socket after the wrapper, and after the first packet.
abbrev opened : Socket
opened = next (poll (taking 64 longest)) (new_socket 64 64)

abbrev once : Socket
once = next (poll (sending 64)) (next (write_all zeros) opened)

once_is : once ≡ between 4294967231 (record { 0 = 64 })
unfolding reckoning
once_is = refl

rest : Runs 67108862 4294967231 (record { 0 = 64 })
rest = runs 67108862 4294967231 (record { 0 = 64 }) (leb-true _ _ refl)

first_lasts : LastsBy (poll (taking 64 longest)) (new_socket 64 64) × LastsBy (write_all zeros) opened × LastsBy (poll (sending 64)) (next (write_all zeros) opened)
unfolding reckoning
first_lasts = (refl, refl, refl)

first_arrived : length (arrived_for stopped) ≡ 31
unfolding reckoning stopped
first_arrived = refl

met_stopped : SupposedReadout stopped
unfolding stopped
met_stopped = record {
  waits = refl;
  nothing = first_arrived;
  lasts = (first_lasts.0, (first_lasts.1, (first_lasts.2, subst (λ (s : Socket). Throughout Lasts (history_of (rounds 67108862) s) s) (sym once_is) rest.lasts)));
}

happened_stopped : Throughout ByValue (all_since stopped) stopped.start
unfolding stopped
happened_stopped = computed_happened (poll (taking 64 longest) ∷ write_all zeros ∷ poll (sending 64) ∷ rounds 67108862) (new_socket 64 64)

-- The bytes of the read-out: those of the first packet, and those of the rest.
first_shows : ((shows (poll (taking 64 longest)) (new_socket 64 64)).put ≡ []) × ((shows (poll (taking 64 longest)) (new_socket 64 64)).sent ≡ [])
    × ((shows (write_all zeros) opened).put ≡ zeros) × ((shows (write_all zeros) opened).sent ≡ []) × ((shows (poll (sending 64)) (next (write_all zeros) opened)).put ≡ []) × ((shows (poll (sending 64)) (next (write_all zeros) opened)).sent ≡ zeros)
unfolding reckoning
first_shows = (refl, refl, refl, refl, refl, refl)

-- How much the event `e` fills in at the socket `s`.
abbrev fills_in : Event → Socket → ℕ
fills_in e s = filled_by e s (shows e s)

first_filled : (fills_in (poll (taking 64 longest)) (new_socket 64 64) ≡ 0) × (fills_in (write_all zeros) opened ≡ 0) × (fills_in (poll (sending 64)) (next (write_all zeros) opened) ≡ 0)
unfolding reckoning
first_filled = (refl, refl, refl)

accepted_stopped : put_in_since stopped ≡ 4294967296
unfolding stopped all
accepted_stopped =
    rw (first_shows.0, first_shows.2, first_shows.4, once_is)
    (length-append zeros (put_in (history_of (rounds 67108862) (between 4294967231 (record { 0 = 64 })))) ∙ ap (λ (n : ℕ). 64 + n) rest.put)

sent_stopped : sent_since stopped ≡ 4294967232
unfolding stopped all
sent_stopped =
    rw (first_shows.1, first_shows.3, first_shows.5, once_is)
    (length-append zeros (sent_in (history_of (rounds 67108862) (between 4294967231 (record { 0 = 64 })))) ∙ ap (λ (n : ℕ). 64 + n) rest.out)

filled_stopped : filled_since stopped ≡ 0
unfolding stopped filled_in
filled_stopped = rw (first_filled.0, first_filled.1, first_filled.2, once_is, rest.none)

-- 64 bytes are unread, and the count is 63 above what was sent.
pub below_needed : SupposedReadout stopped × (filled_since stopped ≡ 0) × (Less stopped → ⊥)
below_needed =
    let a : Account stopped = account ByValue (λ e s o same. same) stopped happened_stopped met_stopped in
    (met_stopped, filled_stopped, λ less. omega (arith, a.counted, a.flow, less, accepted_stopped, sent_stopped, filled_stopped))

-- Each of ten premises of demand 3 is needed: there is a story that breaks it, and in which the demand fails. The other two premises,
-- `whole` and `no_reset` up to the status, follow from the ten (Enough), so that no story breaks one of them alone.
--     without-..      a story that breaks the premise; it is that of the vector named with it, in some cases with P 32 for P 8
--     needed-..       the demand fails in this story
--     needed_table    what each story breaks: the one premise, and in two stories a second one with it
-- Assumes nothing.
use mathlib.Core.Path.{◌≡◌, refl, sym, ap, ◌∙◌}
use mathlib.Core.Bool.{true, false}
use mathlib.Core.List.{List, [], ◌∷◌, ◌++◌}
use Prim.Native.Nat.{ℕ, ◌+◌}
use lib.Dec.{eqb}
use lib.ListN.{get_or, take, drop}
use borrow.Author.Tests.{eqb-false}
use Rattle.fields.specs.Case.{Case, case, AllHold}
use Rattle.fields.proofs.Case.{by_computing}
use Rattle.bbb.specs.Poll.{Given, invalid_rule}
use Rattle.calls.specs.declared.FirmwareStatus.{FirmwareStatus}
use Rattle.calls.specs.Data.{write_all_in}
use Rattle.calls.specs.Bus.{handling_of_reset, reset_call, control_call}
use Rattle.calls.specs.Bus as bus
use Rattle.readout.specs.History.{Socket, Event, poll, status, write, write_all, reset, control, next, ByValue, is_served}
use Rattle.readout.specs.Demand.{ended, host, served_since, polls_due, the_data, the_status, Demand, Script, played}
use Rattle.readout.specs.Cases.{taking, taking_two, sending, new_socket, cbw, three, fourth}
use Rattle.readout.proofs.Premises.{waits, nothing, unfinished, valid, no_reset_before, same_command, accepted, no_reset, no_status, full, few, broken, fills, last_poll, poll_later, testing}

-- The byte of `bytes` at the index `i`, or 256 where there is none.
abbrev byte_at : ℕ → List ℕ → ℕ
byte_at i bytes = get_or bytes i 256

-- The poll that is given `g` should end the story of the script `p`; but of all that the host got with it, the byte at the index `i` is not
-- the one that is promised.
fails : (p : Script) (g : Given) (i got due : ℕ) → served_since (played p) + 1 ≡ polls_due (played p) → fills (poll g) (ended (played p)) (last_poll p g) ≡ true → is_served (last_poll p g).answer ≡ true
    → byte_at i (host (played p) ++ (last_poll p g).sent) ≡ got → byte_at i (the_data (played p) ++ the_status (played p)) ≡ due → eqb got due ≡ false → Demand ByValue (played p) → ⊥
fails p g i got due last filled does is promised differ d =
    eqb-false got due differ (sym is ∙ ap (byte_at i) (d.exactly last g (last_poll p g) refl (poll_later g (ended (played p)) (last_poll p g) filled) does).bytes ∙ promised)

-- To unfold this is to unfold everything that the stories compute with.
unfoldable calling : Unit {0}
unfolding testing invalid_rule write_all_in handling_of_reset reset_call bus.handling_of_request control_call
calling = tt

-- ---- wrappers, statuses and stories

-- A wrapper without data; one to the host, with tag 7; and one from the host, with tag 9.
abbrev ready : ℕ → List ℕ
ready tag = cbw tag 0 0

abbrev reading : ℕ → List ℕ
reading l = cbw 7 0x80 l

abbrev writing : ℕ → List ℕ
writing l = cbw 9 0 l

-- What the firmware says with a status: the status byte, and how many bytes it processed.
abbrev figure : ℕ → ℕ → FirmwareStatus
figure byte bytes = record { status = byte; figure = bytes }

-- Stories with P 32, where a wrapper is one packet: from a given socket, and from a new device.
abbrev from : Socket → List ℕ → List Event → FirmwareStatus → List Event → Script
from s bytes before f after = record { start = s; arrival = []; completing = taking 32 bytes; before = before; last_status = f; after = after }

abbrev in32 : List ℕ → List Event → FirmwareStatus → List Event → Script
in32 = from (new_socket 32 64)

-- Stories with P 8, where a wrapper is four packets.
abbrev in8 : List ℕ → List Event → FirmwareStatus → List Event → Script
in8 bytes before f after = record { start = new_socket 8 64; arrival = three bytes; completing = fourth bytes; before = before; last_status = f; after = after }

-- ---- the socket at the start

-- The device takes 31 bytes of data, and they look like a wrapper with tag 1. The status has tag 9.
-- premise-wrapper-sent-as-data-is-no-command
unfoldable pub without_waits : Script
without_waits = from (next (poll (taking 32 (writing 31))) (new_socket 32 64)) (ready 1) [] (figure 0 31) []

pub needed_waits : Demand ByValue (played without_waits) → ⊥
unfolding calling without_waits
needed_waits = fails without_waits (sending 32) 4 9 1 refl refl refl refl refl refl

-- 15 bytes of a wrapper with L = 1 are unread. The next wrapper's first 16 make it whole, and its last 15, zeros, go out as data.
-- premise-broken-off-wrapper-takes-16-bytes-of-the-next
unfoldable pub without_nothing : Script
without_nothing = from (next (poll (taking 32 (take 15 (reading 1)))) (new_socket 32 64)) (ready 2) [] (figure 0 0) []

pub needed_nothing : Demand ByValue (played without_nothing) → ⊥
unfolding calling without_nothing
needed_nothing = fails without_nothing (sending 32) 0 0 0x55 refl refl refl refl refl refl

-- ---- the wrapper

-- The wrapper's 32 bytes of data, which came with it, look like a wrapper with L = 1 and byte AB. A reset leaves them unread, an empty
-- packet has them parsed, and AB goes out.
-- premise-data-kept-by-a-reset-is-parsed-as-a-wrapper
unfoldable pub without_unfinished : Script
without_unfinished = record {
  start = new_socket 32 64;
  arrival = poll (taking_two 32 (writing 32) (reading 1 ++ (0xAB ∷ []))) ∷ reset ∷ [];
  completing = taking 32 [];
  before = [];
  last_status = figure 0 0;
  after = [];
}

pub needed_unfinished : Demand ByValue (played without_unfinished) → ⊥
unfolding calling without_unfinished
needed_unfinished = fails without_unfinished (sending 32) 0 0xAB 0x55 refl refl refl refl refl refl

-- A 32nd byte, AB, goes out as data, where the firmware put in none and 0xFF is due.
-- premise-byte-behind-the-wrapper-goes-out-as-data
unfoldable pub without_valid : Script
without_valid = in32 (reading 1 ++ (0xAB ∷ [])) [] (figure 0 0) []

pub needed_valid : Demand ByValue (played without_valid) → ⊥
unfolding calling without_valid
needed_valid = fails without_valid (sending 32) 0 0xAB 0xFF refl refl refl refl refl refl

-- 31 bytes with the signature of a status. The device stalls, refuses the status with 12 and sends nothing.
-- premise-wrong-signature-takes-no-status
unfoldable pub without_valid_signature : Script
without_valid_signature = in32 (0x55 ∷ 0x53 ∷ 0x42 ∷ 0x53 ∷ drop 4 (ready 2)) [] (figure 0 0) []

pub needed_valid_signature : Demand ByValue (played without_valid_signature) → ⊥
unfolding calling without_valid_signature
needed_valid_signature = fails without_valid_signature (sending 32) 0 256 0x55 refl refl refl refl refl refl

-- ---- up to the status

-- A reset, and then a wrapper with tag 2, which the status has.
-- premise-reset-before-the-status-gives-it-the-next-tag
unfoldable pub without_no_reset_before : Script
without_no_reset_before = in32 (ready 1) (reset ∷ poll (taking 32 (ready 2)) ∷ []) (figure 0 0) []

pub needed_no_reset_before : Demand ByValue (played without_no_reset_before) → ⊥
unfolding calling without_no_reset_before
needed_no_reset_before = fails without_no_reset_before (sending 32) 4 2 1 refl refl refl refl refl refl

-- A status with byte 0 goes out, and then a wrapper with tag 2 comes. The last accepted status, with byte 1, belongs to that wrapper.
-- premise-status-of-the-next-command-is-another
unfoldable pub without_same_command : Script
without_same_command = in32 (ready 1) (status (figure 0 0) ∷ poll (sending 32) ∷ poll (taking 32 (ready 2)) ∷ []) (figure 1 0) []

pub needed_same_command : Demand ByValue (played without_same_command) → ⊥
unfolding calling without_same_command
needed_same_command = fails without_same_command (sending 32) 12 0 1 refl refl refl refl refl refl

-- A status byte above 2 is refused with 12, and no status goes out. There is no vector: a bench file cannot hold such a byte.
unfoldable pub without_accepted : Script
without_accepted = in32 (ready 1) [] (figure 3 0) []

pub needed_accepted : Demand ByValue (played without_accepted) → ⊥
unfolding calling without_accepted
needed_accepted = fails without_accepted (sending 32) 0 256 0x55 refl refl refl refl refl refl

-- ---- after the status

-- A reset drops the status, and nothing goes out. With an empty packet on OUT the poll is a served one.
-- premise-reset-behind-the-status-drops-it
unfoldable pub without_no_reset : Script
without_no_reset = in32 (ready 1) [] (figure 0 0) (reset ∷ [])

pub needed_no_reset : Demand ByValue (played without_no_reset) → ⊥
unfolding calling without_no_reset
needed_no_reset = fails without_no_reset (taking 32 []) 0 256 0x55 refl refl refl refl refl refl

-- The reset is control request A1 FF, and 8 of the 13 status bytes are out: the other 5 stay unread.
-- premise-a1-ff-within-the-status-leaves-5-bytes-unread
unfoldable pub without_no_reset_within : Script
without_no_reset_within = in8 (ready 1) [] (figure 0 0) (poll (sending 8) ∷ control (record { requesttype = 0xA1; request = 0xFF }) ∷ [])

pub needed_no_reset_within : Demand ByValue (played without_no_reset_within) → ⊥
unfolding calling without_no_reset_within
needed_no_reset_within = fails without_no_reset_within (taking 8 []) 8 256 0 refl refl refl refl refl refl

-- A status with byte 1 replaces the one with byte 0.
-- status-set-again-replaces-the-first
unfoldable pub without_no_status : Script
without_no_status = in32 (ready 1) [] (figure 0 0) (status (figure 1 0) ∷ [])

pub needed_no_status : Demand ByValue (played without_no_status) → ⊥
unfolding calling without_no_status
needed_no_status = fails without_no_status (sending 32) 12 1 0 refl refl refl refl refl refl

-- Two bytes are left, and the host sends them in two packets. The second poll, which should send the status, takes a packet.
-- premise-short-host-packet-takes-one-poll-more
unfoldable pub without_full : Script
without_full = in32 (writing 2) [] (figure 0 0) (poll (taking 32 (1 ∷ [])) ∷ [])

pub needed_full : Demand ByValue (played without_full) → ⊥
unfolding calling without_full
needed_full = fails without_full (taking 32 (2 ∷ [])) 0 256 0x55 refl refl refl refl refl refl

-- ---- the firmware's bytes

-- L = 1, and `try_write_data_all` puts in 9 bytes: 8 go out, and the status comes where the ninth is due.
-- premise-write-all-above-l-loses-a-byte
unfoldable pub without_few : Script
without_few = in8 (reading 1) (write_all (1 ∷ 2 ∷ 3 ∷ 4 ∷ 5 ∷ 6 ∷ 7 ∷ 8 ∷ 9 ∷ []) ∷ []) (figure 0 1) (poll (sending 8) ∷ poll (sending 8) ∷ [])

pub needed_few : Demand ByValue (played without_few) → ⊥
unfolding calling without_few
needed_few = fails without_few (sending 8) 8 0x55 9 refl refl refl refl refl refl

-- L = 5, and `write_data` puts in 5 bytes and then 4: the same happens.
-- premise-two-writes-above-l-lose-a-byte
unfoldable pub without_few_twice : Script
without_few_twice = in8 (reading 5) (write (1 ∷ 2 ∷ 3 ∷ 4 ∷ 5 ∷ []) ∷ write (6 ∷ 7 ∷ 8 ∷ 9 ∷ []) ∷ []) (figure 0 5) (poll (sending 8) ∷ poll (sending 8) ∷ [])

pub needed_few_twice : Demand ByValue (played without_few_twice) → ⊥
unfolding calling without_few_twice
needed_few_twice = fails without_few_twice (sending 8) 8 0x55 9 refl refl refl refl refl refl

-- ---- what each story breaks

pub needed : List Case
needed =
    case (broken (played without_waits)) (waits ∷ [])
    ∷ case (broken (played without_nothing)) (nothing ∷ [])
    ∷ case (broken (played without_unfinished)) (unfinished ∷ [])
    ∷ case (broken (played without_valid)) (valid ∷ [])
    ∷ case (broken (played without_valid_signature)) (valid ∷ accepted ∷ [])
    ∷ case (broken (played without_no_reset_before)) (no_reset_before ∷ same_command ∷ [])
    ∷ case (broken (played without_same_command)) (same_command ∷ [])
    ∷ case (broken (played without_accepted)) (accepted ∷ [])
    ∷ case (broken (played without_no_reset)) (no_reset ∷ [])
    ∷ case (broken (played without_no_reset_within)) (no_reset ∷ [])
    ∷ case (broken (played without_no_status)) (no_status ∷ [])
    ∷ case (broken (played without_full)) (full ∷ [])
    ∷ case (broken (played without_few)) (few ∷ [])
    ∷ case (broken (played without_few_twice)) (few ∷ [])
    ∷ []

pub needed_table : AllHold needed
unfolding needed calling without_waits without_nothing without_unfinished without_valid without_valid_signature without_no_reset_before without_same_command without_accepted without_no_reset without_no_reset_within without_no_status without_full without_few without_few_twice
needed_table = by_computing needed

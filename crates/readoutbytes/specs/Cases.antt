-- Document 01's cases of demand 3 as calls of firmware, from a record that was created: what the calls return, what the record's bytes are,
-- and what the host gets. proofs/Cases.antt has the statement that each case holds. Assumes nothing: these are definitions.
use Rattle.std.specs.Prelude.{true, false, List, [], ◌∷◌, ◌++◌, ℕ, replicate}
use Rattle.fields.specs.Case.{Case, case}
use Rattle.device.specs.Create.{fixed}
use Rattle.bbb.specs.Poll.{Given}
use Rattle.recordbytes.specs.Layout.{record_size}
use Rattle.callbytes.specs.Calls.{create_on}
use Rattle.readout.specs.History.{Event, poll, status, write, write_all, read, reset, control, command, command_step, mislent}
use Rattle.readout.specs.Demand.{Script}
use Rattle.readout.specs.Cases.{sending, read64, bare8, short8, unless_empty}
use Rattle.readoutbytes.specs.Calls.{Memory, memory, Call, souk_poll, souk_set_status, souk_write_data, souk_try_write_data_all, souk_read_data, souk_reset, souk_control, souk_command, souk_command_step_told, call_on, seen}
use Rattle.readoutbytes.specs.Demand.{left_in, polls_due_on}

-- ---- calls

-- A call that is the event. A call for the command is lent zeros; one that is mislent has no place for the block.
abbrev pub call_of : Event → Call
call_of (poll g) = souk_poll g
call_of (status f) = souk_set_status f
call_of (write src) = souk_write_data src
call_of (write_all src) = souk_try_write_data_all src
call_of (read dst) = souk_read_data dst
call_of reset = souk_reset
call_of (control q) = souk_control q
call_of command = souk_command (replicate 16 0)
call_of (command_step true) = souk_command_step_told 1 (replicate 6 0)
call_of (command_step false) = souk_command_step_told 0 (replicate 6 0)
call_of mislent = souk_command []

-- The memory that the calls of the events `h` leave, where they start with the memory `m`: each call is lent what the call before left.
abbrev pub ran_on : List Event → Memory → Memory
ran_on [] m = m
ran_on (e ∷ h) m = ran_on h (call_on (call_of e) m).memory

-- What these calls return.
abbrev results_on : List Event → Memory → List ℕ
results_on [] m = []
results_on (e ∷ h) m = (call_on (call_of e) m).result ∷ results_on h (call_on (call_of e) m).memory

-- What each of them sent that sent something, as the firmware reads it.
abbrev packets_on : List Event → Memory → List (List ℕ)
packets_on [] m = []
packets_on (e ∷ h) m = unless_empty (seen (call_of e) (call_on (call_of e) m)).sent (packets_on h (call_on (call_of e) m).memory)

-- ---- the memory at the start

-- What `souk_create` leaves of 56 bytes of 9, for the packet size `p`, the max LUN 0 and an IO buffer of `size` bytes, which are zeros.
abbrev pub new_memory : ℕ → ℕ → Memory
new_memory p size = memory (create_on (replicate record_size 9) (fixed p 0 size)).bytes (replicate size 0)

-- ---- the stories

-- The events of the script `p` up to its last accepted status, and from that on.
abbrev pub events_before : Script → List Event
events_before p = p.arrival ++ (poll p.completing ∷ p.before)

abbrev pub events_since : Script → List Event
events_since p = status p.last_status ∷ p.after

-- All of them, and one more poll at the end, which is given `g`.
abbrev all_with : Script → Given → List Event
all_with p g = events_before p ++ events_since p ++ (poll g ∷ [])

-- The number of polls that is due after the status of the script `p`, by the record's bytes.
abbrev due : Script → Memory → ℕ
due p m = polls_due_on m (ran_on (events_before p) m)

-- 01's starred cases of demand 3. A result has the answer in its lowest byte, the packets taken in the fourth, and from 2^32 on the bytes
-- sent or put in.
unfoldable pub table : List Case
table =
    -- "P 64, R 130: 4 served polls*.": the wrapper's packet is taken, with answer 4; the status is set; then 64 bytes go out, IN is busy (6), 64
    -- bytes, a poll is refused (11), 2 bytes, and the 13 of the status.
    case (left_in (ran_on (events_before read64) (new_memory 64 64))) 130
    ∷ case (due read64 (new_memory 64 64)) 4
    ∷ case (results_on (all_with read64 (sending 64)) (new_memory 64 64)) (16777220 ∷ 0 ∷ 274877906944 ∷ 6 ∷ 274877906944 ∷ 11 ∷ 8589934592 ∷ 55834574848 ∷ [])
    ∷ case (packets_on (all_with read64 (sending 64)) (new_memory 64 64)) (replicate 64 0xFF ∷ replicate 64 0xFF ∷ (0xFF ∷ 0xFF ∷ []) ∷ (0x55 ∷ 0x53 ∷ 0x42 ∷ 0x53 ∷ 1 ∷ 0 ∷ 0 ∷ 0 ∷ 130 ∷ 0 ∷ 0 ∷ 0 ∷ 0 ∷ []) ∷ [])
    -- "P 8, R 0: 2*.": the wrapper comes in four packets, with a busy OUT between them. The status goes out as 8 bytes and 5.
    ∷ case (left_in (ran_on (events_before bare8) (new_memory 8 40))) 0
    ∷ case (due bare8 (new_memory 8 40)) 2
    ∷ case (results_on (all_with bare8 (sending 8)) (new_memory 8 40)) (16777216 ∷ 16777216 ∷ 6 ∷ 16777216 ∷ 16777216 ∷ 0 ∷ 6 ∷ 34359738368 ∷ 11 ∷ 21474836480 ∷ [])
    ∷ case (packets_on (all_with bare8 (sending 8)) (new_memory 8 40)) ((0x55 ∷ 0x53 ∷ 0x42 ∷ 0x53 ∷ 1 ∷ 0 ∷ 0 ∷ 0 ∷ []) ∷ (0 ∷ 0 ∷ 0 ∷ 0 ∷ 0 ∷ []) ∷ [])
    -- "P 8, L 10, four bytes put in, then status: 4 bytes and four FF, two FF, 8 status bytes, 5*."
    ∷ case (left_in (ran_on (events_before short8) (new_memory 8 40))) 10
    ∷ case (due short8 (new_memory 8 40)) 4
    ∷ case (results_on (all_with short8 (sending 8)) (new_memory 8 40))
    (16777216 ∷ 16777216 ∷ 6 ∷ 16777216 ∷ 16777220 ∷ 17179869184 ∷ 0 ∷ 34359738368 ∷ 6 ∷ 8589934592 ∷ 11 ∷ 34359738368 ∷ 21474836480 ∷ [])
    ∷ case (packets_on (all_with short8 (sending 8)) (new_memory 8 40)) ((1 ∷ 2 ∷ 3 ∷ 4 ∷ 0xFF ∷ 0xFF ∷ 0xFF ∷ 0xFF ∷ []) ∷ (0xFF ∷ 0xFF ∷ []) ∷ (0x55 ∷ 0x53 ∷ 0x42 ∷ 0x53 ∷ 1 ∷ 0 ∷ 0 ∷ 0 ∷ []) ∷ (6 ∷ 0 ∷ 0 ∷ 0 ∷ 0 ∷ []) ∷ [])
    -- The record's bytes at its end: P, max LUN, state 3, a status; the length of the IO buffer, both marks behind the status, nothing left, the
    -- residue; the status byte, to the host, LUN 0, a block of 6 bytes; the tag, L, the block; 4 bytes were put in.
    ∷ case (ran_on (all_with short8 (sending 8)) (new_memory 8 40)).bytes
    ((8 ∷ 0 ∷ 3 ∷ 1 ∷ 40 ∷ 0 ∷ 0 ∷ 0 ∷ 13 ∷ 0 ∷ 0 ∷ 0 ∷ 13 ∷ 0 ∷ 0 ∷ 0 ∷ 0 ∷ 0 ∷ 0 ∷ 0 ∷ 6 ∷ 0 ∷ 0 ∷ 0 ∷ 0 ∷ 1 ∷ 0 ∷ 6 ∷ 1 ∷ 0 ∷ 0 ∷ 0 ∷ 10 ∷ 0 ∷ 0 ∷ 0 ∷ []) ++ replicate 16 0 ++ (4 ∷ 0 ∷ 0 ∷ 0 ∷ []))
    ∷ []

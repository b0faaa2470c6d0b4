-- Cases of the exported calls: one table of polls, and one of the other calls. proofs/Cases.antt has the statement that each case holds.
-- Assumes nothing: these are definitions.
use Rattle.std.specs.Prelude.{List, [], ◌∷◌, ◌++◌, ℕ, replicate}
use Rattle.fields.specs.Overlay.{overlay}
use Rattle.fields.specs.Case.{Case, case}
use Rattle.bbb.specs.Poll.{Given, given}
use Rattle.calls.specs.declared.FirmwareStatus.{FirmwareStatus}
use Rattle.calls.specs.declared.Request.{Request}
use Rattle.device.specs.Create.{fixed}
use Rattle.recordbytes.specs.Record.{new_record}
use Rattle.answers.specs.Answers.{answer, lacking}
use Rattle.border.specs.Word.{word, upper_half}
use Rattle.ringbytes.specs.Poll.{poll_outcome, poll_on}
use Rattle.databytes.specs.Data.{data_outcome, read_data_on, write_data_on, write_data_all_on}
use Rattle.callbytes.specs.Calls.{call_outcome, create_on, set_status_on, reset_on, control_on}
use Rattle.commandbytes.specs.Command.{command_outcome, command_on, command_step_on, command_step_told_on}

-- The command block 12 01 80 00 FF, an inquiry for a page, in the 16 bytes that a record has for a block.
abbrev block : List ℕ
block = 0x12 ∷ 0x01 ∷ 0x80 ∷ 0x00 ∷ 0xFF ∷ replicate 11 9

-- The bytes of a record with P 8, max LUN 3 and an IO buffer of 31 bytes. The parameters are the number of its state, whether a status is
-- present, both marks, left, the residue and the status byte. Its wrapper is to the host, for LUN 1, with a block of five bytes, tag 7
-- and L = 512. 254 bytes were put in.
abbrev bytes : ℕ → ℕ → ℕ → ℕ → ℕ → ℕ → ℕ → List ℕ
bytes state present read write left residue status =
    (8 ∷ 3 ∷ state ∷ present ∷ 31 ∷ 0 ∷ 0 ∷ 0 ∷ read ∷ 0 ∷ 0 ∷ 0 ∷ write ∷ 0 ∷ 0 ∷ 0 ∷ left ∷ 0 ∷ 0 ∷ 0 ∷ residue ∷ 0 ∷ 0 ∷ 0 ∷ status ∷ [])
    ++ (1 ∷ 1 ∷ 5 ∷ 7 ∷ 0 ∷ 0 ∷ 0 ∷ 0 ∷ 2 ∷ 0 ∷ 0 ∷ [])
    ++ block
    ++ (254 ∷ 0 ∷ 0 ∷ 0 ∷ [])

-- The record's bytes `r` with these four as the count of what was put in.
abbrev counting : List ℕ → List ℕ → List ℕ
counting four r = overlay r 52 four

-- Such a record in the state with the number `state`, with three bytes unread, two left and no status.
abbrev record_in : ℕ → List ℕ
record_in state = bytes state 0 1 4 2 0 0

-- The record in state 4 with another command: a READ (16) of address 2 and 258 blocks.
abbrev reading16 : List ℕ
reading16 = overlay (overlay (record_in 4) 27 (16 ∷ [])) 36 (0x88 ∷ replicate 8 0 ++ (2 ∷ 0 ∷ 0 ∷ 1 ∷ 2 ∷ 0 ∷ 0 ∷ []))

-- The IO buffer of the cases. With the marks of `record_in`, the bytes 2, 3 and 4 are unread.
abbrev io : List ℕ
io = 1 ∷ 2 ∷ 3 ∷ 4 ∷ replicate 27 5

-- What the firmware says with a status: the status byte `status` and the figure `bytes`.
abbrev figure : ℕ → ℕ → FirmwareStatus
figure status bytes = record { status = status; figure = bytes }

-- A control request with the bmRequestType `type` and the request `number`.
abbrev request : ℕ → ℕ → Request
request type number = record { requesttype = type; request = number }

-- What a reset of the record's bytes `r` returns with an IO buffer of `size` bytes.
abbrev answered : List ℕ → ℕ → ℕ
answered r size = (reset_on r (replicate size 0)).result

-- The cases of all calls but the poll.
unfoldable pub table : List Case
table =
    -- Each part of a result has its place.
    case (word 7 5 2 1 3) 0x0000000301020507
    -- With answer 1 the bytes missing stand in the place of the count. More than 2^32 - 1 are shown as that many.
    ∷ case (upper_half (answer 0) 3) 3
    ∷ case (upper_half (lacking 7) 0) 7
    ∷ case (upper_half (lacking 4294967295) 0) 4294967295
    ∷ case (upper_half (lacking 4294967296) 0) 4294967295
    -- Creation with 64, 0 and 64 makes a record, of 56 bytes only. 01's refusals come before the one for the length, and the bytes stay.
    ∷ case (create_on (replicate 56 9) (fixed 64 0 64)) (call_outcome 0 (64 ∷ 0 ∷ 0 ∷ 0 ∷ 64 ∷ replicate 51 0))
    ∷ case (create_on (replicate 55 9) (fixed 64 0 64)) (call_outcome 10 (replicate 55 9))
    ∷ case (create_on (replicate 56 9) (fixed 8 16 0)) (call_outcome 2 (replicate 56 9))
    ∷ case (create_on [] (fixed 8 16 0)) (call_outcome 2 [])
    -- A record that is whole; then one with a number for no state, for no flag, for no status and for no direction; 57 bytes, and none;
    -- an IO buffer of another length.
    ∷ case (answered (bytes 8 1 1 4 2 0 2) 31) 0x0000000000020000
    ∷ case (answered (bytes 9 1 1 4 2 0 2) 31) 10
    ∷ case (answered (bytes 8 2 1 4 2 0 2) 31) 10
    ∷ case (answered (bytes 8 1 1 4 2 0 3) 31) 10
    ∷ case (answered (overlay (record_in 4) 25 (3 ∷ [])) 31) 10
    ∷ case (answered (record_in 4 ++ 0 ∷ []) 31) 10
    ∷ case (answered [] 31) 10
    ∷ case (answered (record_in 4) 32) 10
    -- A status stores the flag, the residue 512 - 500 and the byte. Refused with 12 or with 10 it stores nothing.
    ∷ case (set_status_on (record_in 4) io (figure 2 500)) (call_outcome 0 (bytes 4 1 1 4 2 12 2))
    ∷ case (set_status_on (record_in 4) io (figure 3 500)) (call_outcome 12 (record_in 4))
    ∷ case (set_status_on (bytes 9 1 1 4 2 12 2) io (figure 0 512)) (call_outcome 10 (bytes 9 1 1 4 2 12 2))
    ∷ case (set_status_on (record_in 4) (replicate 30 5) (figure 2 500)) (call_outcome 10 (record_in 4))
    ∷ case (set_status_on [] io (figure 2 500)) (call_outcome 10 [])
    -- A read of two of three bytes gives the count from bit 32 on, and stores the read mark. In another state it is refused with 3.
    ∷ case (read_data_on (record_in 7) io (8 ∷ 8 ∷ [])) (data_outcome 0x0000000200000000 (bytes 7 0 3 4 2 0 0) (2 ∷ 3 ∷ []))
    ∷ case (read_data_on (record_in 4) io (8 ∷ 8 ∷ [])) (data_outcome 3 (record_in 4) (8 ∷ 8 ∷ []))
    ∷ case (read_data_on (record_in 9) io (8 ∷ 8 ∷ [])) (data_outcome 10 (record_in 9) (8 ∷ 8 ∷ []))
    -- Two bytes are left. Of three bytes `souk_write_data` takes two, and `souk_try_write_data_all` takes all. 29 bytes have no room:
    -- that gives 1, with the one byte missing from bit 32 on, and the move stays. What was taken is added to the 254 bytes put in before.
    ∷ case (write_data_on (record_in 4) io (6 ∷ 7 ∷ 8 ∷ [])) (data_outcome 0x0000000200000000 (counting (0 ∷ 1 ∷ 0 ∷ 0 ∷ []) (bytes 4 0 1 6 2 0 0)) (1 ∷ 2 ∷ 3 ∷ 4 ∷ 6 ∷ 7 ∷ replicate 25 5))
    ∷ case (write_data_all_on (record_in 4) io (6 ∷ 7 ∷ 8 ∷ [])) (data_outcome 0x0000000300000000 (counting (1 ∷ 1 ∷ 0 ∷ 0 ∷ []) (bytes 4 0 1 7 2 0 0)) (1 ∷ 2 ∷ 3 ∷ 4 ∷ 6 ∷ 7 ∷ 8 ∷ replicate 24 5))
    ∷ case (write_data_all_on (record_in 4) io (replicate 29 6)) (data_outcome 0x0000000100000001 (bytes 4 0 0 3 2 0 0) (2 ∷ 3 ∷ 4 ∷ 4 ∷ replicate 27 5))
    ∷ case (write_data_on (record_in 9) io (6 ∷ [])) (data_outcome 10 (record_in 9) io)
    -- The largest count stays, and the bytes go in.
    ∷ case (write_data_on (counting (replicate 4 255) (record_in 4)) io (6 ∷ 7 ∷ [])) (data_outcome 0x0000000200000000 (counting (replicate 4 255) (bytes 4 0 1 6 2 0 0)) (1 ∷ 2 ∷ 3 ∷ 4 ∷ 6 ∷ 7 ∷ replicate 25 5))
    -- A reset asks for `U`, and stores the state, left, the flag and the count. The residue and the status byte stay.
    ∷ case (reset_on (new_record (fixed 8 3 31)) io) (call_outcome 0x0000000000020000 (new_record (fixed 8 3 31)))
    ∷ case (reset_on (bytes 4 1 1 4 2 12 2) io) (call_outcome 0x0000000000020000 (counting (replicate 4 0) (bytes 0 0 1 4 0 12 2)))
    ∷ case (reset_on (record_in 9) io) (call_outcome 10 (record_in 9))
    -- A1 FE gives the flag 1 and max LUN; A1 FF is a reset; 21 FF does not count.
    ∷ case (control_on (record_in 4) io (request 0xA1 0xFE)) (call_outcome 0x0000000301000000 (record_in 4))
    ∷ case (control_on (record_in 4) io (request 0xA1 0xFF)) (reset_on (record_in 4) io)
    ∷ case (control_on (record_in 4) io (request 0x21 0xFF)) (call_outcome 0 (record_in 4))
    ∷ case (control_on (record_in 9) io (request 0xA1 0xFE)) (call_outcome 10 (record_in 9))
    -- A command gives LUN, flag and block length. In 0 nothing is shown. 15 lent bytes are refused with 10.
    ∷ case (command_on (record_in 4) io (replicate 16 0)) (command_outcome 0x0000000501000100 block)
    ∷ case (command_on (record_in 0) io (replicate 16 8)) (command_outcome 0 (replicate 16 8))
    ∷ case (command_on (record_in 4) io (replicate 15 8)) (command_outcome 10 (replicate 15 8))
    ∷ case (command_on (record_in 9) io (replicate 16 8)) (command_outcome 10 (replicate 16 8))
    -- The command step gives LUN and flag, and the inquiry in six numbers. After a status nothing is offered. Seven lent numbers are
    -- refused with 10.
    ∷ case (command_step_on (record_in 4) io (replicate 6 0)) (command_outcome 0x0000000001000100 (1 ∷ 1 ∷ 128 ∷ 255 ∷ 0 ∷ 0 ∷ []))
    ∷ case (command_step_on (bytes 4 1 1 4 2 12 2) io (replicate 6 8)) (command_outcome 0 (replicate 6 8))
    ∷ case (command_step_on (record_in 4) io (replicate 7 8)) (command_outcome 10 (replicate 7 8))
    ∷ case (command_step_on (record_in 9) io (replicate 6 8)) (command_outcome 10 (replicate 6 8))
    -- READ (16) is a read in the plain step and in the one that is told 1; in the one that is told 0 it is unknown. 2 tells nothing.
    ∷ case (command_step_on reading16 io (replicate 6 9)) (command_outcome 0x0000000001000100 (8 ∷ 2 ∷ 258 ∷ 0 ∷ 0 ∷ 0 ∷ []))
    ∷ case (command_step_told_on 1 reading16 io (replicate 6 9)) (command_outcome 0x0000000001000100 (8 ∷ 2 ∷ 258 ∷ 0 ∷ 0 ∷ 0 ∷ []))
    ∷ case (command_step_told_on 0 reading16 io (replicate 6 9)) (command_outcome 0x0000000001000100 (0 ∷ 0x88 ∷ 0 ∷ 0 ∷ 0 ∷ 0 ∷ []))
    ∷ case (command_step_told_on 2 reading16 io (replicate 6 8)) (command_outcome 10 (replicate 6 8))
    ∷ case (command_step_told_on 0 reading16 io (replicate 7 8)) (command_outcome 10 (replicate 7 8))
    ∷ []

-- A poll with a packet buffer of 8 bytes of 9 in which the first OUT read offers `packet`, the second is busy, and IN does its part.
abbrev offering : List ℕ → Given
offering packet = given (replicate 8 9) packet [] (record { first = 0; second = 1; write = 0 })

-- A poll with a packet buffer of `n` bytes of 9 in which both OUT reads are busy, and IN does its part.
abbrev silent : ℕ → Given
silent n = given (replicate n 9) [] [] (record { first = 1; second = 1; write = 0 })

-- The first 23 bytes of a wrapper without data, for LUN 2, with a block of six bytes and tag 9. Its other 8 bytes come in a packet.
abbrev begun : List ℕ
begun = 0x55 ∷ 0x53 ∷ 0x42 ∷ 0x43 ∷ 9 ∷ 0 ∷ 0 ∷ 0 ∷ 0 ∷ 0 ∷ 0 ∷ 0 ∷ 0 ∷ 2 ∷ 6 ∷ replicate 8 4

-- The cases of polls.
unfoldable pub polling : List Case
polling =
    -- Three bytes are unread and two are left. They go out in 4 without a status, and in 6 with one; the read mark and left are stored.
    case (poll_on (record_in 4) io (silent 8)) (poll_outcome 0x0000000300000000 (bytes 4 0 4 4 0 0 0) io (2 ∷ 3 ∷ 4 ∷ replicate 5 9))
    ∷ case (poll_on (bytes 4 1 1 4 2 12 1) io (silent 8)) (poll_outcome 0x0000000300000000 (bytes 6 1 4 4 0 12 1) io (2 ∷ 3 ∷ 4 ∷ replicate 5 9))
    -- One byte is unread and two are left: it is filled up to two bytes.
    ∷ case (poll_on (bytes 6 1 3 4 2 12 1) io (silent 8)) (poll_outcome 0x0000000200000000 (bytes 6 1 5 5 0 12 1) (1 ∷ 2 ∷ 3 ∷ 4 ∷ 0xFF ∷ replicate 26 5) (4 ∷ 0xFF ∷ replicate 6 9))
    -- A packet of data comes in: one packet is taken, and the write mark and left are stored.
    ∷ case (poll_on (record_in 7) io (offering (6 ∷ 7 ∷ []))) (poll_outcome 0x0000000001000000 (bytes 7 0 1 6 0 0 0) (1 ∷ 2 ∷ 3 ∷ 4 ∷ 6 ∷ 7 ∷ replicate 25 5) (replicate 8 9))
    -- 27 bytes are unread, and a packet wants 8: four bytes are missing. The move stays, and no packet is taken.
    ∷ case (poll_on (bytes 7 0 1 28 2 0 0) io (offering (6 ∷ []))) (poll_outcome 0x0000000400000001 (bytes 7 0 0 27 2 0 0) (2 ∷ 3 ∷ 4 ∷ replicate 28 5) (replicate 8 9))
    -- The first eight bytes of the status go out, with the wrapper's tag.
    ∷ case (poll_on (bytes 5 1 1 4 0 12 1) io (silent 8)) (poll_outcome 0x0000000800000000 (bytes 3 1 8 13 0 12 1) (0x55 ∷ 0x53 ∷ 0x42 ∷ 0x53 ∷ 7 ∷ 0 ∷ 0 ∷ 0 ∷ 12 ∷ 0 ∷ 0 ∷ 0 ∷ 1 ∷ replicate 18 5) (0x55 ∷ 0x53 ∷ 0x42 ∷ 0x53 ∷ 7 ∷ 0 ∷ 0 ∷ 0 ∷ []))
    -- The last eight bytes of a wrapper come in: it is stored, what is put in is counted anew, and the device awaits its status in 5.
    ∷ case (poll_on (bytes 0 0 0 23 0 0 0) (begun ++ replicate 8 0) (offering (replicate 8 4)))
    (poll_outcome 0x0000000001000000 ((8 ∷ 3 ∷ 5 ∷ 0 ∷ 31 ∷ 0 ∷ 0 ∷ 0 ∷ 31 ∷ 0 ∷ 0 ∷ 0 ∷ 31 ∷ 0 ∷ 0 ∷ 0 ∷ replicate 9 0) ++ (0 ∷ 2 ∷ 6 ∷ 9 ∷ replicate 7 0) ++ replicate 16 4 ++ replicate 4 0) (begun ++ replicate 8 4) (replicate 8 9))
    -- The same with another signature: it is no wrapper. The count starts anew here too, and both endpoints are stalled in 1.
    ∷ case (poll_on (bytes 0 0 0 23 0 0 0) (1 ∷ replicate 30 4) (offering (replicate 8 4))) (poll_outcome 0x0000000001010000 (counting (replicate 4 0) (bytes 1 0 31 31 0 0 0)) (1 ∷ replicate 30 4) (replicate 8 9))
    -- The status is all sent, and OUT is busy: 0 is entered, where the count starts anew, and the answer is 6.
    ∷ case (poll_on (bytes 3 1 4 4 0 12 1) io (silent 8)) (poll_outcome 0x0000000000020006 (counting (replicate 4 0) (bytes 0 0 4 4 0 12 1)) io (replicate 8 9))
    -- 10 comes before 11. Either leaves everything as it was.
    ∷ case (poll_on (record_in 9) io (silent 7)) (poll_outcome 10 (record_in 9) io (replicate 7 9))
    ∷ case (poll_on (record_in 4) io (silent 7)) (poll_outcome 11 (record_in 4) io (replicate 7 9))
    ∷ []

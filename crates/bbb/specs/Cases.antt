-- One table of cases of polls, document 01's and ours. proofs/Cases.antt states that each of them holds. Assumes nothing.
use Rattle.std.specs.Prelude.{List, [], ◌∷◌, ◌++◌, ℕ, replicate, take, drop, Option, None, Some}
use Rattle.fields.specs.Case.{Case, case}
use Rattle.buffer.specs.Buffer as buffer
use Rattle.answers.specs.declared.Stalls.TheVariants.{Stalled, Unstalled}
use Rattle.answers.specs.Answers.{answer, lacking, failing}
use Rattle.ring.specs.declared.State.{State}
use Rattle.ring.specs.declared.State.TheVariants.{CommandTransferInvalid, DataTransferNoData, StatusTransfer, DataTransferToHost, DataTransferToHostStatusAwait, DataTransferToHostEnding, DataTransferFromHost}
use Rattle.ring.specs.States.{state_number}
use Rattle.wrapper.specs.declared.DataDirection.TheVariants.{In}
use Rattle.wrapper.specs.declared.status.CommandStatus.TheVariants.{Passed}
use Rattle.device.specs.declared.Device.{Device}
use Rattle.device.specs.declared.Told.{Told}
use Rattle.device.specs.Device.{rebuilt, putting_in, told}
use Rattle.device.specs.Create.{fixed, new_device}
use Rattle.bbb.specs.Poll.{Given, given, Polling, poll_call}

-- In this poll the first OUT read offers `packet`, the second is busy, and IN does its part. The packet buffer has 64 bytes of 7.
unfoldable pub one_packet : List ℕ → Given
one_packet packet = given (replicate 64 7) packet [] (record { first = 0; second = 1; write = 0 })

-- This is the first poll of a new device with packet size `p` and an IO buffer of `size` zeros. OUT offers `packet`.
unfoldable pub first_poll : ℕ → ℕ → List ℕ → Polling
first_poll p size packet = poll_call (new_device (fixed p 0 size)) (replicate size 0) (one_packet packet)

-- This is the poll after the poll `x`. OUT offers `packet`.
unfoldable pub next_poll : Polling → List ℕ → Polling
next_poll x packet = poll_call x.device x.io (one_packet packet)

-- This wrapper declares `l` bytes to the host, with `l` below 256. It has tag 1, LUN 0 and a block of 6 zeros.
unfoldable pub wrapper_to_host : ℕ → List ℕ
wrapper_to_host l = 0x55 ∷ 0x53 ∷ 0x42 ∷ 0x43 ∷ 1 ∷ 0 ∷ 0 ∷ 0 ∷ l ∷ 0 ∷ 0 ∷ 0 ∷ 0x80 ∷ 0 ∷ 6 ∷ replicate 16 0

-- This wrapper declares `l` bytes from the host, and is the same otherwise.
unfoldable pub wrapper_from_host : ℕ → List ℕ
wrapper_from_host l = 0x55 ∷ 0x53 ∷ 0x42 ∷ 0x43 ∷ 1 ∷ 0 ∷ 0 ∷ 0 ∷ l ∷ 0 ∷ 0 ∷ 0 ∷ 0 ∷ 0 ∷ 6 ∷ replicate 16 0

-- A line of `bench` shows these numbers of a poll: answer, state, left, unread, packets taken and bytes sent.
pub record PollLine : Type 0 where
  pub answer : ℕ
  pub state : ℕ
  pub left : ℕ
  pub unread : ℕ
  pub taken : ℕ
  pub sent : ℕ

-- This is the line of the poll `x`.
unfoldable pub poll_line_of : Polling → PollLine
poll_line_of x = record { answer = x.answer.number; state = state_number x.device.state; left = x.device.left.0; unread = buffer.unread (buffer.buffer x.io x.device.marks); taken = x.taken; sent = x.sent }

abbrev poll_line : ℕ → ℕ → ℕ → ℕ → ℕ → ℕ → PollLine
poll_line answer state left unread taken sent = record { answer = answer; state = state; left = left; unread = unread; taken = taken; sent = sent }

-- These are the starred cases of document 01.
unfoldable pub starred : List Case
starred =
    -- "Buffer 31, P 8: after 24 bytes the next poll gives 1*"
    case (poll_line_of (next_poll (next_poll (next_poll (first_poll 8 31 (take 8 (wrapper_to_host 64))) (take 8 (drop 8 (wrapper_to_host 64)))) (take 8 (drop 16 (wrapper_to_host 64)))) (drop 24 (wrapper_to_host 64)))) (poll_line 1 0 0 24 0 0)
    -- "L = 64 to host, P 64: the wrapper's poll gives 4 in state 4*. L = 63: 0, nothing sent*."
    ∷ case (poll_line_of (first_poll 64 64 (wrapper_to_host 64))) (poll_line 4 4 64 0 1 0)
    ∷ case (poll_line_of (first_poll 64 64 (wrapper_to_host 63))) (poll_line 0 4 63 0 1 0)
    ∷ []

-- This device has P 8 and an IO buffer of 40 bytes. It is in the given state with the given status, marks and left; its wrapper has tag 1
-- and declares 20 bytes to the host.
unfoldable pub device_in : State → Option Told → ℕ → ℕ → ℕ → Device
device_in state status read write left = rebuilt (new_device (fixed 8 0 40)) state (buffer.at read write) (record { tag = 1; length = 20; direction = In; lun = 0; blocklength = 6; block = replicate 16 0 }) status (record { 0 = left })

-- Its IO buffer starts with 1 to 8.
unfoldable pub io : List ℕ
io = 1 ∷ 2 ∷ 3 ∷ 4 ∷ 5 ∷ 6 ∷ 7 ∷ 8 ∷ replicate 32 0

-- This is a poll of the device `d`. The endpoints' answers are `one`, `two` and `into`; the first OUT read offers 9, and the second
-- offers 10 and 11.
unfoldable pub poll_answered : Device → ℕ → ℕ → ℕ → Polling
poll_answered d one two into = poll_call d io (given (replicate 8 7) (9 ∷ []) (10 ∷ 11 ∷ []) (record { first = one; second = two; write = into }))

-- This status says that the command passed, with residue 12.
unfoldable pub passed : Option Told
passed = Some (told Passed (record { 0 = 12 }))

-- These are our own cases, state by state.
unfoldable pub ours : List Case
ours =
    -- 0: two packets together make a wrapper. An invalid wrapper stalls both, and its 31 bytes count as read.
    case (poll_line_of (next_poll (first_poll 32 64 (take 30 (wrapper_to_host 64))) (drop 30 (wrapper_to_host 64)))) (poll_line 4 4 64 0 1 0)
    ∷ case (poll_line_of (first_poll 64 64 (0 ∷ wrapper_to_host 64))) (poll_line 0 1 0 1 1 0)
    ∷ case (first_poll 64 64 (0 ∷ wrapper_to_host 64)).stalls Stalled
    -- 1: "stall both again; no traffic"
    ∷ case (poll_answered (device_in CommandTransferInvalid None 2 5 0) 0 0 0).stalls Stalled
    ∷ case (poll_line_of (poll_answered (device_in CommandTransferInvalid None 2 5 0) 0 0 0)) (poll_line 0 1 0 3 0 0)
    -- 3: the next packet is sent. With nothing unread, 0 is entered, both endpoints are unstalled, and a packet is read.
    ∷ case (poll_answered (device_in StatusTransfer passed 2 5 4) 0 0 0).packet (3 ∷ 4 ∷ 5 ∷ replicate 5 7)
    ∷ case (poll_line_of (poll_answered (device_in StatusTransfer passed 2 5 4) 0 0 0)) (poll_line 0 3 4 0 0 3)
    ∷ case (poll_line_of (poll_answered (device_in StatusTransfer passed 5 5 4) 1 0 0)) (poll_line 6 0 0 0 0 0)
    ∷ case (poll_answered (device_in StatusTransfer passed 5 5 4) 1 0 0).stalls Unstalled
    ∷ case (poll_answered (device_in StatusTransfer passed 5 5 4) 1 0 0).device.status None
    -- 4: a whole packet is due if at least P bytes are left, and a short one if fewer are. With nothing left the poll goes on to 5.
    ∷ case (poll_line_of (poll_answered (device_in DataTransferToHost None 0 8 8) 0 0 0)) (poll_line 0 4 0 0 0 8)
    ∷ case (poll_line_of (poll_answered (device_in DataTransferToHost None 0 7 8) 0 0 0)) (poll_line 4 4 8 7 0 0)
    ∷ case (poll_line_of (poll_answered (device_in DataTransferToHost None 0 7 3) 0 0 0)) (poll_line 0 4 0 0 0 7)
    ∷ case (poll_line_of (poll_answered (device_in DataTransferToHost None 0 7 0) 0 0 0)) (poll_line 0 5 0 7 0 0)
    -- 5: the status is written into the emptied buffer and sent at once. The number of a failing endpoint is carried.
    ∷ case (poll_answered (device_in DataTransferToHostStatusAwait passed 2 5 0) 0 0 0).packet (0x55 ∷ 0x53 ∷ 0x42 ∷ 0x53 ∷ 1 ∷ 0 ∷ 0 ∷ 0 ∷ [])
    ∷ case (poll_line_of (poll_answered (device_in DataTransferToHostStatusAwait passed 2 5 0) 0 0 0)) (poll_line 0 3 0 5 0 8)
    ∷ case (poll_answered (device_in DataTransferToHostStatusAwait passed 2 5 0) 0 0 9).answer (failing 9)
    -- 6: the buffer is filled up to min(left, P) bytes. After a busy poll it is not filled again.
    ∷ case (poll_answered (device_in DataTransferToHostEnding passed 6 8 5) 0 0 0).packet (7 ∷ 8 ∷ 0xFF ∷ 0xFF ∷ 0xFF ∷ replicate 3 7)
    ∷ case (poll_line_of (poll_answered (device_in DataTransferToHostEnding passed 6 8 5) 0 0 1)) (poll_line 6 6 5 5 0 0)
    ∷ case (poll_line_of (next_poll (poll_answered (device_in DataTransferToHostEnding passed 6 8 5) 0 0 1) [])) (poll_line 0 6 0 0 0 5)
    -- 7 and 8: a packet is read, in 8 into the emptied buffer. If this poll has read a wrapper, the packet is the second offer.
    ∷ case (poll_line_of (poll_answered (device_in DataTransferFromHost None 0 3 20) 0 0 0)) (poll_line 0 7 19 4 1 0)
    ∷ case (poll_line_of (poll_answered (device_in DataTransferFromHost passed 0 3 20) 0 0 0)) (poll_line 0 8 19 1 1 0)
    ∷ case (poll_line_of (poll_answered (device_in DataTransferNoData None 0 3 20) 0 0 0)) (poll_line 0 5 20 3 0 0)
    ∷ case (poll_line_of (poll_call (new_device (fixed 64 0 128)) (replicate 128 0) (given (replicate 64 7) (wrapper_from_host 20) (10 ∷ 11 ∷ []) (record { first = 0; second = 0; write = 0 })))) (poll_line 0 7 18 2 2 0)
    -- Room for P bytes is wanted, whatever the packet has and OUT does: in 7, and in 0 and then in 7 after the wrapper.
    ∷ case (poll_answered (device_in DataTransferFromHost None 0 36 20) 0 0 0).answer (lacking 4)
    ∷ case (poll_answered (device_in DataTransferFromHost None 0 36 20) 1 0 0).answer (lacking 4)
    ∷ case (next_poll (next_poll (next_poll (first_poll 8 31 (replicate 8 0)) (replicate 8 0)) (replicate 8 0)) []).answer (lacking 1)
    ∷ case (first_poll 64 64 (wrapper_from_host 100 ++ replicate 33 0)).answer (lacking 33)
    ∷ case (poll_line_of (first_poll 64 64 (wrapper_from_host 100 ++ replicate 33 0))) (poll_line 1 7 100 33 1 0)
    -- In 7, once four bytes are read there is room for a packet; after three a byte is still missing.
    ∷ case (poll_answered (device_in DataTransferFromHost None 4 36 20) 0 0 0).answer (answer 0)
    ∷ case (poll_answered (device_in DataTransferFromHost None 3 36 20) 0 0 0).answer (lacking 1)
    -- 02, request 7: what was put in is counted anew where 0 is entered, whatever the poll answers then, and where 31 bytes are parsed, valid
    -- or not. Packets, filler and the status leave the count.
    ∷ case (poll_answered (putting_in 9 (device_in StatusTransfer passed 5 5 4)) 1 0 0).device.putin.0 0
    ∷ case (poll_answered (putting_in 9 (device_in StatusTransfer passed 2 5 4)) 0 0 0).device.putin.0 9
    ∷ case (poll_call (putting_in 9 (new_device (fixed 64 0 128))) (replicate 128 0) (given (replicate 64 7) (wrapper_from_host 20) [] (record { first = 0; second = 1; write = 0 }))).device.putin.0 0
    ∷ case (poll_call (putting_in 9 (new_device (fixed 64 0 128))) (replicate 128 0) (given (replicate 64 7) (replicate 31 1) [] (record { first = 0; second = 1; write = 0 }))).device.putin.0 0
    ∷ case (poll_call (putting_in 9 (new_device (fixed 64 0 128))) (replicate 128 0) (given (replicate 64 7) (replicate 30 1) [] (record { first = 0; second = 1; write = 0 }))).device.putin.0 9
    ∷ case (poll_answered (putting_in 9 (device_in DataTransferToHost None 0 8 8)) 0 0 0).device.putin.0 9
    ∷ case (poll_answered (putting_in 9 (device_in DataTransferToHostEnding passed 6 8 5)) 0 0 0).device.putin.0 9
    ∷ case (poll_answered (putting_in 9 (device_in DataTransferToHostStatusAwait passed 2 5 0)) 0 0 0).device.putin.0 9
    -- 11: the packet buffer is below P, or an offer is above P. 10 is checked before.
    ∷ case (poll_call (device_in DataTransferToHost None 0 8 8) io (given (replicate 7 7) [] [] (record { first = 0; second = 0; write = 0 }))).answer (answer 11)
    ∷ case (poll_call (device_in DataTransferToHost None 0 8 8) io (given (replicate 8 7) [] (replicate 9 1) (record { first = 0; second = 0; write = 0 }))).answer (answer 11)
    ∷ case (poll_call (device_in DataTransferToHost None 0 8 8) (0 ∷ io) (given (replicate 7 7) [] [] (record { first = 0; second = 0; write = 0 }))).answer (answer 10)
    ∷ []

-- Document 01's cases of demand 3, and cases of ours, also of request 7 of 02: the stories, and the tables of what they show.
-- proofs/Cases.antt has the statement that each case holds. Assumes nothing: these are definitions.
use Rattle.std.specs.Prelude.{true, false, List, [], ◌∷◌, ◌++◌, ℕ, ◌+◌, length, replicate, take, drop}
use Rattle.fields.specs.Case.{Case, case}
use Rattle.device.specs.Create.{fixed, new_device}
use Rattle.bbb.specs.Poll.{Given, given}
use Rattle.readout.specs.History.{Socket, socket, Event, poll, status, write, write_all, read, command_step, Shows, shows, next, Happening, history_of, all}
use Rattle.readout.specs.Demand.{Story, ended, L, R, polls_due, firmware, host, served_since, crossed, ceiling, the_data, the_status, Script, played}
use Rattle.readout.specs.Account.{Readout, readout_of, reached_by, count_since, put_in_since, sent_since, unread_at, filled_since}

-- ---- the polls

-- A poll with a packet buffer of `n` bytes of 7, in which OUT offers one packet, `packet`, and IN does its part.
abbrev pub taking : ℕ → List ℕ → Given
taking n packet = given (replicate n 7) packet [] (record { first = 0; second = 1; write = 0 })

-- A poll like that in which OUT offers two packets, `one` and `two`.
abbrev pub taking_two : ℕ → List ℕ → List ℕ → Given
taking_two n one two = given (replicate n 7) one two (record { first = 0; second = 0; write = 0 })

-- A poll like that in which OUT is busy.
abbrev pub sending : ℕ → Given
sending n = given (replicate n 7) [] [] (record { first = 1; second = 1; write = 0 })

-- A poll with a packet buffer of `n` bytes of 7 in which every endpoint is busy.
abbrev pub busy : ℕ → Given
busy n = given (replicate n 7) [] [] (record { first = 1; second = 1; write = 1 })

-- ---- the stories

-- A new device with packet size `p` and max LUN 0, and an IO buffer of `size` zeros.
abbrev pub new_socket : ℕ → ℕ → Socket
new_socket p size = socket (new_device (fixed p 0 size)) (replicate size 0)

-- A wrapper with the tag `tag`, the flags `flags`, LUN 0 and a block of 6 zeros, which declares `l` bytes. Each of the three numbers has
-- one byte here.
abbrev pub cbw : ℕ → ℕ → ℕ → List ℕ
cbw tag flags l = 0x55 ∷ 0x53 ∷ 0x42 ∷ 0x43 ∷ tag ∷ 0 ∷ 0 ∷ 0 ∷ l ∷ 0 ∷ 0 ∷ 0 ∷ flags ∷ 0 ∷ 6 ∷ replicate 16 0

-- A wrapper to the host with tag 1, which declares `l` bytes. Where `l` is 0 the flags do not count.
abbrev pub cbw_to_host : ℕ → List ℕ
cbw_to_host l = cbw 1 0x80 l

-- At P 8 the 31 bytes of a wrapper, `bytes`, come in packets of 8, 8, 8 and 7 bytes. These are the polls of the first three, and between
-- them a poll in which OUT is busy.
abbrev pub three : List ℕ → List Event
three bytes = poll (taking 8 (take 8 bytes)) ∷ poll (taking 8 (take 8 (drop 8 bytes))) ∷ poll (sending 8) ∷ poll (taking 8 (take 8 (drop 16 bytes))) ∷ []

-- The poll of the fourth packet.
abbrev pub fourth : List ℕ → Given
fourth bytes = taking 8 (drop 24 bytes)

-- Each story ends one served poll before the last status byte. In the stories of 01's cases two polls after the status are not served: in
-- one of them IN is busy, and in the other the packet buffer is one byte shorter than P.

-- P is 64 and L is 130, and the firmware puts nothing in.
unfoldable pub read64 : Script
read64 = record {
  start = new_socket 64 64;
  arrival = [];
  completing = taking 64 (cbw_to_host 130);
  before = [];
  last_status = record { status = 0; figure = 0 };
  after = poll (sending 64) ∷ poll (busy 64) ∷ poll (sending 64) ∷ poll (sending 63) ∷ poll (sending 64) ∷ [];
}

-- P is 8, and the command has no data.
unfoldable pub bare8 : Script
bare8 = record {
  start = new_socket 8 40;
  arrival = three (cbw_to_host 0);
  completing = fourth (cbw_to_host 0);
  before = [];
  last_status = record { status = 0; figure = 0 };
  after = poll (busy 8) ∷ poll (sending 8) ∷ poll (sending 7) ∷ [];
}

-- P is 8 and L is 10, and the firmware puts four bytes in.
unfoldable pub short8 : Script
short8 = record {
  start = new_socket 8 40;
  arrival = three (cbw_to_host 10);
  completing = fourth (cbw_to_host 10);
  before = write (1 ∷ 2 ∷ 3 ∷ 4 ∷ []) ∷ [];
  last_status = record { status = 0; figure = 4 };
  after = poll (sending 8) ∷ poll (busy 8) ∷ poll (sending 8) ∷ poll (sending 7) ∷ poll (sending 8) ∷ [];
}

-- A wrapper from the host with tag 9, which declares `l` bytes.
abbrev cbw_from_host : ℕ → List ℕ
cbw_from_host l = cbw 9 0 l

-- This one is ours: the command after `short8`, from where that ended. P is 8, and it is a write of L = 20, whose first data packet comes
-- in the same poll as the last packet of the wrapper. The firmware reads two bytes, and its second status replaces the first.
unfoldable pub write8 : Script
write8 = record {
  start = next (poll (sending 8)) (ended (played short8));
  arrival = poll (taking 8 (take 8 (cbw_from_host 20))) ∷ poll (taking 8 (take 8 (drop 8 (cbw_from_host 20)))) ∷ command_step true ∷ poll (sending 8) ∷ poll (taking 8 (take 8 (drop 16 (cbw_from_host 20)))) ∷ [];
  completing = taking_two 8 (drop 24 (cbw_from_host 20)) (replicate 8 3);
  before = read (0 ∷ 0 ∷ []) ∷ status (record { status = 2; figure = 5 }) ∷ [];
  last_status = record { status = 1; figure = 8 };
  after = poll (taking 8 (replicate 8 3)) ∷ poll (sending 8) ∷ poll (taking 8 (replicate 4 3)) ∷ poll (sending 8) ∷ [];
}

-- This one is ours: a plain read of all that L asks for. P is 8 and L is 20. The firmware puts 8 bytes in, a poll sends them, and the
-- same happens once more. It puts its last 4 bytes in after the status, which says that nothing is missing.
unfoldable pub full8 : Script
full8 = record {
  start = new_socket 8 40;
  arrival = three (cbw_to_host 20);
  completing = fourth (cbw_to_host 20);
  before = command_step false ∷ write (1 ∷ 2 ∷ 3 ∷ 4 ∷ 5 ∷ 6 ∷ 7 ∷ 8 ∷ []) ∷ poll (sending 8) ∷ write (9 ∷ 10 ∷ 11 ∷ 12 ∷ 13 ∷ 14 ∷ 15 ∷ 16 ∷ []) ∷ poll (busy 8) ∷ poll (sending 8) ∷ [];
  last_status = record { status = 0; figure = 20 };
  after = write (17 ∷ 18 ∷ 19 ∷ 20 ∷ []) ∷ poll (sending 8) ∷ poll (busy 8) ∷ poll (sending 8) ∷ [];
}

-- ---- read-outs, for request 7 of 02

-- A read-out of a new device with P 64 and an IO buffer of 128 bytes, whose wrapper declares L = 2.
abbrev pub read2 : List Event → Readout
read2 since = readout_of (new_socket 64 128) (taking 64 (cbw_to_host 2)) since

-- The firmware puts in 70 bytes at once, 68 more than L. A packet goes out.
unfoldable pub too_long : Readout
too_long = read2 (write_all (replicate 70 1) ∷ poll (sending 64) ∷ [])

-- The firmware puts in one byte with `write_data`, tries 128 more, for which one byte of room is missing, and sets the status. It puts in one
-- byte more, which is taken behind the status.
unfoldable pub by_both : Readout
by_both = read2 (write (1 ∷ []) ∷ write_all (replicate 128 2) ∷ status (record { status = 0; figure = 2 }) ∷ write (3 ∷ []) ∷ [])

-- The firmware puts in one byte of two and sets the status. The poll fills in the other, and IN is busy; the next poll sends both.
unfoldable pub half_filled : Readout
half_filled = read2 (write (1 ∷ []) ∷ status (record { status = 0; figure = 1 }) ∷ poll (busy 64) ∷ [])

unfoldable pub half_sent : Readout
half_sent = read2 (write (1 ∷ []) ∷ status (record { status = 0; figure = 1 }) ∷ poll (busy 64) ∷ poll (sending 64) ∷ [])

-- What the account of the read-out `r` speaks of: the count, the bytes accepted, sent, filled in and unread.
abbrev figures : Readout → List ℕ
figures r = count_since r ∷ put_in_since r ∷ sent_since r ∷ filled_since r ∷ unread_at (reached_by r) ∷ []

-- Cases of request 7.
unfoldable pub accounts : List Case
accounts =
    case (figures (read2 [])) (0 ∷ 0 ∷ 0 ∷ 0 ∷ 0 ∷ [])
    ∷ case (figures too_long) (70 ∷ 70 ∷ 64 ∷ 0 ∷ 6 ∷ [])
    ∷ case (figures by_both) (2 ∷ 2 ∷ 0 ∷ 0 ∷ 2 ∷ [])
    ∷ case (figures half_filled) (1 ∷ 1 ∷ 0 ∷ 1 ∷ 2 ∷ [])
    ∷ case (figures half_sent) (1 ∷ 1 ∷ 2 ∷ 1 ∷ 0 ∷ [])
    ∷ []

-- ---- what they show

-- The answer of each happening of a history.
unfoldable pub answers_in : List Happening → List ℕ
answers_in xs = all (λ (o : Shows). o.answer.number ∷ []) xs

-- The list of `packets` with one packet in front of it, unless that has no bytes.
unfoldable pub unless_empty : List ℕ → List (List ℕ) → List (List ℕ)
unless_empty [] packets = packets
unless_empty (b ∷ bs) packets = (b ∷ bs) ∷ packets

-- What each poll of a history sent that sent something.
unfoldable pub packets_in : List Happening → List (List ℕ)
packets_in [] = []
packets_in (x ∷ xs) = unless_empty x.shown.sent (packets_in xs)

-- The packets sent since the status of the story `t`, with those of one more poll at its end, which is given `g`.
unfoldable pub packets : Story → Given → List (List ℕ)
packets t g = packets_in (t.after ++ history_of (poll g ∷ []) (ended t))

-- All that the host got in the story `t`, and in one more poll at its end, which is given `g`.
unfoldable pub host_with : Story → Given → List ℕ
host_with t g = host t ++ (shows (poll g) (ended t)).sent

-- 01's starred cases of demand 3.
unfoldable pub starred : List Case
starred =
    -- "P 64, R 130: 4 served polls*.": three are over, with a busy poll (6) and a refused poll (11) between them, and the fourth ends it.
    case (R (played read64)) 130
    ∷ case (polls_due (played read64)) 4
    ∷ case (served_since (played read64)) 3
    ∷ case (answers_in (played read64).after) (0 ∷ 6 ∷ 0 ∷ 11 ∷ 0 ∷ [])
    -- All that L = 130 asks for is filler; then come 13 status bytes, with a residue of 130.
    ∷ case (packets (played read64) (sending 64)) (replicate 64 0xFF ∷ replicate 64 0xFF ∷ (0xFF ∷ 0xFF ∷ []) ∷ (0x55 ∷ 0x53 ∷ 0x42 ∷ 0x53 ∷ 1 ∷ 0 ∷ 0 ∷ 0 ∷ 130 ∷ 0 ∷ 0 ∷ 0 ∷ 0 ∷ []) ∷ [])
    ∷ case (host_with (played read64) (sending 64)) (replicate 130 0xFF ++ (0x55 ∷ 0x53 ∷ 0x42 ∷ 0x53 ∷ 1 ∷ 0 ∷ 0 ∷ 0 ∷ 130 ∷ 0 ∷ 0 ∷ 0 ∷ 0 ∷ []))
    ∷ case (the_data (played read64) ++ the_status (played read64)) (replicate 130 0xFF ++ (0x55 ∷ 0x53 ∷ 0x42 ∷ 0x53 ∷ 1 ∷ 0 ∷ 0 ∷ 0 ∷ 130 ∷ 0 ∷ 0 ∷ 0 ∷ 0 ∷ []))
    -- "P 8, R 0: 2*."
    ∷ case (R (played bare8)) 0
    ∷ case (polls_due (played bare8)) 2
    ∷ case (served_since (played bare8)) 1
    ∷ case (answers_in (played bare8).after) (6 ∷ 0 ∷ 11 ∷ [])
    -- There is no data. The status goes out as 8 bytes and 5.
    ∷ case (packets (played bare8) (sending 8)) ((0x55 ∷ 0x53 ∷ 0x42 ∷ 0x53 ∷ 1 ∷ 0 ∷ 0 ∷ 0 ∷ []) ∷ (0 ∷ 0 ∷ 0 ∷ 0 ∷ 0 ∷ []) ∷ [])
    ∷ case (host_with (played bare8) (sending 8)) (0x55 ∷ 0x53 ∷ 0x42 ∷ 0x53 ∷ 1 ∷ 0 ∷ 0 ∷ 0 ∷ 0 ∷ 0 ∷ 0 ∷ 0 ∷ 0 ∷ [])
    ∷ case (the_data (played bare8) ++ the_status (played bare8)) (0x55 ∷ 0x53 ∷ 0x42 ∷ 0x53 ∷ 1 ∷ 0 ∷ 0 ∷ 0 ∷ 0 ∷ 0 ∷ 0 ∷ 0 ∷ 0 ∷ [])
    -- "P 8, L 10, four bytes put in, then status": 10 bytes are left then, and they take 2 polls.
    ∷ case (R (played short8)) 10
    ∷ case (polls_due (played short8)) 4
    ∷ case (served_since (played short8)) 3
    ∷ case (answers_in (played short8).after) (0 ∷ 6 ∷ 0 ∷ 11 ∷ 0 ∷ [])
    -- "4 bytes and four FF, two FF, 8 status bytes, 5*.": The residue is 6.
    ∷ case (packets (played short8) (sending 8)) ((1 ∷ 2 ∷ 3 ∷ 4 ∷ 0xFF ∷ 0xFF ∷ 0xFF ∷ 0xFF ∷ []) ∷ (0xFF ∷ 0xFF ∷ []) ∷ (0x55 ∷ 0x53 ∷ 0x42 ∷ 0x53 ∷ 1 ∷ 0 ∷ 0 ∷ 0 ∷ []) ∷ (6 ∷ 0 ∷ 0 ∷ 0 ∷ 0 ∷ []) ∷ [])
    ∷ case (host_with (played short8) (sending 8)) (1 ∷ 2 ∷ 3 ∷ 4 ∷ 0xFF ∷ 0xFF ∷ 0xFF ∷ 0xFF ∷ 0xFF ∷ 0xFF ∷ 0x55 ∷ 0x53 ∷ 0x42 ∷ 0x53 ∷ 1 ∷ 0 ∷ 0 ∷ 0 ∷ 6 ∷ 0 ∷ 0 ∷ 0 ∷ 0 ∷ [])
    ∷ case (the_data (played short8) ++ the_status (played short8)) (1 ∷ 2 ∷ 3 ∷ 4 ∷ 0xFF ∷ 0xFF ∷ 0xFF ∷ 0xFF ∷ 0xFF ∷ 0xFF ∷ 0x55 ∷ 0x53 ∷ 0x42 ∷ 0x53 ∷ 1 ∷ 0 ∷ 0 ∷ 0 ∷ 6 ∷ 0 ∷ 0 ∷ 0 ∷ 0 ∷ [])
    ∷ []

-- Cases of ours: those of the stories `write8` and `full8`, and the number of polls for the largest L.
unfoldable pub ours : List Case
ours =
    -- 12 of 20 bytes are left at the second status. They come in packets of 8 and 4 bytes, with a busy OUT between.
    case (R (played write8)) 12
    ∷ case (crossed (played write8)) 8
    ∷ case (polls_due (played write8)) 4
    ∷ case (served_since (played write8)) 3
    ∷ case (answers_in (played write8).after) (0 ∷ 6 ∷ 0 ∷ 0 ∷ [])
    -- The status has byte 1, the tag of this wrapper and a residue of 12.
    ∷ case (host_with (played write8) (sending 8)) (0x55 ∷ 0x53 ∷ 0x42 ∷ 0x53 ∷ 9 ∷ 0 ∷ 0 ∷ 0 ∷ 12 ∷ 0 ∷ 0 ∷ 0 ∷ 1 ∷ [])
    ∷ case (the_data (played write8) ++ the_status (played write8)) (0x55 ∷ 0x53 ∷ 0x42 ∷ 0x53 ∷ 9 ∷ 0 ∷ 0 ∷ 0 ∷ 12 ∷ 0 ∷ 0 ∷ 0 ∷ 1 ∷ [])
    -- 16 of 20 bytes are over before the status. The 4 that are left take one poll, and the status takes two; the residue is 0.
    ∷ case (R (played full8)) 4
    ∷ case (crossed (played full8)) 16
    ∷ case (length (firmware (played full8))) (L (played full8))
    ∷ case (polls_due (played full8)) 3
    ∷ case (served_since (played full8)) 2
    ∷ case (answers_in (played full8).after) (0 ∷ 0 ∷ 6 ∷ 0 ∷ [])
    ∷ case (host_with (played full8) (sending 8)) ((1 ∷ 2 ∷ 3 ∷ 4 ∷ 5 ∷ 6 ∷ 7 ∷ 8 ∷ 9 ∷ 10 ∷ 11 ∷ 12 ∷ 13 ∷ 14 ∷ 15 ∷ 16 ∷ 17 ∷ 18 ∷ 19 ∷ 20 ∷ []) ++ (0x55 ∷ 0x53 ∷ 0x42 ∷ 0x53 ∷ 1 ∷ 0 ∷ 0 ∷ 0 ∷ 0 ∷ 0 ∷ 0 ∷ 0 ∷ 0 ∷ []))
    -- The largest L, with all of it left, takes this many polls, at P 64 and at P 8.
    ∷ case (ceiling 4294967295 64 + ceiling 13 64) 67108865
    ∷ case (ceiling 4294967295 8 + ceiling 13 8) 536870914
    ∷ []

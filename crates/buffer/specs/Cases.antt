-- One table has the cases of the buffer's calls. proofs/Cases.antt states that each case holds. Assumes nothing.
use Rattle.std.specs.Prelude.{List, [], ◌∷◌, ℕ, length, replicate}
use Rattle.fields.specs.Case.{Case}
use Rattle.fields.specs.Case as table_of
use Rattle.buffer.specs.Buffer.{Buffer, buffer, at}
use Rattle.buffer.specs.Calls.{Answering, answering, lacking, available_call, clean_call, shift_call, write_call, write_all_call, fill_call, read_call, read_into}

-- A call of the buffer comes with its arguments. The argument of `read` is the destination as it is before the call.
pub data Call : Type 0 where
  available clean shift : Call
  write : List ℕ → Call
  write_all : ℕ → List ℕ → Call
  fill_up_to : ℕ → ℕ → Call
  read : List ℕ → Call

-- This is seen after a call: its outcome, and the destination of a read, which is empty for the other calls. `seen` makes
-- one from the outcome `o` and the destination `d`.
pub record Seen : Type 0 where
  pub answering : Answering
  pub destination : List ℕ

abbrev seen : Answering → List ℕ → Seen
seen o d = record { answering = o; destination = d }

-- This is seen after each call on the buffer `s`.
unfoldable pub after : Call → Buffer → Seen
after available s = seen (available_call s) []
after clean s = seen (clean_call s) []
after shift s = seen (shift_call s) []
after (write ys) s = seen (write_call ys s) []
after (write_all want ys) s = seen (write_all_call want ys s) []
after (fill_up_to v n) s = seen (fill_call v n s) []
after (read d) s = seen (read_call (length d) s) (read_into d s)

-- This is a case of any call but `read`. On the bytes `b` with the read mark `r` and the write mark `w`, the call `c` answers the number
-- `n` with the count `k`, and leaves the bytes `b'` with the marks `r'` and `w'`.
abbrev call_case : List ℕ → ℕ → ℕ → Call → ℕ → ℕ → List ℕ → ℕ → ℕ → Case
call_case b r w c n k b' r' w' = table_of.case (after c (buffer b (at r w))) (seen (answering n k (buffer b' (at r' w'))) [])

-- This is a case of a call that is refused with 1: `n` bytes of room are missing.
abbrev lacking_case : List ℕ → ℕ → ℕ → Call → ℕ → List ℕ → ℕ → ℕ → Case
lacking_case b r w c n b' r' w' = table_of.case (after c (buffer b (at r w))) (seen (lacking n (buffer b' (at r' w'))) [])

-- This is a case of `read`. On the bytes `b` with the marks `r` and `w`, a read into the destination `d` answers the number `n` with the
-- count `k`, and leaves the bytes as they were, the marks `r'` and `w'`, and the destination `d'`.
abbrev reading : List ℕ → ℕ → ℕ → List ℕ → ℕ → ℕ → ℕ → ℕ → List ℕ → Case
reading b r w d n k r' w' d' = table_of.case (after (read d) (buffer b (at r w))) (seen (answering n k (buffer b (at r' w'))) d')

-- The first two cases are of `available` and `clean`; the comments say what the others show.
unfoldable pub table : List Case
table =
    call_case (1 ∷ 2 ∷ 3 ∷ []) 1 3 available 0 2 (1 ∷ 2 ∷ 3 ∷ []) 1 3
    ∷ call_case (1 ∷ 2 ∷ 3 ∷ []) 1 3 clean 0 0 (1 ∷ 2 ∷ 3 ∷ []) 0 0
    -- The move: the bytes after the moved ones stay where they are. With nothing unread both marks go to 0.
    ∷ call_case (1 ∷ 2 ∷ 3 ∷ 4 ∷ []) 1 3 shift 0 0 (2 ∷ 3 ∷ 3 ∷ 4 ∷ []) 0 2
    ∷ call_case (1 ∷ 2 ∷ 3 ∷ []) 2 2 shift 0 0 (1 ∷ 2 ∷ 3 ∷ []) 0 0
    -- The two bytes just fit, and nothing moves.
    ∷ call_case (1 ∷ 2 ∷ 3 ∷ 4 ∷ []) 1 2 (write (8 ∷ 9 ∷ [])) 0 2 (1 ∷ 2 ∷ 8 ∷ 9 ∷ []) 1 4
    -- Three bytes do not: the unread byte moves to the front first.
    ∷ call_case (1 ∷ 2 ∷ 3 ∷ 4 ∷ []) 1 2 (write (7 ∷ 8 ∷ 9 ∷ [])) 0 3 (2 ∷ 7 ∷ 8 ∷ 9 ∷ []) 0 4
    -- What fits is taken. A buffer full of unread bytes takes nothing, and an empty source moves nothing.
    ∷ call_case (1 ∷ 2 ∷ 3 ∷ 4 ∷ []) 1 4 (write (8 ∷ 9 ∷ [])) 0 1 (2 ∷ 3 ∷ 4 ∷ 8 ∷ []) 0 4
    ∷ call_case (1 ∷ 2 ∷ []) 0 2 (write (8 ∷ [])) 0 0 (1 ∷ 2 ∷ []) 0 2
    ∷ call_case (1 ∷ 2 ∷ []) 1 2 (write []) 0 0 (1 ∷ 2 ∷ []) 1 2
    -- A fill moves what is unread in the same way, and takes what fits.
    ∷ call_case (1 ∷ 2 ∷ 3 ∷ []) 3 3 (fill_up_to 255 2) 0 2 (255 ∷ 255 ∷ 3 ∷ []) 0 2
    ∷ call_case (1 ∷ 2 ∷ 3 ∷ []) 1 2 (fill_up_to 255 9) 0 2 (2 ∷ 255 ∷ 255 ∷ []) 0 3
    -- Room for 3 bytes is asked for; after the move, which stays, there is room for 2. Room for 2 bytes is there.
    ∷ lacking_case (1 ∷ 2 ∷ 3 ∷ []) 1 2 (write_all 3 (9 ∷ [])) 1 (2 ∷ 2 ∷ 3 ∷ []) 0 1
    ∷ call_case (1 ∷ 2 ∷ 3 ∷ []) 1 2 (write_all 2 (9 ∷ [])) 0 1 (2 ∷ 9 ∷ 3 ∷ []) 0 2
    -- Room is asked for the source alone, which does not fit. A busy endpoint asks for room, and gives no byte.
    ∷ lacking_case (1 ∷ 2 ∷ 3 ∷ []) 0 2 (write_all 0 (8 ∷ 9 ∷ [])) 1 (1 ∷ 2 ∷ 3 ∷ []) 0 2
    ∷ call_case (1 ∷ 2 ∷ 3 ∷ []) 1 2 (write_all 2 []) 0 0 (2 ∷ 2 ∷ 3 ∷ []) 0 1
    -- "Buffer 31, P 8: after 24 bytes the next poll gives 1": one byte is missing.
    ∷ lacking_case (replicate 31 7) 0 24 (write_all 8 (1 ∷ 2 ∷ 3 ∷ 4 ∷ 5 ∷ 6 ∷ 7 ∷ [])) 1 (replicate 31 7) 0 24
    -- The larger of the two is wanted, 9 bytes and then 6; there is room for 3. In a full buffer all that is wanted is missing.
    ∷ lacking_case (1 ∷ 2 ∷ 3 ∷ 4 ∷ []) 2 3 (write_all 9 (8 ∷ [])) 6 (3 ∷ 2 ∷ 3 ∷ 4 ∷ []) 0 1
    ∷ lacking_case (1 ∷ 2 ∷ 3 ∷ 4 ∷ []) 2 3 (write_all 2 (4 ∷ 5 ∷ 6 ∷ 7 ∷ 8 ∷ 9 ∷ [])) 3 (3 ∷ 2 ∷ 3 ∷ 4 ∷ []) 0 1
    ∷ lacking_case (1 ∷ 2 ∷ []) 0 2 (write_all 8 []) 8 (1 ∷ 2 ∷ []) 0 2
    -- Fewer bytes are unread than the destination holds, and then more.
    ∷ reading (1 ∷ 2 ∷ 3 ∷ []) 1 3 (7 ∷ 7 ∷ 7 ∷ []) 0 2 3 3 (2 ∷ 3 ∷ 7 ∷ [])
    ∷ reading (1 ∷ 2 ∷ 3 ∷ []) 0 3 (7 ∷ []) 0 1 1 3 (1 ∷ [])
    -- The marks are broken, out of order or past the bytes: the answer is 10, and nothing changes.
    ∷ call_case (1 ∷ 2 ∷ []) 2 1 available 10 0 (1 ∷ 2 ∷ []) 2 1
    ∷ call_case (1 ∷ 2 ∷ []) 0 3 clean 10 0 (1 ∷ 2 ∷ []) 0 3
    ∷ call_case (1 ∷ 2 ∷ []) 2 1 shift 10 0 (1 ∷ 2 ∷ []) 2 1
    ∷ call_case (1 ∷ 2 ∷ []) 2 1 (write (8 ∷ [])) 10 0 (1 ∷ 2 ∷ []) 2 1
    ∷ call_case (1 ∷ 2 ∷ []) 0 3 (write_all 1 (8 ∷ [])) 10 0 (1 ∷ 2 ∷ []) 0 3
    ∷ call_case (1 ∷ 2 ∷ []) 0 3 (fill_up_to 255 1) 10 0 (1 ∷ 2 ∷ []) 0 3
    ∷ reading (1 ∷ 2 ∷ []) 2 1 (7 ∷ []) 10 0 2 1 (7 ∷ [])
    ∷ []

-- Document 01, 'Answer numbers': each answer by its number, with what it carries and what is missing. Assumes nothing: these are
-- definitions.
use Rattle.std.specs.Prelude.{◌≡◌, ℕ, ◌-◌, ◌%◌, ◌≤◌, Bool, true, false, cond, eqb, ltb}
use Rattle.answers.specs.declared.Endpoint.{Endpoint}
use Rattle.answers.specs.declared.Endpoint.TheVariants.{Served, Busy, Failed}
use Rattle.answers.specs.declared.Answer.{Answer}
use Rattle.answers.specs.declared.Answer.TheVariants.{Done, IoBufferOverflow, InvalidMaxLun, InvalidState, FullPacketExpected, BufferTooSmall, WouldBlock, EndpointError, PacketSizeRefused, BufferTooLarge, BrokenRecord, PacketRefused, StatusRefused, EmptyBlock}
use Rattle.answers.specs.declared.Stalls.{Stalls}
use Rattle.answers.specs.declared.Stalls.TheVariants.{Kept, Stalled, Unstalled, UnstalledStalled}

-- An answer of the table has `number`, its number, `carried`, the number of the endpoint's error that it carries, 0 if it carries none, and
-- `missing`, the number of bytes of room that are missing. Document 02, request 5: "It is bytes wanted less room after the move with
-- answer 1, and 0 with every other."
pub record Answering : Type 0 where
  pub number : ℕ
  pub carried : ℕ
  pub missing : ℕ

-- This is the answer with the number `n` that carries nothing, and with which nothing is missing.
abbrev pub answer : ℕ → Answering
answer n = record { number = n; carried = 0; missing = 0 }

-- This is the answer 1: `n` bytes of room are missing.
abbrev pub lacking : ℕ → Answering
lacking n = record { number = 1; carried = 0; missing = n }

-- This is the answer 7, "other endpoint error, its number carried": `n` is that number.
abbrev pub failing : ℕ → Answering
failing n = record { number = 7; carried = n; missing = 0 }

-- This is the table's number for each answer of the code.
abbrev pub answer_of : Answer → Answering
answer_of Done = answer 0
answer_of (IoBufferOverflow n) = lacking n
answer_of InvalidMaxLun = answer 2
answer_of InvalidState = answer 3
answer_of FullPacketExpected = answer 4
answer_of BufferTooSmall = answer 5
answer_of WouldBlock = answer 6
answer_of (EndpointError n) = failing n
answer_of PacketSizeRefused = answer 8
answer_of BufferTooLarge = answer 9
answer_of BrokenRecord = answer 10
answer_of PacketRefused = answer 11
answer_of StatusRefused = answer 12
answer_of EmptyBlock = answer 13

-- "It is bytes wanted less room after the move with answer 1, and 0 with every other": this is true of the answer `a` to a call that
-- wants room for `wanted` bytes, and after which there is room for `room` bytes. With answer 1 at least one byte is missing.
pub record Lacks (wanted room : ℕ) (a : Answering) : Type 0 where
  pub less : a.number ≡ 1 → a.missing ≡ wanted - room
  pub some : a.number ≡ 1 → 1 ≤ a.missing
  pub none : (a.number ≡ 1 → ⊥) → a.missing ≡ 0

-- What that number is good for: a call lacked `m` bytes of room, and is made again with room for `k` bytes more. While that is less than
-- what was missing, it lacks the rest; else its answer is `done`.
unfoldable pub again : ℕ → ℕ → Answering → Answering
again m k done = cond (ltb k m) (lacking (m - k)) done

-- "Endpoint answers: 0 does its part, 1 busy, others errors": this is what the answer `byte` stands for. An endpoint's answer is a byte, so
-- of any other number only what a byte holds is read.
unfoldable pub endpoint_of : ℕ → Endpoint
endpoint_of byte = cond (eqb (byte % 256) 0) Served (cond (eqb (byte % 256) 1) Busy (Failed (byte % 256)))

-- This tests whether an endpoint does its part, as in "each endpoint asked does its part".
abbrev pub serves : Endpoint → Bool
serves Served = true
serves Busy = false
serves (Failed n) = false

-- A call answers this, by what the endpoint that it asks does.
-- 6: "the endpoint asked is busy". 7: "other endpoint error, its number carried".
abbrev pub answered_by : Endpoint → Answering
answered_by Served = answer 0
answered_by Busy = answer 6
answered_by (Failed n) = failing n

-- This is asked of both endpoints: the first argument says whether to unstall them, and the second whether to stall them after that. In the
-- lines of `bench` the four cases are `-`, `S`, `U` and `US`.
abbrev pub stalls_of : Bool → Bool → Stalls
stalls_of false false = Kept
stalls_of false true = Stalled
stalls_of true false = Unstalled
stalls_of true true = UnstalledStalled

-- Exported calls that were made one after the other, as a history. Assumes nothing: these are definitions.
use Rattle.std.specs.Prelude.{◌≡◌, List, [], ◌∷◌}
use Rattle.answers.specs.declared.Stalls.TheVariants.{Kept}
use Rattle.answers.specs.Answers.{answer}
use Rattle.readout.specs.History.{Socket, Event, mislent, Shows, quietly, Happening, did}
use Rattle.readoutbytes.specs.Calls.{Memory, socket_in, HoldsRecord, Call, Outcome, call_on, event_of, seen}

-- `Made` says of a call, of the memory that it was lent and of an outcome that the call returned and left this. Here it is so by the
-- definitions.
abbrev pub ByBytes : Call → Memory → Outcome → Type 0
ByBytes c m o = o ≡ call_on c m

-- What `Made` says of calls is true.
abbrev pub Truthful : (Call → Memory → Outcome → Type 0) → Type 0
Truthful Made = (c : Call) (m : Memory) (o : Outcome) → Made c m o → ByBytes c m o

-- What the firmware reads of a call that was not lent what it keeps, but something else in its place. The socket that it keeps is `s`, and stays;
-- the result is the answer.
abbrev pub read_beside : Socket → Outcome → Shows
read_beside s o = quietly s (answer o.result) Kept []

-- "the firmware keeps one device record": the log of a history that starts with one memory and ends with another. What happened is what the
-- firmware read.
pub data Log (Made : Call → Memory → Outcome → Type 0) : List Happening → Memory → Memory → Type 0 where
  none : {m : Memory} → Log Made [] m m
  -- A call was lent the memory that the call before left.
  then : {c : Call} {m last : Memory} {o : Outcome} {xs : List Happening} → Made c m o → Log Made xs o.memory last → Log Made (did (event_of c) (seen c o) ∷ xs) m last
  -- A call was lent other bytes as the record, or others as the IO buffer, and they hold no record: a slice of a wrong length, say. The firmware
  -- goes on with what it keeps.
  beside : {c : Call} {m other last : Memory} {o : Outcome} {xs : List Happening} → Made c other o → (HoldsRecord other → ⊥) → Log Made xs m last → Log Made (did mislent (read_beside (socket_in m) o) ∷ xs) m last

-- What a call showed, as an event at a socket: a call was made in a memory that holds this socket, or beside it, and this is what the firmware
-- read of it.
pub data Seen (Made : Call → Memory → Outcome → Type 0) : Event → Socket → Shows → Type 0 where
  saw : {c : Call} {m : Memory} {o : Outcome} → Made c m o → Seen Made (event_of c) (socket_in m) (seen c o)
  saw_beside : {c : Call} {other : Memory} {o : Outcome} {s : Socket} → Made c other o → (HoldsRecord other → ⊥) → Seen Made mislent s (read_beside s o)

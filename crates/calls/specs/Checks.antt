-- What a call takes from the record before it does its work. Assumes nothing: these are definitions.
use Rattle.std.specs.Prelude.{ℕ, Bool, List, eqb}
use Rattle.buffer.specs.Buffer.{Buffer, buffer}
use Rattle.ring.specs.States.{state_number}
use Rattle.device.specs.declared.Device.{Device}

-- The device `d` is in the state with the number `n`.
unfoldable pub is_in : ℕ → Device → Bool
is_in n d = eqb (state_number d.state) n

-- This is the IO buffer `io` with the marks of the record `d`.
abbrev pub buffer_of : Device → List ℕ → Buffer
buffer_of d io = buffer io d.marks

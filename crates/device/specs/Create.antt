-- "Creation checks 2, 5, 8, 9 in that order." Assumes nothing: these are definitions.
use Rattle.std.specs.Prelude.{ℕ, Bool, cond, ◌||◌, eqb, ltb, None, Result, Ok, Err}
use Rattle.buffer.specs.Buffer.{at}
use Rattle.answers.specs.declared.Answer.{Answer}
use Rattle.answers.specs.Answers.{Answering, answer, answer_of}
use Rattle.ring.specs.declared.State.TheVariants.{CommandTransfer}
use Rattle.wrapper.specs.Wrapper.{no_wrapper}
use Rattle.device.specs.declared.Fixed.{Fixed}
use Rattle.device.specs.declared.Device.{Device}

-- `p` is in the domain: "packet size P is 8, 16, 32 or 64".
unfoldable pub is_packet_size : ℕ → Bool
is_packet_size p = eqb p 8 || (eqb p 16 || (eqb p 32 || eqb p 64))

-- Creation is given the packet size `p`, the max LUN `maxlun` and the length `size` of the IO buffer. It fixes them: they never change.
abbrev pub fixed : ℕ → ℕ → ℕ → Fixed
fixed p maxlun size = record { packetsize = p; maxlun = maxlun; size = size }

-- Creation with the numbers `f` gives this answer: 2 "max LUN above 15", 5 "buffer below 31 or below P", 8 "P not in the domain", 9
-- "buffer above 65,536", and otherwise 0.
unfoldable pub creation_checks : Fixed → ℕ
creation_checks f =
    cond (ltb 15 f.maxlun) 2
    (cond (ltb f.size 31 || ltb f.size f.packetsize) 5
    (cond (is_packet_size f.packetsize) (cond (ltb 65536 f.size) 9 0) 8))

-- A new device with the numbers `f` waits for a wrapper. Until the first one comes, tag, L, LUN and block are 0, and nothing is put in.
abbrev pub new_device : Fixed → Device
new_device f = record { fixed = f; state = CommandTransfer; marks = at 0 0; wrapper = no_wrapper; status = None; left = record { 0 = 0 }; putin = record { 0 = 0 } }

-- "no device" is a record in which every number is 0.
abbrev pub no_device : Device
no_device = new_device (fixed 0 0 0)

-- Creation gives an answer, and a device if the answer is 0.
pub record Creation : Type 0 where
  pub answer : Answering
  pub device : Device

-- This reads what the code returned as such a record: a device `d`, or the answer `why` it is refused.
abbrev pub creation_of : Result Device Answer → Creation
creation_of (Ok d) = record { answer = answer 0; device = d }
creation_of (Err why) = record { answer = answer_of why; device = no_device }

-- This is creation with any numbers `f`.
unfoldable pub create_call : Fixed → Creation
create_call f = record { answer = answer (creation_checks f); device = cond (eqb (creation_checks f) 0) (new_device f) no_device }

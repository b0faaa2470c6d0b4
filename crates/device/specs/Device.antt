-- The device record: what it holds, and each change of it that a rule makes. Assumes nothing: these are definitions.
use Rattle.std.specs.Prelude.{Bool, ℕ, is_some, Option, None}
use Rattle.buffer.specs.declared.Marks.{Marks}
use Rattle.ring.specs.declared.State.{State}
use Rattle.ring.specs.declared.State.TheVariants.{CommandTransfer}
use Rattle.wrapper.specs.declared.Wrapper.{Wrapper}
use Rattle.wrapper.specs.declared.counters.Left.{Left}
use Rattle.wrapper.specs.declared.counters.PutIn.{PutIn}
use Rattle.wrapper.specs.Counters.{risen}
use Rattle.wrapper.specs.declared.counters.Residue.{Residue}
use Rattle.wrapper.specs.declared.status.CommandStatus.{CommandStatus}
use Rattle.device.specs.declared.Told.{Told}
use Rattle.device.specs.declared.Device.{Device}
use Rattle.device.specs.declared.Numbers.{Numbers}

-- This says whether a status is present.
abbrev pub is_present : Option Told → Bool
is_present status = is_some status

-- The host is told this `status` and this `residue`.
abbrev pub told : CommandStatus → Residue → Told
told status residue = record { status = status; residue = residue }

-- These are the numbers of the record `d` that decide whether it is broken and what a poll does.
abbrev pub numbers_of : Device → Numbers
numbers_of d = record { fixed = d.fixed; state = d.state; marks = d.marks; tag = d.wrapper.tag; lun = d.wrapper.lun; blocklength = d.wrapper.blocklength; status = d.status; left = d.left }

-- The record `d` gets these parts. What creation fixed and the count of what was put in stay. Every change of a record is one of these, or
-- one of that count.
abbrev pub rebuilt : Device → State → Marks → Wrapper → Option Told → Left → Device
rebuilt d state marks wrapper status left = record { fixed = d.fixed; state = state; marks = marks; wrapper = wrapper; status = status; left = left; putin = d.putin }

-- The record `d` gets the state `s`.
abbrev pub in_state : State → Device → Device
in_state s d = rebuilt d s d.marks d.wrapper d.status d.left

-- The record `d` gets the marks `m`.
abbrev pub with_marks : Marks → Device → Device
with_marks m d = rebuilt d d.state m d.wrapper d.status d.left

-- The record `d` gets the wrapper `w`.
abbrev pub with_wrapper : Wrapper → Device → Device
with_wrapper w d = rebuilt d d.state d.marks w d.status d.left

-- The record `d` gets the status `s`.
abbrev pub with_status : Option Told → Device → Device
with_status s d = rebuilt d d.state d.marks d.wrapper s d.left

-- In the record `d`, left becomes `l`.
abbrev pub with_left : Left → Device → Device
with_left l d = rebuilt d d.state d.marks d.wrapper d.status l

-- In the record `d`, the count of what was put in becomes `c`.
abbrev pub with_put_in : PutIn → Device → Device
with_put_in c d = record { fixed = d.fixed; state = d.state; marks = d.marks; wrapper = d.wrapper; status = d.status; left = d.left; putin = c }

-- In the record `d`, what was put in is counted from 0 on. 02, request 7: "starting at 0 whenever a wrapper is parsed or state 0 is
-- entered".
abbrev pub counted_anew : Device → Device
counted_anew d = with_put_in (record { 0 = 0 }) d

-- In the record `d`, `accepted` more bytes count as put in. 02, request 7: "The device record shall count the bytes accepted by both write
-- calls since the wrapper".
abbrev pub putting_in : ℕ → Device → Device
putting_in accepted d = with_put_in (risen d.putin accepted) d

-- The record `d` enters 0. "Entering 0 clears status and left .. it does not empty the buffer." What was put in is counted anew.
abbrev pub entering0 : Device → Device
entering0 d = counted_anew (in_state CommandTransfer (with_status None (with_left (record { 0 = 0 }) d)))

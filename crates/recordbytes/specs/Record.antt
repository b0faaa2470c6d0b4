-- What bytes hold, and what storing a device leaves of them. In all of them `r` is the bytes, and crates/recordbytes/specs/Layout.antt
-- has the fields. Assumes nothing: these are definitions.
use Rattle.std.specs.Prelude.{ℕ, Bool, cond, ◌&&◌, List, eqb, leb, length, replicate, Option, None, Some}
use Rattle.fields.specs.Field.{Field, bytes_at, get, put}
use Rattle.fields.specs.Overlay.{overlay}
use Rattle.buffer.specs.declared.Marks.{Marks}
use Rattle.buffer.specs.Buffer.{at}
use Rattle.ring.specs.declared.State.{State}
use Rattle.ring.specs.States.{state_number, state_of_number}
use Rattle.wrapper.specs.declared.Wrapper.{Wrapper}
use Rattle.wrapper.specs.declared.counters.Left.{Left}
use Rattle.wrapper.specs.declared.counters.PutIn.{PutIn}
use Rattle.wrapper.specs.Status.{status_number, status_of_number}
use Rattle.wrapper.specs.Wrapper.{direction_number, direction_of_number}
use Rattle.device.specs.Device.{told}
use Rattle.device.specs.declared.Fixed.{Fixed}
use Rattle.device.specs.declared.Device.{Device}
use Rattle.device.specs.declared.Told.{Told}
use Rattle.recordbytes.specs.Layout as field

-- ---- reading

-- The bytes are a record: there are 56, and none of them is "a number for no state, status or flag". The direction, a number of our own,
-- must be known too. 01's other rules on broken records are tested on what the bytes hold.
unfoldable pub is_known : List ℕ → Bool
is_known r =
    eqb (length r) field.record_size
    && (leb (get field.state r) 8
    && (leb (get field.present r) 1
    && (leb (get field.status r) 2
    && leb (get field.direction r) 2)))

-- This status is stored as a `flag`, a status `byte` and a `residue`. If the flag is 0 there is none.
unfoldable pub status_by : ℕ → ℕ → ℕ → Option Told
status_by flag byte residue = cond (eqb flag 0) None (Some (told (status_of_number byte) (record { 0 = residue })))

-- This is the status that the bytes hold.
unfoldable pub status_at : List ℕ → Option Told
status_at r = status_by (get field.present r) (get field.status r) (get field.residue r)

-- These are the marks that the bytes hold.
unfoldable pub marks_at : List ℕ → Marks
marks_at r = at (get field.read_mark r) (get field.write_mark r)

-- This is the wrapper that the bytes hold.
unfoldable pub wrapper_at : List ℕ → Wrapper
wrapper_at r = record {
  tag = get field.tag r;
  length = get field.declared r;
  direction = direction_of_number (get field.direction r);
  lun = get field.lun r;
  blocklength = get field.block_length r;
  block = bytes_at field.block r;
}

-- These are the numbers that creation fixed: packet size, max LUN, and the length of the IO buffer.
unfoldable pub fixed_at : List ℕ → Fixed
fixed_at r = record { packetsize = get field.packet_size r; maxlun = get field.max_lun r; size = get field.size r }

-- This is the device that the bytes hold.
unfoldable pub device_at : List ℕ → Device
device_at r = record {
  fixed = fixed_at r;
  state = state_of_number (get field.state r);
  marks = marks_at r;
  wrapper = wrapper_at r;
  status = status_at r;
  left = record { 0 = get field.left r };
  putin = record { 0 = get field.put_in r };
}

-- ---- storing

-- The number `n` is stored in the field `f`. If the field holds it already, all bytes stay.
unfoldable pub store : Field → ℕ → List ℕ → List ℕ
store f n r = cond (eqb (get f r) n) r (put f n r)

-- The state `s` is stored by 01's number.
unfoldable pub store_state : State → List ℕ → List ℕ
store_state s r = store field.state (state_number s) r

-- The marks `m` are stored.
unfoldable pub store_marks : Marks → List ℕ → List ℕ
store_marks m r = store field.write_mark m.write (store field.read_mark m.read r)

-- The count left, `l`, is stored.
unfoldable pub store_left : Left → List ℕ → List ℕ
store_left l r = store field.left l.0 r

-- The count of what was put in, `c`, is stored.
unfoldable pub store_put_in : PutIn → List ℕ → List ℕ
store_put_in c r = store field.put_in c.0 r

-- A status is stored. If there is none, only the flag is written: residue and status byte keep what they had.
abbrev pub store_status : Option Told → List ℕ → List ℕ
store_status None r = store field.present 0 r
store_status (Some t) r = store field.status (status_number t.status) (store field.residue t.residue.0 (store field.present 1 r))

-- The wrapper `w` is stored; its command block is written whether it changed or not.
unfoldable pub store_wrapper : Wrapper → List ℕ → List ℕ
store_wrapper w r =
    overlay
    (store field.declared w.length
    (store field.tag w.tag
    (store field.block_length w.blocklength
    (store field.lun w.lun
    (store field.direction (direction_number w.direction) r)))))
    (field.block).start w.block

-- A call that leaves the device `d` leaves these bytes of the record. What creation fixed is never written again.
unfoldable pub store_device : Device → List ℕ → List ℕ
store_device d r = store_left d.left (store_marks d.marks (store_state d.state (store_status d.status (store_wrapper d.wrapper (store_put_in d.putin r)))))

-- These are the bytes of a new device: all are 0 except those of what creation fixed, `f`.
unfoldable pub new_record : Fixed → List ℕ
new_record f = store field.size f.size (store field.max_lun f.maxlun (store field.packet_size f.packetsize (replicate field.record_size 0)))

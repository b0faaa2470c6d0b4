-- The polls of which a read-out is made: the next packet of data crosses the wire, or the status goes out, and nothing else happens. Only
-- inner contracts cite these definitions. proofs/Going.antt and proofs/Entering.antt prove that such polls follow 01's rules of states 4 to
-- 8. Assumes nothing: these are definitions.
use Rattle.std.specs.Prelude.{◌≡◌, Option, Some, None, Bool, true, false, cond, ◌&&◌, ◌||◌, List, ℕ, ◌+◌, ◌-◌, ◌≤◌, eqb, length}
use Rattle.fields.specs.Field.{get}
use Rattle.fields.specs.Overlay.{overlay}
use Rattle.buffer.specs.Buffer.{Buffer, buffer, at, ready, ready_bytes, read_off}
use Rattle.ring.specs.declared.State.TheVariants.{DataTransferToHostEnding, StatusTransfer}
use Rattle.ring.specs.States.{state_number}
use Rattle.wrapper.specs.Counters.{fallen}
use Rattle.wrapper.specs.Status.{status_number, status_of_number}
use Rattle.packets.specs.Packets.{status_written}
use Rattle.device.specs.declared.Numbers.{Numbers}
use Rattle.device.specs.Create.{is_packet_size, creation_checks}
use Rattle.device.specs.Device.{is_present, numbers_of}
use Rattle.device.specs.Broken.{Whole}
use Rattle.bbb.specs.Poll.{is_fitting}
use Rattle.recordbytes.specs.Layout as field
use Rattle.recordbytes.specs.Record.{is_known, fixed_at, device_at, store_state, store_marks, store_left}
use Rattle.border.specs.Word.{word}
use Rattle.onward.specs.declared.Lengths.{Lengths}

-- ---- which polls are of this kind: what the tests of the code tell where they hold; where they fail, the whole ring is asked

-- What 01's rules on broken records, and our own rule on the direction, ask of those numbers in the record `r` that no poll of this kind
-- changes. That P is a packet size is a premise here: a packet of data is copied by its size, and only the copy tells. `len` is the length
-- of the lent IO buffer.
pub record Steady (r : List ℕ) (len : ℕ) : Type 0 where
  pub lent : get field.size r ≡ len
  pub small : len ≤ 65536
  pub created : is_packet_size (get field.packet_size r) ≡ true → creation_checks (fixed_at r) ≡ 0
  pub status : get field.status r ≤ 2
  pub direction : get field.direction r ≤ 2
  pub lun : get field.lun r ≤ 15
  pub block : get field.block_length r ≤ 16

-- A poll is refused neither with 10 nor with 11: the bytes `r` hold a whole record, and what was offered fits. `l` has the lengths
-- of what the poll is lent.
pub record Ready (r : List ℕ) (l : Lengths) : Type 0 where
  pub known : is_known r ≡ true
  pub whole : Whole (numbers_of (device_at r)) l.io
  pub fits : is_fitting (numbers_of (device_at r)).fixed.packetsize l.packet l.one l.two ≡ true

-- Whether a poll in the state with the number `state` sends data; `present` says whether a status is present. It does in 4: without a
-- status it stays there, and with one it goes to 6. It does in 6; a record in 6 without a status is broken.
unfoldable pub sends_in : ℕ → Bool → Bool
sends_in state present = eqb state 4 || (eqb state 6 && present)

-- A poll of a record with the numbers `n` sends a whole packet of data: the state is one in which data goes out, IN answers 0 (`write`),
-- and at least P bytes are left and unread.
pub record Sending (n : Numbers) (write : ℕ) : Type 0 where
  pub state : sends_in (state_number n.state) (is_present n.status) ≡ true
  pub served : write ≡ 0
  pub left : n.fixed.packetsize ≤ n.left.0
  pub unread : n.fixed.packetsize ≤ n.marks.write - n.marks.read

-- A packet of P bytes can be copied out, whatever number P is: P bytes are unread in an IO buffer of `len` bytes, and go into a packet
-- buffer of `packet` bytes.
pub record CanSend (n : Numbers) (len packet : ℕ) : Type 0 where
  pub small : len ≤ 65536
  pub within : n.marks.write ≤ len
  pub unread : n.marks.read + n.fixed.packetsize ≤ n.marks.write
  pub into : n.fixed.packetsize ≤ packet

-- A poll of the record `r` sends a whole packet of data, and it is not refused if P is a packet size. `write` is IN's answer; `l` has the
-- lengths of what the poll is lent.
pub record MaySend (r : List ℕ) (l : Lengths) (write : ℕ) : Type 0 where
  pub ready : is_packet_size (get field.packet_size r) ≡ true → Ready r l
  pub sends : Sending (numbers_of (device_at r)) write
  pub can : CanSend (numbers_of (device_at r)) l.io l.packet

-- A poll of a record with the numbers `n` takes a whole packet of data: the state is 7, no status is present, the first OUT read answers 0
-- (`first`), at least P bytes are left, `one`, the length of the packet, is P, and after the write mark the IO buffer of `len` bytes has
-- room for it.
pub record Taking (n : Numbers) (len one first : ℕ) : Type 0 where
  pub state : state_number n.state ≡ 7
  pub absent : is_present n.status ≡ false
  pub served : first ≡ 0
  pub left : n.fixed.packetsize ≤ n.left.0
  pub whole : one ≡ n.fixed.packetsize
  pub room : n.fixed.packetsize ≤ len - n.marks.write

-- A packet of P bytes can be copied in, whatever number P is: `one` bytes were offered, and after the write mark there is room for P of
-- the `len` bytes of the IO buffer.
pub record CanTake (n : Numbers) (len one : ℕ) : Type 0 where
  pub small : len ≤ 65536
  pub room : n.marks.write + n.fixed.packetsize ≤ len
  pub whole : one ≡ n.fixed.packetsize

-- A poll of the record `r` takes a whole packet of data, and it is not refused if P is a packet size. `first` is the answer of the first
-- OUT read; `l` has the lengths of what the poll is lent.
pub record MayTake (r : List ℕ) (l : Lengths) (first : ℕ) : Type 0 where
  pub ready : is_packet_size (get field.packet_size r) ≡ true → Ready r l
  pub takes : Taking (numbers_of (device_at r)) l.io l.one first
  pub can : CanTake (numbers_of (device_at r)) l.io l.one

-- A poll of a record with the numbers `n` enters 3: the state is 4 to 8, a status is present, nothing is left, and IN answers 0 (`write`).
pub record Ending (n : Numbers) (write : ℕ) : Type 0 where
  pub state : 4 ≤ state_number n.state
  pub present : is_present n.status ≡ true
  pub left : n.left.0 ≡ 0
  pub served : write ≡ 0

-- A poll of the record `r` is not refused, and enters 3. `write` is IN's answer; `l` has the lengths of what the poll is lent.
pub record MayEnd (r : List ℕ) (l : Lengths) (write : ℕ) : Type 0 where
  pub ready : Ready r l
  pub ends : Ending (numbers_of (device_at r)) write
  pub small : l.io ≤ 65536

-- ---- what they leave

-- The IO buffer `io`, with the marks of the numbers `n`.
abbrev pub buffer_of_numbers : Numbers → List ℕ → Buffer
buffer_of_numbers n io = buffer io n.marks

-- What a poll that sends a packet leaves. `n` are the numbers in the record `r`, `io` is the IO buffer, `p` is the packet buffer. The
-- poll returns `result`, and leaves the record `r'` and the packet buffer `p'`. With a status present it reaches 6.
pub record SendsOn (n : Numbers) (io r p : List ℕ) (result : Option ℕ) (r' p' : List ℕ) : Type 0 where
  pub answer : result ≡ Some (word 0 0 0 0 (ready n.fixed.packetsize (buffer_of_numbers n io)))
  pub bytes : r' ≡ store_left (fallen n.left (ready n.fixed.packetsize (buffer_of_numbers n io))) (store_marks (read_off n.fixed.packetsize (buffer_of_numbers n io)).marks (cond (is_present n.status) (store_state DataTransferToHostEnding r) r))
  pub packet : p' ≡ overlay p 0 (ready_bytes n.fixed.packetsize (buffer_of_numbers n io))

-- What a poll that takes the packet `one` leaves. `n` are the numbers in the record `r`, `b` is the IO buffer. The poll returns `result`,
-- and leaves the record `r'` and the IO buffer `b'`.
pub record TakesOn (n : Numbers) (b r one : List ℕ) (result : Option ℕ) (r' b' : List ℕ) : Type 0 where
  pub answer : result ≡ Some (word 0 0 0 1 0)
  pub bytes : r' ≡ store_left (fallen n.left (length one)) (store_marks (at n.marks.read (n.marks.write + length one)) r)
  pub io : b' ≡ overlay b n.marks.write one

-- Nothing was done: there is no result, and the record `r` and the buffer `b` are as they were.
pub record Stays (result : Option ℕ) (r r' b b' : List ℕ) : Type 0 where
  pub answer : result ≡ None
  pub bytes : r' ≡ r
  pub buffer : b' ≡ b

-- A packet is sent if P is a packet size, and nothing is done otherwise.
pub record SendsOrStays (n : Numbers) (io r p : List ℕ) (result : Option ℕ) (r' p' : List ℕ) : Type 0 where
  pub sends : is_packet_size n.fixed.packetsize ≡ true → SendsOn n io r p result r' p'
  pub stays : is_packet_size n.fixed.packetsize ≡ false → Stays result r r' p p'

-- A packet is taken if P is a packet size, and nothing is done otherwise.
pub record TakesOrStays (n : Numbers) (b r one : List ℕ) (result : Option ℕ) (r' b' : List ℕ) : Type 0 where
  pub takes : is_packet_size n.fixed.packetsize ≡ true → TakesOn n b r one result r' b'
  pub stays : is_packet_size n.fixed.packetsize ≡ false → Stays result r r' b b'

-- The IO buffer `io`, emptied, with the status of the record `r` in it.
abbrev pub status_in : List ℕ → List ℕ → Buffer
status_in r io = status_written (get field.tag r) (record { 0 = get field.residue r }) (status_number (status_of_number (get field.status r))) (buffer io (at 0 0))

-- What a poll that enters 3 leaves. `r` is the record, `b` is the IO buffer, `p` is the packet buffer. The poll returns `result`, and
-- leaves `r'`, `b'` and `p'`.
pub record EndsOn (r b p : List ℕ) (result : ℕ) (r' b' p' : List ℕ) : Type 0 where
  pub answer : result ≡ word 0 0 0 0 (ready (get field.packet_size r) (status_in r b))
  pub bytes : r' ≡ store_marks (read_off (get field.packet_size r) (status_in r b)).marks (store_state StatusTransfer r)
  pub io : b' ≡ (status_in r b).bytes
  pub packet : p' ≡ overlay p 0 (ready_bytes (get field.packet_size r) (status_in r b))

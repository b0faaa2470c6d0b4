-- A command's transfer, from its parsed wrapper to its last status byte.
--     Transfer    the invariant: what the host got and the firmware put in so far, compared with the record and the unread bytes
--     due         the number that falls by one at each served poll, once a status is set
-- Assumes nothing.
use mathlib.Core.Path.{◌≡◌}
use mathlib.Core.List.{List, [], ◌++◌}
use Prim.Native.Nat.{ℕ, ◌+◌, ◌≤◌}
use lib.ListN.{length}
use Rattle.std.specs.Prelude.{Option, Some}
use Rattle.buffer.specs.Buffer.{unread_bytes}
use Rattle.ring.specs.declared.State.{State}
use Rattle.ring.specs.declared.State.TheVariants.{CommandTransfer, CommandTransferInvalid, DataTransferNoData, StatusTransfer, DataTransferToHost, DataTransferToHostStatusAwait, DataTransferToHostEnding, DataTransferFromHost, DataTransferFromHostEnding}
use Rattle.wrapper.specs.declared.DataDirection.TheVariants.{Out, In}
use Rattle.wrapper.specs.declared.Wrapper.{Wrapper}
use Rattle.wrapper.specs.Status.{status_number, status_bytes}
use Rattle.device.specs.declared.Told.{Told}
use Rattle.device.specs.Device.{numbers_of}
use Rattle.device.specs.Broken.{Whole}
use Rattle.calls.specs.Checks.{buffer_of}
use Rattle.readout.specs.History.{Socket}
use Rattle.readout.specs.Demand.{ceiling, filled_to, data_of}

-- The host got `got`, and the firmware put in `put`. The device is in `state`, with `left` bytes left and the bytes `unread` unread. Then
-- this holds, state by state:
pub data Phase (w : Wrapper) (got put : List ℕ) (state : State) (status : Option Told) (left : ℕ) (unread : List ℕ) : Type 0 where
  -- 4: `got` and `unread` are together what was put in, and the bytes got and those left are L in number.
  to_host : state ≡ DataTransferToHost → w.direction ≡ In → got ++ unread ≡ put → left + length got ≡ w.length → Phase w got put state status left unread
  -- 5: the host got all its data.
  waiting : state ≡ DataTransferToHostStatusAwait → left ≡ 0 → got ≡ data_of w.direction w.length put → Phase w got put state status left unread
  -- 6: `got`, `unread` and then 0xFF, up to what is left, are together all the data.
  to_host_ending : state ≡ DataTransferToHostEnding → w.direction ≡ In → got ++ filled_to left unread ≡ filled_to w.length put → length unread ≤ left → Phase w got put state status left unread
  -- 7 and 8: the host gets no data.
  from_host : state ≡ DataTransferFromHost → w.direction ≡ Out → got ≡ [] → Phase w got put state status left unread
  from_host_ending : state ≡ DataTransferFromHostEnding → w.direction ≡ Out → got ≡ [] → Phase w got put state status left unread
  -- 3: `got` and `unread` are together the data and the status.
  sending : (t : Told) → state ≡ StatusTransfer → status ≡ Some t → got ++ unread ≡ data_of w.direction w.length put ++ status_bytes w.tag t.residue (status_number t.status)
      → Phase w got put state status left unread

-- The unread bytes of the socket `s`.
abbrev pub unread_in : Socket → List ℕ
unread_in s = unread_bytes (buffer_of s.device s.io)

-- The invariant: the record of the socket `s` is whole and has the packet size `p` and the wrapper `w`, and the phase is as above.
pub record Transfer (w : Wrapper) (p : ℕ) (got put : List ℕ) (s : Socket) : Type 0 where
  pub whole : Whole (numbers_of s.device) (length s.io)
  pub packetsize : s.device.fixed.packetsize ≡ p
  pub wrapper : s.device.wrapper ≡ w
  pub phase : Phase w got put s.device.state s.device.status s.device.left.0 (unread_in s)

-- The served polls that are still to come: in 3 they are for the status bytes that are unread; in other states they are for what is left,
-- and for the status.
abbrev pub due_in : State → ℕ → ℕ → ℕ → ℕ
due_in CommandTransfer p left unread = ceiling left p + ceiling 13 p
due_in CommandTransferInvalid p left unread = ceiling left p + ceiling 13 p
due_in DataTransferNoData p left unread = ceiling left p + ceiling 13 p
due_in StatusTransfer p left unread = ceiling unread p
due_in DataTransferToHost p left unread = ceiling left p + ceiling 13 p
due_in DataTransferToHostStatusAwait p left unread = ceiling left p + ceiling 13 p
due_in DataTransferToHostEnding p left unread = ceiling left p + ceiling 13 p
due_in DataTransferFromHost p left unread = ceiling left p + ceiling 13 p
due_in DataTransferFromHostEnding p left unread = ceiling left p + ceiling 13 p

abbrev pub due : Socket → ℕ
due s = due_in s.device.state s.device.fixed.packetsize s.device.left.0 (length (unread_in s))

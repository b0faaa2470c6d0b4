-- What the number of missing bytes is good for (document 02, request 5): how a poll answers that is made again when there is more room.
-- Assumes nothing: these are definitions.
use Rattle.std.specs.Prelude.{◌≡◌, true, false, List, ℕ, ◌+◌, ◌-◌, ◌≤◌, ◌<◌, length}
use Rattle.buffer.specs.Buffer.{buffer, room_in_all}
use Rattle.answers.specs.Answers.{lacking, again, endpoint_of, serves, answered_by}
use Rattle.ring.specs.declared.State.TheVariants.{CommandTransfer, DataTransferFromHost}
use Rattle.device.specs.declared.Device.{Device}
use Rattle.device.specs.Device.{numbers_of, is_present}
use Rattle.device.specs.Broken.{Whole}
use Rattle.bbb.specs.Poll.{Given, Polling, Fits, poll_call}

-- Some time after the poll `o` a poll is made of the device `d` over the IO buffer `io`, given `g`. It is not refused with 10 or 11, P is
-- the same, and there is room for `k` bytes more than `o` left: that many were read out, or the buffer is that much longer.
pub record Roomier (o : Polling) (k : ℕ) (d : Device) (io : List ℕ) (g : Given) : Type 0 where
  pub whole : Whole (numbers_of d) (length io)
  pub fits : Fits d.fixed.packetsize g.packet g.one g.two
  pub same : d.fixed.packetsize ≡ o.device.fixed.packetsize
  pub room : room_in_all (buffer io d.marks) ≡ room_in_all (buffer o.io o.device.marks) + k

-- The device `d` is where a poll reads a packet of data: "7: left 0 goes to 5; status present goes to 8; otherwise read a packet."
pub record AwaitsData (d : Device) : Type 0 where
  pub state : d.state ≡ DataTransferFromHost
  pub some : d.left.0 ≡ 0 → ⊥
  pub absent : is_present d.status ≡ false

-- A poll of the device `d` over the IO buffer `io`, given `g`, is made again, where `m` bytes were missing for a packet, and there is room
-- for `k` bytes more. In 7, with enough room, it answers what OUT says. In 0 a poll that takes its packet may go on, and then lack room for a
-- second one; so there it is only said that the packet is taken.
pub record PollsAgain (m k : ℕ) (d : Device) (io : List ℕ) (g : Given) : Type 0 where
  pub answers : AwaitsData d → (poll_call d io g).answer ≡ again m k (answered_by (endpoint_of g.turn.first))
  pub short : d.state ≡ CommandTransfer → k < m → (poll_call d io g).answer ≡ lacking (m - k)
  pub taken : d.state ≡ CommandTransfer → m ≤ k → serves (endpoint_of g.turn.first) ≡ true → 1 ≤ (poll_call d io g).taken

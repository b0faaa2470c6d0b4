-- The exported calls as firmware makes them: what it keeps and lends, what each call returns and leaves, and what the firmware reads of that.
-- What a call does is taken from the definition that its contract cites. Assumes nothing: these are definitions.
use Rattle.std.specs.Prelude.{◌≡◌, Bool, true, false, cond, ◌&&◌, List, [], ◌∷◌, ℕ, eqb, leb, length, take}
use Rattle.answers.specs.declared.Stalls.TheVariants.{Kept}
use Rattle.answers.specs.Answers.{Answering, answer}
use Rattle.scsi.specs.Decoding.{plain_is_extended}
use Rattle.device.specs.declared.Device.{Device}
use Rattle.device.specs.Create.{no_device}
use Rattle.device.specs.Device.{numbers_of}
use Rattle.device.specs.Broken.{Whole}
use Rattle.bbb.specs.Poll.{Given}
use Rattle.calls.specs.declared.FirmwareStatus.{FirmwareStatus}
use Rattle.calls.specs.declared.Request.{Request}
use Rattle.recordbytes.specs.Record.{is_known, device_at}
use Rattle.border.specs.Record.{on_device}
use Rattle.border.specs.Word.{Reading, reading_of}
use Rattle.ringbytes.specs.Poll.{PollOutcome, poll_on}
use Rattle.databytes.specs.Data.{DataOutcome, read_data_on, write_data_on, write_data_all_on}
use Rattle.callbytes.specs.Calls.{CallOutcome, set_status_on, reset_on, control_on}
use Rattle.commandbytes.specs.Command.{CommandOutcome, command_on, command_step_on, command_step_told_on}
use Rattle.readout.specs.History.{Socket, socket, Event, poll, status, write, write_all, read, reset, control, command, command_step, mislent, Shows, quietly}

-- ---- what the firmware keeps

-- What the firmware keeps from call to call: the record's bytes and the IO buffer. They may be any bytes, and of any number.
pub record Memory : Type 0 where
  pub bytes : List ℕ
  pub io : List ℕ

abbrev pub memory : List ℕ → List ℕ → Memory
memory bytes io = record { bytes = bytes; io = io }

-- The socket that is kept in the memory `m`: the device that the record's bytes hold, with the IO buffer. Bytes that are no record hold no
-- device; as `no_device` is broken, they count as a broken record.
abbrev pub socket_in : Memory → Socket
socket_in m = socket (on_device m.bytes no_device (λ (d : Device). d)) m.io

-- The memory `m` holds a record that is not broken.
pub record HoldsRecord (m : Memory) : Type 0 where
  pub known : is_known m.bytes ≡ true
  pub whole : Whole (numbers_of (device_at m.bytes)) (length m.io)

-- ---- the calls

-- The exported calls that are lent the record and the IO buffer, with all else that each is lent.
pub data Call : Type 0 where
  -- A poll is given the answers of the endpoints, the packets offered and its packet buffer.
  souk_poll : Given → Call
  souk_set_status : FirmwareStatus → Call
  -- These are lent their source; `souk_read_data` is lent its destination.
  souk_write_data : List ℕ → Call
  souk_try_write_data_all : List ℕ → Call
  souk_read_data : List ℕ → Call
  souk_reset : Call
  souk_control : Request → Call
  -- The place for the command: bytes for its block, or numbers; they may be any number of them. The step that is told is given a number for
  -- its flag.
  souk_command : List ℕ → Call
  souk_command_step : List ℕ → Call
  souk_command_step_told : ℕ → List ℕ → Call

-- What a call is lent, beside record and IO buffer, that it may write to: the packet buffer of a poll, the destination of a read, the place for
-- the command.
abbrev pub lent_to : Call → List ℕ
lent_to (souk_poll g) = g.packet
lent_to (souk_set_status f) = []
lent_to (souk_write_data src) = []
lent_to (souk_try_write_data_all src) = []
lent_to (souk_read_data dst) = dst
lent_to souk_reset = []
lent_to (souk_control q) = []
lent_to (souk_command block) = block
lent_to (souk_command_step numbers) = numbers
lent_to (souk_command_step_told extended numbers) = numbers

-- What a call returns and leaves: its `result`; the `memory`; and `lent`, what else it may write to, as it leaves it.
pub record Outcome : Type 0 where
  pub result : ℕ
  pub memory : Memory
  pub lent : List ℕ

abbrev pub outcome : ℕ → Memory → List ℕ → Outcome
outcome result m lent = record { result = result; memory = m; lent = lent }

-- The same, of what the contract of each call speaks of. `io` is the IO buffer of a call that does not write to it, and `m` is the memory of
-- a call that writes to neither.
abbrev pub of_polled : PollOutcome → Outcome
of_polled o = outcome o.result (memory o.bytes o.io) o.packet

abbrev pub of_called : List ℕ → CallOutcome → Outcome
of_called io o = outcome o.result (memory o.bytes io) []

abbrev pub of_written : DataOutcome → Outcome
of_written o = outcome o.result (memory o.bytes o.into) []

abbrev pub of_read_off : List ℕ → DataOutcome → Outcome
of_read_off io o = outcome o.result (memory o.bytes io) o.into

abbrev pub of_looked : Memory → CommandOutcome → Outcome
of_looked m o = outcome o.result m o.lent

-- What a call returns and leaves that is lent the memory `m`.
unfoldable pub call_on : Call → Memory → Outcome
call_on (souk_poll g) m = of_polled (poll_on m.bytes m.io g)
call_on (souk_set_status f) m = of_called m.io (set_status_on m.bytes m.io f)
call_on (souk_write_data src) m = of_written (write_data_on m.bytes m.io src)
call_on (souk_try_write_data_all src) m = of_written (write_data_all_on m.bytes m.io src)
call_on (souk_read_data dst) m = of_read_off m.io (read_data_on m.bytes m.io dst)
call_on souk_reset m = of_called m.io (reset_on m.bytes m.io)
call_on (souk_control q) m = of_called m.io (control_on m.bytes m.io q)
call_on (souk_command block) m = of_looked m (command_on m.bytes m.io block)
call_on (souk_command_step numbers) m = of_looked m (command_step_on m.bytes m.io numbers)
call_on (souk_command_step_told extended numbers) m = of_looked m (command_step_told_on extended m.bytes m.io numbers)

-- The event that a call is. A call that is lent a place of a wrong length for the command, or a number for no flag, is refused before it looks
-- at the record.
abbrev pub event_of : Call → Event
event_of (souk_poll g) = poll g
event_of (souk_set_status f) = status f
event_of (souk_write_data src) = write src
event_of (souk_try_write_data_all src) = write_all src
event_of (souk_read_data dst) = read dst
event_of souk_reset = reset
event_of (souk_control q) = control q
event_of (souk_command block) = cond (eqb (length block) 16) command mislent
event_of (souk_command_step numbers) = cond (eqb (length numbers) 6) (command_step plain_is_extended) mislent
event_of (souk_command_step_told extended numbers) = cond (leb extended 1 && eqb (length numbers) 6) (command_step (eqb extended 1)) mislent

-- Whether a call is refused before it looks at the record.
abbrev pub is_mislent : Event → Bool
is_mislent (poll g) = false
is_mislent (status f) = false
is_mislent (write src) = false
is_mislent (write_all src) = false
is_mislent (read dst) = false
is_mislent reset = false
is_mislent (control q) = false
is_mislent command = false
is_mislent (command_step extended) = false
is_mislent mislent = true

-- ---- what the firmware reads

-- The answer, with the number carried and the bytes missing.
abbrev pub answer_read : Reading → Answering
answer_read r = record { number = r.number; carried = r.carried; missing = r.missing }

-- What the firmware reads of a poll that was given `g`, off its result `r` and the outcome `o`. The result says how many of the packets
-- offered were taken, and how many bytes in front of the packet buffer were sent.
abbrev pub read_of_poll : Given → Reading → Outcome → Shows
read_of_poll g r o = record {
  socket = socket_in o.memory;
  answer = answer_read r;
  stalls = r.stalls;
  taken = take r.flag (g.one ∷ g.two ∷ []);
  sent = take r.count o.lent;
  put = [];
  delivered = [];
}

-- The same of a write of the source `src`: the result says how many of its bytes were put in.
abbrev pub read_of_write : List ℕ → Reading → Outcome → Shows
read_of_write src r o = record { socket = socket_in o.memory; answer = answer_read r; stalls = Kept; taken = []; sent = []; put = take r.count src; delivered = [] }

-- The same of a read: the result says how many bytes in front of the destination were read.
abbrev pub read_of_read : Reading → Outcome → Shows
read_of_read r o = quietly (socket_in o.memory) (answer_read r) Kept (take r.count o.lent)

-- The same of a status, whose result is the number of the answer.
abbrev pub read_of_status : Outcome → Shows
read_of_status o = quietly (socket_in o.memory) (answer o.result) Kept []

-- The same of a reset or a control request: the flag says whether a byte is answered, and the count is that byte.
abbrev pub read_of_bus : Reading → Outcome → Shows
read_of_bus r o = quietly (socket_in o.memory) (answer r.number) r.stalls (cond (eqb r.flag 1) (r.count ∷ []) [])

-- The same where the command is shown: the flag says whether one is. The result has its LUN and the length of its block.
abbrev pub read_of_command : Reading → Outcome → Shows
read_of_command r o = quietly (socket_in o.memory) (answer r.number) Kept (cond (eqb r.flag 1) (r.carried ∷ r.count ∷ o.lent) [])

-- The same of the command step: the flag says whether a command is offered, and the result has its LUN.
abbrev pub read_of_step : Reading → Outcome → Shows
read_of_step r o = quietly (socket_in o.memory) (answer r.number) Kept (cond (eqb r.flag 1) (r.carried ∷ o.lent) [])

-- What the firmware reads of a call with the outcome `o`.
unfoldable pub seen : Call → Outcome → Shows
seen (souk_poll g) o = read_of_poll g (reading_of o.result) o
seen (souk_set_status f) o = read_of_status o
seen (souk_write_data src) o = read_of_write src (reading_of o.result) o
seen (souk_try_write_data_all src) o = read_of_write src (reading_of o.result) o
seen (souk_read_data dst) o = read_of_read (reading_of o.result) o
seen souk_reset o = read_of_bus (reading_of o.result) o
seen (souk_control q) o = read_of_bus (reading_of o.result) o
seen (souk_command block) o = read_of_command (reading_of o.result) o
seen (souk_command_step numbers) o = read_of_step (reading_of o.result) o
seen (souk_command_step_told extended numbers) o = read_of_step (reading_of o.result) o

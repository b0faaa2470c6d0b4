-- Polls and calls as events, and what a history of them leaves and shows. What an event does is taken from the definition that the
-- contract of its call cites; there is no second model of the device. Assumes nothing: these are definitions.
use Rattle.std.specs.Prelude.{◌≡◌, Bool, true, false, cond, not, ◌&&◌, ◌||◌, ℕ, ◌+◌, min, eqb, take}
use mathlib.Core.List.{List, [], ◌∷◌, ◌++◌, flatten}
use Rattle.answers.specs.declared.Stalls.{Stalls}
use Rattle.answers.specs.declared.Stalls.TheVariants.{Kept}
use Rattle.answers.specs.Answers.{Answering, answer}
use Rattle.scsi.specs.Numbers.{command_numbers}
use Rattle.device.specs.declared.Device.{Device}
use Rattle.bbb.specs.Poll.{Given, Polling, poll_call}
use Rattle.calls.specs.declared.FirmwareStatus.{FirmwareStatus}
use Rattle.calls.specs.declared.Request.{Request}
use Rattle.calls.specs.Status.{Stating, set_status_call}
use Rattle.calls.specs.Data.{Moving, read_data_call, write_data_call, write_data_all_call}
use Rattle.calls.specs.Bus.{Handling, reset_call, control_call}
use Rattle.calls.specs.Command.{Showing, command_call, Offered, Stepping, command_step_told_call}

-- The recorder's socket: `device` is the device record, and `io` is the IO buffer that is lent with it. `socket d io` is the socket made
-- of the two.
pub record Socket : Type 0 where
  pub device : Device
  pub io : List ℕ

abbrev pub socket : Device → List ℕ → Socket
socket d io = record { device = d; io = io }

-- "only these calls alter record or buffer": a history consists of these events and of no others.
pub data Event : Type 0 where
  -- A poll is given the answers of the endpoints, the packets offered and its packet buffer.
  poll : Given → Event
  -- A status is a status byte with the firmware's figure.
  status : FirmwareStatus → Event
  -- `write_data` and `try_write_data_all` are given their source; `read_data` is given its destination.
  write : List ℕ → Event
  write_all : List ℕ → Event
  read : List ℕ → Event
  -- The bus is reset; or a control request arrives.
  reset : Event
  control : Request → Event
  -- The command is shown; or the command step is made, and told whether extended addressing is on. The plain step is the one told as
  -- `plain_is_extended` has it.
  command : Event
  command_step : Bool → Event
  -- A call of the library was lent something that it refuses before it looks at the record: a place of a wrong length for the command, or a
  -- number for no flag. By value there is no such call.
  mislent : Event

-- What an event leaves and shows. `socket` is the socket after it. `answer` is its answer, and `stalls` is what it asks of both endpoints.
-- `taken` are the OUT packets that it took, and `sent` are the bytes that it sent to the host. `put` are the bytes that the firmware put
-- in, and `delivered` are the bytes and numbers that the firmware got.
pub record Shows : Type 0 where
  pub socket : Socket
  pub answer : Answering
  pub stalls : Stalls
  pub taken : List (List ℕ)
  pub sent : List ℕ
  pub put : List ℕ
  pub delivered : List ℕ

-- The answer `a` as firmware reads it: of the bytes missing it is told 2^32 - 1 at most.
abbrev pub narrowed : Answering → Answering
narrowed a = record { number = a.number; carried = a.carried; missing = min a.missing 4294967295 }

-- What an event shows that moves no byte over the wire and has none put in. It leaves the socket `s`, with the answer `a`; it asks `stalls`
-- of both endpoints, and the firmware gets `delivered`.
abbrev pub quietly : Socket → Answering → Stalls → List ℕ → Shows
quietly s a stalls delivered = record { socket = s; answer = a; stalls = stalls; taken = []; sent = []; put = []; delivered = delivered }

-- What a poll shows that was given `g`; `o` is what it returned and left. Of the two packets offered it took none, the first one or both:
-- `o.taken` says how many. "The packet buffer holds the sent bytes in front": `o.sent` says how many they are.
abbrev pub of_poll : Given → Polling → Shows
of_poll g o = record {
  socket = socket o.device o.io;
  answer = narrowed o.answer;
  stalls = o.stalls;
  taken = take o.taken (g.one ∷ g.two ∷ []);
  sent = take o.sent o.packet;
  put = [];
  delivered = [];
}

-- What a status shows; `o` is what the call returned and left. The IO buffer `io` stays.
abbrev pub of_status : List ℕ → Stating → Shows
of_status io o = quietly (socket o.device io) o.answer Kept []

-- What a write of the source `src` shows; `o` is what the call returned and left. The first `o.count` bytes of `src` were put in. The IO
-- buffer after it is `o.bytes`.
abbrev pub of_write : List ℕ → Moving → Shows
of_write src o = record {
  socket = socket o.device o.bytes;
  answer = narrowed o.answer;
  stalls = Kept;
  taken = [];
  sent = [];
  put = take o.count src;
  delivered = [];
}

-- What a read shows; `o` is what the call returned and left. The IO buffer `io` stays. The firmware got the first `o.count` bytes of the
-- destination.
abbrev pub of_read : List ℕ → Moving → Shows
of_read io o = quietly (socket o.device io) o.answer Kept (take o.count o.bytes)

-- What a reset or a control request shows; `o` is what the call returned and left. The IO buffer `io` stays. The firmware gets the byte
-- that answers a control request; it goes over the control endpoint, so it is not one of the bytes sent.
abbrev pub of_bus : List ℕ → Handling → Shows
of_bus io o = quietly (socket o.device io) o.answer o.stalls o.bytes

-- What it shows to look at the command at the socket `s`; `o` is what the call returned. Where a command is shown the firmware gets its
-- LUN, the length of its block, and the 16 bytes that the record keeps of the block.
abbrev pub of_command : Socket → Showing → Shows
of_command s o = quietly s o.answer Kept (cond o.shown (o.lun ∷ o.blocklength ∷ o.block) [])

-- Of the command that is offered the firmware gets the LUN and the six numbers.
abbrev pub offered_numbers : List Offered → List ℕ
offered_numbers [] = []
offered_numbers (o ∷ os) = o.lun ∷ command_numbers o.command

-- What the command step shows at the socket `s`; `o` is what the call returned.
abbrev pub of_step : Socket → Stepping → Shows
of_step s o = quietly s o.answer Kept (offered_numbers o.offers)

-- What an event leaves and shows that happens at the socket `s`. `g`, `f`, `src`, `dst`, `q` and `extended` are what the
-- events are given.
unfoldable pub shows : Event → Socket → Shows
shows (poll g) s = of_poll g (poll_call s.device s.io g)
shows (status f) s = of_status s.io (set_status_call s.device s.io f)
shows (write src) s = of_write src (write_data_call s.device s.io src)
shows (write_all src) s = of_write src (write_data_all_call s.device s.io src)
shows (read dst) s = of_read s.io (read_data_call s.device s.io dst)
shows reset s = of_bus s.io (reset_call s.device s.io)
shows (control q) s = of_bus s.io (control_call s.device s.io q)
shows command s = of_command s (command_call s.device s.io)
shows (command_step extended) s = of_step s (command_step_told_call extended s.device s.io)
shows mislent s = quietly s (answer 10) Kept []

-- The socket that the event `e` leaves where it happens at the socket `s`.
abbrev pub next : Event → Socket → Socket
next e s = (shows e s).socket

-- ---- histories

-- What happened once: the event `event`, and `shown` is what it left and showed. `did` makes it of the two.
pub record Happening : Type 0 where
  pub event : Event
  pub shown : Shows

abbrev pub did : Event → Shows → Happening
did e o = record { event = e; shown = o }

-- A history is a list of what happened. This is the history of the events `h` where they start at the socket `s`: each event is given what
-- the event before it left.
abbrev pub history_of : List Event → Socket → List Happening
history_of [] s = []
history_of (e ∷ h) s = did e (shows e s) ∷ history_of h (next e s)

-- The socket that a history leaves where it starts at the socket `s`.
abbrev pub reached : List Happening → Socket → Socket
reached [] s = s
reached (x ∷ xs) s = reached xs x.shown.socket

-- What is shown in a history, one after the other. `what` says which bytes are picked of each happening.
unfoldable pub all : (Shows → List ℕ) → List Happening → List ℕ
all what [] = []
all what (x ∷ xs) = what x.shown ++ all what xs

-- The bytes that a history sent to the host.
abbrev pub sent_in : List Happening → List ℕ
sent_in xs = all (λ (o : Shows). o.sent) xs

-- The bytes that the firmware put in during a history.
abbrev pub put_in : List Happening → List ℕ
put_in xs = all (λ (o : Shows). o.put) xs

-- The bytes of all OUT packets that a history took.
abbrev pub taken_in : List Happening → List ℕ
taken_in xs = all (λ (o : Shows). flatten o.taken) xs

-- The first packet of a list of packets, or no bytes where the list is empty.
abbrev pub first_packet_of : List (List ℕ) → List ℕ
first_packet_of [] = []
first_packet_of (packet ∷ packets) = packet

-- The bytes of the packet that each poll of a history took first. A second packet of the same poll is not among them.
abbrev pub arrived_in : List Happening → List ℕ
arrived_in xs = all (λ (o : Shows). first_packet_of o.taken) xs

-- `Holds` is true of each happening of a history that starts at the socket `s`: of its event, of the socket at which it happens, and of
-- what it left and showed.
abbrev pub Throughout : (Event → Socket → Shows → Type 0) → List Happening → Socket → Type 0
Throughout Holds [] s = Unit {0}
Throughout Holds (x ∷ xs) s = Holds x.event s x.shown × Throughout Holds xs x.shown.socket

-- At the socket `s` the event `e` left and showed `o`: by the definitions that the contracts cite.
abbrev pub ByValue : Event → Socket → Shows → Type 0
ByValue e s o = o ≡ shows e s

-- `Does` says of an event, of the socket at which it happens and of what it left and showed that the event does this. It is faithful where
-- this is true by the definitions. A theorem over histories holds of every `Does` that is faithful: of what the calls by value returned, and
-- of what the firmware read of the exported calls.
abbrev pub Faithful : (Event → Socket → Shows → Type 0) → Type 0
Faithful Does = (e : Event) (s : Socket) (o : Shows) → Does e s o → ByValue e s o

-- ---- served polls

-- Whether a poll with the answer `a` was served. "A served poll is one not refused with 10 or 11 in which each endpoint asked does its
-- part": 6 is "the endpoint asked is busy", 7 is "the endpoint asked fails". A poll that asks no endpoint, such as one with answer 1 or
-- 4, is served.
unfoldable pub is_served : Answering → Bool
is_served a = not (eqb a.number 6 || (eqb a.number 7 || (eqb a.number 10 || eqb a.number 11)))

-- Whether an event is a poll.
unfoldable pub is_poll : Event → Bool
is_poll (poll g) = true
is_poll (status f) = false
is_poll (write src) = false
is_poll (write_all src) = false
is_poll (read dst) = false
is_poll reset = false
is_poll (control q) = false
is_poll command = false
is_poll (command_step extended) = false
is_poll mislent = false

-- This is 1 where the event `e`, which showed `o`, was a served poll, and 0 otherwise.
unfoldable pub served : Event → Shows → ℕ
served e o = cond (is_poll e && is_served o.answer) 1 0

-- How many served polls a history has.
unfoldable pub served_in : List Happening → ℕ
served_in [] = 0
served_in (x ∷ xs) = served x.event x.shown + served_in xs

-- ---- resets and accepted statuses

-- Whether an event is a reset. "No reset" means: neither a reset of the bus nor a control request that enters 0, which has bmRequestType
-- A1 and request FF.
unfoldable pub is_reset : Event → Bool
is_reset (poll g) = false
is_reset (status f) = false
is_reset (write src) = false
is_reset (write_all src) = false
is_reset (read dst) = false
is_reset reset = true
is_reset (control q) = eqb q.requesttype 0xA1 && eqb q.request 0xFF
is_reset command = false
is_reset (command_step extended) = false
is_reset mislent = false

-- Whether an event is a status, accepted or not.
unfoldable pub is_status : Event → Bool
is_status (poll g) = false
is_status (status f) = true
is_status (write src) = false
is_status (write_all src) = false
is_status (read dst) = false
is_status reset = false
is_status (control q) = false
is_status command = false
is_status (command_step extended) = false
is_status mislent = false

-- Whether the event `e`, which showed `o`, was an accepted status: its answer is 0.
unfoldable pub accepts : Event → Shows → Bool
accepts e o = is_status e && eqb o.answer.number 0

-- The call that each kind of event stands for, and what a line shows of it. Assumes nothing: these are definitions.
use Rattle.std.specs.Prelude.{ℕ, ◌+◌, Bool, cond, not, ◌&&◌, List, [], ◌∷◌, ◌++◌, eqb, length, take, drop}
use Rattle.fields.specs.Overlay.{overlay}
use Rattle.fields.specs.Field.{get}
use Rattle.answers.specs.declared.Stalls.{Stalls}
use Rattle.answers.specs.declared.Stalls.TheVariants.{Kept}
use Rattle.answers.specs.Answers.{Answering}
use Rattle.wrapper.specs.declared.Wrapper.{Wrapper}
use Rattle.device.specs.declared.Device.{Device}
use Rattle.bbb.specs.declared.Turn.{Turn}
use Rattle.bbb.specs.Poll.{Polling, given, poll_call}
use Rattle.calls.specs.declared.FirmwareStatus.{FirmwareStatus}
use Rattle.calls.specs.declared.Request.{Request}
use Rattle.calls.specs.Status.{Stating, set_status_call}
use Rattle.calls.specs.Data.{Moving, read_data_call, write_data_call, write_data_all_call}
use Rattle.calls.specs.Bus.{Handling, reset_call, control_call}
use Rattle.calls.specs.Command.{Offered, Stepping, command_step_told_call}
use Rattle.benchfile.specs.Event.{in_answer, first_answer, second_answer, first_packet, second_packet, status_byte, figure, room_field, request_type, request, carried_byte}

-- What a call leaves and tells: the record `device`, the answer, "count (packets taken, bytes read or written, else 0)", the stalls, and
-- `shown`, which says how many bytes the line shows. `offers` are the commands, decoded, that a command step offered; no line shows them.
-- `io` is the IO buffer after it. `lent` are the lent bytes after it, and the line shows the first of them.
pub record Acting : Type 0 where
  pub device : Device
  pub answer : Answering
  pub count : ℕ
  pub stalls : Stalls
  pub shown : ℕ
  pub offers : List Offered
  pub io : List ℕ
  pub lent : List ℕ

-- `shown` says how many of the lent bytes the line shows, and `lent` are all of them. `front` makes such a record of the two.
pub record Front : Type 0 where
  pub shown : ℕ
  pub lent : List ℕ

abbrev pub front : ℕ → List ℕ → Front
front shown lent = record { shown = shown; lent = lent }

-- ---- 1 poll: "sent"

-- The answers of the endpoints in the body `body` of a poll.
unfoldable pub turn_of : List ℕ → Turn
turn_of body = record { first = get first_answer body; second = get second_answer body; write = get in_answer body }

-- What a poll leaves and tells where the poll by value gives `o`: the line counts the packets taken, and shows the bytes sent.
unfoldable pub acting_of_poll : Polling → Acting
acting_of_poll o = record { device = o.device; answer = o.answer; count = o.taken; stalls = o.stalls; shown = o.sent; offers = []; io = o.io; lent = o.packet }

-- The poll with the body `body`, on the device `d` and the IO buffer `io`. The lent bytes `lent` are its packet buffer.
unfoldable pub poll_acts : List ℕ → Device → List ℕ → List ℕ → Acting
poll_acts body d io lent = acting_of_poll (poll_call d io (given lent (first_packet body) (second_packet body) (turn_of body)))

-- ---- 2 status

-- The status byte and the figure in the body `body` of a status.
unfoldable pub firmware_status_of : List ℕ → FirmwareStatus
firmware_status_of body = record { status = get status_byte body; figure = get figure body }

-- What a status leaves and tells where the call by value gives `o`: the IO buffer `io` and the lent bytes `lent` stay, and the line shows
-- no bytes.
unfoldable pub acting_of_status : List ℕ → List ℕ → Stating → Acting
acting_of_status io lent o = record { device = o.device; answer = o.answer; count = 0; stalls = Kept; shown = 0; offers = []; io = io; lent = lent }

-- The status with the body `body`, on the device `d` and the IO buffer `io`.
unfoldable pub status_acts : List ℕ → Device → List ℕ → List ℕ → Acting
status_acts body d io lent = acting_of_status io lent (set_status_call d io (firmware_status_of body))

-- ---- 3 `write_data`, 4 `try_write_data_all`: the body is the source

-- What a write leaves and tells where the call by value gives `o`: the lent bytes `lent` stay, and the line shows no bytes.
unfoldable pub acting_of_write : List ℕ → Moving → Acting
acting_of_write lent o = record { device = o.device; answer = o.answer; count = o.count; stalls = Kept; shown = 0; offers = []; io = o.bytes; lent = lent }

-- `write_data` of the bytes `body`, on the device `d` and the IO buffer `io`.
unfoldable pub write_acts : List ℕ → Device → List ℕ → List ℕ → Acting
write_acts body d io lent = acting_of_write lent (write_data_call d io body)

-- `try_write_data_all` of the bytes `body`, on the device `d` and the IO buffer `io`.
unfoldable pub write_all_acts : List ℕ → Device → List ℕ → List ℕ → Acting
write_all_acts body d io lent = acting_of_write lent (write_data_all_call d io body)

-- ---- 5 `read_data`: "read"

-- What a read leaves and tells where the call by value gives `o`. Its destination was the first `n` of the lent bytes `lent`; those after
-- them stay, and so does the IO buffer `io`. The line shows the bytes read.
unfoldable pub acting_of_read : List ℕ → List ℕ → ℕ → Moving → Acting
acting_of_read io lent n o = record { device = o.device; answer = o.answer; count = o.count; stalls = Kept; shown = o.count; offers = []; io = io; lent = o.bytes ++ drop n lent }

-- The read with the body `body`, on the device `d` and the IO buffer `io`. Its destination is the front of the lent bytes `lent`, as long
-- as the room in `body` says.
unfoldable pub read_acts : List ℕ → Device → List ℕ → List ℕ → Acting
read_acts body d io lent = acting_of_read io lent (get room_field body) (read_data_call d io (take (get room_field body) lent))

-- ---- 6 reset, 7 control: "control answer"

-- The bytes `bytes` are written over the front of the lent bytes `lent`, and the line shows all of them.
unfoldable pub in_front : List ℕ → List ℕ → Front
in_front bytes lent = front (length bytes) (overlay lent 0 bytes)

-- What a reset or a control request leaves and tells where the call by value gives `o`: the IO buffer `io` stays, and the line shows the
-- byte that answers a control request, if there is one.
unfoldable pub acting_of_bus : List ℕ → List ℕ → Handling → Acting
acting_of_bus io lent o = record { device = o.device; answer = o.answer; count = 0; stalls = o.stalls; shown = (in_front o.bytes lent).shown; offers = []; io = io; lent = (in_front o.bytes lent).lent }

-- A reset, on the device `d` and the IO buffer `io`.
unfoldable pub reset_acts : Device → List ℕ → List ℕ → Acting
reset_acts d io lent = acting_of_bus io lent (reset_call d io)

-- The control request in the body `body`.
unfoldable pub request_of : List ℕ → Request
request_of body = record { requesttype = get request_type body; request = get request body }

-- The control request with the body `body`, on the device `d` and the IO buffer `io`.
unfoldable pub control_acts : List ℕ → Device → List ℕ → List ℕ → Acting
control_acts body d io lent = acting_of_bus io lent (control_call d io (request_of body))

-- ---- 8 command step: "LUN then block"; "nothing offered gives 0 and `-`, an empty block 13 and `-`"

-- The LUN of a command that is offered, and the block in the wrapper `w`, are written over the front of the lent bytes `lent`. All 16
-- bytes of the block are written; the line shows the LUN and as many of them as the block length says. Where nothing is offered, nothing
-- is written or shown.
unfoldable pub command_in_front : Wrapper → List Offered → List ℕ → Front
command_in_front w [] lent = front 0 lent
command_in_front w (o ∷ os) lent = front (1 + w.blocklength) (overlay lent 0 (o.lun ∷ w.block))

-- What a command step leaves and tells where the call by value gives `o`: the device `d` and the IO buffer `io` stay.
unfoldable pub acting_of_step : Device → List ℕ → List ℕ → Stepping → Acting
acting_of_step d io lent o = record { device = d; answer = o.answer; count = 0; stalls = Kept; shown = (command_in_front d.wrapper o.offers lent).shown; offers = o.offers; io = io; lent = (command_in_front d.wrapper o.offers lent).lent }

-- Whether the command step with the body `body` has extended addressing on: it "carries 0 or 1; length 0 means off".
unfoldable pub extended_of : List ℕ → Bool
extended_of body = not (eqb (length body) 0) && eqb (get carried_byte body) 1

-- The command step with the body `body`, on the device `d` and the IO buffer `io`. `bench` makes the step that is told.
unfoldable pub command_acts : List ℕ → Device → List ℕ → List ℕ → Acting
command_acts body d io lent = acting_of_step d io lent (command_step_told_call (extended_of body) d io)

-- ---- the event

-- Any event after the first, by its kind `kind` and its body `body`, on the device `d`, the IO buffer `io` and the lent bytes `lent`. The
-- last case is kind 8.
unfoldable pub act_by : ℕ → List ℕ → Device → List ℕ → List ℕ → Acting
act_by kind body d io lent =
    cond (eqb kind 1) (poll_acts body d io lent)
    (cond (eqb kind 2) (status_acts body d io lent)
    (cond (eqb kind 3) (write_acts body d io lent)
    (cond (eqb kind 4) (write_all_acts body d io lent)
    (cond (eqb kind 5) (read_acts body d io lent)
    (cond (eqb kind 6) (reset_acts d io lent)
    (cond (eqb kind 7) (control_acts body d io lent)
    (command_acts body d io lent)))))))

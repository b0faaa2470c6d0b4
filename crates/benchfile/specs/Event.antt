-- Document 01, 'Bench file', on events: "An event is a kind byte, 2 bytes length n, n bytes. .. Numbers are little-endian." Here an event
-- is the list of all its bytes, and its body is its last n bytes. Assumes nothing: these are definitions.
use Rattle.std.specs.Prelude.{ℕ, ◌+◌, Bool, true, false, cond, not, ◌&&◌, ◌||◌, Option, Some, None, List, eqb, leb, length, take, drop}
use Rattle.fields.specs.Field.{Field, little_endian, one_byte, get}
use Rattle.benchfile.specs.declared.event.Kind.{Kind}
use Rattle.benchfile.specs.declared.event.Kind.TheVariants.{Create, Poll, Status, WriteData, TryWriteDataAll, ReadData, Reset, Control, CommandStep}
use Rattle.benchfile.specs.declared.event.EventHead.{EventHead}

-- The kind of an event, and its length n, in the bytes of the event.
abbrev pub kind_byte : Field
kind_byte = one_byte 0

abbrev pub length_field : Field
length_field = little_endian 1 2

-- "0 create ..; 1 poll ..; 2 status ..; 3 `write_data`; 4 `try_write_data_all`; 5 `read_data` ..; 6 reset; 7 control ..; 8 command step":
-- the number of a kind, and the kind with the number `n`, if there is one.
abbrev pub kind_number : Kind → ℕ
kind_number Create = 0
kind_number Poll = 1
kind_number Status = 2
kind_number WriteData = 3
kind_number TryWriteDataAll = 4
kind_number ReadData = 5
kind_number Reset = 6
kind_number Control = 7
kind_number CommandStep = 8

unfoldable pub kind_of_number : ℕ → Option Kind
kind_of_number n =
    cond (eqb n 0) (Some Create)
    (cond (eqb n 1) (Some Poll)
    (cond (eqb n 2) (Some Status)
    (cond (eqb n 3) (Some WriteData)
    (cond (eqb n 4) (Some TryWriteDataAll)
    (cond (eqb n 5) (Some ReadData)
    (cond (eqb n 6) (Some Reset)
    (cond (eqb n 7) (Some Control)
    (cond (eqb n 8) (Some CommandStep)
    None))))))))

-- The body of the event `e`: the n bytes after its first three.
unfoldable pub body_of : List ℕ → List ℕ
body_of e = drop 3 e

-- ---- the fields of a body, by the kind of the event

-- "0 create (P 2, max LUN 1, buffer 4)": these are the fields of a creation.
abbrev pub packet_size : Field
packet_size = little_endian 0 2

abbrev pub max_lun : Field
max_lun = one_byte 2

abbrev pub buffer_size : Field
buffer_size = little_endian 3 4

-- "1 poll (IN answer, two OUT answers, two packet lengths, 1 byte each, then the packets)": these are the fields of a poll.
abbrev pub in_answer : Field
in_answer = one_byte 0

abbrev pub first_answer : Field
first_answer = one_byte 1

abbrev pub second_answer : Field
second_answer = one_byte 2

abbrev pub first_length : Field
first_length = one_byte 3

abbrev pub second_length : Field
second_length = one_byte 4

-- The first packet of the poll with the body `body`: it is as long as its length field says.
unfoldable pub first_packet : List ℕ → List ℕ
first_packet body = take (get first_length body) (drop 5 body)

-- The second packet of that poll: all bytes after the first packet.
unfoldable pub second_packet : List ℕ → List ℕ
second_packet body = drop (5 + get first_length body) body

-- "2 status (byte 0 to 2, figure 4)": these are the fields of a status.
abbrev pub status_byte : Field
status_byte = one_byte 0

abbrev pub figure : Field
figure = little_endian 1 4

-- "5 `read_data` (room 2)": this is the field of a read.
abbrev pub room_field : Field
room_field = little_endian 0 2

-- "7 control (bmRequestType, request)": these are the fields of a control request.
abbrev pub request_type : Field
request_type = one_byte 0

abbrev pub request : Field
request = one_byte 1

-- Request 6 of 02: "A command step of length 1 in the bench file carries 0 or 1". This is the byte that it carries.
abbrev pub carried_byte : Field
carried_byte = one_byte 0

-- ---- the rules

-- "a length is 0 unless its answer is 0": `answer` is an endpoint's answer, and `len` is the length of its packet.
unfoldable pub agrees : ℕ → ℕ → Bool
agrees answer len = eqb answer 0 || eqb len 0

-- Whether `body` may be the body of a poll: it has its five bytes and as many more as both packet lengths say, and each length agrees
-- with its answer.
unfoldable pub is_poll_body : List ℕ → Bool
is_poll_body body =
    leb 5 (length body)
    && (eqb (length body) (5 + get first_length body + get second_length body)
    && (agrees (get first_answer body) (get first_length body) && agrees (get second_answer body) (get second_length body)))

-- Whether `body` may be the body of a status: it has five bytes, and the status byte is at most 2.
unfoldable pub is_status_body : List ℕ → Bool
is_status_body body = eqb (length body) 5 && leb (get status_byte body) 2

-- Whether `body` may be the body of a command step: "8 command step, n = 0", and by request 6 one byte that is 0 or 1. "14 also for a
-- carried byte above 1".
unfoldable pub is_step_body : List ℕ → Bool
is_step_body body = eqb (length body) 0 || (eqb (length body) 1 && leb (get carried_byte body) 1)

-- Whether `n` is a length that the kind `kind` may have, for the kinds that go by their length alone. "3 `write_data`; 4
-- `try_write_data_all`" take any source; "6 reset".
unfoldable pub is_long : ℕ → ℕ → Bool
is_long kind n =
    cond (eqb kind 0) (eqb n 7)
    (cond (eqb kind 3) true
    (cond (eqb kind 4) true
    (cond (eqb kind 5) (eqb n 2)
    (cond (eqb kind 6) (eqb n 0)
    (cond (eqb kind 7) (eqb n 2)
    false)))))

-- Whether an event of the kind `kind` may have the body `body`. There are no other kinds than 0 to 8.
unfoldable pub suits : ℕ → List ℕ → Bool
suits kind body =
    cond (eqb kind 1) (is_poll_body body)
    (cond (eqb kind 2) (is_status_body body)
    (cond (eqb kind 8) (is_step_body body)
    (is_long kind (length body))))

-- "0 create .., first and only first": whether an event of the kind `kind` may stand first in a file (`first` is true) or later (it is
-- false).
unfoldable pub may_stand : Bool → ℕ → Bool
may_stand first kind = cond first (eqb kind 0) (not (eqb kind 0))

-- Whether `e` is an event by these rules; `first` says whether it is the first one of its file.
unfoldable pub is_event : Bool → List ℕ → Bool
is_event first e =
    eqb (length e) (3 + get length_field e)
    && (may_stand first (get kind_byte e) && suits (get kind_byte e) (body_of e))

-- ---- what stands at an offset

-- The first bytes of `xs`: as many as an event at its front would have, or all where `xs` is shorter.
unfoldable pub front_of : List ℕ → List ℕ
front_of xs = take (3 + get length_field xs) xs

-- What is said where no event stands.
abbrev pub no_event : Option EventHead
no_event = None

-- The head of an event of this kind, if there is such a kind, with `n` bytes after its first three.
abbrev pub head_of : Option Kind → ℕ → Option EventHead
head_of None n = no_event
head_of (Some kind) n = Some (record { kind = kind; length = n })

-- What stands at the front of `xs`: the kind and the length of an event, or `no_event`. `first` says whether it would be the first one of
-- its file.
unfoldable pub event_head_of : Bool → List ℕ → Option EventHead
event_head_of first xs = cond (is_event first (front_of xs)) (head_of (kind_of_number (get kind_byte xs)) (get length_field xs)) no_event

-- What stands at the offset `at` of the events `xs`. An event at the offset 0 is the first one of its file.
unfoldable pub event_at : List ℕ → ℕ → Option EventHead
event_at xs at = event_head_of (eqb at 0) (drop at xs)

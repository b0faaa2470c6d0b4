-- One packet: what a read, a send, the fill and the status leave in the buffer. The definitions of crates/buffer/specs/Buffer.antt say
-- what its operations do. In all of them `p` is the packet size P, `e` is what the endpoint does, and `s` is the IO buffer before.
-- Assumes nothing: these are definitions.
use Rattle.std.specs.Prelude.{Bool, false, cond, List, [], ℕ, ◌-◌, min, eqb, length}
use Rattle.fields.specs.Overlay.{overlay}
use Rattle.buffer.specs.Buffer.{Buffer, unread, lacks_room, missing, written_all, filled, written, emptied, ready, ready_bytes, read_off}
use Rattle.answers.specs.declared.Endpoint.{Endpoint}
use Rattle.answers.specs.Answers.{Answering, answer, lacking, serves, answered_by}
use Rattle.wrapper.specs.declared.counters.Left.{Left}
use Rattle.wrapper.specs.declared.counters.Residue.{Residue}
use Rattle.wrapper.specs.Status.{status_bytes}

-- ---- "OUT reads (a packet of 0 to P bytes, busy, or an error)"

-- The endpoint hands over the `packet` that it offers if it does its part, and nothing otherwise.
unfoldable pub handed : Endpoint → List ℕ → List ℕ
handed e packet = cond (serves e) packet []

-- A read answers 1 if "room, after moving, is below P (packet read)", and says how much is missing: P is wanted, whatever the packet's
-- length, for the endpoint is not asked yet. Otherwise it is asked and gives the answer.
unfoldable pub read_answer : ℕ → Endpoint → Buffer → Answering
read_answer p e s = cond (lacks_room p s) (lacking (missing p s)) (answered_by e)

-- A packet is taken if there is room for `p` bytes and the endpoint does its part.
unfoldable pub takes_one : ℕ → Endpoint → Buffer → Bool
takes_one p e s = cond (lacks_room p s) false (serves e)

-- This is the number of bytes that the `packet` brings, 0 if none is taken.
unfoldable pub brought : ℕ → Endpoint → List ℕ → Buffer → ℕ
brought p e packet s = cond (lacks_room p s) 0 (length (handed e packet))

-- This is the buffer after a read. If room for `p` bytes is missing, the unread bytes move to the front; if there is room then, what was
-- handed over stands after them.
unfoldable pub received : ℕ → Endpoint → List ℕ → Buffer → Buffer
received p e packet s = written_all p (handed e packet) s

-- ---- "one IN write (accepted whole, busy, or an error)"

-- IN accepts up to `p` bytes if it does its part, and none otherwise.
unfoldable pub accepted : Endpoint → ℕ → ℕ
accepted e p = cond (serves e) p 0

-- `unread` is how many bytes are unread before a send. "nothing unread sends nothing, answer 0"; otherwise the endpoint gives the answer.
unfoldable pub send_answer : Endpoint → ℕ → Answering
send_answer e unread = cond (eqb unread 0) (answer 0) (answered_by e)

-- This is the number of bytes sent: "send min(P, unread)" if IN does its part, and 0 otherwise.
unfoldable pub sent_count : ℕ → Endpoint → Buffer → ℕ
sent_count p e s = ready (accepted e p) s

-- This is the buffer after the send: the bytes that were sent count as read.
unfoldable pub sent_off : ℕ → Endpoint → Buffer → Buffer
sent_off p e s = read_off (accepted e p) s

-- This is the packet buffer after the send; it was `packet`. "The packet buffer holds the sent bytes in front, the rest unchanged."
unfoldable pub sent_into : ℕ → Endpoint → Buffer → List ℕ → List ℕ
sent_into p e s packet = overlay packet 0 (ready_bytes (accepted e p) s)

-- ---- what is written before it is sent

-- This is the buffer `s` as state 6 sends from it: "if fewer than min(left, P) bytes are unread, fill with 0xFF to that number". If that
-- many are unread, nothing is filled in: a difference of ℕ is 0 where it would be below 0.
unfoldable pub filled_up : ℕ → Left → Buffer → Buffer
filled_up p left s = filled 0xFF (min left.0 p - unread s) s

-- The status with this `tag`, this `residue` and the number `status` is put into the buffer `s`: 3 "empties the buffer, writes the status
-- into it".
unfoldable pub status_written : ℕ → Residue → ℕ → Buffer → Buffer
status_written tag residue status s = written (status_bytes tag residue status) (emptied s)

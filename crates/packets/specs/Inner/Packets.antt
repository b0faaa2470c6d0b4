-- What the functions for one packet promise; the marks that they leave are sound again. Assumes nothing: these are definitions.
use Rattle.std.specs.Prelude.{◌≡◌, cond, List, ℕ, Some, None}
use Rattle.buffer.specs.Buffer.{Buffer, buffer, unread}
use Rattle.buffer.specs.Inner.Buffer.{Leaves}
use Rattle.answers.specs.declared.Endpoint.{Endpoint}
use Rattle.answers.specs.Answers.{answer_of}
use Rattle.packets.specs.declared.Received.{Received}
use Rattle.packets.specs.declared.Sent.{Sent}
use Rattle.packets.specs.Packets.{read_answer, takes_one, brought, received, send_answer, sent_count, sent_off, sent_into}

-- A read promises this. It asks OUT, which does `e` and offers `packet`, for one packet of at most `p` bytes; before it the buffer is
-- `s`, and after it the IO buffer is `io`. It returns `r`.
pub record Reads (p : ℕ) (e : Endpoint) (packet : List ℕ) (s : Buffer) (r : Received) (io : List ℕ) : Type 0 where
  pub answer : answer_of r.answer ≡ read_answer p e s
  pub brought : r.brought ≡ cond (takes_one p e s) (Some (brought p e packet s)) None
  pub leaves : Leaves (buffer io r.marks) (received p e packet s)

-- A send promises this. It offers IN, which does `e`, at most `p` bytes of the buffer `s`; the packet buffer is `packet` before it and
-- `packet'` after it. It returns `r`.
pub record Sends (p : ℕ) (e : Endpoint) (s : Buffer) (packet : List ℕ) (r : Sent) (packet' : List ℕ) : Type 0 where
  pub answer : answer_of r.answer ≡ send_answer e (unread s)
  pub count : r.count ≡ sent_count p e s
  pub leaves : Leaves (buffer s.bytes r.marks) (sent_off p e s)
  pub into : packet' ≡ sent_into p e s packet

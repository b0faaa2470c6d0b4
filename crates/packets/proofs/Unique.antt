-- No second answer satisfies a promise, and no second content of the slice that a function may write to. `Post` is the contract itself,
-- as the check reads it. Assumes nothing.
use mathlib.Core.Path.{◌≡◌, sym, ap, ◌∙◌}
use mathlib.Core.List.{List}
use Prim.Native.Nat.{ℕ}
use Rattle.std.specs.Prelude.{Option}
use Rattle.fields.proofs.Only.{Only}
use Rattle.buffer.specs.declared.Marks.{Marks}
use Rattle.buffer.specs.Buffer.{Buffer}
use Rattle.buffer.proofs.Unique.{left_once}
use Rattle.answers.specs.declared.Endpoint.{Endpoint}
use Rattle.answers.specs.declared.Answer.{Answer}
use Rattle.answers.proofs.Unique.{answer_once}
use Rattle.packets.specs.declared.Received.{Received}
use Rattle.packets.specs.declared.Sent.{Sent}
use Rattle.packets.specs.Inner.Packets.{Reads, Sends}
use Rattle.packets.proofs.read_packet.Kinds as read-packet-kinds
use Rattle.packets.proofs.read_packet.Reads as read-packet
use Rattle.packets.proofs.send_packet.Kinds as send-packet-kinds
use Rattle.packets.proofs.send_packet.Reads as send-packet
use Rattle.packets.proofs.fill.Kinds as fill-kinds
use Rattle.packets.proofs.fill.Reads as fill
use Rattle.packets.proofs.put_status.Kinds as put-status-kinds
use Rattle.packets.proofs.put_status.Reads as put-status

-- A record is determined by its parts.
abbrev received : Answer → Option ℕ → Marks → Received
received o n m = record { answer = o; brought = n; marks = m }

abbrev sent : Answer → ℕ → Marks → Sent
sent o n m = record { answer = o; count = n; marks = m }

read_once : (p : ℕ) (e : Endpoint) (packet : List ℕ) (s : Buffer) (x y : Received) {b c : List ℕ} → Reads p e packet s x b → Reads p e packet s y c → (x ≡ y) × (b ≡ c)
read_once p e packet s x y k l =
    let m = left_once k.leaves l.leaves in (
      ap (λ (z : Answer). received z x.brought x.marks) (answer_once x.answer y.answer k.answer l.answer)
          ∙ ap (λ (z : Option ℕ). received y.answer z x.marks) (k.brought ∙ sym l.brought)
          ∙ ap (received y.answer y.brought) m.0,
      m.1,
    )

send_once : (p : ℕ) (e : Endpoint) (s : Buffer) (packet : List ℕ) (x y : Sent) {b c : List ℕ} → Sends p e s packet x b → Sends p e s packet y c → (x ≡ y) × (b ≡ c)
send_once p e s packet x y k l =
    let m = left_once k.leaves l.leaves in (
      ap (λ (z : Answer). sent z x.count x.marks) (answer_once x.answer y.answer k.answer l.answer)
          ∙ ap (λ (z : ℕ). sent y.answer z x.marks) (k.count ∙ sym l.count)
          ∙ ap (sent y.answer y.count) m.0,
      k.into ∙ sym l.into,
    )

pub read_packet_only : Only 2 read-packet-kinds.ps read-packet-kinds.r read-packet.Post (λ κs s. s.0.now)
read_packet_only κs a x y s t p q = read_once _ _ _ _ x y p q

pub send_packet_only : Only 2 send-packet-kinds.ps send-packet-kinds.r send-packet.Post (λ κs s. s.1.1.1.1.0.now)
send_packet_only κs a x y s t p q = send_once _ _ _ _ x y p q

pub fill_only : Only 1 fill-kinds.ps fill-kinds.r fill.Post (λ κs s. s.0.now)
fill_only κs a x y s t p q = left_once p q

pub put_status_only : Only 1 put-status-kinds.ps put-status-kinds.r put-status.Post (λ κs s. s.0.now)
put_status_only κs a x y s t p q = left_once p q

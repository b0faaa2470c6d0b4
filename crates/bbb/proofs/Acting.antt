-- Laws of an act: what has to be shown for each way through its functions (`ways`). Assumes nothing.
use mathlib.Core.Path.{◌≡◌, refl, ap}
use mathlib.Core.Bool.{Bool, true, false}
use mathlib.Core.List.{List}
use Prim.Native.Nat.{ℕ, ◌-◌, zero-le}
use Rattle.std.specs.Prelude.{Option, None, Some}
use Rattle.buffer.specs.declared.Marks.{Marks}
use Rattle.buffer.specs.Buffer.{Buffer, buffer, at, emptied}
use Rattle.buffer.specs.Inner.Buffer.{Sound, Leaves}
use Rattle.answers.specs.declared.Answer.TheVariants.{FullPacketExpected}
use Rattle.answers.specs.declared.Endpoint.{Endpoint}
use Rattle.answers.specs.Answers.{endpoint_of}
use Rattle.ring.specs.declared.Before.{Before}
use Rattle.ring.specs.declared.Before.TheVariants as before
use Rattle.ring.specs.declared.Kind.TheVariants as kind
use Rattle.ring.specs.declared.Row.{Row}
use Rattle.wrapper.specs.declared.counters.Left.{Left}
use Rattle.wrapper.specs.Counters.{fallen}
use Rattle.wrapper.specs.Status.{status_number}
use Rattle.std.specs.Prelude.{is_some, unwrap_or}
use Rattle.packets.specs.declared.Received.{Received}
use Rattle.packets.specs.declared.Sent.{Sent}
use Rattle.packets.specs.Packets.{status_written}
use Rattle.packets.proofs.Laws.{was_taken, was_brought}
use Rattle.packets.specs.Inner.Packets.{Reads, Sends}
use Rattle.device.specs.declared.Numbers.{Numbers}
use Rattle.device.specs.declared.Told.{Told}
use Rattle.bbb.specs.declared.Turn.{Turn}
use Rattle.bbb.specs.declared.open.Opened.{Opened}
use Rattle.bbb.specs.declared.act.Did.{Did}
use Rattle.bbb.specs.Poll.{Given, left_then, offered_packet, offered_by, status_put}
use Rattle.bbb.specs.Inner.Phases.{opening_of, doing_of, Acts, rest_did, emptied_marks, one_more, took_from, took, is_refused, readied, sent_from, sent_by, sent_packet, acted, acted_packet}

-- ---- what is ready to be sent

sound_empty : (io : List ℕ) → Sound (buffer io (at 0 0))
sound_empty io = record { order = zero-le; within = zero-le }

module _ (tag : ℕ) (status : Option Told) (io : List ℕ) (m : Marks) where
  pub puts_none : {r : Marks} → status ≡ None → r ≡ at 0 0 → Leaves (buffer io r) (status_put tag status (buffer io m))
  unfolding status_put emptied
  puts_none q k = rw (q, k) (record { same = refl; sound = sound_empty io })

  pub puts_one : {u : Told} {t : Buffer} → status ≡ Some u → Leaves t (status_written tag u.residue (status_number u.status) (buffer io (at 0 0))) → Leaves t (status_put tag status (buffer io m))
  unfolding status_put status_written emptied
  puts_one q k = rw q k

pub as_it_is : (s : Buffer) → Sound s → Leaves s s
as_it_is s g = record { same = refl; sound = g }

-- ---- a packet read

sound_empties : (b : Before) (io : List ℕ) (m : Marks) → Sound (buffer io m) → Sound (buffer io (emptied_marks b m))
sound_empties before.Nothing io m g = g
sound_empties before.Whole io m g = g
sound_empties before.Fill io m g = g
sound_empties before.Status io m g = g
sound_empties before.Empty io m g = sound_empty io

pub sound_emptied : (b : Before) (io : List ℕ) (m : Marks) {r : Marks} → Sound (buffer io m) → r ≡ emptied_marks b m → Sound (buffer io r)
sound_emptied b io m g h = rw h (sound_empties b io m g)

pub takes : (b : Before) (p : ℕ) (o : Opened) (io one two : List ℕ) (turn : Turn) {m : Marks} {r : Received} {io' : List ℕ} {l : Left} {k : ℕ}
    → m ≡ emptied_marks b o.marks → Reads p (offered_by o.taken turn) (offered_packet o.taken one two) (buffer io m) r io'
    → {n : ℕ} {t : Bool} → n ≡ unwrap_or r.brought 0 → t ≡ is_some r.brought → l ≡ fallen o.left n → k ≡ one_more o.taken t
    → doing_of (record { marks = r.marks; left = l; sent = 0; answer = r.answer; taken = k; stalled = false }) io' ≡ took b p (opening_of o) io one two turn
unfolding took took_from
takes b p o io one two turn hm x hn ht hl hk =
    rw (hl, hk, hn, ht, x.answer, was_taken _ _ _ _ x, was_brought _ _ _ _ x, ap (λ (t : Buffer). t.marks) x.leaves.same, ap (λ (t : Buffer). t.bytes) x.leaves.same, hm)

-- ---- a packet sent

module _ (b : Before) (counts : Bool) (n : Numbers) (o : Opened) (io packet : List ℕ) (write : ℕ)
    {v : Bool} (hv : v ≡ is_refused b n.fixed.packetsize o.left (o.marks.write - o.marks.read)) where
  pub sends_refused : v ≡ true → {r : Did} → r ≡ rest_did o false
      → Acts (sent_by b counts n (opening_of o) io (endpoint_of write)) (sent_packet b n (opening_of o) io (endpoint_of write) packet)
      (record { marks = r.marks; left = r.left; sent = r.sent; answer = FullPacketExpected; taken = r.taken; stalled = r.stalled }) io packet
  unfolding sent_by sent_packet
  sends_refused q h = record { leaves = rw (← hv, q, h); into = rw (← hv, q) }

  pub sends_sent : v ≡ false → {io' : List ℕ} {m : Marks} → Leaves (buffer io' m) (readied b n.fixed.packetsize (buffer io o.marks) o.left n)
      → {e : Endpoint} → e ≡ endpoint_of write → {s : Sent} {packet' : List ℕ} → Sends n.fixed.packetsize e (buffer io' m) packet s packet'
      → {l : Left} → l ≡ left_then counts o.left s.count
      → Acts (sent_by b counts n (opening_of o) io (endpoint_of write)) (sent_packet b n (opening_of o) io (endpoint_of write) packet)
      (record { marks = s.marks; left = l; sent = s.count; answer = s.answer; taken = o.taken; stalled = false }) io' packet'
  unfolding sent_by sent_from sent_packet
  sends_sent q hl he x hf = record {
    leaves = rw (← hv, q, ← hl.same, ← he, hf, x.answer, x.count, ← x.leaves.same);
    into = rw (← hv, q, ← hl.same, ← he) x.into;
  }

-- ---- by the row of the table

module _ (row : Row) (n : Numbers) (o : Opened) (io : List ℕ) (g : Given) {r : Did} where
  pub acts_rest : row.1 ≡ kind.Rest → r ≡ rest_did o false → Acts (acted row n (opening_of o) io g) (acted_packet row n (opening_of o) io g) r io g.packet
  unfolding acted acted_packet
  acts_rest q h = record { leaves = rw (q, h); into = rw q }

  pub acts_stall : row.1 ≡ kind.Stall → r ≡ rest_did o true → Acts (acted row n (opening_of o) io g) (acted_packet row n (opening_of o) io g) r io g.packet
  unfolding acted acted_packet
  acts_stall q h = record { leaves = rw (q, h); into = rw q }

  pub acts_read : row.1 ≡ kind.Read → {io' : List ℕ} → doing_of r io' ≡ took row.2 n.fixed.packetsize (opening_of o) io g.one g.two g.turn
      → Acts (acted row n (opening_of o) io g) (acted_packet row n (opening_of o) io g) r io' g.packet
  unfolding acted acted_packet
  acts_read q h = record { leaves = rw q h; into = rw q }

  pub acts_send : row.1 ≡ kind.Send → {io' packet' : List ℕ}
      → Acts (sent_by row.2 row.3 n (opening_of o) io (endpoint_of g.turn.write)) (sent_packet row.2 n (opening_of o) io (endpoint_of g.turn.write) g.packet) r io' packet'
      → Acts (acted row n (opening_of o) io g) (acted_packet row n (opening_of o) io g) r io' packet'
  unfolding acted acted_packet
  acts_send q x = record { leaves = rw q x.leaves; into = rw q x.into }

pub ruleset ways = (puts_none, puts_one, as_it_is, sound_emptied, takes, sends_refused, sends_sent, acts_rest, acts_stall, acts_read, acts_send)

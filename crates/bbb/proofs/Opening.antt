-- Laws of opening: what has to be shown for each way through its functions (`ways`). Assumes nothing.
use mathlib.Core.Path.{◌≡◌, refl, sym, ap, ◌∙◌}
use mathlib.Core.Bool.{Bool, true, false, ◌&&◌}
use mathlib.Core.List.{List}
use Prim.Native.Nat.{ℕ, ◌+◌, ◌-◌, ◌≤◌}
use native.Mathlib.Omega.{arith}
use lib.Dec.{eqb, leb}
use lib.ListN.{length, take, drop}
use borrow.Author.Tests.{leb-true}
use Rattle.fields.proofs.Bools.{and_right, clash}
use Rattle.fields.proofs.Seq.{length_part}
use Rattle.buffer.specs.declared.Marks.{Marks}
use Rattle.buffer.specs.Buffer.{Buffer, buffer, unread}
use Rattle.buffer.specs.Inner.Buffer.{Sound}
use Rattle.answers.specs.declared.Answer.TheVariants.{Done}
use Rattle.answers.specs.declared.Endpoint.{Endpoint}
use Rattle.answers.specs.Answers.{endpoint_of}
use Rattle.ring.specs.declared.Found.TheVariants.{Nothing, Invalid, Valid}
use Rattle.ring.specs.States.{state_number}
use Rattle.wrapper.specs.declared.Head.{Head}
use Rattle.wrapper.specs.declared.counters.Left.{Left}
use Rattle.wrapper.specs.Wrapper.{is_valid, wrapper_of}
use Rattle.wrapper.specs.Inner.Wrapper.{head_of}
use Rattle.std.specs.Prelude.{is_some}
use Rattle.packets.specs.declared.Received.{Received}
use Rattle.packets.specs.Packets.{takes_one, received}
use Rattle.packets.proofs.Laws.{was_taken}
use Rattle.packets.specs.Inner.Packets.{Reads}
use Rattle.device.specs.declared.Numbers.{Numbers}
use Rattle.device.specs.Broken.{Whole}
use Rattle.device.proofs.Wholly.{whole_sound}
use Rattle.bbb.specs.declared.open.Opened.{Opened}
use Rattle.bbb.specs.Poll.{message_at}
use Rattle.bbb.specs.Inner.Phases.{Opens, marks_past31, parsed_open, count_of, open_after, read_open, read_io, opens_in, left_when, is_opening, clears, opened, opened_io}

-- ---- the 31 bytes

module _ (m : Marks) (io : List ℕ) where
  cut : m.read + 31 - m.read ≡ 31
  cut = omega arith

  -- The slice that is parsed has 31 bytes.
  pub part_31 : Sound (buffer io m) → m.read + 31 ≤ m.write → length (take (m.read + 31 - m.read) (drop m.read io)) ≡ 31
  part_31 g h = rw cut (length_part m.read 31 io (omega (arith, g.within)))

  message_is : take (m.read + 31 - m.read) (drop m.read io) ≡ message_at (buffer io m)
  unfolding message_at
  message_is = rw cut

  sound_behind : Sound (buffer io m) → m.read + 31 ≤ m.write → Sound (buffer io (marks_past31 m))
  sound_behind g h = record { order = h; within = g.within }

  module _ (left : Left) (cleared : Bool) (g : Sound (buffer io m)) (h : m.read + 31 ≤ m.write)
      {v : Bool} (hv : v ≡ is_valid (take (m.read + 31 - m.read) (drop m.read io))) where
    valid_is : {b : Bool} → v ≡ b → is_valid (message_at (buffer io m)) ≡ b
    valid_is q = ap is_valid (sym message_is) ∙ sym hv ∙ q

    pub parses_valid : v ≡ true → {w : Head} → w ≡ head_of (wrapper_of (take (m.read + 31 - m.read) (drop m.read io)))
        → Opens (parsed_open (buffer io m) left cleared) io
        (record { found = Valid w.direction; marks = marks_past31 m; left = record { 0 = w.length }; answer = Done; taken = 1; cleared = cleared }) io
    unfolding parsed_open
    parses_valid q hw = record {
      leaves = rw (valid_is q, hw, message_is);
      bytes = refl;
      sound = sound_behind g h;
      once = omega arith;
      front = λ _. omega arith;
    }

    pub parses_invalid : v ≡ false
        → Opens (parsed_open (buffer io m) left cleared) io
        (record { found = Invalid; marks = marks_past31 m; left = left; answer = Done; taken = 1; cleared = cleared }) io
    unfolding parsed_open
    parses_invalid q = record {
      leaves = rw (valid_is q);
      bytes = refl;
      sound = sound_behind g h;
      once = omega arith;
      front = λ _. omega arith;
    }

-- ---- the packet before them

count_most : (b : Bool) → count_of b ≤ 1
count_most true = omega arith
count_most false = omega arith

module _ (p first : ℕ) (one : List ℕ) (left : Left) (cleared : Bool) (s : Buffer)
    {e : Endpoint} (he : e ≡ endpoint_of first) {r : Received} {io : List ℕ} (y : Reads p e one s r io)
    {t : Bool} (ht : t ≡ is_some r.brought) {v : Bool} (hv : v ≡ (t && leb 31 (r.marks.write - r.marks.read))) where
  x : Reads p (endpoint_of first) one s r io
  x = rw he at y

  is_taken : t ≡ takes_one p (endpoint_of first) s
  is_taken = ht ∙ was_taken p (endpoint_of first) one s x

  -- If it is ripe, 31 bytes are unread.
  pub ripe_31 : v ≡ true → r.marks.read + 31 ≤ r.marks.write
  ripe_31 q = omega (arith, leb-true 31 (r.marks.write - r.marks.read) (and_right t (leb 31 (r.marks.write - r.marks.read)) (sym hv ∙ q)), x.leaves.sound.order)

  ripe_is : {b : Bool} → v ≡ b → (takes_one p (endpoint_of first) s && leb 31 (unread (received p (endpoint_of first) one s))) ≡ b
  ripe_is q = rw (← is_taken, ← x.leaves.same) (sym hv ∙ q)

  pub reads_parse : v ≡ true → {w : Opened} {io' : List ℕ}
      → Opens (parsed_open (buffer io r.marks) left cleared) io w io'
      → Opens (read_open p (endpoint_of first) one left cleared s) (read_io p (endpoint_of first) one s) w io'
  unfolding read_open open_after
  reads_parse q z = record {
    leaves = rw (ripe_is q, ← x.leaves.same) z.leaves;
    bytes = z.bytes ∙ ap (λ (t : Buffer). t.bytes) x.leaves.same;
    sound = z.sound;
    once = z.once;
    front = z.front;
  }

  pub reads_nothing : v ≡ false → {k : ℕ} → k ≡ count_of t
      → Opens (read_open p (endpoint_of first) one left cleared s) (read_io p (endpoint_of first) one s)
      (record { found = Nothing; marks = r.marks; left = left; answer = r.answer; taken = k; cleared = cleared }) io
  unfolding read_open open_after
  reads_nothing q hk = record {
    leaves = rw (ripe_is q, ← x.leaves.same, x.answer, hk, is_taken);
    bytes = ap (λ (t : Buffer). t.bytes) x.leaves.same;
    sound = x.leaves.sound;
    once = rw hk (count_most t);
    front = λ e. absurd (clash (sym e));
  }

-- ---- whether the wrapper is reached

module _ (n : Numbers) (io one : List ℕ) (e : Endpoint)
    {v : Bool} (hv : v ≡ opens_in (state_number n.state) (eqb (n.marks.write - n.marks.read) 0)) where
  opening_is : {b : Bool} → v ≡ b → is_opening n ≡ b
  unfolding is_opening
  opening_is q = sym hv ∙ q

  pub opens_reads : v ≡ true → {l : Left} → l ≡ left_when (clears n) n.left → {r : Opened} {io' : List ℕ}
      → Opens (read_open n.fixed.packetsize e one l (clears n) (buffer io n.marks)) (read_io n.fixed.packetsize e one (buffer io n.marks)) r io'
      → Opens (opened n io one e) (opened_io n io one e) r io'
  unfolding opened opened_io
  opens_reads q hl y = record {
    leaves = rw (opening_is q, ← hl) y.leaves;
    bytes = rw (opening_is q) y.bytes;
    sound = y.sound;
    once = y.once;
    front = y.front;
  }

  pub opens_not : v ≡ false → Whole n (length io)
      → Opens (opened n io one e) (opened_io n io one e)
      (record { found = Nothing; marks = n.marks; left = n.left; answer = Done; taken = 0; cleared = false }) io
  unfolding opened opened_io
  opens_not q w = record {
    leaves = rw (opening_is q);
    bytes = rw (opening_is q);
    sound = whole_sound n io w;
    once = omega arith;
    front = λ h. absurd (clash (sym h));
  }

pub ruleset ways = (part_31, parses_valid, parses_invalid, ripe_31, reads_parse, reads_nothing, opens_reads, opens_not, whole_sound)

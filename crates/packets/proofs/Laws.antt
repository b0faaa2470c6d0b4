-- Laws of one packet: what has to be shown for each way through a function (`ways`). Assumes nothing.
use mathlib.Core.Path.{◌≡◌, refl, sym, ap, ◌∙◌}
use mathlib.Core.Bool.{Bool, true, false, cond, true≢false}
use mathlib.Core.List.{List, []}
use Prim.Native.Nat.{ℕ, ◌-◌, ◌≤◌, min, max, zero-le}
use native.Mathlib.Omega.{arith}
use native.Mathlib.Nat.{add-zero, le-max_left, max-eq_left, min-zero, min-le_left, sub-zero, zero-add}
use lib.Dec.{eqb, ltb, lit<}
use lib.ListN.{length, take, length-take}
use lib.Seq.{take-length, take-take}
use borrow.Author.Tests.{eq-eqb, ne_eqb, ltb-true}
use Rattle.std.specs.Prelude.{Result, Ok, Err, Option, Some, None, is_some, unwrap_or}
use Rattle.std.specs.Bool.{then_some}
use Rattle.fields.specs.Overlay.{overlay}
use Rattle.fields.proofs.Bools.{of_picked}
use Rattle.fields.proofs.Overlay.{overlay_nothing}
use Rattle.buffer.specs.declared.Marks.{Marks}
use Rattle.buffer.specs.declared.marked.Overflow.{Overflow}
use Rattle.buffer.specs.Buffer.{Buffer, buffer, at, unread, room_in_all, lacks_room, missing, with_room, filled, emptied, ready, ready_bytes, read_off}
use Rattle.buffer.specs.Inner.Buffer.{Sound, Leaves, WritesAll}
use Rattle.buffer.proofs.Unread.{moved_emptied, filled_none}
use Rattle.buffer.proofs.Room.{missing_by_unread, lacks_missing, lacks_more, room_refused}
use Rattle.buffer.proofs.Ways.{writes}
use Rattle.answers.specs.declared.Answer.TheVariants.{Done, IoBufferOverflow}
use Rattle.answers.specs.declared.Endpoint.{Endpoint}
use Rattle.answers.specs.declared.Endpoint.TheVariants.{Served, Busy, Failed}
use Rattle.answers.specs.declared.Answer.{Answer}
use Rattle.answers.specs.Answers.{Answering, answer_of, answer, Lacks, endpoint_of, serves, answered_by}
use Rattle.answers.proofs.Laws.{lacks_else, lacks_asked}
use Rattle.answers.proofs.Legible.{Legible, legible_plain, legible_lacking, legible_asked}
use Rattle.wrapper.specs.declared.counters.Left.{Left}
use Rattle.wrapper.specs.declared.counters.Residue.{Residue}
use Rattle.wrapper.specs.Status.{status_bytes}
use Rattle.wrapper.proofs.Csw.{length_status}
use Rattle.packets.specs.declared.Received.{Received}
use Rattle.packets.specs.Packets.{handed, read_answer, takes_one, brought, received, accepted, send_answer, sent_count, sent_off, sent_into, filled_up, status_written}
use Rattle.packets.specs.Inner.Packets.{Reads, Sends}

-- ---- how much moves

pub moves_most : (e : Endpoint) (n : ℕ) {k : ℕ} → k ≡ accepted e n → k ≤ n
unfolding accepted
moves_most e n h = rw h (by (serves e))
  where
    by : (b : Bool) → cond b n 0 ≤ n
    by true = omega arith
    by false = omega arith

-- These laws are about what the endpoint hands over.
module _ (e : Endpoint) (packet : List ℕ) {b : Bool} (h : b ≡ serves e) where
  pub handed_all : b ≡ true → packet ≡ handed e packet
  unfolding handed
  handed_all q = rw (← h, q)

  pub handed_none : b ≡ false → take 0 packet ≡ handed e packet
  unfolding handed
  handed_none q = rw (← h, q)

-- It hands over the first bytes of the packet.
handed_first : (e : Endpoint) (packet : List ℕ) → take (length (handed e packet)) packet ≡ handed e packet
unfolding handed
handed_first e packet = by (serves e)
  where
    by : (b : Bool) → take (length (cond b packet [])) packet ≡ cond b packet []
    by true = take-length packet
    by false = refl

pub handed_long : (e : Endpoint) (packet : List ℕ) {k : ℕ} → k ≡ length (handed e packet) → k ≡ length (take k packet)
handed_long e packet h = rw h (sym (ap length (handed_first e packet)))

pub handed_most : (e : Endpoint) (packet : List ℕ) (p : ℕ) → length packet ≤ p → length (handed e packet) ≤ p
unfolding handed
handed_most e packet p h = by (serves e)
  where
    by : (b : Bool) → length (cond b packet []) ≤ p
    by true = h
    by false = omega arith

-- ---- a read

-- What is brought is counted by the packet, which is all that is handed over where anything is.
some_handed : (e : Endpoint) (packet : List ℕ) → then_some (serves e) (length packet) ≡ cond (serves e) (Some (length (handed e packet))) None
unfolding handed
some_handed e packet = by (serves e)
  where
    by : (b : Bool) → then_some b (length packet) ≡ cond b (Some (length (cond b packet []))) None
    by true = refl
    by false = refl

-- Room is asked for at least `p` bytes, and what is handed over (`ys`) is no more.
module _ (p : ℕ) (e : Endpoint) (packet : List ℕ) (s : Buffer) (fits : length packet ≤ p) {ys : List ℕ} (hy : ys ≡ handed e packet) where
  most : max p (length ys) ≡ p
  most = rw hy (max-eq_left (handed_most e packet p fits))

  module _ {asked : Result Marks Overflow} {io : List ℕ} (w : WritesAll p ys s asked io) where
    pub reads_room : {m : Marks} → asked ≡ Ok m → {o : Answer} → answer_of o ≡ answered_by e
        → {v : Bool} → v ≡ serves e → {n : Option ℕ} → n ≡ then_some v (length packet) → Reads p e packet s (record { answer = o; brought = n; marks = m }) io
    unfolding read_answer takes_one brought received
    reads_room q ho hv hn =
        let done = rw q at w in
        let room : lacks_room p s ≡ false = rw most at done.0 in
        record { answer = rw room ho; brought = rw (hn, hv, room) (some_handed e packet); leaves = rw hy at done.1 }

    pub reads_none : {o : Overflow} → asked ≡ Err o → Reads p e packet s (record { answer = IoBufferOverflow o.missing; brought = None; marks = o.marks }) io
    unfolding read_answer takes_one brought received
    reads_none q =
        let refused = rw q at w in
        let full : lacks_room p s ≡ true = rw most at refused.0 in
        let lacked = rw most at refused.1 in
        record { answer = rw (full, lacked); brought = rw full; leaves = rw hy at refused.2 }

-- Whether a packet was taken, and how many bytes it brought.
module _ (p : ℕ) (e : Endpoint) (packet : List ℕ) (s : Buffer) where
  brought_none : takes_one p e s ≡ false → brought p e packet s ≡ 0
  unfolding takes_one brought handed
  brought_none = by (lacks_room p s) (serves e)
    where
      by : (full b : Bool) → cond full false b ≡ false → cond full 0 (length (cond b packet [])) ≡ 0
      by true b h = refl
      by false true h = absurd (true≢false h)
      by false false h = refl

  module _ {r : Received} {io : List ℕ} (x : Reads p e packet s r io) where
    pub was_taken : is_some r.brought ≡ takes_one p e s
    was_taken = rw x.brought (by (takes_one p e s))
      where
        by : (b : Bool) → is_some (cond b (Some (brought p e packet s)) None) ≡ b
        by true = refl
        by false = refl

    pub was_brought : unwrap_or r.brought 0 ≡ brought p e packet s
    was_brought = rw x.brought (by (takes_one p e s) brought_none)
      where
        by : (b : Bool) → (b ≡ false → brought p e packet s ≡ 0) → unwrap_or (cond b (Some (brought p e packet s)) None) 0 ≡ brought p e packet s
        by true h = refl
        by false h = sym (h refl)

-- What a read answers is true of the room that it leaves.
pub read_lacks : (p : ℕ) (e : Endpoint) (packet : List ℕ) (s : Buffer) → Sound s → Lacks p (room_in_all (received p e packet s)) (read_answer p e s)
unfolding read_answer received
read_lacks p e packet s g =
    of_picked (Lacks p (room_in_all (received p e packet s))) (lacks_room p s)
    (λ full. record {
      less = λ _. missing_by_unread p s g ∙ ap (λ (r : ℕ). p - r) (sym (room_refused p (handed e packet) s g (lacks_more p (max p (length (handed e packet))) s g (le-max_left p (length (handed e packet))) full)));
      some = λ _. ltb-true 0 (missing p s) (sym (lacks_missing p s) ∙ full);
      none = λ not_1. absurd (not_1 refl);
    })
    (λ _. lacks_asked e)

-- A result word can show it, for a read sends nothing.
pub read_legible : (p byte : ℕ) (s : Buffer) → Legible (read_answer p (endpoint_of byte) s) 0
unfolding read_answer
read_legible p byte s = of_picked (λ (a : Answering). Legible a 0) (lacks_room p s) (λ _. legible_lacking (missing p s)) (λ _. legible_asked byte 0)

-- ---- a send

-- It wants no room.
pub send_lacks : {p room : ℕ} (e : Endpoint) (n : ℕ) → Lacks p room (send_answer e n)
unfolding send_answer
send_lacks {p} {room} e n = of_picked (Lacks p room) (eqb n 0) (λ _. lacks_else (answer 0) refl refl) (λ _. lacks_asked e)

-- A result word can show its answer, whatever is sent.
pub send_legible : (byte n count : ℕ) → Legible (send_answer (endpoint_of byte) n) count
unfolding send_answer
send_legible byte n count = of_picked (λ (a : Answering). Legible a count) (eqb n 0) (λ _. legible_plain 0 count (lit< tt) refl) (λ _. legible_asked byte count)

module _ (e : Endpoint) (n : ℕ) where
  pub sends_nothing : n ≡ 0 → answer_of Done ≡ send_answer e n
  unfolding send_answer
  sends_nothing q = rw (eq-eqb _ _ q)

  pub sends_something : (o : Answer) → (n ≡ 0 → ⊥) → answer_of o ≡ answered_by e → answer_of o ≡ send_answer e n
  unfolding send_answer
  sends_something o q h = rw (ne_eqb _ _ q) h

-- An endpoint that does its part answers 0, even with nothing unread.
pub answers_0 : (e : Endpoint) → serves e ≡ true → answered_by e ≡ answer 0
answers_0 Served h = refl
answers_0 Busy h = ap (λ (b : Bool). cond b (answer 0) (answer 6)) h
answers_0 (Failed n) h = ap (λ (b : Bool). cond b (answer 0) (answered_by (Failed n))) h

pub answer_served : (e : Endpoint) (n : ℕ) → serves e ≡ true → send_answer e n ≡ answer 0
unfolding send_answer
answer_served e n serving = of_picked (λ (t : Answering). t ≡ answer 0) (eqb n 0) (λ _. refl) (λ _. answers_0 e serving)

module _ (p : ℕ) (e : Endpoint) (s : Buffer) where
  -- Nothing is sent if the endpoint does not do its part.
  pub sent_unserved : serves e ≡ false → sent_count p e s ≡ 0
  unfolding sent_count ready accepted
  sent_unserved idle = rw idle (min-zero (unread s))

  -- If nothing is sent, the buffer and the packet buffer stay.
  module _ (k : sent_count p e s ≡ 0) where
    pub off_nothing : sent_off p e s ≡ s
    unfolding sent_count sent_off read_off
    off_nothing = rw (k, add-zero)

    pub into_nothing : (packet : List ℕ) → sent_into p e s packet ≡ packet
    unfolding sent_count sent_into ready_bytes
    into_nothing packet = rw k (overlay_nothing packet 0)

  module _ (packet : List ℕ) {b : Bool} (h : b ≡ serves e) where
    pub sends_served : b ≡ true → {k : ℕ} {m : Marks} {l : List ℕ} → k ≡ ready p s → Leaves (buffer s.bytes m) (read_off p s) → l ≡ overlay packet 0 (ready_bytes p s)
        → Sends p e s packet (record { answer = Done; count = k; marks = m }) l
    unfolding sent_count sent_off sent_into accepted
    sends_served q hk hl hp =
        let serving : serves e ≡ true = sym h ∙ q in
        record { answer = sym (answer_served e (unread s) serving); count = rw serving hk; leaves = rw serving hl; into = rw serving hp }

    pub sends_unserved : {o : Answer} {n : ℕ} → b ≡ false → Sound s → n ≡ unread s → answer_of o ≡ send_answer e n → Sends p e s packet (record { answer = o; count = 0; marks = s.marks }) packet
    sends_unserved q g hu ho =
        let none = sent_unserved (sym h ∙ q) in
        record { answer = rw hu at ho; count = sym none; leaves = record { same = sym (off_nothing none); sound = g }; into = sym (into_nothing none packet) }

-- ---- what is written before

module _ (p : ℕ) (left : Left) (s : Buffer) {w : ℕ} (hw : w ≡ min left.0 p) where
  pub fills_up : {have : ℕ} → have ≡ unread s → {t : Buffer} → Leaves t (filled 0xFF (w - have) s) → Leaves t (filled_up p left s)
  unfolding filled_up
  fills_up hu h = rw (hw, hu) at h

  pub fills_none : Sound s → w ≤ unread s → Leaves s (filled_up p left s)
  unfolding filled_up
  fills_none g h =
      let none : min left.0 p - unread s ≡ 0 = omega arith in
      record { same = rw (none, filled_none 0xFF s); sound = g }

  pub fills_not : {have : ℕ} → have ≡ unread s → Sound s → w ≤ have → Leaves s (filled_up p left s)
  fills_not hu g h = fills_none g (rw hu at h)

-- In an empty buffer there is nothing to move, so asking for room changes nothing.
room_in_empty : (n : ℕ) (io : List ℕ) → with_room n (buffer io (at 0 0)) ≡ buffer io (at 0 0)
unfolding with_room emptied
room_in_empty n io = of_picked (λ (t : Buffer). t ≡ buffer io (at 0 0)) (ltb (length io - 0) n) (λ _. moved_emptied (buffer io (at 0 0)) refl) (λ _. refl)

-- A list gives no more than it has.
take_most : (n : ℕ) (ys : List ℕ) → take n ys ≡ take (min n (length ys)) ys
take_most n ys =
    sym (take-length (take n ys)) ∙ ap (λ (k : ℕ). take k (take n ys)) (length-take n ys) ∙ take-take (min n (length ys)) n ys (min-le_left n (length ys))

pub puts_status : (tag : ℕ) (residue : Residue) (status : ℕ) (io : List ℕ) {b : List ℕ} {k : ℕ}
    → b ≡ overlay io 0 (take (length io) (status_bytes tag residue status)) → k ≡ min (length io) 13
    → Leaves (buffer b (at 0 k)) (status_written tag residue status (buffer io (at 0 0)))
unfolding status_written emptied
puts_status tag residue status io {b} {k} eb ek =
    let ys : List ℕ = status_bytes tag residue status in
    let s : Buffer = buffer io (at 0 0) in
    let sound : Sound s = record { order = zero-le; within = zero-le } in
    let fits : k ≡ min (length io) (length ys) = ek ∙ ap (min (length io)) (sym (length_status tag residue status)) in
    rw zero-add at
    (writes ys k s s sound (record { same = sym (room_in_empty (length ys) io); sound = sound }) (rw sub-zero fits) b
    (eb ∙ ap (overlay io 0) (take_most (length io) ys ∙ ap (λ (n : ℕ). take n ys) (sym fits))))

pub ruleset ways = (sends_nothing, sends_something, sends_served, sends_unserved, fills_up, fills_not, puts_status)

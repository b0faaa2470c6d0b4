-- What is unread, left and sent after each way in which a poll can end: laws of the rules, for any point `x` at which a rule starts.
--     send-..               a packet is sent, of data or of the status; with nothing unread, or with IN busy or failing, nothing changes
--     data_left, status_left    left falls by bytes of data, and not by those of the status
--     fill-.., ending-..    the fill of 6: how many 0xFF, and what 6 sends then
--     stated-.., enter-..   what is unread once the status is put in, and what entering 3 sends of it
--     take-..               a packet of data is read; with no room, or with OUT busy or failing, nothing crosses the wire (Idle)
--     read-..               the same in 0, with fewer than 31 bytes unread and with more
--     parse-..              the 31 bytes that are parsed, and what is unread after them
--     full_due              answer 4
--     whole_sent, short_sent    if 4 is not answered, one packet is sent
--     parse_taken           the packet that brought the wrapper is counted
-- Assumes nothing.
use mathlib.Core.Path.{◌≡◌, refl, sym, ap, ◌∙◌}
use mathlib.Core.Bool.{Bool, true, false, cond}
use mathlib.Core.List.{List, ◌++◌, append-nil}
use Prim.Native.Nat.{ℕ, ◌+◌, ◌-◌, ◌≤◌, ◌<◌, min, max, zero-le}
use native.Mathlib.Nat.{add_comm, sub-zero, sub-add-eq-max, min_comm, min-le_right, min-eq_right, max-eq_left}
use native.Mathlib.Omega.{arith}
use lib.Dec.{eqb, leb}
use lib.ListN.{length, take, drop, replicate, take-append-drop, length-append, length-drop, length-replicate}
use lib.Seq.{length-take-le, take-length, take-take, drop-drop}
use borrow.Author.Tests.{eq-eqb, ne_eqb, le-leb, lt-leb, lt-ltb, le-ltb}
use borrow.Table.Steps.{cases}
use Rattle.std.specs.Prelude.{Some}
use Rattle.fields.specs.Overlay.{overlay}
use Rattle.fields.proofs.Bools.{of_picked}
use Rattle.fields.proofs.Seq.{drop_take}
use Rattle.fields.proofs.Overlay.{part_inside}
use Rattle.buffer.specs.Buffer.{Buffer, buffer, at, unread, unread_bytes, emptied, fitting, lacks_room, missing, ready, ready_bytes}
use Rattle.buffer.specs.Inner.Buffer.{Sound}
use Rattle.buffer.proofs.Kept.{length_unread, ready_most, sound_emptied}
use Rattle.buffer.proofs.Room.{fitting_by_unread}
use Rattle.buffer.proofs.Unread.{unread_written, unread_filled, unread_written_all, unread_read_off, unread_emptied}
use Rattle.answers.specs.declared.Endpoint.{Endpoint}
use Rattle.answers.specs.Answers.{answer, lacking, endpoint_of, serves, answered_by}
use Rattle.ring.specs.declared.State.TheVariants.{CommandTransferInvalid, StatusTransfer, DataTransferToHost, DataTransferToHostEnding, DataTransferFromHost, DataTransferFromHostEnding}
use Rattle.wrapper.specs.declared.Wrapper.{Wrapper}
use Rattle.wrapper.specs.declared.counters.Left.{Left}
use Rattle.wrapper.specs.Counters.{fallen}
use Rattle.wrapper.specs.Status.{status_number, status_bytes}
use Rattle.wrapper.specs.Wrapper.{is_valid, wrapper_of}
use Rattle.wrapper.proofs.Csw.{length_status}
use Rattle.packets.specs.Packets.{handed, read_answer, takes_one, brought, received, accepted, send_answer, sent_count, sent_off, sent_into, filled_up, status_written}
use Rattle.packets.proofs.Laws.{handed_most, answers_0, answer_served, sent_unserved, off_nothing, into_nothing}
use Rattle.device.specs.declared.Told.{Told}
use Rattle.device.specs.Device.{is_present, in_state, with_marks, with_left}
use Rattle.bbb.specs.Poll.{Given, Polling, Point, buffer_of_point, reaching, leaving, left_then, counting, ending, ends, send_by, send, send_status, send_data, offered_packet, offered_by, take_by, take_data, status_put, enter_status, status_await_rule, no_data_rule, to_host_ending_rule, falls_short, to_host_rule, from_host_ending_rule, from_host_rule, starting, start_rule, message_at, past31, parsing, parse_rule, read_by, read_one_by, read_cbw_rule}
use Rattle.bbb.proofs.Keeping.{follows_received, follows_filled, follows_status, by_direction_lem}

-- This is the buffer that a poll leaves.
abbrev pub buffer_after : Polling → Buffer
buffer_after o = buffer o.io o.device.marks

-- These are P, and what the endpoints do: IN; OUT for a packet of data, with the packet offered; OUT in 0.
abbrev pub P : Point → ℕ
P x = x.device.fixed.packetsize

abbrev pub in_for : Given → Endpoint
in_for g = endpoint_of g.turn.write

abbrev pub out_for : Given → Point → Endpoint
out_for g x = offered_by x.taken g.turn

abbrev pub offered_at : Given → Point → List ℕ
offered_at g x = offered_packet x.taken g.one g.two

abbrev pub first_for : Given → Endpoint
first_for g = endpoint_of g.turn.first

-- Nothing crosses the wire: at most the unread bytes were moved, and of the record only the marks changed.
pub record Idle (g : Given) (x : Point) (o : Polling) : Type 0 where
  pub unread : unread_bytes (buffer_after o) ≡ unread_bytes (buffer_of_point x)
  pub device : with_marks x.device.marks o.device ≡ x.device
  pub taken : o.taken ≡ x.taken
  pub sent : o.sent ≡ 0
  pub packet : o.packet ≡ g.packet

-- ---- a packet that is sent

module _ (p : ℕ) (e : Endpoint) (s : Buffer) where
  -- What is sent and what stays unread are together what was unread.
  sent_split : (packet : List ℕ) → Sound s → take (sent_count p e s) (sent_into p e s packet) ++ unread_bytes (sent_off p e s) ≡ unread_bytes s
  unfolding sent_count sent_into sent_off ready_bytes
  sent_split packet h =
      let k : ℕ = ready (accepted e p) s in
      let ys : List ℕ = take k (unread_bytes s) in
      let long : length ys ≡ k = length-take-le k (unread_bytes s) (omega (arith, ready_most (accepted e p) s, length_unread s h)) in
      let front : take k (overlay packet 0 ys) ≡ ys = rw long at (part_inside packet 0 ys zero-le) in
      rw (front, unread_read_off (accepted e p) s h) (take-append-drop k (unread_bytes s))

  -- If the endpoint does its part, min(P, unread) bytes are sent.
  sent_all : serves e ≡ true → sent_count p e s ≡ min p (unread s)
  unfolding sent_count ready accepted
  sent_all serving = rw serving (min_comm (unread s) p)

  -- With nothing unread, nothing is sent.
  sent_nothing : unread s ≡ 0 → sent_count p e s ≡ 0
  unfolding sent_count
  sent_nothing none = omega (arith, ready_most (accepted e p) s)

fallen_nothing : (l : Left) → fallen l 0 ≡ l
unfolding fallen
fallen_nothing l = rw sub-zero

answer_nothing : (e : Endpoint) (n : ℕ) → n ≡ 0 → send_answer e n ≡ answer 0
unfolding send_answer
answer_nothing e n none = rw (eq-eqb _ _ none)

answer_something : (e : Endpoint) (n : ℕ) → (n ≡ 0 → ⊥) → send_answer e n ≡ answered_by e
unfolding send_answer
answer_something e n some = rw (ne_eqb _ _ some)

left_kept : (counts : Bool) (l : Left) → left_then counts l 0 ≡ l
left_kept true l = fallen_nothing l
left_kept false l = refl

-- The packet is data if `counts` is true, and the status otherwise.
module _ (counts : Bool) (g : Given) (x : Point) where
  -- The bytes sent, and then those still unread, are those that were unread.
  pub send_unread : Sound (buffer_of_point x) → take (send counts g x).sent (send counts g x).packet ++ unread_bytes (buffer_after (send counts g x)) ≡ unread_bytes (buffer_of_point x)
  unfolding send send_by
  send_unread h = sent_split (P x) (in_for g) (buffer_of_point x) g.packet h

  -- Of the record only marks and left change: with the old ones put back, it is the old record.
  pub send_keeps : with_left x.device.left (with_marks x.device.marks (send counts g x).device) ≡ x.device
  unfolding send send_by
  send_keeps = refl

  -- "send min(P, unread)" is done if IN does its part,
  pub send_sent : serves (in_for g) ≡ true → (send counts g x).sent ≡ min (P x) (unread (buffer_of_point x))
  unfolding send send_by
  send_sent serving = sent_all (P x) (in_for g) (buffer_of_point x) serving

  -- and the answer is then 0.
  pub send_answer_lem : serves (in_for g) ≡ true → (send counts g x).answer ≡ answer 0
  unfolding send send_by
  send_answer_lem serving = answer_served (in_for g) (unread (buffer_of_point x)) serving

  send_ends : sent_count (P x) (in_for g) (buffer_of_point x) ≡ 0 → send counts g x ≡ ends g x (send_answer (in_for g) (unread (buffer_of_point x)))
  unfolding send send_by
  send_ends k = rw (off_nothing (P x) (in_for g) (buffer_of_point x) k, into_nothing (P x) (in_for g) (buffer_of_point x) k g.packet, k, left_kept counts x.device.left)

  -- "nothing unread sends nothing, answer 0": whatever IN says, nothing changes
  pub send_nothing : unread (buffer_of_point x) ≡ 0 → send counts g x ≡ ends g x (answer 0)
  send_nothing none = send_ends (sent_nothing (P x) (in_for g) (buffer_of_point x) none) ∙ ap (ends g x) (answer_nothing (in_for g) (unread (buffer_of_point x)) none)

  -- 6 and 7: nothing changes if IN is asked and does not do its part.
  pub send_unserved : serves (in_for g) ≡ false → (unread (buffer_of_point x) ≡ 0 → ⊥) → send counts g x ≡ ends g x (answered_by (in_for g))
  send_unserved idle some = send_ends (sent_unserved (P x) (in_for g) (buffer_of_point x) idle) ∙ ap (ends g x) (answer_something (in_for g) (unread (buffer_of_point x)) some)

-- "Left falls by bytes moved, never below 0": it falls by bytes of data, and not by those of the status.
pub data_left : (g : Given) (x : Point) → (send_data g x).device.left.0 ≡ x.device.left.0 - (send_data g x).sent
unfolding send send_by fallen
data_left g x = refl

pub status_left : (g : Given) (x : Point) → (send_status g x).device.left ≡ x.device.left
unfolding send send_by
status_left g x = refl

-- ---- the fill of 6

module _ (p : ℕ) (left : Left) (s : Buffer) (h : Sound s) where
  -- The unread bytes are followed by 0xFF, as many as fit.
  pub fill_unread : unread_bytes (filled_up p left s) ≡ unread_bytes s ++ replicate (fitting (min left.0 p - unread s) s) 0xFF
  unfolding filled_up
  fill_unread = unread_filled 0xFF (min left.0 p - unread s) s h

  -- A buffer of P bytes has room for all of them, up to min(left, P).
  pub fill_exact : p ≤ length s.bytes → unread_bytes (filled_up p left s) ≡ unread_bytes s ++ replicate (min left.0 p - unread s) 0xFF
  fill_exact wide =
      let n : ℕ = min left.0 p - unread s in
      let all : fitting n s ≡ n = fitting_by_unread n s h ∙ min-eq_right (omega (arith, min-le_right left.0 p)) in
      fill_unread ∙ ap (λ (k : ℕ). unread_bytes s ++ replicate k 0xFF) all

  -- Then min(left, P) bytes are unread, or as many as there were if those were more.
  pub fill_count : p ≤ length s.bytes → unread (filled_up p left s) ≡ max (min left.0 p) (unread s)
  fill_count wide =
      let n : ℕ = min left.0 p - unread s in
      sym (length_unread (filled_up p left s) (follows_filled p left s h).sound)
      ∙ ap length (fill_exact wide)
      ∙ length-append (unread_bytes s) (replicate n 0xFF)
      ∙ rw (length_unread s h, length-replicate {A = ℕ} n 0xFF, add_comm (unread s) n) (sub-add-eq-max (min left.0 p) (unread s))

-- At this point 6 sends.
abbrev pub topped : Point → Point
topped x = reaching DataTransferToHostEnding (leaving (filled_up (P x) x.device.left (buffer_of_point x)) x)

module _ (g : Given) (x : Point) (some : x.device.left.0 ≡ 0 → ⊥) where
  -- "6: left 0 goes to 3. Otherwise .. send"
  pub fill_sends : to_host_ending_rule g x ≡ send_data g (topped x)
  unfolding to_host_ending_rule
  fill_sends = rw (ne_eqb _ _ some)

  -- The bytes sent, and then those still unread, are those that were unread with the 0xFF after them.
  pub ending_unread : Sound (buffer_of_point x) → P x ≤ length x.io → take (to_host_ending_rule g x).sent (to_host_ending_rule g x).packet ++ unread_bytes (buffer_after (to_host_ending_rule g x))
      ≡ unread_bytes (buffer_of_point x) ++ replicate (min x.device.left.0 (P x) - unread (buffer_of_point x)) 0xFF
  ending_unread h wide = rw fill_sends (send_unread true g (topped x) (follows_filled (P x) x.device.left (buffer_of_point x) h).sound ∙ fill_exact (P x) x.device.left (buffer_of_point x) h wide)

  -- 6 sends this many bytes if IN does its part.
  pub ending_sent : Sound (buffer_of_point x) → P x ≤ length x.io → serves (in_for g) ≡ true → (to_host_ending_rule g x).sent ≡ min (P x) (max (min x.device.left.0 (P x)) (unread (buffer_of_point x)))
  ending_sent h wide serving = rw fill_sends (send_sent true g (topped x) serving ∙ ap (min (P x)) (fill_count (P x) x.device.left (buffer_of_point x) h wide))

-- ---- the status

status_put_lem : (tag : ℕ) (t : Told) (s : Buffer) → 13 ≤ length s.bytes → unread_bytes (status_put tag (Some t) s) ≡ status_bytes tag t.residue (status_number t.status)
unfolding status_put status_written emptied
status_put_lem tag t s wide =
    let ys : List ℕ = status_bytes tag t.residue (status_number t.status) in
    let long : length ys ≡ 13 = length_status tag t.residue (status_number t.status) in
    let all : fitting (length ys) (emptied s) ≡ length ys = fitting_by_unread (length ys) (emptied s) (sound_emptied s) ∙ min-eq_right (omega arith) in
    unread_written ys (emptied s) (sound_emptied s) ∙ rw (all, unread_emptied s) (take-length ys)

-- At this point 3 sends, once it is entered.
abbrev pub stated : Point → Point
stated x = reaching StatusTransfer (leaving (status_put x.device.wrapper.tag x.device.status (buffer_of_point x)) x)

-- The marks there are sound.
pub stated_sound : (x : Point) → Sound (buffer_of_point (stated x))
stated_sound x = (follows_status x.device.wrapper.tag x.device.status (buffer_of_point x)).sound

-- Of the record only marks and state change.
pub enter_keeps : (g : Given) (x : Point) → with_marks x.device.marks (enter_status g x).device ≡ in_state StatusTransfer x.device
unfolding enter_status send send_by
enter_keeps g x = refl

-- A status is present, and the buffer is large enough for it.
module _ (x : Point) (t : Told) (here : x.device.status ≡ Some t) (wide : 13 ≤ length x.io) where
  -- The 13 bytes of the status are unread before the send.
  pub stated_unread : unread_bytes (buffer_of_point (stated x)) ≡ status_bytes x.device.wrapper.tag t.residue (status_number t.status)
  stated_unread = rw here (status_put_lem x.device.wrapper.tag t (buffer_of_point x) wide)

  stated_count : unread (buffer_of_point (stated x)) ≡ 13
  stated_count = sym (length_unread (buffer_of_point (stated x)) (stated_sound x)) ∙ ap length stated_unread ∙ length_status x.device.wrapper.tag t.residue (status_number t.status)

  module _ (g : Given) where
    -- The bytes sent, and then those still unread, are the 13 of the status.
    pub enter_unread : take (enter_status g x).sent (enter_status g x).packet ++ unread_bytes (buffer_after (enter_status g x)) ≡ status_bytes x.device.wrapper.tag t.residue (status_number t.status)
    unfolding enter_status
    enter_unread = send_unread false g (stated x) (stated_sound x) ∙ stated_unread

    -- If IN does its part, min(P, 13) of them are sent.
    pub enter_sent : serves (in_for g) ≡ true → (enter_status g x).sent ≡ min (P x) 13
    unfolding enter_status
    enter_sent serving = send_sent false g (stated x) serving ∙ ap (min (P x)) stated_count

    -- 6 and 7: the bytes of the status stay unread, in 3.
    pub enter_unserved : serves (in_for g) ≡ false → enter_status g x ≡ ends g (stated x) (answered_by (in_for g))
    unfolding enter_status
    enter_unserved idle = send_unserved false g (stated x) idle (λ (none : unread (buffer_of_point (stated x)) ≡ 0). omega (arith, stated_count))

-- ---- a packet that is read

-- This is what is unread after a packet that fits, depending on the room and on what OUT does.
module _ (p : ℕ) (e : Endpoint) (packet : List ℕ) (s : Buffer) (h : Sound s) (fits : length packet ≤ p) where
  received_by : unread_bytes (received p e packet s) ≡ cond (lacks_room p s) (unread_bytes s) (unread_bytes s ++ handed e packet)
  unfolding received
  received_by = rw (max-eq_left (handed_most e packet p fits)) at (unread_written_all p (handed e packet) s h)

  received_all : lacks_room p s ≡ false → serves e ≡ true → unread_bytes (received p e packet s) ≡ unread_bytes s ++ packet
  unfolding handed
  received_all room serving = received_by ∙ rw (room, serving)

  received_full : lacks_room p s ≡ true → unread_bytes (received p e packet s) ≡ unread_bytes s
  received_full full = received_by ∙ rw full

  received_unserved : lacks_room p s ≡ false → serves e ≡ false → unread_bytes (received p e packet s) ≡ unread_bytes s
  unfolding handed
  received_unserved room idle = received_by ∙ rw (room, idle) (append-nil (unread_bytes s))

module _ (g : Given) (x : Point) where
  -- Of the record only marks and left change.
  pub take_keeps : with_left x.device.left (with_marks x.device.marks (take_data g x).device) ≡ x.device
  unfolding take_data take_by
  take_keeps = refl

  -- Nothing is sent.
  pub take_sends : ((take_data g x).sent ≡ 0) × ((take_data g x).packet ≡ g.packet)
  unfolding take_data take_by
  take_sends = (refl, refl)

  take_idle : takes_one (P x) (out_for g x) (buffer_of_point x) ≡ false → brought (P x) (out_for g x) (offered_at g x) (buffer_of_point x) ≡ 0
      → unread_bytes (received (P x) (out_for g x) (offered_at g x) (buffer_of_point x)) ≡ unread_bytes (buffer_of_point x) → Idle g x (take_data g x)
  unfolding take_data take_by
  take_idle none k same = record { unread = same; device = rw (k, fallen_nothing x.device.left); taken = rw none; sent = refl; packet = refl }

  module _ (h : Sound (buffer_of_point x)) (fits : length (offered_at g x) ≤ P x) where
    -- There is room, and OUT does its part.
    module _ (room : lacks_room (P x) (buffer_of_point x) ≡ false) (serving : serves (out_for g x) ≡ true) where
      -- The packet stands after the unread bytes.
      pub take_unread : unread_bytes (buffer_after (take_data g x)) ≡ unread_bytes (buffer_of_point x) ++ offered_at g x
      unfolding take_data take_by
      take_unread = received_all (P x) (out_for g x) (offered_at g x) (buffer_of_point x) h fits room serving

      -- Left falls by its length.
      pub take_left : (take_data g x).device.left.0 ≡ x.device.left.0 - length (offered_at g x)
      unfolding take_data take_by fallen brought handed
      take_left = rw (room, serving)

      -- One more packet is taken.
      pub take_taken : (take_data g x).taken ≡ x.taken + 1
      unfolding take_data take_by takes_one
      take_taken = rw (room, serving)

      -- The answer is 0.
      pub take_answer : (take_data g x).answer ≡ answer 0
      unfolding take_data take_by read_answer
      take_answer = rw room (answers_0 (out_for g x) serving)

    -- 1: there is no room for P bytes.
    pub take_full : lacks_room (P x) (buffer_of_point x) ≡ true → ((take_data g x).answer ≡ lacking (missing (P x) (buffer_of_point x))) × Idle g x (take_data g x)
    unfolding take_data take_by read_answer takes_one brought
    take_full full = (rw full, take_idle (rw full) (rw full) (received_full (P x) (out_for g x) (offered_at g x) (buffer_of_point x) h fits full))

    -- 6 and 7: there is room, but OUT does not do its part.
    pub take_unserved : lacks_room (P x) (buffer_of_point x) ≡ false → serves (out_for g x) ≡ false → ((take_data g x).answer ≡ answered_by (out_for g x)) × Idle g x (take_data g x)
    unfolding take_data take_by read_answer takes_one brought handed
    take_unserved room idle = (rw room, take_idle (rw (room, idle)) (rw (room, idle)) (received_unserved (P x) (out_for g x) (offered_at g x) (buffer_of_point x) h fits room idle))

-- ---- a packet that is read in 0, and the wrapper

module _ (g : Given) (x : Point) where
  -- This is the point after the packet was taken.
  abbrev pub arrived : Point
  arrived = counting true (leaving (received (P x) (first_for g) g.one (buffer_of_point x)) x)

  read_idle : takes_one (P x) (first_for g) (buffer_of_point x) ≡ false → unread_bytes (received (P x) (first_for g) g.one (buffer_of_point x)) ≡ unread_bytes (buffer_of_point x) → Idle g x (read_cbw_rule g x)
  unfolding read_cbw_rule read_one_by read_by
  read_idle none same = record { unread = rw none same; device = rw none; taken = rw none; sent = rw none; packet = rw none }

  module _ (h : Sound (buffer_of_point x)) (fits : length g.one ≤ P x) where
    -- There is room, and OUT does its part.
    module _ (room : lacks_room (P x) (buffer_of_point x) ≡ false) (serving : serves (first_for g) ≡ true) where
      -- The packet stands after the unread bytes.
      pub read_unread : unread_bytes (buffer_of_point arrived) ≡ unread_bytes (buffer_of_point x) ++ g.one
      read_unread = received_all (P x) (first_for g) g.one (buffer_of_point x) h fits room serving

      read_count : unread (buffer_of_point arrived) ≡ unread (buffer_of_point x) + length g.one
      read_count =
          sym (length_unread (buffer_of_point arrived) (follows_received (P x) (first_for g) g.one (buffer_of_point x) h).sound)
          ∙ ap length read_unread
          ∙ length-append (unread_bytes (buffer_of_point x)) g.one
          ∙ ap (λ (n : ℕ). n + length g.one) (length_unread (buffer_of_point x) h)

      -- With fewer than 31 bytes unread, the poll ends there, in the state in which it was.
      pub read_short : unread (buffer_of_point x) + length g.one < 31 → read_cbw_rule g x ≡ ends g arrived (answer 0)
      unfolding read_cbw_rule read_one_by read_by takes_one read_answer
      read_short few = rw (room, serving, lt-leb 31 (unread (buffer_of_point arrived)) (omega (arith, read_count))) (ap (ends g arrived) (answers_0 (first_for g) serving))

      -- "with 31 or more unread parse"
      pub read_ripe : 31 ≤ unread (buffer_of_point x) + length g.one → read_cbw_rule g x ≡ parse_rule g arrived
      unfolding read_cbw_rule read_one_by read_by takes_one
      read_ripe ripe = rw (room, serving, le-leb 31 (unread (buffer_of_point arrived)) (omega (arith, read_count)))

    -- 1: there is no room for P bytes.
    pub read_full : lacks_room (P x) (buffer_of_point x) ≡ true → ((read_cbw_rule g x).answer ≡ lacking (missing (P x) (buffer_of_point x))) × Idle g x (read_cbw_rule g x)
    unfolding read_cbw_rule read_one_by read_by takes_one read_answer
    read_full full = (rw full, read_idle (rw full) (received_full (P x) (first_for g) g.one (buffer_of_point x) h fits full))

    -- 6 and 7: there is room, but OUT does not do its part.
    pub read_unserved : lacks_room (P x) (buffer_of_point x) ≡ false → serves (first_for g) ≡ false → ((read_cbw_rule g x).answer ≡ answered_by (first_for g)) × Idle g x (read_cbw_rule g x)
    unfolding read_cbw_rule read_one_by read_by takes_one read_answer
    read_unserved room idle = (rw (room, idle), read_idle (rw (room, idle)) (received_unserved (P x) (first_for g) g.one (buffer_of_point x) h fits room idle))

module _ (s : Buffer) (ripe : 31 ≤ unread s) where
  -- The first 31 unread bytes are parsed,
  pub parse_message : message_at s ≡ take 31 (unread_bytes s)
  unfolding message_at unread_bytes
  parse_message = sym (take-take 31 (unread s) (drop s.marks.read s.bytes) ripe)

  -- and exactly those count as read.
  pub parse_rest : Sound s → unread_bytes (past31 s) ≡ drop 31 (unread_bytes s)
  unfolding unread_bytes
  parse_rest h =
      let r : ℕ = s.marks.read in
      let fewer : unread (past31 s) ≡ unread s - 31 = omega arith in
      rw (fewer, ← drop-drop 31 r s.bytes)
      (sym (drop_take 31 (unread s) (drop r s.bytes) ripe (omega (arith, length-drop r s.bytes, h.order, h.within))))

module _ (g : Given) (x : Point) where
  -- A valid wrapper starts its data phase.
  pub parse_valid : is_valid (message_at (buffer_of_point x)) ≡ true → parse_rule g x ≡ start_rule (wrapper_of (message_at (buffer_of_point x))) g (parsing x)
  unfolding parse_rule
  parse_valid v = rw v

  -- An invalid wrapper ends the poll in 1, with both endpoints stalled; of the record only marks and state change.
  pub parse_invalid : is_valid (message_at (buffer_of_point x)) ≡ false → parse_rule g x ≡ ending (reaching CommandTransferInvalid (parsing x)) (answer 0) 0 true g.packet
  unfolding parse_rule
  parse_invalid v = rw v

-- ---- answer 4

-- "no status, left at least P, unread below P": only the state that was reached changes.
pub full_due : (g : Given) (x : Point) → is_present x.device.status ≡ false → P x ≤ x.device.left.0 → unread (buffer_of_point x) < P x → to_host_rule g x ≡ ends g (reaching DataTransferToHost x) (answer 4)
unfolding to_host_rule falls_short
full_due g x absent due few =
    let some : x.device.left.0 ≡ 0 → ⊥ = λ (none : x.device.left.0 ≡ 0). omega arith in
    rw (ne_eqb _ _ some, absent, le-leb _ _ due, lt-ltb _ _ few)

-- ---- if 4 is not answered

-- "otherwise send one packet": a whole packet is unread.
pub whole_sent : (g : Given) (x : Point) → (x.device.left.0 ≡ 0 → ⊥) → is_present x.device.status ≡ false → P x ≤ unread (buffer_of_point x) → to_host_rule g x ≡ send_data g (reaching DataTransferToHost x)
unfolding to_host_rule falls_short
whole_sent g x some absent whole =
    cases (leb (P x) x.device.left.0)
    (λ e. rw (ne_eqb _ _ some, absent, e, le-ltb _ _ whole))
    (λ e. rw (ne_eqb _ _ some, absent, e))

-- "With left below P a short packet of what is unread goes out"
pub short_sent : (g : Given) (x : Point) → (x.device.left.0 ≡ 0 → ⊥) → is_present x.device.status ≡ false → x.device.left.0 < P x → to_host_rule g x ≡ send_data g (reaching DataTransferToHost x)
unfolding to_host_rule falls_short
short_sent g x some absent less = rw (ne_eqb _ _ some, absent, lt-leb _ _ less)

-- ---- packets taken

-- A packet that was taken stays counted, whatever follows it in the poll.
module _ (g : Given) (n : ℕ) where
  abbrev Counts : Polling → Type 0
  Counts o = n ≤ o.taken

  module _ (x : Point) (h : n ≤ x.taken) where
    enter_counts : Counts (enter_status g x)
    unfolding enter_status send send_by
    enter_counts = h

    await_counts : Counts (status_await_rule g x)
    unfolding status_await_rule
    await_counts = of_picked Counts (is_present x.device.status) (λ _. enter_counts) (λ _. h)

    data_counts : Counts (send_data g x)
    unfolding send send_by
    data_counts = h

    take_counts : Counts (take_data g x)
    unfolding take_data take_by
    take_counts = of_picked (λ (k : ℕ). n ≤ k) (takes_one (P x) (out_for g x) (buffer_of_point x)) (λ _. omega arith) (λ _. h)

  module _ (x : Point) (h : n ≤ x.taken) where
    to_counts : Counts (to_host_rule g x)
    unfolding to_host_rule to_host_ending_rule
    to_counts =
        of_picked Counts (eqb x.device.left.0 0) (λ _. await_counts x h)
        (λ _. of_picked Counts (is_present x.device.status)
        (λ _. of_picked Counts (eqb x.device.left.0 0) (λ _. enter_counts x h) (λ _. data_counts (topped x) h))
        (λ _. of_picked Counts (falls_short (P x) x.device.left (unread (buffer_of_point x))) (λ _. h) (λ _. data_counts (reaching DataTransferToHost x) h)))

    from_counts : Counts (from_host_rule g x)
    unfolding from_host_rule from_host_ending_rule
    from_counts =
        of_picked Counts (eqb x.device.left.0 0) (λ _. await_counts x h)
        (λ _. of_picked Counts (is_present x.device.status)
        (λ _. of_picked Counts (eqb x.device.left.0 0) (λ _. enter_counts x h) (λ _. take_counts (reaching DataTransferFromHostEnding (leaving (buffer x.io (at 0 0)) x)) h))
        (λ _. take_counts (reaching DataTransferFromHost x) h))

  pub parse_taken : (x : Point) → n ≤ x.taken → Counts (parse_rule g x)
  unfolding parse_rule start_rule no_data_rule
  parse_taken x h =
      let w : Wrapper = wrapper_of (message_at (buffer_of_point x)) in
      let y : Point = starting w (parsing x) in
      of_picked Counts (is_valid (message_at (buffer_of_point x)))
      (λ _. by_direction_lem Counts w.direction (from_counts y h) (to_counts y h) (await_counts y h))
      (λ _. h)

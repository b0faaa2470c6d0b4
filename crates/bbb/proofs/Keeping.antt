-- No poll changes these, whatever its state and the endpoints' answers. It is one fact, carried through every rule.
--     poll_whole, call_whole    a whole record stays whole, over the IO buffer that a poll leaves
--     poll_sizes, call_sizes    what creation fixed and the lengths of both buffers stay; two packets taken, P bytes sent at most (Sizes)
--     call_lacks                with answer 1, what is missing is P less the room that the poll leaves; else nothing is
--     call_narrow               a narrow device stays narrow
--     call_legible              a result word can show the answer and the bytes sent
--     Follows, follows-..       the buffer that a step leaves has sound marks, and is as long as before
--     packet_is                 if creation fixed the same, the packet size is the same
--     call_done                 on a whole record, with packets that fit, the call is the poll
--     by_call                   what holds of both refusals and of the poll holds of the call
--     by_direction_lem              what holds of all three directions of a wrapper holds of the one that it has
-- Assumes nothing.
use mathlib.Core.Path.{◌≡◌, refl, sym, ap, ◌∙◌}
use mathlib.Core.Bool.{Bool, true, false, ◌&&◌}
use mathlib.Core.List.{List}
use Prim.Native.Nat.{ℕ, ◌/◌, ◌^◌, ◌≤◌, ◌<◌, zero-le}
use native.Mathlib.Nat.{min-le_left, min-le_right, mod-lt}
use native.Mathlib.Omega.{arith}
use lib.Dec.{eqb, leb, lit<}
use lib.ListN.{length, get_or, length-take}
use borrow.Author.Tests.{leb-true, le-leb}
use Rattle.std.specs.Prelude.{Option, None, Some}
use Rattle.fields.specs.Field.{bytes_at, get_bits}
use Rattle.fields.proofs.Bools.{and_right, not_true, of_picked}
use Rattle.fields.proofs.Field.{get_below}
use Rattle.fields.proofs.Overlay.{length_overlay}
use Rattle.fields.proofs.Seq.{length_part}
use Rattle.buffer.specs.Buffer.{Buffer, buffer, at, unread, unread_bytes, room_in_all, emptied, ready, ready_bytes, read_off}
use Rattle.buffer.specs.Inner.Buffer.{Sound}
use Rattle.buffer.proofs.Kept.{length_written, sound_written, length_filled, sound_filled, length_written_all, sound_written_all, sound_read_off, sound_emptied}
use Rattle.answers.specs.declared.Endpoint.{Endpoint}
use Rattle.answers.specs.Answers.{Answering, answer, Lacks, endpoint_of}
use Rattle.answers.proofs.Laws.{lacks_else}
use Rattle.answers.proofs.Legible.{Legible, legible_plain}
use Rattle.ring.specs.declared.State.{State}
use Rattle.ring.specs.declared.State.TheVariants.{CommandTransfer, CommandTransferInvalid, DataTransferNoData, StatusTransfer, DataTransferToHost, DataTransferToHostStatusAwait, DataTransferToHostEnding, DataTransferFromHost, DataTransferFromHostEnding}
use Rattle.ring.specs.States.{by_direction}
use Rattle.wrapper.specs.declared.DataDirection.{DataDirection}
use Rattle.wrapper.specs.declared.DataDirection.TheVariants.{Out, In, NotExpected}
use Rattle.wrapper.specs.declared.Wrapper.{Wrapper}
use Rattle.wrapper.specs.declared.counters.Left.{Left}
use Rattle.wrapper.specs.declared.counters.PutIn.{PutIn}
use Rattle.wrapper.specs.Counters.{fallen}
use Rattle.wrapper.specs.Status.{status_number, status_bytes}
use Rattle.wrapper.specs.Wrapper.{d_cbw_tag, d_cbw_data_transfer_length, is_valid, wrapper_of}
use Rattle.wrapper.proofs.Cbw.{is_valid_lem}
use Rattle.packets.specs.Packets.{handed, read_answer, takes_one, brought, received, accepted, send_answer, sent_count, sent_off, sent_into, filled_up, status_written}
use Rattle.packets.proofs.Laws.{moves_most, read_lacks, read_legible, send_lacks, send_legible}
use Rattle.device.specs.declared.Told.{Told}
use Rattle.device.specs.declared.Fixed.{Fixed}
use Rattle.device.specs.declared.Device.{Device}
use Rattle.device.specs.Device.{is_present, numbers_of, with_marks, with_left, with_wrapper, counted_anew}
use Rattle.device.specs.Create.{creation_checks}
use Rattle.device.specs.Broken.{status_fits, Whole}
use Rattle.device.proofs.Wholly.{passes, either, whole_sound}
use Rattle.device.proofs.Narrow.{NarrowParts, Narrow, narrow_left, narrow_put_in, narrow_entered, narrow_started}
use Rattle.bbb.specs.Poll.{Given, Polling, Point, point, buffer_of_point, reaching, leaving, left_then, lowered, counting, ending, send_by, send, offered_packet, offered_by, take_by, take_data, status_put, enter_status, status_await_rule, no_data_rule, to_host_ending_rule, falls_short, to_host_rule, from_host_ending_rule, from_host_rule, starting, start_rule, message_at, past31, parsing, parse_rule, read_by, read_one_by, read_cbw_rule, entering, status_transfer_rule, invalid_rule, rule_in, poll_rule, Fits, is_fitting, refusing, poll_call}
use Rattle.bbb.proofs.Polling.{fits_all, is_fitting_lem}

-- ---- the buffer that a step leaves: its marks are sound, and it is as long as before

pub record Follows (t s : Buffer) : Type 0 where
  pub sound : Sound t
  pub long : length t.bytes ≡ length s.bytes

pub follows_sent : (p : ℕ) (e : Endpoint) (s : Buffer) → Sound s → Follows (sent_off p e s) s
unfolding sent_off read_off
follows_sent p e s h = record { sound = sound_read_off (accepted e p) s h; long = refl }

pub follows_received : (p : ℕ) (e : Endpoint) (packet : List ℕ) (s : Buffer) → Sound s → Follows (received p e packet s) s
unfolding received
follows_received p e packet s h = record { sound = sound_written_all p (handed e packet) s h; long = length_written_all p (handed e packet) s h }

pub follows_filled : (p : ℕ) (left : Left) (s : Buffer) → Sound s → Follows (filled_up p left s) s
unfolding filled_up
follows_filled p left s h = record { sound = sound_filled 0xFF _ s h; long = length_filled 0xFF _ s h }

pub follows_status : (tag : ℕ) (status : Option Told) (s : Buffer) → Follows (status_put tag status s) s
unfolding status_put status_written emptied
follows_status tag None s = record { sound = sound_emptied s; long = refl }
follows_status tag (Some t) s =
    let ys : List ℕ = status_bytes tag t.residue (status_number t.status) in
    record { sound = sound_written ys (emptied s) (sound_emptied s); long = length_written ys (emptied s) (sound_emptied s) }

pub follows_31 : (s : Buffer) → Sound s → 31 ≤ unread s → Follows (past31 s) s
follows_31 s h k = record { sound = record { order = omega (arith, h.order); within = h.within }; long = refl }

follows_clean : (s : Buffer) → Follows (buffer s.bytes (at 0 0)) s
follows_clean s = record { sound = record { order = zero-le; within = zero-le }; long = refl }

-- ---- a packet that is sent

sent_most : (p : ℕ) (e : Endpoint) (s : Buffer) → sent_count p e s ≤ p
unfolding sent_count ready
sent_most p e s = omega (arith, min-le_right (unread s) (accepted e p), moves_most e p refl)

sent_length : (p : ℕ) (e : Endpoint) (s : Buffer) (packet : List ℕ) → p ≤ length packet → length (sent_into p e s packet) ≡ length packet
unfolding sent_into sent_count ready_bytes
sent_length p e s packet h =
    length_overlay packet 0 (ready_bytes (accepted e p) s)
    (omega (arith, sent_most p e s, length-take (ready (accepted e p) s) (unread_bytes s), min-le_left (ready (accepted e p) s) (length (unread_bytes s))))

-- ---- a wrapper that is valid

-- If `P` holds of all three ways to go on, it holds of the one that is taken.
pub by_direction_lem : (P : Polling → Type 0) (q : DataDirection) {a b c : Polling} → P a → P b → P c → P (by_direction q a b c)
by_direction_lem P Out a b c = a
by_direction_lem P In a b c = b
by_direction_lem P NotExpected a b c = c

block_most : (m : List ℕ) → is_valid m ≡ true → (wrapper_of m).blocklength ≤ 16
unfolding wrapper_of
block_most m h = (is_valid_lem m h).most

lun_most : (m : List ℕ) → (wrapper_of m).lun ≤ 15
unfolding wrapper_of get_bits
lun_most m = omega (arith, mod-lt (get_or m 13 0 / 2 ^ 0) {m = 2 ^ 4} (lit< tt))

-- Its numbers have their places in a record.
valid_narrow : (m : List ℕ) → is_valid m ≡ true → (d : Device) → Narrow d → Narrow (with_left (record { 0 = (wrapper_of m).length }) (with_wrapper (wrapper_of m) d))
unfolding wrapper_of bytes_at
valid_narrow m v d n =
    narrow_started d n (wrapper_of m) (get_below d_cbw_tag m) (get_below d_cbw_data_transfer_length m) (length_part 15 16 m (omega (arith, (is_valid_lem m v).whole)))

-- ---- the points of a poll of d, over an IO buffer of len bytes: what never changes, all that makes a record whole except the status,
-- which depends on the state in which the poll ends, and that a narrow device stays narrow

record Standing (d : Device) (len : ℕ) (f : Fixed) (s : Buffer) (v : Wrapper) (l : Left) (t : Option Told) (c : PutIn) : Type 0 where
  fixed : f ≡ d.fixed
  long : length s.bytes ≡ len
  sound : Sound s
  lun : v.lun ≤ 15
  block : v.blocklength ≤ 16
  narrow : Narrow d → NarrowParts v l t c

abbrev Stands : Device → ℕ → Point → Type 0
Stands d len x = Standing d len x.device.fixed (buffer_of_point x) x.device.wrapper x.device.left x.device.status x.device.putin

left_falls : (counts : Bool) (l : Left) (n : ℕ) → (left_then counts l n).0 ≤ l.0
unfolding fallen
left_falls true l n = omega arith
left_falls false l n = omega arith

-- If what creation fixed is the same, so is each part of it.
pub packet_is : {f g : Fixed} → f ≡ g → f.packetsize ≡ g.packetsize
packet_is = ap (λ (x : Fixed). x.packetsize)

size_is : {f g : Fixed} → f ≡ g → f.size ≡ g.size
size_is = ap (λ (x : Fixed). x.size)

-- The state in which a poll ends fits the status.
abbrev Fitting : Point → Type 0
Fitting x = status_fits x.device.state (is_present x.device.status) ≡ true

-- No poll of `d` changes these, over an IO buffer of `len` bytes and with a packet buffer of `n`. It takes at most two packets and sends
-- at most P bytes.
pub record Sizes (d : Device) (len n : ℕ) (o : Polling) : Type 0 where
  pub fixed : o.device.fixed ≡ d.fixed
  pub io : length o.io ≡ len
  pub packet : length o.packet ≡ n
  pub taken : o.taken ≤ 2
  pub sent : o.sent ≤ d.fixed.packetsize

-- What the answer `t` says is true of the buffer `s` that the poll leaves, and a result word can show it beside the bytes sent.
record Says (p : ℕ) (s : Buffer) (t : Answering) (sent : ℕ) : Type 0 where
  lacks : Lacks p (room_in_all s) t
  legible : Legible t sent

says_plain : {p : ℕ} {s : Buffer} (n : ℕ) → n < 256 → eqb n 1 ≡ false → Says p s (answer n) 0
says_plain n small other = record { lacks = lacks_else (answer n) other refl; legible = legible_plain n 0 small other }

-- Every rule keeps these.
record Kept (d : Device) (len n : ℕ) (o : Polling) : Type 0 where
  whole : Whole (numbers_of o.device) (length o.io)
  sizes : d.fixed.packetsize ≤ n → Sizes d len n o
  narrow : Narrow d → Narrow o.device
  says : Says d.fixed.packetsize (buffer o.io o.device.marks) o.answer o.sent

module _ (d : Device) (len : ℕ) (w : Whole (numbers_of d) len) (g : Given) where
  abbrev Keeps : Polling → Type 0
  Keeps o = Kept d len (length g.packet) o

  stands_left : (x : Point) (b : Buffer) → Stands d len x → Follows b (buffer_of_point x) → Stands d len (leaving b x)
  stands_left x b h f = record { fixed = h.fixed; long = f.long ∙ h.long; sound = f.sound; lun = h.lun; block = h.block; narrow = h.narrow }

  -- No more is left.
  stands_lowered : (x : Point) (l : Left) → Stands d len x → l.0 ≤ x.device.left.0 → Stands d len (point (with_left l x.device) x.io x.taken x.unstalled)
  stands_lowered x l h less = record { fixed = h.fixed; long = h.long; sound = h.sound; lun = h.lun; block = h.block; narrow = λ n. narrow_left x.device (h.narrow n) l less }

  -- What was put in is counted anew.
  stands_anew : (x : Point) → Stands d len x → Stands d len (point (counted_anew x.device) x.io x.taken x.unstalled)
  stands_anew x h = record { fixed = h.fixed; long = h.long; sound = h.sound; lun = h.lun; block = h.block; narrow = λ n. narrow_put_in x.device (h.narrow n) (record { 0 = 0 }) (lit< tt) }

  stands_entered : (x : Point) → Stands d len x → Stands d len (entering x)
  stands_entered x h = record { fixed = h.fixed; long = h.long; sound = h.sound; lun = h.lun; block = h.block; narrow = λ n. narrow_entered x.device (h.narrow n) }

  -- ---- the ends

  -- The poll ends with an answer and `k` bytes sent.
  kept_end : (x : Point) → Stands d len x → Fitting x → x.taken ≤ 2 → (t : Answering) (k : ℕ) → Says d.fixed.packetsize (buffer_of_point x) t k → k ≤ d.fixed.packetsize → (stalled : Bool) (packet : List ℕ)
      → (d.fixed.packetsize ≤ length g.packet → length packet ≡ length g.packet) → Keeps (ending x t k stalled packet)
  kept_end x h f taken t k says sent stalled packet same = record {
    whole = record {
      lent = size_is h.fixed ∙ w.lent ∙ sym h.long;
      created = ap creation_checks h.fixed ∙ w.created;
      order = h.sound.order;
      within = omega (arith, h.sound.within, h.long, size_is h.fixed, w.lent);
      block = h.block;
      lun = h.lun;
      status = f;
    };
    sizes = λ into. record { fixed = h.fixed; io = h.long; packet = same into; taken = taken; sent = sent };
    narrow = h.narrow;
    says = says;
  }

  kept_rest : (x : Point) → Stands d len x → Fitting x → x.taken ≤ 2 → (t : Answering) → Says d.fixed.packetsize (buffer_of_point x) t 0 → (stalled : Bool) → Keeps (ending x t 0 stalled g.packet)
  kept_rest x h f taken t says stalled = kept_end x h f taken t 0 says zero-le stalled g.packet (λ _. refl)

  module _ (x : Point) (h : Stands d len x) (f : Fitting x) (once : x.taken ≤ 1) where
    -- This is the point after a packet was sent, with `l` left.
    abbrev behind : Endpoint → Left → Point
    behind e l = point (with_left l (with_marks (sent_off x.device.fixed.packetsize e (buffer_of_point x)).marks x.device)) (sent_off x.device.fixed.packetsize e (buffer_of_point x)).bytes x.taken x.unstalled

    sends : (byte : ℕ) (l : Left) → l.0 ≤ x.device.left.0
        → Keeps (ending (behind (endpoint_of byte) l) (send_answer (endpoint_of byte) (unread (buffer_of_point x))) (sent_count x.device.fixed.packetsize (endpoint_of byte) (buffer_of_point x)) false (sent_into x.device.fixed.packetsize (endpoint_of byte) (buffer_of_point x) g.packet))
    sends byte l less =
        let p : ℕ = x.device.fixed.packetsize in
        let e : Endpoint = endpoint_of byte in
        let s : Buffer = buffer_of_point x in
        kept_end (behind e l) (stands_lowered (leaving (sent_off p e s) x) l (stands_left x (sent_off p e s) h (follows_sent p e s h.sound)) less) f (omega arith) _ _
        (record { lacks = send_lacks e (unread s); legible = send_legible byte (unread s) (sent_count p e s) })
        (rw (← packet_is h.fixed) (sent_most p e s)) false _
        (rw (← packet_is h.fixed) (sent_length p e s g.packet))

    kept_send : (counts : Bool) → Keeps (send counts g x)
    unfolding send send_by
    kept_send counts = sends g.turn.write (left_then counts x.device.left _) (left_falls counts x.device.left _)

    kept_take : Keeps (take_data g x)
    unfolding take_data take_by offered_by
    kept_take =
        let p : ℕ = x.device.fixed.packetsize in
        let e : Endpoint = offered_by x.taken g.turn in
        let packet : List ℕ = offered_packet x.taken g.one g.two in
        let s : Buffer = buffer_of_point x in
        kept_rest (counting (takes_one p e s) (lowered true (brought p e packet s) (leaving (received p e packet s) x)))
        (stands_lowered (leaving (received p e packet s) x) _ (stands_left x _ h (follows_received p e packet s h.sound)) (left_falls true x.device.left (brought p e packet s))) f
        (of_picked (λ (n : ℕ). n ≤ 2) (takes_one p e s) (λ _. omega arith) (λ _. omega arith)) _
        (record { lacks = rw (← packet_is h.fixed) (read_lacks p e packet s h.sound); legible = read_legible p _ s }) false

  -- ---- the states

  module _ (x : Point) (h : Stands d len x) (once : x.taken ≤ 1) where
    kept_enter : is_present x.device.status ≡ true → Keeps (enter_status g x)
    unfolding enter_status
    kept_enter present =
        let t : Buffer = status_put x.device.wrapper.tag x.device.status (buffer_of_point x) in
        kept_send (reaching StatusTransfer (leaving t x)) (stands_left x t h (follows_status x.device.wrapper.tag x.device.status (buffer_of_point x))) present once false

    kept_await : Keeps (status_await_rule g x)
    unfolding status_await_rule
    kept_await = of_picked Keeps (is_present x.device.status) kept_enter (λ _. kept_rest (reaching DataTransferToHostStatusAwait x) h refl (omega arith) (answer 0) (says_plain 0 (lit< tt) refl) false)

    kept_to_ending : is_present x.device.status ≡ true → Keeps (to_host_ending_rule g x)
    unfolding to_host_ending_rule
    kept_to_ending present =
        let t : Buffer = filled_up x.device.fixed.packetsize x.device.left (buffer_of_point x) in
        of_picked Keeps (eqb x.device.left.0 0) (λ _. kept_enter present)
        (λ _. kept_send (reaching DataTransferToHostEnding (leaving t x)) (stands_left x t h (follows_filled x.device.fixed.packetsize x.device.left (buffer_of_point x) h.sound)) present once true)

    kept_to : Keeps (to_host_rule g x)
    unfolding to_host_rule
    kept_to =
        of_picked Keeps (eqb x.device.left.0 0) (λ _. kept_await)
        (λ _. of_picked Keeps (is_present x.device.status) kept_to_ending
        (λ _. of_picked Keeps (falls_short x.device.fixed.packetsize x.device.left (unread (buffer_of_point x)))
        (λ _. kept_rest (reaching DataTransferToHost x) h refl (omega arith) (answer 4) (says_plain 4 (lit< tt) refl) false)
        (λ _. kept_send (reaching DataTransferToHost x) h refl once true)))

    kept_from_ending : is_present x.device.status ≡ true → Keeps (from_host_ending_rule g x)
    unfolding from_host_ending_rule
    kept_from_ending present =
        let t : Buffer = buffer x.io (at 0 0) in
        of_picked Keeps (eqb x.device.left.0 0) (λ _. kept_enter present)
        (λ _. kept_take (reaching DataTransferFromHostEnding (leaving t x)) (stands_left x t h (follows_clean (buffer_of_point x))) present once)

    kept_from : Keeps (from_host_rule g x)
    unfolding from_host_rule
    kept_from =
        of_picked Keeps (eqb x.device.left.0 0) (λ _. kept_await)
        (λ _. of_picked Keeps (is_present x.device.status) kept_from_ending (λ _. kept_take (reaching DataTransferFromHost x) h refl once))

  -- ---- after a packet that brought a wrapper

  kept_start : (m : List ℕ) → is_valid m ≡ true → (x : Point) → Stands d len x → x.taken ≤ 1 → Keeps (start_rule (wrapper_of m) g x)
  unfolding start_rule no_data_rule
  kept_start m v x h once =
      let y : Point = starting (wrapper_of m) x in
      let k : Stands d len y = record { fixed = h.fixed; long = h.long; sound = h.sound; lun = lun_most m; block = block_most m v; narrow = λ n. valid_narrow m v x.device (h.narrow n) } in
      by_direction_lem Keeps (wrapper_of m).direction (kept_from y k once) (kept_to y k once) (kept_await y k once)

  module _ (x : Point) (h : Stands d len x) (absent : is_present x.device.status ≡ false) where
    kept_parse : x.taken ≤ 1 → 31 ≤ unread (buffer_of_point x) → Keeps (parse_rule g x)
    unfolding parse_rule
    kept_parse once ripe =
        let m : List ℕ = message_at (buffer_of_point x) in
        let t : Buffer = past31 (buffer_of_point x) in
        let k : Stands d len (parsing x) = stands_anew (leaving t x) (stands_left x t h (follows_31 (buffer_of_point x) h.sound ripe)) in
        of_picked Keeps (is_valid m)
        (λ v. kept_start m v (parsing x) k once)
        (λ _. kept_rest (reaching CommandTransferInvalid (parsing x)) k (rw absent) (omega arith) (answer 0) (says_plain 0 (lit< tt) refl) true)

    kept_by : Fitting x → x.taken ≤ 1 → (took : Bool) (t : Answering) → Says d.fixed.packetsize (buffer_of_point x) t 0 → Keeps (read_by took t g x)
    unfolding read_by
    kept_by f once took t says =
        let ripe : Bool = leb 31 (unread (buffer_of_point x)) in
        of_picked Keeps (took && ripe) (λ e. kept_parse once (leb-true _ _ (and_right took ripe e))) (λ _. kept_rest x h f (omega arith) t says false)

  kept_read : (x : Point) → Stands d len x → is_present x.device.status ≡ false → Fitting x → x.taken ≡ 0 → Keeps (read_cbw_rule g x)
  unfolding read_cbw_rule read_one_by
  kept_read x h absent f none =
      let p : ℕ = x.device.fixed.packetsize in
      let e : Endpoint = endpoint_of g.turn.first in
      let took : Bool = takes_one p e (buffer_of_point x) in
      let t : Buffer = received p e g.one (buffer_of_point x) in
      kept_by (counting took (leaving t x)) (stands_left x t h (follows_received p e g.one (buffer_of_point x) h.sound)) absent f
      (of_picked (λ (n : ℕ). n ≤ 1) took (λ _. omega arith) (λ _. omega arith)) took (read_answer p e (buffer_of_point x))
      (record { lacks = rw (← packet_is h.fixed) (read_lacks p e g.one (buffer_of_point x) h.sound); legible = read_legible p g.turn.first (buffer_of_point x) })

  -- ---- all states

  kept_in : (s : State) (x : Point) → Stands d len x → Fitting x → x.device.state ≡ s → x.taken ≡ 0 → Keeps (rule_in s g x)
  unfolding rule_in invalid_rule no_data_rule status_transfer_rule
  kept_in CommandTransfer x h f e none = kept_read x h (not_true _ (rw e at f)) f none
  kept_in CommandTransferInvalid x h f e none = kept_rest x h f (omega arith) (answer 0) (says_plain 0 (lit< tt) refl) true
  kept_in DataTransferNoData x h f e none = kept_await x h (omega arith)
  kept_in StatusTransfer x h f e none =
      of_picked Keeps (eqb (unread (buffer_of_point x)) 0)
      (λ _. kept_read (entering x) (stands_entered x h) refl refl none)
      (λ _. kept_send x h f (omega arith) false)
  kept_in DataTransferToHost x h f e none = kept_to x h (omega arith)
  kept_in DataTransferToHostStatusAwait x h f e none = kept_await x h (omega arith)
  kept_in DataTransferToHostEnding x h f e none = kept_to_ending x h (omega arith) (rw e at f)
  kept_in DataTransferFromHost x h f e none = kept_from x h (omega arith)
  kept_in DataTransferFromHostEnding x h f e none = kept_from_ending x h (omega arith) (rw e at f)

-- ---- a poll, and the call

module _ (d : Device) (io : List ℕ) (g : Given) where
  kept : Whole (numbers_of d) (length io) → Kept d (length io) (length g.packet) (poll_rule d io g)
  unfolding poll_rule
  kept w =
      kept_in d (length io) w g d.state (point d io 0 false)
      (record { fixed = refl; long = refl; sound = whole_sound (numbers_of d) io w; lun = w.lun; block = w.block; narrow = λ n. n })
      w.status refl refl

  -- A poll of a whole record leaves a whole record, over the IO buffer that it leaves.
  pub poll_whole : Whole (numbers_of d) (length io) → Whole (numbers_of (poll_rule d io g).device) (length (poll_rule d io g).io)
  poll_whole w = (kept w).whole

  -- It changes no size; the packet buffer keeps its length if it holds P bytes.
  pub poll_sizes : Whole (numbers_of d) (length io) → d.fixed.packetsize ≤ length g.packet → Sizes d (length io) (length g.packet) (poll_rule d io g)
  poll_sizes w = (kept w).sizes

  -- If the record is whole and the packets fit, the call is the poll.
  pub call_done : Whole (numbers_of d) (length io) → Fits d.fixed.packetsize g.packet g.one g.two → poll_call d io g ≡ poll_rule d io g
  unfolding poll_call
  call_done w f =
      passes d io w _ _
      ∙ rw (← fits_all d.fixed.packetsize (length g.packet) (length g.one) (length g.two) f.first f.second, le-leb _ _ f.into)

  -- If `P` holds of both refusals, and of a poll of a whole record whose packets fit, it holds of the call.
  pub by_call : (P : Polling → Type 0) → P (refusing d io g 10) → P (refusing d io g 11) → (Whole (numbers_of d) (length io) → Fits d.fixed.packetsize g.packet g.one g.two → P (poll_rule d io g)) → P (poll_call d io g)
  unfolding poll_call
  by_call P broken refused done =
      either d io P broken
      (λ w. of_picked P (is_fitting d.fixed.packetsize (length g.packet) (length g.one) (length g.two))
      (λ f. done w (is_fitting_lem d.fixed.packetsize g.packet g.one g.two refl f))
      (λ _. refused))

  -- The call leaves a whole record whole.
  pub call_whole : Whole (numbers_of d) (length io) → Whole (numbers_of (poll_call d io g).device) (length (poll_call d io g).io)
  call_whole w = by_call (λ (o : Polling). Whole (numbers_of o.device) (length o.io)) w w (λ v _. poll_whole v)

  -- The call changes no size, for every record and all packets.
  pub call_sizes : Sizes d (length io) (length g.packet) (poll_call d io g)
  call_sizes =
      let same : (n : ℕ) → Sizes d (length io) (length g.packet) (refusing d io g n) = λ _. record { fixed = refl; io = refl; packet = refl; taken = zero-le; sent = zero-le } in
      by_call (Sizes d (length io) (length g.packet)) (same 10) (same 11) (λ w f. poll_sizes w f.into)

-- What the call says to be missing is true of the room that it leaves.
pub call_lacks : (d : Device) (io : List ℕ) (g : Given)
    → Lacks d.fixed.packetsize (room_in_all (buffer (poll_call d io g).io (poll_call d io g).device.marks)) (poll_call d io g).answer
call_lacks d io g =
    by_call d io g (λ (o : Polling). Lacks d.fixed.packetsize (room_in_all (buffer o.io o.device.marks)) o.answer)
    (lacks_else (answer 10) refl refl) (lacks_else (answer 11) refl refl) (λ w _. (kept d io g w).says.lacks)

-- A narrow device stays narrow.
pub call_narrow : (d : Device) (io : List ℕ) (g : Given) → Narrow d → Narrow (poll_call d io g).device
call_narrow d io g n = by_call d io g (λ (o : Polling). Narrow o.device) n n (λ w _. (kept d io g w).narrow n)

-- A result word can show the answer and the bytes sent.
pub call_legible : (d : Device) (io : List ℕ) (g : Given) → Legible (poll_call d io g).answer (poll_call d io g).sent
call_legible d io g =
    by_call d io g (λ (o : Polling). Legible o.answer o.sent) (legible_plain 10 0 (lit< tt) refl) (legible_plain 11 0 (lit< tt) refl)
    (λ w _. (kept d io g w).says.legible)

-- What each event does in states 4 and 6 to the unread bytes and to the count of what was put in. No event but a write puts bytes in, and
-- none but a poll sends or fills. Assumes nothing.
use mathlib.Core.Path.{◌≡◌, refl, sym, ap, ◌∙◌}
use mathlib.Core.Bool.{Bool, true, false, cond, not, ◌&&◌, ◌||◌}
use mathlib.Core.List.{List, [], ◌++◌, append-nil}
use Prim.Native.Nat.{ℕ, ◌+◌, ◌-◌, ◌≤◌, min, zero-le}
use native.Mathlib.Nat.{add-zero}
use native.Mathlib.Omega.{arith}
use lib.Dec.{eqb}
use lib.ListN.{length, take, replicate, length-append, length-replicate}
use lib.Seq.{length-take-le, take-length}
use borrow.Table.Steps.{cases}
use Rattle.fields.proofs.Bools.{of_picked, clash}
use Rattle.buffer.specs.Buffer.{unread, unread_bytes, lacks_room}
use Rattle.buffer.specs.Inner.Buffer.{Sound}
use Rattle.answers.specs.declared.Endpoint.{Endpoint}
use Rattle.answers.specs.declared.Endpoint.TheVariants.{Served, Busy, Failed}
use Rattle.answers.specs.declared.Stalls.{Stalls}
use Rattle.answers.specs.declared.Stalls.TheVariants.{Kept}
use Rattle.answers.specs.Answers.{Answering, answer, answered_by}
use Rattle.ring.specs.declared.State.{State}
use Rattle.ring.specs.States.{state_number}
use Rattle.ring.specs.declared.State.TheVariants.{CommandTransfer, CommandTransferInvalid, DataTransferNoData, StatusTransfer, DataTransferToHost, DataTransferToHostStatusAwait, DataTransferToHostEnding, DataTransferFromHost, DataTransferFromHostEnding}
use Rattle.wrapper.specs.Counters.{risen}
use Rattle.packets.specs.Packets.{send_answer}
use Rattle.device.specs.declared.Device.{Device}
use Rattle.device.specs.Device.{numbers_of, is_present}
use Rattle.device.specs.Broken.{Whole}
use Rattle.device.proofs.Wholly.{whole_sound, packet_fits}
use Rattle.bbb.specs.Poll.{Given, Polling, Point, point, buffer_of_point, reaching, send_by, send, send_data, enter_status, status_await_rule, to_host_ending_rule, falls_short, to_host_rule, rule_in, poll_rule, poll_call}
use Rattle.bbb.proofs.Keeping.{follows_filled, by_call}
use Rattle.bbb.proofs.After.{P, buffer_after, send_unread, topped, fill_exact}
use Rattle.calls.specs.declared.FirmwareStatus.{FirmwareStatus}
use Rattle.calls.specs.declared.Request.{Request}
use Rattle.calls.specs.Checks.{is_in, buffer_of}
use Rattle.calls.specs.Status.{Stating, with_figure}
use Rattle.calls.specs.Data.{Moving, write_data_call, write_data_all_call}
use Rattle.calls.specs.Bus.{Handling, handling_of_reset}
use Rattle.calls.proofs.After.{by_status, data_elsewhere, write_counts, write_count, write_unread, write_first, write_all_counts, write_all_answer, write_all_unread, reset_done, by_request}
use Rattle.readout.specs.History.{Socket, socket, Event, poll, status, write, write_all, read, reset, control, command, command_step, mislent, Shows, quietly, of_status, of_bus, shows, is_poll}
use Rattle.readout.specs.Account.{comes_to6, is_refusal, missing_at, filled_by, is_to_host, Lasts}
use Rattle.readout.proofs.Transfer.{unread_in}
use Rattle.readout.proofs.Rules.{bytes_of}

-- ---- a poll

-- A poll that began at the point `x` and ended with `o` filled in `n` bytes: they and those unread before are sent or unread. The count
-- stays. It was not refused.
pub record Moves (x : Point) (n : ℕ) (o : Polling) : Type 0 where
  pub flow : length (unread_bytes (buffer_after o)) + length (bytes_of o) ≡ length (unread_bytes (buffer_of_point x)) + n
  pub count : o.device.putin ≡ x.device.putin
  pub kept : is_refusal o.answer ≡ false

-- The same if it ended in 4 or 6.
abbrev pub Goes : Point → ℕ → Polling → Type 0
Goes x n o = is_to_host o.device.state ≡ true → Moves x n o

unrefused : (e : Endpoint) (n : ℕ) → is_refusal (send_answer e n) ≡ false
unfolding send_answer
unrefused e n = of_picked (λ (a : Answering). is_refusal a ≡ false) (eqb n 0) (λ _. refl) (λ _. by e)
  where
    by : (e : Endpoint) → is_refusal (answered_by e) ≡ false
    by Served = refl
    by Busy = refl
    by (Failed k) = refl

-- The number of 0xFF that 6 fills in, at the point `x`.
abbrev pub missing : Point → ℕ
missing x = min x.device.left.0 (P x) - unread (buffer_of_point x)

send_count : (g : Given) (x : Point) → (send_data g x).device.putin ≡ x.device.putin
unfolding send send_by
send_count g x = refl

send_unrefused : (g : Given) (x : Point) → is_refusal (send_data g x).answer ≡ false
unfolding send send_by
send_unrefused g x = unrefused _ _

module _ (g : Given) where
  -- A packet of data is sent from the point `y`, where `n` more bytes are unread than at `x`.
  module _ (x y : Point) (n : ℕ) (more : length (unread_bytes (buffer_of_point y)) ≡ length (unread_bytes (buffer_of_point x)) + n) where
    send_flow : Sound (buffer_of_point y) → length (unread_bytes (buffer_after (send_data g y))) + length (bytes_of (send_data g y)) ≡ length (unread_bytes (buffer_of_point x)) + n
    send_flow sound =
        let parts = sym (length-append (bytes_of (send_data g y)) (unread_bytes (buffer_after (send_data g y)))) ∙ ap length (send_unread true g y sound) in
        omega (arith, parts, more)

    moves_send : Sound (buffer_of_point y) → y.device.putin ≡ x.device.putin → Moves x n (send_data g y)
    moves_send sound same = record { flow = send_flow sound; count = send_count g y ∙ same; kept = send_unrefused g y }

  -- 3 and 5 are left out.
  pub enter_leaves : (x : Point) → is_to_host (enter_status g x).device.state ≡ true → ⊥
  unfolding enter_status send send_by
  enter_leaves x h = clash (sym h)

  pub await_leaves : (x : Point) → is_to_host (status_await_rule g x).device.state ≡ true → ⊥
  unfolding status_await_rule
  await_leaves x = of_picked (λ (o : Polling). is_to_host o.device.state ≡ true → ⊥) (is_present x.device.status) (λ _. enter_leaves x) (λ _ h. clash (sym h))

  module _ (x : Point) (sound : Sound (buffer_of_point x)) (wide : P x ≤ length x.io) where
    ending_goes : Goes x (missing x) (to_host_ending_rule g x)
    unfolding to_host_ending_rule
    ending_goes =
        of_picked (Goes x (missing x)) (eqb x.device.left.0 0) (λ _ h. absurd (enter_leaves x h))
        (λ _ _. moves_send x (topped x) (missing x)
        (ap length (fill_exact (P x) x.device.left (buffer_of_point x) sound wide) ∙ length-append (unread_bytes (buffer_of_point x)) (replicate (missing x) 0xFF) ∙ ap (λ (k : ℕ). length (unread_bytes (buffer_of_point x)) + k) (length-replicate {A = ℕ} (missing x) 0xFF))
        (follows_filled (P x) x.device.left (buffer_of_point x) sound).sound refl)

    pub to_goes : Goes x (cond (is_present x.device.status) (missing x) 0) (to_host_rule g x)
    unfolding to_host_rule
    to_goes =
        let n : ℕ = cond (is_present x.device.status) (missing x) 0 in
        of_picked (Goes x n) (eqb x.device.left.0 0) (λ _ h. absurd (await_leaves x h))
        (λ _. of_picked (Goes x n) (is_present x.device.status) (λ present. rw present ending_goes)
        (λ absent. of_picked (Goes x n) (falls_short (P x) x.device.left (unread (buffer_of_point x)))
        (λ _ _. rw absent (record { flow = refl; count = refl; kept = refl }))
        (λ _ _. rw absent (moves_send x (reaching DataTransferToHost x) 0 (sym (add-zero _)) sound refl))))

module _ (s : Socket) (whole : Whole (numbers_of s.device) (length s.io)) (g : Given) where
  abbrev start : Point
  start = point s.device s.io 0 false

  sound : Sound (buffer_of_point start)
  sound = whole_sound (numbers_of s.device) s.io whole

  wide : P start ≤ length s.io
  wide = packet_fits (numbers_of s.device) (length s.io) whole

  -- Whether a poll in the state `σ` comes to 6.
  abbrev comes : State → Bool
  comes σ = eqb (state_number σ) 6 || (eqb (state_number σ) 4 && is_present s.device.status)

  rule_goes : (σ : State) → is_to_host σ ≡ true → Goes start (cond (comes σ) (missing start) 0) (rule_in σ g start)
  unfolding rule_in
  rule_goes CommandTransfer h = absurd (clash (sym h))
  rule_goes CommandTransferInvalid h = absurd (clash (sym h))
  rule_goes DataTransferNoData h = absurd (clash (sym h))
  rule_goes StatusTransfer h = absurd (clash (sym h))
  rule_goes DataTransferToHost h = to_goes g start sound wide
  rule_goes DataTransferToHostStatusAwait h = absurd (clash (sym h))
  rule_goes DataTransferToHostEnding h = ending_goes g start sound wide
  rule_goes DataTransferFromHost h = absurd (clash (sym h))
  rule_goes DataTransferFromHostEnding h = absurd (clash (sym h))

  -- What the call does, refused or not.
  abbrev CallMoves : Polling → Type 0
  CallMoves o = is_to_host o.device.state ≡ true
      → (length (unread_bytes (buffer_after o)) + length (bytes_of o) ≡ length (unread_in s) + cond (not (is_refusal o.answer) && comes_to6 s) (missing_at s) 0) × (o.device.putin ≡ s.device.putin)

  call_moves : is_to_host s.device.state ≡ true → CallMoves (poll_call s.device s.io g)
  unfolding poll_rule
  call_moves in46 =
      by_call s.device s.io g CallMoves (λ _. (refl, refl)) (λ _. (refl, refl))
      (λ _ _ h. let m = rule_goes s.device.state in46 h in (rw m.kept m.flow, m.count))

-- ---- every event

-- An event at the socket `s` fills in `n` bytes and shows `o`. The bytes that it puts in or fills in, and those unread before, are sent or
-- unread; and the record counts what it puts in.
pub record Flows (s : Socket) (n : ℕ) (o : Shows) : Type 0 where
  pub flow : length (unread_in o.socket) + length o.sent ≡ length (unread_in s) + length o.put + n
  pub count : o.socket.device.putin ≡ risen s.device.putin (length o.put)

-- After the event `e` at the socket `s` the device is in 4 or 6.
abbrev pub LastsBy : Event → Socket → Type 0
LastsBy e s = Lasts e s (shows e s)

-- In 4 and 6 nothing can be read.
in_46 : (σ : State) → is_to_host σ ≡ true → eqb (state_number σ) 7 ≡ false
in_46 CommandTransfer h = absurd (clash (sym h))
in_46 CommandTransferInvalid h = absurd (clash (sym h))
in_46 DataTransferNoData h = absurd (clash (sym h))
in_46 StatusTransfer h = absurd (clash (sym h))
in_46 DataTransferToHost h = refl
in_46 DataTransferToHostStatusAwait h = absurd (clash (sym h))
in_46 DataTransferToHostEnding h = refl
in_46 DataTransferFromHost h = absurd (clash (sym h))
in_46 DataTransferFromHostEnding h = absurd (clash (sym h))

module _ (s : Socket) (whole : Whole (numbers_of s.device) (length s.io)) (in46 : is_to_host s.device.state ≡ true) (stored : s.device.putin.0 ≤ 4294967295) where
  count_stays : s.device.putin ≡ risen s.device.putin 0
  unfolding risen
  count_stays = ap (λ (n : ℕ). record { 0 = n }) (omega arith)

  poll_flows : (g : Given) → LastsBy (poll g) s → Flows s (filled_by (poll g) s (shows (poll g) s)) (shows (poll g) s)
  unfolding shows filled_by is_poll
  poll_flows g lasts =
      let m = call_moves s whole g in46 lasts in
      record { flow = rw (add-zero (length (unread_in s))) m.0; count = m.1 ∙ count_stays }

  unchanged : (a : Answering) (stalls : Stalls) (delivered : List ℕ) → Flows s 0 (quietly s a stalls delivered)
  unchanged a stalls delivered = record { flow = omega arith; count = count_stays }

  status_flows : (f : FirmwareStatus) → Flows s 0 (shows (status f) s)
  unfolding shows with_figure
  status_flows f = by_status s.device s.io f (λ (o : Stating). Flows s 0 (of_status s.io o)) (unchanged (answer 10) Kept []) (unchanged (answer 12) Kept []) (λ _ _. record { flow = omega arith; count = count_stays })

  read_flows : (dst : List ℕ) → Flows s 0 (shows (read dst) s)
  unfolding shows is_in
  read_flows dst = rw (data_elsewhere 7 s.device s.io dst _ whole (in_46 s.device.state in46)) (unchanged _ Kept [])

  -- The first `n` bytes of the source were put in after the unread ones.
  put_flows : (d : Device) (io src : List ℕ) (n : ℕ) (a : Answering) → n ≤ length src → d.putin ≡ risen s.device.putin n → unread_bytes (buffer_of d io) ≡ unread_in s ++ take n src
      → Flows s 0 (record { socket = socket d io; answer = a; stalls = Kept; taken = []; sent = []; put = take n src; delivered = [] })
  put_flows d io src n a most counts behind =
      let long : length (take n src) ≡ n = length-take-le n src most in
      record { flow = omega (arith, ap length behind, length-append (unread_in s) (take n src)); count = rw long counts }

  write_flows : (src : List ℕ) → Flows s 0 (shows (write src) s)
  unfolding shows
  write_flows src =
      let d : Device = s.device in
      let io : List ℕ = s.io in
      let o : Moving = write_data_call d io src in
      cases (is_in 4 d)
      (λ in4. put_flows o.device o.bytes src o.count _ (omega (arith, write_count d io whole src in4)) (write_counts d io src stored)
      (write_unread d io whole src in4 ∙ ap (λ (l : List ℕ). unread_in s ++ l) (write_first d io whole src in4)))
      (λ elsewhere. rw (data_elsewhere 4 d io io _ whole elsewhere) (unchanged _ Kept []))

  write_all_flows : (src : List ℕ) → Flows s 0 (shows (write_all src) s)
  unfolding shows
  write_all_flows src =
      let d : Device = s.device in
      let io : List ℕ = s.io in
      let o : Moving = write_data_all_call d io src in
      cases (is_in 4 d)
      (λ in4.
      let n : o.count ≡ cond (lacks_room (length src) (buffer_of d io)) 0 (length src) = (write_all_answer d io whole src in4).1 in
      put_flows o.device o.bytes src o.count _
      (cases (lacks_room (length src) (buffer_of d io)) (λ full. rw (n, full) zero-le) (λ room. rw (n, room) (omega arith)))
      (write_all_counts d io src stored)
      (write_all_unread d io whole src in4 ∙ cases (lacks_room (length src) (buffer_of d io)) (λ full. rw (n, full) (sym (append-nil (unread_in s)))) (λ room. rw (n, room, take-length))))
      (λ elsewhere. rw (data_elsewhere 4 d io io _ whole elsewhere) (unchanged _ Kept []))

  -- A reset leaves 4 and 6.
  reset_flows : LastsBy reset s → Flows s 0 (shows reset s)
  unfolding shows handling_of_reset
  reset_flows lasts = absurd (clash (sym (rw (reset_done s.device s.io whole) at lasts)))

  control_flows : (q : Request) → LastsBy (control q) s → Flows s 0 (shows (control q) s)
  unfolding shows handling_of_reset
  control_flows q =
      by_request s.device s.io q (λ (o : Handling). is_to_host o.device.state ≡ true → Flows s 0 (of_bus s.io o))
      (λ a _ _. unchanged a _ _) (λ _ _ lasts. absurd (clash (sym lasts)))

  pub event_flows : (e : Event) → LastsBy e s → Flows s (filled_by e s (shows e s)) (shows e s)
  unfolding shows filled_by is_poll
  event_flows (poll g) lasts = poll_flows g lasts
  event_flows (status f) lasts = status_flows f
  event_flows (write src) lasts = write_flows src
  event_flows (write_all src) lasts = write_all_flows src
  event_flows (read dst) lasts = read_flows dst
  event_flows reset lasts = reset_flows lasts
  event_flows (control q) lasts = control_flows q lasts
  event_flows command lasts = unchanged _ _ _
  event_flows (command_step extended) lasts = unchanged _ _ _
  event_flows mislent lasts = unchanged _ _ _

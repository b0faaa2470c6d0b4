-- A poll of a whole record is served where its packets fit and all endpoints do their part. So the number of served polls can be reached.
-- Assumes nothing.
use mathlib.Core.Path.{◌≡◌, refl}
use mathlib.Core.Bool.{Bool, true, false, ◌&&◌}
use Prim.Native.Nat.{ℕ}
use lib.Dec.{eqb, leb}
use lib.ListN.{length}
use Rattle.fields.proofs.Bools.{of_picked}
use Rattle.buffer.specs.Buffer.{Buffer, buffer, at, unread, lacks_room}
use Rattle.answers.specs.declared.Endpoint.{Endpoint}
use Rattle.answers.specs.Answers.{Answering, endpoint_of, serves}
use Rattle.ring.specs.declared.State.{State}
use Rattle.ring.specs.declared.State.TheVariants.{CommandTransfer, CommandTransferInvalid, DataTransferNoData, StatusTransfer, DataTransferToHost, DataTransferToHostStatusAwait, DataTransferToHostEnding, DataTransferFromHost, DataTransferFromHostEnding}
use Rattle.wrapper.specs.Wrapper.{is_valid, wrapper_of}
use Rattle.packets.specs.Packets.{read_answer, takes_one, received}
use Rattle.packets.proofs.Laws.{answers_0}
use Rattle.device.specs.Device.{numbers_of, is_present}
use Rattle.device.specs.Broken.{Whole}
use Rattle.bbb.specs.Poll.{Given, Polling, Point, point, buffer_of_point, reaching, leaving, counting, send_status, send_data, offered_by, take_by, take_data, enter_status, status_await_rule, no_data_rule, to_host_ending_rule, falls_short, to_host_rule, from_host_ending_rule, from_host_rule, starting, start_rule, message_at, parsing, parse_rule, read_by, read_one_by, read_cbw_rule, entering, status_transfer_rule, invalid_rule, rule_in, poll_rule}
use Rattle.bbb.proofs.Keeping.{by_direction_lem, call_done}
use Rattle.bbb.proofs.After.{P, first_for, out_for, topped, stated, send_answer_lem}
use Rattle.readout.specs.History.{Socket, poll, shows, is_served}
use Rattle.readout.specs.Demand.{Willing}

-- The poll is served.
abbrev Does : Polling → Type 0
Does o = is_served o.answer ≡ true

module _ (g : Given) (first : serves (endpoint_of g.turn.first) ≡ true) (second : serves (endpoint_of g.turn.second) ≡ true) (into : serves (endpoint_of g.turn.write) ≡ true) where
  -- A read of a packet answers 0 or 1.
  read_does : (p : ℕ) (e : Endpoint) (s : Buffer) → serves e ≡ true → is_served (read_answer p e s) ≡ true
  unfolding read_answer is_served
  read_does p e s serving = of_picked (λ (t : Answering). is_served t ≡ true) (lacks_room p s) (λ _. refl) (λ _. rw (answers_0 e serving))

  offered_serves : (n : ℕ) → serves (offered_by n g.turn) ≡ true
  unfolding offered_by
  offered_serves n = of_picked (λ (b : ℕ). serves (endpoint_of b) ≡ true) (eqb n 0) (λ _. first) (λ _. second)

  module _ (x : Point) where
    status_does : Does (send_status g x)
    unfolding is_served
    status_does = rw (send_answer_lem false g x into)

    data_does : Does (send_data g x)
    unfolding is_served
    data_does = rw (send_answer_lem true g x into)

    take_does : Does (take_data g x)
    unfolding take_data take_by
    take_does = read_does (P x) (out_for g x) (buffer_of_point x) (offered_serves x.taken)

  module _ (x : Point) where
    enter_does : Does (enter_status g x)
    unfolding enter_status
    enter_does = status_does (stated x)

    await_does : Does (status_await_rule g x)
    unfolding status_await_rule is_served
    await_does = of_picked Does (is_present x.device.status) (λ _. enter_does) (λ _. refl)

    to_ending_does : Does (to_host_ending_rule g x)
    unfolding to_host_ending_rule
    to_ending_does = of_picked Does (eqb x.device.left.0 0) (λ _. enter_does) (λ _. data_does (topped x))

    to_does : Does (to_host_rule g x)
    unfolding to_host_rule is_served
    to_does =
        of_picked Does (eqb x.device.left.0 0) (λ _. await_does)
        (λ _. of_picked Does (is_present x.device.status) (λ _. to_ending_does)
        (λ _. of_picked Does (falls_short (P x) x.device.left (unread (buffer_of_point x))) (λ _. refl) (λ _. data_does (reaching DataTransferToHost x))))

    from_ending_does : Does (from_host_ending_rule g x)
    unfolding from_host_ending_rule
    from_ending_does = of_picked Does (eqb x.device.left.0 0) (λ _. enter_does) (λ _. take_does (reaching DataTransferFromHostEnding (leaving (buffer x.io (at 0 0)) x)))

    from_does : Does (from_host_rule g x)
    unfolding from_host_rule
    from_does =
        of_picked Does (eqb x.device.left.0 0) (λ _. await_does)
        (λ _. of_picked Does (is_present x.device.status) (λ _. from_ending_does) (λ _. take_does (reaching DataTransferFromHost x)))

  parse_does : (x : Point) → Does (parse_rule g x)
  unfolding parse_rule start_rule no_data_rule is_served
  parse_does x =
      let w = wrapper_of (message_at (buffer_of_point x)) in
      let y : Point = starting w (parsing x) in
      of_picked Does (is_valid (message_at (buffer_of_point x))) (λ _. by_direction_lem Does w.direction (from_does y) (to_does y) (await_does y)) (λ _. refl)

  wrapper_does : (x : Point) → Does (read_cbw_rule g x)
  unfolding read_cbw_rule read_one_by read_by
  wrapper_does x =
      let took : Bool = takes_one (P x) (first_for g) (buffer_of_point x) in
      let y : Point = counting took (leaving (received (P x) (first_for g) g.one (buffer_of_point x)) x) in
      of_picked Does (took && leb 31 (unread (buffer_of_point y))) (λ _. parse_does y) (λ _. read_does (P x) (first_for g) (buffer_of_point x) first)

  rule_does : (σ : State) (x : Point) → Does (rule_in σ g x)
  unfolding rule_in invalid_rule no_data_rule status_transfer_rule is_served
  rule_does CommandTransfer x = wrapper_does x
  rule_does CommandTransferInvalid x = refl
  rule_does DataTransferNoData x = await_does x
  rule_does StatusTransfer x = of_picked Does (eqb (unread (buffer_of_point x)) 0) (λ _. wrapper_does (entering x)) (λ _. status_does x)
  rule_does DataTransferToHost x = to_does x
  rule_does DataTransferToHostStatusAwait x = await_does x
  rule_does DataTransferToHostEnding x = to_ending_does x
  rule_does DataTransferFromHost x = from_does x
  rule_does DataTransferFromHostEnding x = from_ending_does x

pub willing_served : (g : Given) (s : Socket) → Whole (numbers_of s.device) (length s.io) → Willing g s → is_served (shows (poll g) s).answer ≡ true
unfolding is_served shows poll_rule
willing_served g s whole w =
    rw (call_done s.device s.io g whole w.fits) (rule_does g w.first w.second w.write s.device.state (point s.device s.io 0 false))

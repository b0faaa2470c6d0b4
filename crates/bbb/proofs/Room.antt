-- A poll that lacked room is made again. While the room that was made is less than what was missing, it lacks the rest; then it reads its
-- packet. Assumes nothing.
use mathlib.Core.Path.{◌≡◌, sym, ap, ◌∙◌}
use mathlib.Core.Bool.{true, false}
use mathlib.Core.List.{List}
use Prim.Native.Nat.{ℕ, ◌+◌, ◌-◌, ◌≤◌, ◌<◌}
use native.Mathlib.Omega.{arith}
use lib.Dec.{ltb, leb}
use lib.ListN.{length}
use borrow.Author.Tests.{ne_eqb, leb-true, leb-false, lt-ltb, le-ltb}
use borrow.Table.Steps.{cases}
use Rattle.buffer.specs.Buffer.{unread, room_in_all, lacks_room, missing}
use Rattle.buffer.specs.Inner.Buffer.{Sound}
use Rattle.buffer.proofs.Room.{lacks_then, missing_then}
use Rattle.answers.specs.Answers.{lacking, again, serves, answered_by}
use Rattle.packets.specs.Packets.{read_answer}
use Rattle.ring.specs.declared.State.TheVariants.{CommandTransfer}
use Rattle.device.specs.declared.Device.{Device}
use Rattle.device.specs.Device.{numbers_of}
use Rattle.device.proofs.Wholly.{whole_sound}
use Rattle.bbb.specs.Poll.{Given, Polling, Point, point, buffer_of_point, offered_by, take_by, take_data, from_host_rule, read_cbw_rule, rule_in, poll_rule, poll_call}
use Rattle.bbb.specs.Room.{Roomier, AwaitsData, PollsAgain}
use Rattle.bbb.proofs.Keeping.{packet_is, call_done, call_sizes, call_lacks}
use Rattle.bbb.proofs.After.{buffer_after, first_for, arrived, read_short, read_ripe, read_full, parse_taken}

module _ (d : Device) (io : List ℕ) (g : Given) (refused : (poll_call d io g).answer.number ≡ 1) (k : ℕ) (d' : Device) (io' : List ℕ) (g' : Given) (h : Roomier (poll_call d io g) k d' io' g') where
  abbrev m : ℕ
  m = (poll_call d io g).answer.missing

  abbrev start : Point
  start = point d' io' 0 false

  sound : Sound (buffer_of_point start)
  sound = whole_sound (numbers_of d') io' h.whole

  -- P less the room that the first poll left was missing.
  less : m ≡ d'.fixed.packetsize - room_in_all (buffer_after (poll_call d io g))
  less = (call_lacks d io g).less refused ∙ ap (λ (p : ℕ). p - room_in_all (buffer_after (poll_call d io g))) (sym (h.same ∙ packet_is (call_sizes d io g).fixed))

  lacks_now : lacks_room d'.fixed.packetsize (buffer_of_point start) ≡ ltb k m
  lacks_now = lacks_then d'.fixed.packetsize (room_in_all (buffer_after (poll_call d io g))) m k (buffer_of_point start) sound less h.room

  missing_now : missing d'.fixed.packetsize (buffer_of_point start) ≡ m - k
  missing_now = missing_then d'.fixed.packetsize (room_in_all (buffer_after (poll_call d io g))) m k (buffer_of_point start) sound less h.room

  -- In 7 it reads a packet of data.
  data_again : AwaitsData d' → (poll_call d' io' g').answer ≡ again m k (answered_by (first_for g'))
  unfolding poll_rule rule_in from_host_rule take_data take_by offered_by read_answer again
  data_again a =
      ap (λ (o : Polling). o.answer) (call_done d' io' g' h.whole h.fits)
      ∙ rw (a.state, ne_eqb _ _ a.some, a.absent, lacks_now, missing_now)

  -- In 0 it reads a packet for a wrapper.
  module _ (in0 : d'.state ≡ CommandTransfer) where
    is_read : poll_call d' io' g' ≡ read_cbw_rule g' start
    unfolding poll_rule rule_in
    is_read = call_done d' io' g' h.whole h.fits ∙ rw in0

    wrapper_short : k < m → (poll_call d' io' g').answer ≡ lacking (m - k)
    wrapper_short few = rw (is_read, ← missing_now) (read_full g' start sound h.fits.first (lacks_now ∙ lt-ltb k m few)).0

    wrapper_taken : m ≤ k → serves (first_for g') ≡ true → 1 ≤ (poll_call d' io' g').taken
    wrapper_taken enough serving =
        let room : lacks_room d'.fixed.packetsize (buffer_of_point start) ≡ false = lacks_now ∙ le-ltb k m enough in
        rw is_read
        (cases (leb 31 (unread (buffer_of_point start) + length g'.one))
        (λ e. rw (read_ripe g' start sound h.fits.first room serving (leb-true _ _ e)) (parse_taken g' 1 (arrived g' start) (omega arith)))
        (λ e. rw (read_short g' start sound h.fits.first room serving (leb-false _ _ e)) (omega arith)))

-- A poll lacked room, and a poll is made with more.
pub poll_again : (d : Device) (io : List ℕ) (g : Given) → (poll_call d io g).answer.number ≡ 1
    → (k : ℕ) (d' : Device) (io' : List ℕ) (g' : Given) → Roomier (poll_call d io g) k d' io' g' → PollsAgain (poll_call d io g).answer.missing k d' io' g'
poll_again d io g refused k d' io' g' h =
    record {
      answers = data_again d io g refused k d' io' g' h;
      short = wrapper_short d io g refused k d' io' g' h;
      taken = wrapper_taken d io g refused k d' io' g' h;
    }

-- Laws of the calls that events stand for: what each way through a function owes. Assumes nothing.
use mathlib.Core.Path.{◌≡◌, ap}
use mathlib.Core.Bool.{Bool, true, ◌&&◌}
use mathlib.Core.List.{List, [], ◌∷◌, ◌++◌}
use Prim.Native.Nat.{ℕ, ◌+◌, ◌-◌, ◌≤◌, ◌<◌}
use Rattle.std.specs.Prelude.{Option, Some, None}
use native.Mathlib.Nat.{zero-add}
use native.Mathlib.Numerals.{one-add}
use native.Mathlib.Omega.{arith}
use lib.Dec.{eqb, leb}
use lib.ListN.{length, take, drop, set, length-drop}
use lib.Seq.{take_all}
use borrow.Author.Tests.{eqb-true, leb-true}
use Rattle.fields.specs.Field.{get}
use Rattle.fields.specs.Overlay.{overlay}
use Rattle.fields.proofs.Bools.{and_left, and_right}
use Rattle.fields.proofs.Overlay.{overlay_nothing, overlay_stored}
use Rattle.wrapper.specs.declared.Wrapper.{Wrapper}
use Rattle.device.specs.declared.Device.{Device}
use Rattle.bbb.specs.declared.Turn.{Turn}
use Rattle.bbb.specs.declared.Polled.{Polled}
use Rattle.bbb.specs.Poll.{polling_of, given, poll_call}
use Rattle.calls.specs.declared.FirmwareStatus.{FirmwareStatus}
use Rattle.calls.specs.declared.Request.{Request}
use Rattle.calls.specs.declared.Stated.{Stated}
use Rattle.calls.specs.declared.Moved.{Moved}
use Rattle.calls.specs.declared.Handled.{Handled}
use Rattle.calls.specs.declared.command.Offer.{Offer}
use Rattle.calls.specs.declared.command.Step.{Step}
use Rattle.calls.specs.Status.{stating_of, set_status_call}
use Rattle.calls.specs.Data.{moving_of, read_data_call, write_data_call, write_data_all_call}
use Rattle.calls.specs.Bus.{Handling, handling_of, replied, reset_call, control_call}
use Rattle.calls.specs.Command.{stepping_of, offered_of, command_step_told_call}
use Rattle.benchfile.specs.Event.{first_answer, second_answer, first_length, second_length, first_packet, second_packet, room_field, agrees, is_poll_body, is_status_body, is_long, suits}
use Rattle.benchact.specs.declared.Acted.{Acted}
use Rattle.benchact.specs.Act.{front, turn_of, acting_of_poll, poll_acts, firmware_status_of, acting_of_status, status_acts, acting_of_write, write_acts, write_all_acts, acting_of_read, read_acts, in_front, acting_of_bus, reset_acts, request_of, control_acts, extended_of, command_in_front, acting_of_step, command_acts}
use Rattle.benchact.specs.Inner.Act.{acting_of, told_by, polled_by, stated_by, moved_by, handled_by}

-- ---- what the kind says of the body

module _ (body : List ℕ) (h : is_poll_body body ≡ true) where
  pub poll_long : 5 ≤ length body
  unfolding is_poll_body
  poll_long = leb-true _ _ (and_left _ _ h)

  -- The length of the first packet stands in the body.
  pub poll_counts : 3 < length body
  poll_counts = omega (arith, poll_long)

  -- The first packet ends in the body.
  pub poll_ends : {n : ℕ} → n ≡ get first_length body → 5 + n ≤ length body
  unfolding is_poll_body
  poll_ends e =
      let rest : Bool = agrees (get first_answer body) (get first_length body) && agrees (get second_answer body) (get second_length body) in
      let all : Bool = eqb (length body) (5 + get first_length body + get second_length body) in
      let l : length body ≡ 5 + get first_length body + get second_length body = eqb-true _ _ (and_left all rest (and_right (leb 5 (length body)) (all && rest) h)) in
      omega arith

module _ (k : ℕ) (body : List ℕ) (h : suits k body ≡ true) where
  pub suits_poll : k ≡ 1 → is_poll_body body ≡ true
  unfolding suits
  suits_poll e = rw e at h

  pub suits_status : k ≡ 2 → length body ≡ 5
  unfolding suits is_status_body
  suits_status e = eqb-true _ _ (and_left _ _ (rw e at h))

  pub suits_read : k ≡ 5 → length body ≡ 2
  unfolding suits is_long
  suits_read e = eqb-true _ _ (rw e at h)

  pub suits_control : k ≡ 7 → length body ≡ 2
  unfolding suits is_long
  suits_control e = eqb-true _ _ (rw e at h)

-- ---- the calls, kind by kind

-- The elements from the index `k` up to the last one.
to_end : (k : ℕ) (l : List ℕ) → take (length l - k) (drop k l) ≡ drop k l
to_end k l = take_all (length l - k) (drop k l) (omega (arith, length-drop k l))

pub polls : (body : List ℕ) (d : Device) (io lent : List ℕ) (r : Polled) {io' lent' : List ℕ} {t : Turn} {n : ℕ} {a : Acted} → t ≡ turn_of body → n ≡ get first_length body
    → polling_of r io' lent' ≡ poll_call d io (given lent (take (5 + n - 5) (drop 5 body)) (take (length body - (5 + n)) (drop (5 + n) body)) t)
    → a ≡ polled_by r → acting_of a io' lent' ≡ poll_acts body d io lent
unfolding poll_acts acting_of_poll first_packet second_packet
polls body d io lent r {n = n} ht hn h ha =
    let e : 5 + n - 5 ≡ n = omega arith in
    rw ha (ap acting_of_poll (rw (e, to_end (5 + n) body, hn, ht) at h))

pub states : (body : List ℕ) (d : Device) (io lent : List ℕ) (r : Stated) {f : FirmwareStatus} {a : Acted} → f ≡ firmware_status_of body → stating_of r ≡ set_status_call d io f → a ≡ stated_by r
    → acting_of a io lent ≡ status_acts body d io lent
unfolding status_acts acting_of_status
states body d io lent r hf h ha = rw ha (ap (acting_of_status io lent) (rw hf at h))

module _ (body : List ℕ) (d : Device) (io lent : List ℕ) (r : Moved) {io' : List ℕ} {a : Acted} where
  pub writes : moving_of r io' ≡ write_data_call d io body → a ≡ moved_by r → acting_of a io' lent ≡ write_acts body d io lent
  unfolding write_acts acting_of_write
  writes h ha = rw ha (ap (acting_of_write lent) h)

  pub writes_all : moving_of r io' ≡ write_data_all_call d io body → a ≡ moved_by r → acting_of a io' lent ≡ write_all_acts body d io lent
  unfolding write_all_acts acting_of_write
  writes_all h ha = rw ha (ap (acting_of_write lent) h)

pub reads : (body : List ℕ) (d : Device) (io lent : List ℕ) (r : Moved) {n : ℕ} {dst : List ℕ} {a : Acted} → n ≡ get room_field body → moving_of r dst ≡ read_data_call d io (take n lent)
    → a ≡ moved_by r → acting_of (record a { shown = r.report.count }) io (dst ++ drop n lent) ≡ read_acts body d io lent
unfolding read_acts acting_of_read
reads body d io lent r {n} hn h ha = rw (ha, ← hn) (ap (acting_of_read io lent n) h)

-- ---- what is put at the front of the lent bytes: a control answer, or LUN and block

module _ (lent : List ℕ) (x : Option ℕ) where
  pub shows_nothing : x ≡ None → front 0 lent ≡ in_front (replied x) lent
  unfolding in_front
  shows_nothing e = rw (e, overlay_nothing)

  pub shows_lun : {n : ℕ} → x ≡ Some n → 1 ≤ length lent → front 1 (set lent 0 n) ≡ in_front (replied x) lent
  unfolding in_front
  shows_lun {n} e h = rw e (ap (front 1) (rw overlay_nothing at (overlay_stored lent 0 [] n (omega arith))))

-- One byte is put at the front, and others after it.
behind : (l : List ℕ) (v : ℕ) (ys : List ℕ) → 1 ≤ length l → overlay (set l 0 v) 1 ys ≡ overlay l 0 (v ∷ ys)
unfolding overlay
behind [] v ys h = absurd (omega arith)
behind (x ∷ xs) v ys h = rw (one-add, zero-add)

module _ (lent : List ℕ) (w : Wrapper) (x : Option Offer) where
  pub offers_nothing : x ≡ None → front 0 lent ≡ command_in_front w (offered_of x) lent
  unfolding command_in_front
  offers_nothing e = rw e

  pub offers_command : {o : Offer} {lent' : List ℕ} → x ≡ Some o → 17 ≤ length lent → lent' ≡ overlay (set lent 0 o.lun) 1 w.block
      → front (1 + w.blocklength) lent' ≡ command_in_front w (offered_of x) lent
  unfolding command_in_front
  offers_command {o} e h hl = rw (e, hl) (ap (front (1 + w.blocklength)) (behind lent o.lun w.block (omega arith)))

module _ (d : Device) (io lent : List ℕ) {lent' : List ℕ} where
  module _ (r : Handled) {n : ℕ} {a : Acted} (hf : front n lent' ≡ in_front (replied r.report.reply) lent) (ha : a ≡ handled_by r) where
    answers : {o : Handling} → handling_of r ≡ o → acting_of (record a { shown = n }) io lent' ≡ acting_of_bus io lent o
    unfolding acting_of_bus
    answers h = rw (ha, ← h, ← hf)

    pub resets : handling_of r ≡ reset_call d io → acting_of (record a { shown = n }) io lent' ≡ reset_acts d io lent
    unfolding reset_acts
    resets h = answers h

    pub controls : (body : List ℕ) {q : Request} → q ≡ request_of body → handling_of r ≡ control_call d io q → acting_of (record a { shown = n }) io lent' ≡ control_acts body d io lent
    unfolding control_acts
    controls body hq h = answers (rw hq at h)

  pub steps : (body : List ℕ) (r : Step) {e : Bool} {n : ℕ} {a : Acted} → e ≡ extended_of body → stepping_of r ≡ command_step_told_call e d io
      → front n lent' ≡ command_in_front d.wrapper (offered_of r.offer) lent → a ≡ told_by d r.answer → acting_of (record a { shown = n; offer = r.offer }) io lent' ≡ command_acts body d io lent
  unfolding command_acts acting_of_step
  steps body r he h hf ha = rw (ha, ← he, ← h, ← hf)

pub ruleset shows = (shows_nothing, shows_lun)

pub ruleset poll_ways = (poll_long, poll_counts, poll_ends, polls)

pub ruleset acts = (suits_poll, suits_status, suits_read, suits_control, states, writes, writes_all)

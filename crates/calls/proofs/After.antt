-- Laws for callers: what is true after a call, for any record, or for a whole one if the law says so.
--     by-..         what holds of a refusal and of what is done holds of the call, whatever the answer
--     .._keeps      what of the record is as before, whatever the answer
--     .._done       what a call gives on a whole record, if it is accepted
--     .._unread     the unread bytes after it
--     .._count      how many bytes a read or a write moves
--     .._counts     the record counts what a write moved
--     .._storable   that count is the one before, or has 32 bits
--     .._within     the count is not above the write mark
--     .._tells      if the answer is 10, nothing has moved; if it is any other, the record is whole
--     .._whole      a whole record stays whole, over the IO buffer that the call leaves
-- Assumes nothing.
use mathlib.Core.Path.{◌≡◌, refl, sym, ap, ◌∙◌, subst}
use mathlib.Core.Bool.{Bool, true, false, not, cond}
use mathlib.Core.List.{List, [], ◌∷◌, ◌++◌}
use Prim.Native.Nat.{ℕ, ◌+◌, ◌^◌, ◌≤◌, ◌<◌, min, max, zero-le}
use native.Mathlib.Nat.{min-le_left, min-le_right, max-eq_right}
use native.Mathlib.Omega.{arith}
use lib.Dec.{eqb, leb}
use lib.ListN.{length, take, drop, length-take}
use lib.Seq.{length-take-le, take-take}
use borrow.Author.Tests.{ne_eqb, le-leb, leb-true}
use borrow.Table.Steps.{cases}
use Rattle.fields.specs.Overlay.{overlay}
use Rattle.fields.proofs.Bools.{and_left, of_picked, clash}
use Rattle.buffer.specs.declared.Marks.{Marks}
use Rattle.buffer.specs.Buffer.{Buffer, buffer, unread, unread_bytes, room, room_in_all, with_room, appended, fitting, written, lacks_room, missing, written_all, ready, ready_bytes, read_off}
use Rattle.buffer.specs.Inner.Buffer.{Sound}
use Rattle.buffer.proofs.Kept.{length_written, sound_written, length_written_all, sound_written_all, sound_read_off}
use Rattle.buffer.proofs.Room.{fitting_by_unread}
use Rattle.buffer.proofs.Unread.{unread_written, unread_written_all, unread_read_off}
use Rattle.answers.specs.declared.Stalls.TheVariants.{Kept}
use Rattle.answers.specs.Answers.{Answering, answer, lacking}
use Rattle.scsi.specs.Decoding.{decode_call}
use Rattle.ring.specs.declared.State.{State}
use Rattle.ring.specs.declared.State.TheVariants.{CommandTransfer, CommandTransferInvalid, DataTransferNoData, StatusTransfer, DataTransferToHost, DataTransferToHostStatusAwait, DataTransferToHostEnding, DataTransferFromHost, DataTransferFromHostEnding}
use Rattle.ring.specs.States.{state_number}
use Rattle.device.specs.declared.Device.{Device}
use Rattle.wrapper.specs.declared.counters.PutIn.{PutIn}
use Rattle.wrapper.specs.Counters.{risen}
use Rattle.device.specs.Device.{numbers_of, is_present, with_marks, with_status, with_put_in, entering0}
use Rattle.device.specs.Broken.{status_fits, Whole}
use Rattle.device.proofs.Wholly.{passes, either, whole_sound}
use Rattle.calls.specs.declared.FirmwareStatus.{FirmwareStatus}
use Rattle.calls.specs.declared.Request.{Request}
use Rattle.calls.specs.Checks.{is_in, buffer_of}
use Rattle.calls.specs.Status.{Stating, stating, takes_status, with_figure, accepted_status, set_status_call}
use Rattle.calls.specs.Data.{Moving, moving, works_in, moving_to, moving_in, read_from, read_data_call, limited, write_in, write_data_call, write_all_in, write_data_all_call}
use Rattle.calls.specs.Bus.{Handling, handling, handling_of_reset, reset_call, handling_of_request, control_call}
use Rattle.calls.specs.Command.{showing, is_shown, command_call, stepping, is_offered, stepping_of_decoding, block_of, command_step_told_call}

-- ---- a whole record

module _ (d : Device) (io : List ℕ) (w : Whole (numbers_of d) (length io)) where
  sound : Sound (buffer_of d io)
  sound = whole_sound (numbers_of d) io w

  -- The record has other marks, over as many bytes.
  whole_marked : (m : Marks) (b : List ℕ) → Sound (buffer b m) → length b ≡ length io → Whole (numbers_of (with_marks m d)) (length b)
  whole_marked m b g e = record {
    lent = w.lent ∙ sym e;
    created = w.created;
    order = g.order;
    within = omega (arith, g.within, w.lent);
    block = w.block;
    lun = w.lun;
    status = w.status;
  }

  whole_entered : Whole (numbers_of (entering0 d)) (length io)
  whole_entered = record { lent = w.lent; created = w.created; order = w.order; within = w.within; block = w.block; lun = w.lun; status = refl }

-- ---- the status

-- A state that accepts a status may have one.
fits_present : (s : State) → takes_status (state_number s) ≡ true → status_fits s true ≡ true
unfolding takes_status
fits_present CommandTransfer h = h
fits_present CommandTransferInvalid h = h
fits_present DataTransferNoData h = refl
fits_present StatusTransfer h = refl
fits_present DataTransferToHost h = refl
fits_present DataTransferToHostStatusAwait h = refl
fits_present DataTransferToHostEnding h = refl
fits_present DataTransferFromHost h = refl
fits_present DataTransferFromHostEnding h = refl

module _ (d : Device) (io : List ℕ) (f : FirmwareStatus) where
  pub by_status : (P : Stating → Type 0) → P (stating (answer 10) d) → P (stating (answer 12) d) → (takes_status (state_number d.state) ≡ true → f.status ≤ 2 → P (stating (answer 0) (with_figure f d))) → P (set_status_call d io f)
  unfolding set_status_call accepted_status
  by_status P broken refused done =
      either d io P broken
      (λ _. of_picked P (takes_status (state_number d.state)) (λ t. of_picked P (leb f.status 2) (λ h. done t (leb-true f.status 2 h)) (λ _. refused)) (λ _. refused))

  -- Everything but the status stays: with the old one put back, it is the old record.
  pub status_keeps : with_status d.status (set_status_call d io f).device ≡ d
  unfolding with_figure
  status_keeps = by_status (λ (o : Stating). with_status d.status o.device ≡ d) refl refl (λ _ _. refl)

  pub status_whole : Whole (numbers_of d) (length io) → Whole (numbers_of (set_status_call d io f).device) (length io)
  unfolding with_figure
  status_whole w =
      by_status (λ (o : Stating). Whole (numbers_of o.device) (length io)) w w
      (λ t _. record { lent = w.lent; created = w.created; order = w.order; within = w.within; block = w.block; lun = w.lun; status = fits_present d.state t })

  pub status_done : Whole (numbers_of d) (length io) → takes_status (state_number d.state) ≡ true → f.status ≤ 2 → set_status_call d io f ≡ stating (answer 0) (with_figure f d)
  unfolding set_status_call accepted_status
  status_done w t h = passes d io w _ _ ∙ rw (t, le-leb _ _ h)

-- An accepted status leaves this: the record has it, and its byte is 0, 1 or 2.
pub record Accepted (d : Device) (f : FirmwareStatus) (o : Stating) : Type 0 where
  pub device : o.device ≡ with_figure f d
  pub byte : f.status ≤ 2

pub status_accepted : (d : Device) (io : List ℕ) (f : FirmwareStatus) → eqb (set_status_call d io f).answer.number 0 ≡ true → Accepted d f (set_status_call d io f)
status_accepted d io f =
    by_status d io f (λ (o : Stating). eqb o.answer.number 0 ≡ true → Accepted d f o) (λ h. absurd (clash (sym h))) (λ h. absurd (clash (sym h)))
    (λ _ byte _. record { device = refl; byte = byte })

-- "a later one replaces the earlier"
pub status_later : (d : Device) (f g : FirmwareStatus) → with_figure f (with_figure g d) ≡ with_figure f d
unfolding with_figure
status_later d f g = refl

-- ---- data

module _ (P : Moving → Type 0) (state : ℕ) (d : Device) (io bytes : List ℕ) (done : Moving) where
  pub by_refusals : P (moving (answer 10) 0 d bytes) → P (moving (answer 3) 0 d bytes) → P done → P (works_in state d io bytes done)
  unfolding works_in
  by_refusals broken elsewhere q = either d io P broken (λ _. of_picked P (is_in state d) (λ _. q) (λ _. elsewhere))

  pub by_data : ((a : Answering) → P (moving a 0 d bytes)) → P done → P (works_in state d io bytes done)
  by_data p q = by_refusals (p (answer 10)) (p (answer 3)) q

module _ (state : ℕ) (d : Device) (io bytes : List ℕ) (done : Moving) (w : Whole (numbers_of d) (length io)) where
  pub data_done : is_in state d ≡ true → works_in state d io bytes done ≡ done
  unfolding works_in
  data_done h = passes d io w _ _ ∙ rw h

  -- The answer is 3, and all is as before.
  pub data_elsewhere : is_in state d ≡ false → works_in state d io bytes done ≡ moving (answer 3) 0 d bytes
  unfolding works_in
  data_elsewhere h = passes d io w _ _ ∙ rw h

-- If the answer is 10, nothing has moved; if it is any other, the record is whole.
pub record Tells10 (d : Device) (io bytes : List ℕ) (o : Moving) : Type 0 where
  pub broken : eqb o.answer.number 10 ≡ true → o ≡ moving (answer 10) 0 d bytes
  pub whole : eqb o.answer.number 10 ≡ false → Whole (numbers_of d) (length io)

data_tells : (state : ℕ) (d : Device) (io bytes : List ℕ) (done : Moving) → eqb done.answer.number 10 ≡ false → Tells10 d io bytes (works_in state d io bytes done)
unfolding works_in
data_tells state d io bytes done h =
    either d io (Tells10 d io bytes) (record { broken = λ _. refl; whole = λ e. absurd (clash e) })
    (λ w. of_picked (Tells10 d io bytes) (is_in state d)
    (λ _. record { broken = λ e. absurd (clash (sym e ∙ h)); whole = λ _. w })
    (λ _. record { broken = λ e. absurd (clash (sym e)); whole = λ _. w }))

pub read_tells : (d : Device) (io dst : List ℕ) → Tells10 d io dst (read_data_call d io dst)
unfolding read_from
read_tells d io dst = data_tells 7 d io dst _ refl

pub write_tells : (d : Device) (io src : List ℕ) → Tells10 d io io (write_data_call d io src)
unfolding write_in
write_tells d io src = data_tells 4 d io io _ refl

pub write_all_tells : (d : Device) (io src : List ℕ) → Tells10 d io io (write_data_all_call d io src)
unfolding write_all_in
write_all_tells d io src = data_tells 4 d io io _ (of_picked (λ (o : Moving). eqb o.answer.number 10 ≡ false) (lacks_room (length src) (buffer_of d io)) (λ _. refl) (λ _. refl))

-- Whatever the answer, everything of the record but the marks stays, and with a write the count of what was put in: with the old ones put
-- back, it is the old record.
pub read_keeps : (d : Device) (io dst : List ℕ) → with_marks d.marks (read_data_call d io dst).device ≡ d
unfolding read_from
read_keeps d io dst = by_data (λ (o : Moving). with_marks d.marks o.device ≡ d) 7 d io dst _ (λ _. refl) refl

pub write_keeps : (d : Device) (io src : List ℕ) → with_put_in d.putin (with_marks d.marks (write_data_call d io src).device) ≡ d
unfolding write_in
write_keeps d io src = by_data (λ (o : Moving). with_put_in d.putin (with_marks d.marks o.device) ≡ d) 4 d io io _ (λ _. refl) refl

pub write_all_keeps : (d : Device) (io src : List ℕ) → with_put_in d.putin (with_marks d.marks (write_data_all_call d io src).device) ≡ d
unfolding write_all_in
write_all_keeps d io src =
    let P : Moving → Type 0 = λ (o : Moving). with_put_in d.putin (with_marks d.marks o.device) ≡ d in
    by_data P 4 d io io _ (λ _. refl) (of_picked P (lacks_room (length src) (buffer_of d io)) (λ _. refl) (λ _. refl))

-- Whatever the answer, the record counts the bytes that a write moved: a refused call moved none. Its count has 32 bits.
Counts : Device → Moving → Type 0
Counts d o = o.device.putin ≡ risen d.putin o.count

module _ (d : Device) (io src : List ℕ) (stored : d.putin.0 ≤ 4294967295) where
  refused_counts : (a : Answering) (bytes : List ℕ) (m : Marks) → Counts d (moving a 0 (with_marks m d) bytes)
  unfolding risen Counts
  refused_counts a bytes m = ap (λ (n : ℕ). record { 0 = n }) (omega arith)

  pub write_counts : (write_data_call d io src).device.putin ≡ risen d.putin (write_data_call d io src).count
  unfolding write_in Counts
  write_counts = by_data (Counts d) 4 d io io _ (λ a. refused_counts a io d.marks) refl

  pub write_all_counts : (write_data_all_call d io src).device.putin ≡ risen d.putin (write_data_all_call d io src).count
  unfolding write_all_in Counts
  write_all_counts =
      let t : Buffer = written_all 0 src (buffer_of d io) in
      by_data (Counts d) 4 d io io _ (λ a. refused_counts a io d.marks)
      (of_picked (Counts d) (lacks_room (length src) (buffer_of d io)) (λ _. refused_counts (lacking (missing (length src) (buffer_of d io))) t.bytes t.marks) (λ _. refl))

-- The count of what was put in is the one before, or has 32 bits.
Storable : Device → Moving → Type 0
Storable d o = (d.putin.0 ≡ o.device.putin.0 → ⊥) → o.device.putin.0 < 2 ^ 32

pub risen_small : (c : PutIn) (n : ℕ) → (risen c n).0 < 2 ^ 32
unfolding risen
risen_small c n = omega (arith, min-le_right (c.0 + n) 4294967295)

pub write_storable : (d : Device) (io src : List ℕ) → (d.putin.0 ≡ (write_data_call d io src).device.putin.0 → ⊥) → (write_data_call d io src).device.putin.0 < 2 ^ 32
unfolding write_in Storable
write_storable d io src = by_data (Storable d) 4 d io io _ (λ _ other. absurd (other refl)) (λ _. risen_small d.putin _)

pub write_all_storable : (d : Device) (io src : List ℕ) → (d.putin.0 ≡ (write_data_all_call d io src).device.putin.0 → ⊥) → (write_data_all_call d io src).device.putin.0 < 2 ^ 32
unfolding write_all_in Storable
write_all_storable d io src =
    by_data (Storable d) 4 d io io _ (λ _ other. absurd (other refl))
    (of_picked (Storable d) (lacks_room (length src) (buffer_of d io)) (λ _ other. absurd (other refl)) (λ _ _. risen_small d.putin (length src)))

-- The count is never above the write mark that the call leaves.
pub read_within : (d : Device) (io dst : List ℕ) → Whole (numbers_of d) (length io) → (read_data_call d io dst).count ≤ (read_data_call d io dst).device.marks.write
unfolding read_from read_off ready
read_within d io dst w =
    by_data (λ (o : Moving). o.count ≤ o.device.marks.write) 7 d io dst _ (λ _. zero-le)
    (omega (arith, min-le_left (unread (buffer_of d io)) (length dst)))

pub write_within : (d : Device) (io src : List ℕ) → (write_data_call d io src).count ≤ (write_data_call d io src).device.marks.write
unfolding write_in written appended fitting
write_within d io src =
    let ys : List ℕ = limited d.left src in
    let free : ℕ = room (with_room (length ys) (buffer_of d io)) in
    by_data (λ (o : Moving). o.count ≤ o.device.marks.write) 4 d io io _ (λ _. zero-le)
    (omega (arith, length-take-le (min free (length ys)) ys (min-le_right free (length ys))))

pub write_all_within : (d : Device) (io src : List ℕ) → (write_data_all_call d io src).count ≤ (write_data_all_call d io src).device.marks.write
unfolding write_all_in written_all appended
write_all_within d io src =
    let P : Moving → Type 0 = λ (o : Moving). o.count ≤ o.device.marks.write in
    by_data P 4 d io io _ (λ _. zero-le)
    (rw (most (length src)) (cases (lacks_room (length src) (buffer_of d io)) (λ e. rw e zero-le) (λ e. rw e (omega arith))))
  where
    most : (n : ℕ) → max 0 n ≡ n
    most n = max-eq_right zero-le

-- These are the answer and the count if all is written or nothing; `a` is the answer of a refusal.
all_answer : (b : Bool) (a : Answering) (n : ℕ) (d : Device) (t : Buffer)
    → ((cond b (moving_to a 0 d t) (moving_in n d t)).answer ≡ cond b a (answer 0)) × ((cond b (moving_to a 0 d t) (moving_in n d t)).count ≡ cond b 0 n)
all_answer true a n d t = (refl, refl)
all_answer false a n d t = (refl, refl)

-- The record is whole.
module _ (d : Device) (io : List ℕ) (w : Whole (numbers_of d) (length io)) where
  module _ (dst : List ℕ) where
    pub read_whole : Whole (numbers_of (read_data_call d io dst).device) (length io)
    unfolding read_from read_off
    read_whole =
        by_data (λ (o : Moving). Whole (numbers_of o.device) (length io)) 7 d io dst _ (λ _. w)
        (whole_marked d io w (read_off (length dst) (buffer_of d io)).marks io (sound_read_off (length dst) (buffer_of d io) (sound d io w)) refl)

    module _ (h : is_in 7 d ≡ true) where
      -- The marks fix the count.
      pub read_count : (read_data_call d io dst).count ≡ min (unread (buffer_of d io)) (length dst)
      unfolding read_from ready
      read_count = ap (λ (o : Moving). o.count) (data_done 7 d io dst _ w h)

      -- That many bytes are no longer unread; the destination gets them.
      pub read_unread : unread_bytes (buffer_of (read_data_call d io dst).device io) ≡ drop (read_data_call d io dst).count (unread_bytes (buffer_of d io))
      unfolding read_from read_off
      read_unread =
          subst (λ (o : Moving). unread_bytes (buffer_of o.device io) ≡ drop o.count (unread_bytes (buffer_of d io))) (sym (data_done 7 d io dst _ w h))
          (unread_read_off (length dst) (buffer_of d io) (sound d io w))

      pub read_into_lem : (read_data_call d io dst).bytes ≡ overlay dst 0 (take (read_data_call d io dst).count (unread_bytes (buffer_of d io)))
      unfolding read_from ready_bytes
      read_into_lem =
          subst (λ (o : Moving). o.bytes ≡ overlay dst 0 (take o.count (unread_bytes (buffer_of d io)))) (sym (data_done 7 d io dst _ w h)) refl

  module _ (src : List ℕ) where
    pub write_whole : Whole (numbers_of (write_data_call d io src).device) (length (write_data_call d io src).bytes)
    unfolding write_in
    write_whole =
        let ys : List ℕ = limited d.left src in
        by_data (λ (o : Moving). Whole (numbers_of o.device) (length o.bytes)) 4 d io io _ (λ _. w)
        (whole_marked d io w (written ys (buffer_of d io)).marks (written ys (buffer_of d io)).bytes (sound_written ys (buffer_of d io) (sound d io w)) (length_written ys (buffer_of d io) (sound d io w)))

    pub write_all_whole : Whole (numbers_of (write_data_all_call d io src).device) (length (write_data_all_call d io src).bytes)
    unfolding write_all_in
    write_all_whole =
        let P : Moving → Type 0 = λ (o : Moving). Whole (numbers_of o.device) (length o.bytes) in
        let t : Buffer = written_all 0 src (buffer_of d io) in
        let g : Sound (buffer_of d io) = sound d io w in
        let kept : Whole (numbers_of (with_marks t.marks d)) (length t.bytes) = whole_marked d io w t.marks t.bytes (sound_written_all 0 src (buffer_of d io) g) (length_written_all 0 src (buffer_of d io) g) in
        by_data P 4 d io io _ (λ _. w) (of_picked P (lacks_room (length src) (buffer_of d io)) (λ _. kept) (λ _. kept))

    module _ (h : is_in 4 d ≡ true) where
      -- "at most `left` bytes a call"
      pub write_most : (write_data_call d io src).count ≤ d.left.0
      unfolding write_in fitting limited
      write_most =
          let ys : List ℕ = limited d.left src in
          subst (λ (o : Moving). o.count ≤ d.left.0) (sym (data_done 4 d io io _ w h))
          (omega (arith, min-le_right (room (with_room (length ys) (buffer_of d io))) (length ys), length-take d.left.0 src, min-le_left d.left.0 (length src)))

      -- It is no fewer than it can be: it is limited only by what is left, by the source, and by the part of the buffer that is not
      -- unread.
      pub write_count : (write_data_call d io src).count ≡ min (room_in_all (buffer_of d io)) (min d.left.0 (length src))
      unfolding write_in limited
      write_count =
          ap (λ (o : Moving). o.count) (data_done 4 d io io _ w h)
          ∙ fitting_by_unread (length (limited d.left src)) (buffer_of d io) (sound d io w)
          ∙ ap (min (room_in_all (buffer_of d io))) (length-take d.left.0 src)

      -- These are the first bytes of the source.
      pub write_first : take (write_data_call d io src).count (limited d.left src) ≡ take (write_data_call d io src).count src
      unfolding limited
      write_first = take-take (write_data_call d io src).count d.left.0 src write_most

      -- That many bytes stand after the unread ones.
      pub write_unread : unread_bytes (buffer_of (write_data_call d io src).device (write_data_call d io src).bytes) ≡ unread_bytes (buffer_of d io) ++ take (write_data_call d io src).count (limited d.left src)
      unfolding write_in
      write_unread =
          let ys : List ℕ = limited d.left src in
          subst (λ (o : Moving). unread_bytes (buffer_of o.device o.bytes) ≡ unread_bytes (buffer_of d io) ++ take o.count ys) (sym (data_done 4 d io io _ w h))
          (unread_written ys (buffer_of d io) (sound d io w))

      -- All of the source is written or none: the answer is 0 and the count its length, or 1, with what is missing, and 0.
      pub write_all_answer : ((write_data_all_call d io src).answer ≡ cond (lacks_room (length src) (buffer_of d io)) (lacking (missing (length src) (buffer_of d io))) (answer 0)) × ((write_data_all_call d io src).count ≡ cond (lacks_room (length src) (buffer_of d io)) 0 (length src))
      unfolding write_all_in
      write_all_answer =
          let s : Buffer = buffer_of d io in
          subst (λ (o : Moving). (o.answer ≡ cond (lacks_room (length src) s) (lacking (missing (length src) s)) (answer 0)) × (o.count ≡ cond (lacks_room (length src) s) 0 (length src)))
          (sym (data_done 4 d io io _ w h)) (all_answer (lacks_room (length src) s) (lacking (missing (length src) s)) (length src) d (written_all 0 src s))

      pub write_all_unread : unread_bytes (buffer_of (write_data_all_call d io src).device (write_data_all_call d io src).bytes)
          ≡ cond (lacks_room (length src) (buffer_of d io)) (unread_bytes (buffer_of d io)) (unread_bytes (buffer_of d io) ++ src)
      unfolding write_all_in
      write_all_unread =
          let P : Moving → Type 0 = λ (o : Moving). unread_bytes (buffer_of o.device o.bytes) ≡ cond (lacks_room (length src) (buffer_of d io)) (unread_bytes (buffer_of d io)) (unread_bytes (buffer_of d io) ++ src) in
          let e : P (moving_to (answer 0) 0 d (written_all 0 src (buffer_of d io))) = rw (max-eq_right zero-le) at (unread_written_all 0 src (buffer_of d io) (sound d io w)) in
          subst P (sym (data_done 4 d io io _ w h)) (of_picked P (lacks_room (length src) (buffer_of d io)) (λ _. e) (λ _. e))

-- ---- the bus

module _ (d : Device) (io : List ℕ) where
  -- "it does not empty the buffer": the marks stay, and so do the unread bytes.
  pub reset_keeps : buffer_of (reset_call d io).device io ≡ buffer_of d io
  unfolding reset_call handling_of_reset
  reset_keeps = either d io (λ (o : Handling). buffer_of o.device io ≡ buffer_of d io) refl (λ _. refl)

  pub reset_done : Whole (numbers_of d) (length io) → reset_call d io ≡ handling_of_reset d
  unfolding reset_call
  reset_done w = passes d io w _ _

  pub reset_whole : Whole (numbers_of d) (length io) → Whole (numbers_of (reset_call d io).device) (length io)
  unfolding reset_call handling_of_reset
  reset_whole w = either d io (λ (o : Handling). Whole (numbers_of o.device) (length io)) w (whole_entered d io)

  module _ (q : Request) where
    pub by_control : (P : Handling → Type 0) → P (handling (answer 10) Kept [] d) → P (handling (answer 0) Kept (d.fixed.maxlun ∷ []) d) → P (handling (answer 0) Kept [] d)
        → (eqb q.requesttype 0xA1 ≡ true → eqb q.request 0xFF ≡ true → P (handling_of_reset d)) → P (control_call d io q)
    unfolding control_call handling_of_request
    by_control P broken lun nothing e =
        either d io P broken
        (λ _. of_picked P (eqb q.requesttype 0xA1)
        (λ counts. of_picked P (eqb q.request 0xFF) (e counts) (λ _. of_picked P (eqb q.request 0xFE) (λ _. lun) (λ _. nothing)))
        (λ _. nothing))

    pub by_request : (P : Handling → Type 0) → ((a : Answering) (bytes : List ℕ) → P (handling a Kept bytes d)) → (eqb q.requesttype 0xA1 ≡ true → eqb q.request 0xFF ≡ true → P (handling_of_reset d)) → P (control_call d io q)
    by_request P p e = by_control P (p (answer 10) []) (p (answer 0) (d.fixed.maxlun ∷ [])) (p (answer 0) []) e

    pub control_keeps : buffer_of (control_call d io q).device io ≡ buffer_of d io
    unfolding handling_of_reset
    control_keeps = by_request (λ (o : Handling). buffer_of o.device io ≡ buffer_of d io) (λ _ _. refl) (λ _ _. refl)

    pub control_whole : Whole (numbers_of d) (length io) → Whole (numbers_of (control_call d io q).device) (length io)
    unfolding handling_of_reset
    control_whole w = by_request (λ (o : Handling). Whole (numbers_of o.device) (length io)) (λ _ _. w) (λ _ _. whole_entered d io w)

    -- A request that does not count changes nothing.
    pub control_else : Whole (numbers_of d) (length io) → (q.requesttype ≡ 0xA1 → ⊥) → control_call d io q ≡ handling (answer 0) Kept [] d
    unfolding control_call
    control_else w n = passes d io w _ _ ∙ rw (ne_eqb _ _ n)

-- ---- the command

-- A command that is offered is shown.
pub offered_shown : (d : Device) → is_offered d ≡ true → is_shown d ≡ true
unfolding is_offered
offered_shown d h = and_left (is_shown d) (not (is_present d.status)) h

module _ (d : Device) (io : List ℕ) (w : Whole (numbers_of d) (length io)) where
  pub command_done : is_shown d ≡ true → command_call d io ≡ showing d.wrapper
  unfolding command_call
  command_done h = passes d io w _ _ ∙ rw h

  module _ (extended : Bool) where
    pub step_done : is_offered d ≡ true → command_step_told_call extended d io ≡ stepping_of_decoding d.wrapper.lun (decode_call extended (block_of d.wrapper))
    unfolding command_step_told_call
    step_done h = passes d io w _ _ ∙ rw h

    -- 13: "decoding an empty block"
    pub step_empty : is_offered d ≡ true → d.wrapper.blocklength ≡ 0 → command_step_told_call extended d io ≡ stepping (answer 13) []
    unfolding block_of stepping_of_decoding decode_call
    step_empty h e = step_done h ∙ rw e

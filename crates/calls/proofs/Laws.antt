-- Laws of the calls: what has to be shown for each way through a function (`ways`). Assumes nothing.
use mathlib.Core.Path.{◌≡◌, refl, sym, ap, ◌∙◌}
use mathlib.Core.Bool.{Bool, true, false, cond, not}
use mathlib.Core.List.{List}
use Prim.Native.Nat.{ℕ, ◌≤◌, min, max, zero-le}
use native.Mathlib.Nat.{min-le_left, min-le_right, max-eq_right}
use native.Mathlib.Omega.{arith}
use lib.ListN.{length, take, length-take}
use lib.Seq.{length-take-le, take-take, take-length}
use borrow.Author.Tests.{eq-eqb, ne_eqb, le-leb, lt-leb}
use Rattle.std.specs.Prelude.{Option, None, Some, Result, Ok, Err}
use Rattle.fields.specs.Overlay.{overlay}
use Rattle.fields.proofs.Bools.{not_true, not_false}
use Rattle.buffer.specs.declared.Marks.{Marks}
use Rattle.buffer.specs.declared.marked.Overflow.{Overflow}
use Rattle.buffer.specs.Buffer.{Buffer, buffer, fitting, written, lacks_room, missing, ready, ready_bytes, read_off}
use Rattle.buffer.specs.Inner.Buffer.{Sound, Leaves, WritesAll}
use Rattle.answers.specs.declared.Answer.{Answer}
use Rattle.answers.specs.declared.Answer.TheVariants.{Done, IoBufferOverflow, InvalidState, BrokenRecord, StatusRefused}
use Rattle.answers.specs.Answers.{Answering, answer, lacking}
use Rattle.wrapper.specs.declared.counters.Left.{Left}
use Rattle.wrapper.specs.declared.counters.PutIn.{PutIn}
use Rattle.wrapper.specs.declared.counters.Residue.{Residue}
use Rattle.wrapper.specs.declared.status.CommandStatus.{CommandStatus}
use Rattle.wrapper.specs.Counters.{residue_of, risen}
use Rattle.wrapper.specs.Status as csw
use Rattle.wrapper.proofs.Csw.{status_accepted, status_above}
use Rattle.wrapper.proofs.Numbers.{status_back}
use Rattle.scsi.specs.Decoding.{decode_call, plain_is_extended}
use Rattle.ring.specs.States.{state_number}
use Rattle.device.specs.declared.Device.{Device}
use Rattle.device.specs.declared.Numbers.{Numbers}
use Rattle.device.specs.Device.{numbers_of, is_present, with_status, with_put_in, putting_in, told}
use Rattle.device.specs.Broken.{Whole, is_whole, unless_broken}
use Rattle.device.proofs.Wholly.{is_whole_lem, whole_sound, passes, stops}
use Rattle.calls.specs.declared.FirmwareStatus.{FirmwareStatus}
use Rattle.calls.specs.declared.Stated.{Stated}
use Rattle.calls.specs.declared.Moved.{Moved}
use Rattle.calls.specs.declared.Request.{Request}
use Rattle.calls.specs.declared.Handled.{Handled}
use Rattle.calls.specs.declared.command.Looked.{Looked}
use Rattle.calls.specs.declared.command.Step.{Step}
use Rattle.calls.specs.Checks.{is_in, buffer_of}
use Rattle.calls.specs.Status.{stating, stating_of, takes_status, with_figure, accepted_status, set_status_call}
use Rattle.calls.specs.Inner.Returned.{refuses, checked, unmoved, moves_to, puts_in, keeps, enters0, hides, offers_none}
use Rattle.calls.specs.Data.{Moving, moving_of, works_in, moving_to, read_from, limited, write_in, write_all_in}
use Rattle.calls.specs.Bus.{handling_of, handling_of_reset, reset_call, handling_of_request, control_call}
use Rattle.calls.specs.Command.{showing_of, showing, is_shown, command_call, stepping_of, Stepping, is_offered, stepping_of_decoding, block_of, command_step_told_call, command_step_call}

-- ---- the record

pub judges : (d : Device) (len : ℕ) {n : Numbers} {b : Bool} → n ≡ numbers_of d → b ≡ is_whole n len → not b ≡ not (is_whole (numbers_of d) len)
judges d len hn hb = ap not (hb ∙ ap (λ (x : Numbers). is_whole x len) hn)

-- A record that is not broken gives these.
module _ (d : Device) (len : ℕ) {b : Bool} (h : b ≡ not (is_whole (numbers_of d) len)) (q : b ≡ false) where
  whole_then : Whole (numbers_of d) len
  whole_then = is_whole_lem (numbers_of d) len (not_false (is_whole (numbers_of d) len) (sym h ∙ q))

  pub block_fits : d.wrapper.blocklength ≤ 16
  block_fits = whole_then.block

module _ (d : Device) (io : List ℕ) {b : Bool} (h : b ≡ not (is_whole (numbers_of d) (length io))) where
  pub sound_then : b ≡ false → Sound (buffer_of d io)
  sound_then q = whole_sound (numbers_of d) io (whole_then d (length io) h q)

  breaks : {A : Type 0} (refused done : A) → b ≡ true → refused ≡ unless_broken d io refused done
  breaks refused done q = sym (stops d io (not_true _ (sym h ∙ q)) refused done)

  goes_on : {A : Type 0} (refused : A) {x done : A} → b ≡ false → x ≡ done → x ≡ unless_broken d io refused done
  goes_on refused {x} {done} q e = e ∙ sym (passes d io (whole_then d (length io) h q) refused done)

-- ---- the status

module _ (d : Device) (f : FirmwareStatus) {s : Option CommandStatus} (h : csw.answer_of s ≡ csw.status_call f.status) where
  pub figure_refused : s ≡ None → {r : Stated} → r ≡ refuses d StatusRefused → stating_of r ≡ accepted_status d f
  unfolding accepted_status
  figure_refused k e = rw (e, lt-leb _ _ (status_above f.status (sym (ap csw.answer_of k) ∙ h)))

  pub figure_taken : {c : CommandStatus} → s ≡ Some c → {r : Residue} → r ≡ residue_of d.wrapper.length f.figure → stating (answer 0) (with_status (Some (told c r)) d) ≡ accepted_status d f
  unfolding accepted_status with_figure
  figure_taken {c} k {r} hr =
      let known = status_accepted f.status c (sym (ap csw.answer_of k) ∙ h) in
      let same : c ≡ csw.status_of_number f.status = sym (status_back c) ∙ ap csw.status_of_number known.1 in
      rw (le-leb _ _ known.0, hr, same)

module _ (d : Device) (io : List ℕ) (f : FirmwareStatus) {b : Bool} (h : b ≡ not (is_whole (numbers_of d) (length io))) where
  pub status_broken : b ≡ true → {r : Stated} → r ≡ refuses d BrokenRecord → stating_of r ≡ set_status_call d io f
  unfolding set_status_call
  status_broken q e = rw e (breaks d io h _ _ q)

  module _ (q : b ≡ false) {t : Bool} (ht : t ≡ takes_status (state_number d.state)) where
    pub status_taken : t ≡ true → (r : Stated) → stating_of r ≡ accepted_status d f → stating_of r ≡ set_status_call d io f
    unfolding set_status_call
    status_taken p r e = goes_on d io h _ q (rw (← ht, p) e)

    pub status_elsewhere : t ≡ false → {r : Stated} → r ≡ refuses d StatusRefused → stating_of r ≡ set_status_call d io f
    unfolding set_status_call
    status_elsewhere p e = rw e (goes_on d io h _ q (rw (← ht, p)))

-- ---- data

-- This is `checked`, if `b` says whether the record is whole, and `t` whether it is in the state.
abbrev checked_by : Bool → Bool → Result (Unit {0}) Answer
checked_by b t = cond b (cond t (Ok tt) (Err InvalidState)) (Err BrokenRecord)

passed_by : (b t : Bool) {u : Unit {0}} → checked_by b t ≡ Ok u → (b ≡ true) × (t ≡ true)
passed_by true true e = (refl, refl)
passed_by true false e = absurd (cc)
passed_by false t e = absurd (cc)

stopped_by : (b t : Bool) {why : Answer} (done : Moving) (of : Answer → Moving) → checked_by b t ≡ Err why → of why ≡ cond b (cond t done (of InvalidState)) (of BrokenRecord)
stopped_by true true done of e = absurd (cc)
stopped_by true false {why} done of e = let k : InvalidState ≡ why = cc in ap of (sym k)
stopped_by false t {why} done of e = let k : BrokenRecord ≡ why = cc in ap of (sym k)

module _ (state : ℕ) (d : Device) (io : List ℕ) {r : Result (Unit {0}) Answer} (h : r ≡ checked state d (length io)) where
  passed : {u : Unit {0}} → r ≡ Ok u → (is_whole (numbers_of d) (length io) ≡ true) × (is_in state d ≡ true)
  passed q = passed_by (is_whole (numbers_of d) (length io)) (is_in state d) (sym h ∙ q)

  pub sound_in : {u : Unit {0}} → r ≡ Ok u → Sound (buffer_of d io)
  sound_in q = whole_sound (numbers_of d) io (is_whole_lem (numbers_of d) (length io) (passed q).0)

  module _ (bytes : List ℕ) (done : Moving) where
    pub data_refused : {why : Answer} → r ≡ Err why → {m : Moved} → m ≡ unmoved d why → moving_of m bytes ≡ works_in state d io bytes done
    unfolding works_in unless_broken
    data_refused q e = rw e (stopped_by (is_whole (numbers_of d) (length io)) (is_in state d) done (λ (a : Answer). moving_of (unmoved d a) bytes) (sym h ∙ q))

    pub data_done : {u : Unit {0}} → r ≡ Ok u → {x : Moving} → x ≡ done → x ≡ works_in state d io bytes done
    unfolding works_in unless_broken
    data_done q e = rw ((passed q).0, (passed q).1) e

pub reads : (d : Device) (s : Buffer) (dst : List ℕ) {n : ℕ} {m : Marks} {l : List ℕ} {r : Moved} → n ≡ ready (length dst) s → Leaves (buffer s.bytes m) (read_off (length dst) s)
    → l ≡ overlay dst 0 (ready_bytes (length dst) s) → r ≡ moves_to d m Done n → moving_of r l ≡ read_from d s dst
unfolding read_from
reads d s dst hn hm hl hr = rw (hr, hn, ap (λ (t : Buffer). t.marks) hm.same, hl)

-- `n` is the smaller of left and the source's length: these are the first `n` bytes of the source.
module _ (left : Left) (src : List ℕ) {n : ℕ} (h : n ≡ min left.0 (length src)) where
  pub length_cut : length (take n src) ≡ n
  length_cut = length-take-le n src (omega (arith, min-le_right left.0 (length src)))

  cut : take n src ≡ limited left src
  unfolding limited
  cut =
      let a : ℕ = left.0 in
      ap (λ (k : ℕ). take k src) h
      ∙ sym (take-take (min a (length src)) a src (min-le_left a (length src)))
      ∙ ap (λ (k : ℕ). take k (take a src)) (sym (length-take a src))
      ∙ take-length (take a src)

pub puts : (d : Device) (m : Marks) (count : ℕ) {c : PutIn} → c ≡ risen d.putin count → {r : Moved} → r ≡ moves_to (with_put_in c d) m Done count → r ≡ puts_in d m count
puts d m count hc hr = rw hc at hr

-- Equal buffers give the same result of a write.
left_by : (a : Answering) (count : ℕ) (d : Device) {io : List ℕ} {m : Marks} {t : Buffer} → Leaves (buffer io m) t → moving_to a count d (buffer io m) ≡ moving_to a count d t
left_by a count d h = ap (moving_to a count d) h.same

pub writes : (d : Device) (s : Buffer) (src : List ℕ) {n k : ℕ} {m : Marks} {io : List ℕ} {r : Moved} → n ≡ min d.left.0 (length src)
    → k ≡ fitting (length (take n src)) s → Leaves (buffer io m) (written (take n src) s) → r ≡ puts_in d m k → moving_of r io ≡ write_in d s (limited d.left src)
unfolding write_in
writes d s src {n} {k} {m} {io} hn hk hm hr =
    let e : take n src ≡ limited d.left src = cut d.left src hn in
    rw (hr, hk, e) (left_by (answer 0) (fitting (length (limited d.left src)) s) (putting_in (fitting (length (limited d.left src)) s) d) (rw e at hm))

-- Room is asked for the source alone, which is taken or not.
asked : (src : List ℕ) → max 0 (length src) ≡ length src
asked src = max-eq_right zero-le

module _ (d : Device) (s : Buffer) (src : List ℕ) {io : List ℕ} {r : Moved} where
  pub writes_all : {m : Marks} → WritesAll 0 src s (Ok m) io → r ≡ puts_in d m (length src) → moving_of r io ≡ write_all_in d s src
  unfolding write_all_in
  writes_all w hr =
      let room : lacks_room (length src) s ≡ false = rw (asked src) at w.0 in
      rw (hr, room) (left_by (answer 0) (length src) (putting_in (length src) d) w.1)

  pub overflows : {o : Overflow} → WritesAll 0 src s (Err o) io → r ≡ moves_to d o.marks (IoBufferOverflow o.missing) 0 → moving_of r io ≡ write_all_in d s src
  unfolding write_all_in
  overflows w hr =
      let full : lacks_room (length src) s ≡ true = rw (asked src) at w.0 in
      let lacked = rw (asked src) at w.1 in
      rw (hr, full, lacked) (left_by (lacking (missing (length src) s)) 0 d w.2)

-- ---- the bus

module _ (d : Device) (io : List ℕ) {b : Bool} (h : b ≡ not (is_whole (numbers_of d) (length io))) where
  pub reset_broken : b ≡ true → {r : Handled} → r ≡ keeps d BrokenRecord None → handling_of r ≡ reset_call d io
  unfolding reset_call
  reset_broken q e = rw e (breaks d io h _ _ q)

  pub resets : b ≡ false → {r : Handled} → r ≡ enters0 d → handling_of r ≡ reset_call d io
  unfolding reset_call handling_of_reset
  resets q e = rw e (goes_on d io h _ q refl)

  pub control_broken : (q : Request) → b ≡ true → {r : Handled} → r ≡ keeps d BrokenRecord None → handling_of r ≡ control_call d io q
  unfolding control_call
  control_broken q p e = rw e (breaks d io h _ _ p)

  pub control_counts : (q : Request) → b ≡ false → q.requesttype ≡ 0xA1 → (r : Handled) → handling_of r ≡ handling_of_request q.request d → handling_of r ≡ control_call d io q
  unfolding control_call
  control_counts q p a r e = goes_on d io h _ p (rw (eq-eqb _ _ a) e)

  pub control_else : (q : Request) → b ≡ false → (q.requesttype ≡ 0xA1 → ⊥) → {r : Handled} → r ≡ keeps d Done None → handling_of r ≡ control_call d io q
  unfolding control_call
  control_else q p a e = rw e (goes_on d io h _ p (rw (ne_eqb _ _ a)))

module _ (q : ℕ) (d : Device) {r : Handled} where
  pub serves_ff : q ≡ 0xFF → r ≡ enters0 d → handling_of r ≡ handling_of_request q d
  unfolding handling_of_request handling_of_reset
  serves_ff a e = rw (e, eq-eqb _ _ a)

  pub serves_fe : (q ≡ 0xFF → ⊥) → q ≡ 0xFE → r ≡ keeps d Done (Some d.fixed.maxlun) → handling_of r ≡ handling_of_request q d
  unfolding handling_of_request
  serves_fe n a e = rw (e, ne_eqb _ _ n, eq-eqb _ _ a)

  pub serves_else : (q ≡ 0xFF → ⊥) → (q ≡ 0xFE → ⊥) → r ≡ keeps d Done None → handling_of r ≡ handling_of_request q d
  unfolding handling_of_request
  serves_else n m e = rw (e, ne_eqb _ _ n, ne_eqb _ _ m)

-- ---- the command

module _ (d : Device) (io : List ℕ) {b : Bool} (h : b ≡ not (is_whole (numbers_of d) (length io))) where
  pub command_broken : b ≡ true → {r : Looked} → r ≡ hides BrokenRecord → showing_of r ≡ command_call d io
  unfolding command_call
  command_broken q e = rw e (breaks d io h _ _ q)

  module _ (q : b ≡ false) {t : Bool} (ht : t ≡ is_in 0 d) where
    pub command_hidden : t ≡ true → {r : Looked} → r ≡ hides Done → showing_of r ≡ command_call d io
    unfolding command_call is_shown
    command_hidden p e = rw e (goes_on d io h _ q (rw (← ht, p)))

    pub command_shown : t ≡ false → showing d.wrapper ≡ command_call d io
    unfolding command_call is_shown
    command_shown p = goes_on d io h _ q (rw (← ht, p))

  module _ (extended : Bool) where
    pub step_broken : b ≡ true → {r : Step} → r ≡ offers_none BrokenRecord → stepping_of r ≡ command_step_told_call extended d io
    unfolding command_step_told_call
    step_broken q e = rw e (breaks d io h _ _ q)

    module _ (q : b ≡ false) {t : Bool} (ht : t ≡ is_offered d) where
      pub step_offers : t ≡ true → (r : Step) → stepping_of r ≡ stepping_of_decoding d.wrapper.lun (decode_call extended (block_of d.wrapper))
          → stepping_of r ≡ command_step_told_call extended d io
      unfolding command_step_told_call
      step_offers p r hr = goes_on d io h _ q (rw (← ht, p) hr)

      pub step_offers_not : t ≡ false → {r : Step} → r ≡ offers_none Done → stepping_of r ≡ command_step_told_call extended d io
      unfolding command_step_told_call
      step_offers_not p e = rw e (goes_on d io h _ q (rw (← ht, p)))

pub step_plain : (d : Device) (io : List ℕ) {o : Stepping} → o ≡ command_step_told_call plain_is_extended d io → o ≡ command_step_call d io
unfolding command_step_call
step_plain d io h = h

module _ (d : Device) {t : Bool} (ht : t ≡ is_in 0 d) where
  pub offers_not : t ≡ true → false ≡ is_offered d
  unfolding is_offered is_shown
  offers_not p = rw (← ht, p)

  pub offers_by : t ≡ false → {b : Bool} → b ≡ is_present d.status → not b ≡ is_offered d
  unfolding is_offered is_shown
  offers_by p e = rw (← ht, p, e)

pub ruleset ways = (judges, block_fits, sound_then, figure_refused, figure_taken, status_broken, status_taken, status_elsewhere, sound_in, data_refused, data_done, reads, puts, writes, writes_all, overflows, reset_broken, resets, control_broken, control_counts, control_else, serves_ff, serves_fe, serves_else, command_broken, command_hidden, command_shown, step_broken, step_offers, step_offers_not, step_plain, offers_not, offers_by)

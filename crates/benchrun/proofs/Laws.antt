-- Laws of a run: what each way through a function owes (`ways`), and what holds after an event. Assumes nothing.
use mathlib.Core.Path.{◌≡◌, sym, ap, ◌∙◌, subst}
use mathlib.Core.Bool.{Bool, true, false, not}
use mathlib.Core.List.{List, [], ◌++◌}
use Prim.Native.Nat.{ℕ, ◌+◌, ◌-◌, ◌≤◌, min}
use native.Mathlib.Nat.{min-le_right, zero-add}
use native.Mathlib.Omega.{arith}
use lib.Dec.{eqb}
use lib.ListN.{length, take, drop, length-take, take-append-drop}
use lib.Seq.{take-append_seam, length-take-le}
use Rattle.std.specs.Prelude.{Option, Some, None}
use Rattle.std.specs.Option.{is_some}
use Rattle.fields.specs.Overlay.{overlay}
use Rattle.fields.specs.Field.{get}
use Rattle.fields.proofs.Bools.{not_true, not_false, clash}
use Rattle.std.specs.Prelude.{Result, Ok, Err}
use Rattle.answers.specs.declared.Answer.{Answer}
use Rattle.answers.specs.declared.Stalls.{Stalls}
use Rattle.answers.specs.declared.Stalls.TheVariants.{Kept}
use Rattle.answers.specs.Answers.{Answering, answer, answer_of}
use Rattle.ring.specs.States.{state_number}
use Rattle.device.specs.declared.Device.{Device}
use Rattle.device.specs.Create.{fixed, no_device, creation_of, create_call}
use Rattle.benchfile.specs.declared.event.EventHead.{EventHead}
use Rattle.benchfile.specs.Event.{packet_size, max_lun, buffer_size, kind_number, suits, event_at}
use Rattle.benchfile.specs.File.{Judges}
use Rattle.benchfile.proofs.Front.{whole_fits, whole_suits, first_long}
use Rattle.benchline.specs.declared.Line.{Line}
use Rattle.benchline.specs.Line.{line_of}
use Rattle.benchline.specs.Inner.Line.{room_for, Puts}
use Rattle.benchact.specs.declared.Acted.{Acted}
use Rattle.benchact.specs.Act.{act_by}
use Rattle.benchact.specs.Inner.Act.{acting_of}
use Rattle.benchrun.specs.declared.step.Run.{Run}
use Rattle.benchrun.specs.Run.{fields_of, line_text, line_of_acting, beginning_of, stopped_at, creation_of_body, beginning_of_creation, begin_by, events_of, breach, beginning_refused, open_by, OpensFile, running_of, went_on, event_by, step_by}

-- ---- the line

pub told_fields : (index : ℕ) (a : Acted) {n s u m : ℕ} → n ≡ (answer_of a.answer).number → s ≡ state_number a.device.state → u ≡ a.device.marks.write - a.device.marks.read → m ≡ (answer_of a.answer).missing
    → record { index = index; answer = n; state = s; left = a.device.left.0; unread = u; count = a.count; stalls = a.stalls; missing = m } ≡ fields_of index a.device (answer_of a.answer) a.count a.stalls
unfolding fields_of
told_fields index a hn hs hu hm = rw (hn, hs, hu, hm)

-- To take more bytes than there are is to take all of them.
take_least : (n : ℕ) (xs : List ℕ) → take (min n (length xs)) xs ≡ take n xs
take_least n xs =
    rw (← length-take n xs) (subst (λ (l : List ℕ). take (length (take n xs)) l ≡ take n xs) (take-append-drop n xs) (take-append_seam (take n xs) (drop n xs)))

module _ (n : ℕ) (xs : List ℕ) {k : ℕ} (h : k ≡ min n (length xs)) where
  pub least_fits : k ≤ length xs
  least_fits = rw h (min-le_right n (length xs))

  pub least_cut : k ≡ length (take k xs)
  least_cut = sym (length-take-le k xs least_fits)

  pub least_roomy : (text : List ℕ) → room_for (length xs) ≤ length text → room_for (length (take k xs)) ≤ length text
  unfolding room_for
  least_roomy text r = omega (arith, r, least_cut, least_fits)

  pub told_line : (index : ℕ) (d : Device) (a : Answering) (count : ℕ) (stalls : Stalls) {l : Line} {before after : List ℕ} {end : ℕ}
      → l ≡ fields_of index d a count stalls → Puts 0 (line_of l (take k xs)) before after end → Puts 0 (line_text index d a count stalls (take n xs)) before after end
  unfolding line_text
  told_line index d a count stalls {before = before} {after} {end} hl p =
      subst (λ (ys : List ℕ). Puts 0 ys before after end) (rw (hl, h, take_least n xs)) p

ended : {ys before after : List ℕ} {n : ℕ} → Puts 0 ys before after n → n ≡ length ys
ended {ys} p = p.ends ∙ zero-add (length ys)

-- ---- the first event

module _ (body : List ℕ) {p m s : ℕ} (hp : p ≡ get packet_size body) (hm : m ≡ get max_lun body) (hs : s ≡ get buffer_size body) (c : Result Device Answer) (hc : creation_of c ≡ create_call (fixed p m s)) where
  pub creates : (d : Device) → c ≡ Ok d → record { answer = answer 0; device = d } ≡ creation_of_body body
  unfolding creation_of_body
  creates d e = rw (← hp, ← hm, ← hs, ← hc, e)

  pub creates_none : (why : Answer) → c ≡ Err why → {d : Device} → d ≡ no_device → record { answer = answer_of why; device = d } ≡ creation_of_body body
  unfolding creation_of_body
  creates_none why e hd = rw (← hp, ← hm, ← hs, ← hc, e, hd)

module _ (events text : List ℕ) where
  pub begins_none : event_at events 0 ≡ None → {d : Device} → d ≡ no_device → {r : Run} → r ≡ stopped_at d 0 0 → beginning_of r text ≡ begin_by events text
  unfolding begin_by
  begins_none q hd hr = rw (q, hr, hd)

  pub begins_fits : {e : EventHead} → event_at events 0 ≡ Some e → 10 ≤ length events
  begins_fits he = first_long events he

  pub begins_made : {o : Option EventHead} → o ≡ event_at events 0 → is_some o ≡ true
      → {d : Device} (a : Answer) → record { answer = answer_of a; device = d } ≡ creation_of_body (take 7 (drop 3 events)) → {k : ℕ} → k ≡ (answer_of a).number
      → {after : List ℕ} {n : ℕ} → Puts 0 (line_text 0 d (answer_of a) 0 Kept []) text after n
      → beginning_of (record { device = d; at = 10; index = 1; line = n; going = eqb k 0 }) after ≡ begin_by events text
  unfolding begin_by beginning_of_creation
  begins_made {o = None} he some a hc hk t = absurd (clash (sym some))
  begins_made {o = Some e} he some a hc hk t = rw (← he, ← hc, hk, ended t, t.text)

-- ---- a file, before anything is written

-- There is room for `14`.
pub refuses_fits : (text : List ℕ) → room_for 0 ≤ length text → 3 ≤ length text
unfolding room_for
refuses_fits text room = omega (arith, room)

pub refuses : (text : List ℕ) {r : Run} {d : Device} → d ≡ no_device → r ≡ stopped_at d 0 0 → beginning_of (record r { line = 3 }) (breach ++ drop 3 text) ≡ beginning_refused text
unfolding beginning_refused overlay
refuses text hd hr = rw (hr, hd)

module _ (file text : List ℕ) {verdict : Bool} (j : Judges verdict file) where
  pub opens_refused : not verdict ≡ true → {r : Run} {after : List ℕ} → beginning_of r after ≡ beginning_refused text → OpensFile file text (beginning_of r after)
  unfolding open_by
  opens_refused q h = record { verdict = verdict; judges = j; opened = rw (not_true verdict q) h }

  pub opens_begun : not verdict ≡ false → {n : ℕ} → n ≡ length file - 12 → {r : Run} {after : List ℕ} → beginning_of r after ≡ begin_by (take n file) text → OpensFile file text (beginning_of r after)
  unfolding open_by events_of
  opens_begun q e h = record { verdict = verdict; judges = j; opened = rw (not_false verdict q, ← e) h }

-- ---- a later event

module _ (events : List ℕ) (at : ℕ) {e : EventHead} (he : Some e ≡ event_at events at) where
  pub steps_fits : at + 3 + e.length ≤ length events
  steps_fits = whole_fits events at (sym he)

  pub steps_suits : suits (kind_number e.kind) (take (at + 3 + e.length - (at + 3)) (drop (at + 3) events)) ≡ true
  steps_suits =
      let n : at + 3 + e.length - (at + 3) ≡ e.length = omega arith in
      rw n (whole_suits events at (sym he))

module _ (run : Run) (events io lent text : List ℕ) where
  pub steps_none : None ≡ event_at events run.at → {r : Run} → r ≡ stopped_at run.device run.at run.index → running_of r io lent text ≡ step_by run events io lent text
  unfolding step_by
  steps_none q hr = rw (← q, hr)

  pub steps_on : {e : EventHead} → Some e ≡ event_at events run.at → (a : Acted) {io' lent' : List ℕ}
      → acting_of a io' lent' ≡ act_by (kind_number e.kind) (take (run.at + 3 + e.length - (run.at + 3)) (drop (run.at + 3) events)) run.device io lent
      → {after : List ℕ} {n : ℕ} → Puts 0 (line_text run.index a.device (answer_of a.answer) a.count a.stalls (take a.shown lent')) text after n
      → running_of (record { device = a.device; at = run.at + 3 + e.length; index = run.index + 1; line = n; going = true }) io' lent' after ≡ step_by run events io lent text
  unfolding step_by event_by went_on line_of_acting
  steps_on {e} he a ha t =
      let n : run.at + 3 + e.length - (run.at + 3) ≡ e.length = omega arith in
      let acted = ha ∙ ap (λ (k : ℕ). act_by (kind_number e.kind) (take k (drop (run.at + 3) events)) run.device io lent) n in
      rw (← he, ← acted, ended t, t.text)

pub ruleset tells = (least_fits, least_cut, least_roomy, told_line)

pub ruleset begins = (begins_none, begins_fits)

pub ruleset refuse = (refuses_fits, refuses)

pub ruleset opens = (opens_refused, opens_begun)

pub ruleset steps = (steps_fits, steps_suits, steps_none, steps_on)

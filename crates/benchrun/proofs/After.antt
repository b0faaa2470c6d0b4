-- What holds after an event of a run, whatever the event was: for the loop over all of them. Assumes nothing.
use mathlib.Core.Path.{◌≡◌, refl, sym, subst}
use mathlib.Core.Bool.{Bool, true, false, cond, ◌||◌}
use mathlib.Core.List.{List, []}
use Prim.Native.Nat.{ℕ, ◌+◌, ◌-◌, ◌≤◌, ◌<◌, zero-le}
use native.Mathlib.Nat.{min-le_right, le_trans}
use native.Mathlib.Omega.{arith}
use lib.Dec.{eqb, ltb}
use lib.ListN.{length, take, drop, length-take}
use borrow.Author.Tests.{eqb-true, ltb-false}
use Rattle.std.specs.Prelude.{Option, Some, None}
use Rattle.fields.proofs.Bools.{of_picked}
use Rattle.answers.specs.declared.Stalls.{Stalls}
use Rattle.answers.specs.Answers.{Answering}
use Rattle.answers.specs.declared.Stalls.TheVariants.{Kept}
use Rattle.device.specs.declared.Fixed.{Fixed}
use Rattle.device.specs.declared.Device.{Device}
use Rattle.device.specs.Create.{is_packet_size, creation_checks, create_call}
use Rattle.benchfile.specs.declared.event.EventHead.{EventHead}
use Rattle.benchfile.specs.Event.{kind_number, event_at}
use Rattle.benchfile.proofs.Front.{whole_fits}
use Rattle.benchline.specs.Inner.Line.{room_for}
use Rattle.benchline.proofs.Text.{line_fits}
use Rattle.benchact.specs.Act.{Acting, act_by}
use Rattle.benchrun.specs.declared.step.Run.{Run}
use Rattle.benchrun.specs.Run.{fields_of, line_text, line_of_acting, Beginning, beginning_of, creation_of_body, beginning_of_creation, begin_by, events_of, beginning_refused, open_by, OpensFile, Running, running_of, went_on, event_by, step_by}
use Rattle.benchrun.specs.Inner.Run.{Roomy}

-- More bytes need no less room.
room_less : (n m : ℕ) → n ≤ m → room_for n ≤ room_for m
unfolding room_for
room_less n m h = omega (arith, h)

line_room : (index : ℕ) (d : Device) (a : Answering) (count : ℕ) (stalls : Stalls) (n : ℕ) (bytes : List ℕ) → length (line_text index d a count stalls (take n bytes)) ≤ room_for (length bytes)
unfolding line_text
line_room index d a count stalls n bytes =
    le_trans (line_fits (fields_of index d a count stalls) (take n bytes)) (room_less _ _ (rw (length-take n bytes) (min-le_right n (length bytes))))

told_room : (index : ℕ) (a : Acting) → length (line_of_acting index a) ≤ room_for (length a.lent)
unfolding line_of_acting
told_room index a = line_room index a.device a.answer a.count a.stalls a.shown a.lent

-- ---- a later event

-- A number that falls with each turn: how many bytes of events are still ahead of a run, and one more; 0 once the run has ended.
pub ahead : List ℕ → Run → ℕ
ahead events run = cond run.going (1 + (length events - run.at)) 0

pub record Steps (run : Run) (events : List ℕ) (o : Running) : Type 0 where
  pub index : run.index ≤ run.at → o.run.index ≤ o.run.at
  pub less : ahead events o.run < 1 + (length events - run.at)
  pub line : o.run.line ≤ room_for (length o.lent)

steps : (run : Run) (events io lent text : List ℕ) → Steps run events (step_by run events io lent text)
unfolding step_by event_by went_on ahead
steps run events io lent text = of_event (event_at events run.at) refl
  where
    of_event : (o : Option EventHead) → event_at events run.at ≡ o → Steps run events (step_by run events io lent text)
    of_event (Some e) w = rw w (record {
      index = λ h. omega (arith, h);
      less = omega (arith, whole_fits events run.at w);
      line = told_room run.index (act_by (kind_number e.kind) (take e.length (drop (run.at + 3) events)) run.device io lent);
    })
    of_event None w = rw w (record { index = λ h. h; less = omega arith; line = zero-le })

module _ (run : Run) (events io lent text : List ℕ) {r : Run} {io' lent' text' : List ℕ} (h : running_of r io' lent' text' ≡ step_by run events io lent text) where
  stepped : Steps run events (running_of r io' lent' text')
  stepped = subst (Steps run events) (sym h) (steps run events io lent text)

  pub after_index : run.index ≤ run.at → r.index ≤ r.at
  after_index = stepped.index

  pub after_less : run.going ≡ true → ahead events r < ahead events run
  unfolding ahead
  after_less g = rw g stepped.less

  pub after_line : length lent' ≡ length lent → length text' ≡ length text → Roomy lent text → r.line ≤ length text'
  after_line el et room = rw et (le_trans stepped.line (rw el room.tells))

pub after_roomy : (lent text lent' text' : List ℕ) → length lent' ≡ length lent → length text' ≡ length text → Roomy lent text → Roomy lent' text'
after_roomy lent text lent' text' el et room = record { shows = rw el room.shows; tells = rw (el, et) room.tells }

-- ---- the first event

-- A device that is created has a buffer of at most 65,536 bytes.
last_test : (a b c d : Bool) → ◌≡◌ {A = ℕ} (cond a 2 (cond b 5 (cond c (cond d 9 0) 8))) 0 → d ≡ false
last_test true b c d e = absurd (omega (arith, e))
last_test false true c d e = absurd (omega (arith, e))
last_test false false true true e = absurd (omega (arith, e))
last_test false false true false e = refl
last_test false false false d e = absurd (omega (arith, e))

size_most : (f : Fixed) → (create_call f).device.fixed.size ≤ 65536
unfolding create_call creation_checks
size_most f =
    of_picked (λ (d : Device). d.fixed.size ≤ 65536) (eqb (creation_checks f) 0)
    (λ e. ltb-false 65536 f.size (last_test (ltb 15 f.maxlun) (ltb f.size 31 || ltb f.size f.packetsize) (is_packet_size f.packetsize) (ltb 65536 f.size) (eqb-true (creation_checks f) 0 e)))
    (λ e. zero-le)

pub record Begins (o : Beginning) : Type 0 where
  pub index : o.run.index ≤ o.run.at
  pub line : o.run.line ≤ room_for 0
  pub size : o.run.device.fixed.size ≤ 65536

begins : (events text : List ℕ) → Begins (begin_by events text)
unfolding begin_by beginning_of_creation creation_of_body
begins events text = of_event (event_at events 0) refl
  where
    of_event : (o : Option EventHead) → event_at events 0 ≡ o → Begins (begin_by events text)
    of_event (Some e) w = rw w (record { index = omega arith; line = line_room 0 _ _ 0 Kept 0 []; size = size_most _ })
    of_event None w = rw w (record { index = zero-le; line = zero-le; size = zero-le })

-- ---- a file, before anything is written

refuses : (text : List ℕ) → Begins (beginning_refused text)
unfolding beginning_refused room_for
refuses text = record { index = zero-le; line = omega arith; size = zero-le }

module _ (file text : List ℕ) {r : Run} {after : List ℕ} (h : OpensFile file text (beginning_of r after)) where
  opened : Begins (beginning_of r after)
  unfolding open_by
  opened =
      subst Begins (sym h.opened) (of_picked Begins h.verdict (λ v. begins (events_of file) text) (λ v. refuses text))

  pub opened_index : r.index ≤ r.at
  opened_index = opened.index

  pub opened_line : room_for 0 ≤ length text → length after ≡ length text → r.line ≤ length after
  opened_line room e = rw e (le_trans opened.line room)

  pub opened_size : r.device.fixed.size ≤ 65536
  opened_size = opened.size

-- ---- the arrays that are lent

pub none_roomy : (lent text : List ℕ) → Roomy lent text → room_for 0 ≤ length text
none_roomy lent text room = le_trans (room_less 0 (length lent) zero-le) room.tells

pub both_roomy : (lent text : List ℕ) → 65535 ≡ length lent → 131222 ≡ length text → Roomy lent text
unfolding room_for
both_roomy lent text e f = record { shows = omega (arith, e); tells = omega (arith, e, f) }

-- The turns of `play_file` hand over one line for each event of a good file, in order, and `14` for any other file: `prints`. Assumes
-- nothing.
use mathlib.Core.Path.{◌≡◌, refl, sym, ap, ◌∙◌, subst}
use mathlib.Core.Bool.{Bool, true, false, cond}
use mathlib.Core.List.{List, [], ◌∷◌, ◌++◌, append-nil, append_assoc}
use Prim.Native.Nat.{ℕ, ◌+◌, ◌≤◌, zero-le}
use native.Mathlib.Nat.{le_refl}
use native.Mathlib.Omega.{arith}
use contract.Lifetimes.{Lfts}
use denote.Triple.Clauses.{AtExit}
use borrow.Fn.Kinds.{Dens, res_t, ended_of}
use lib.Dec.{eqb, lit<}
use lib.ListN.{length, take, drop, length-append, length-drop, drop_of_length-le}
use lib.Seq.{take-append_seam}
use Rattle.std.specs.Prelude.{None}
use Rattle.fields.specs.Overlay.{overlay}
use Rattle.fields.specs.Field.{get}
use Rattle.fields.proofs.Bools.{and_left, clash}
use Rattle.answers.specs.declared.Stalls.TheVariants.{Kept}
use Rattle.device.specs.Create.{no_device, Creation}
use Rattle.benchfile.specs.Event.{kind_byte, body_of, is_event, event_at}
use Rattle.benchfile.specs.File.{joined, are_events, Good, Judges}
use Rattle.benchfile.specs.Inner.File.{ReadAt}
use Rattle.benchfile.proofs.Front.{front_short, creation_long}
use Rattle.benchfile.proofs.Lists.{joined_snoc}
use Rattle.benchfile.proofs.Judged.{events_part}
use Rattle.benchfile.proofs.Yields.{read_there}
use Rattle.benchact.specs.Act.{Acting, act_by}
use Rattle.benchrun.specs.declared.step.Run.{Run}
use Rattle.benchrun.specs.Run.{line_text, line_of_acting, Beginning, beginning_of, stopped_at, creation_of_body, beginning_of_creation, begin_by, events_of, breach, beginning_refused, open_by, Running, running_of, went_on, event_by, step_by}
use Rattle.benchrun.specs.Turns.{turn_text, next_of, Turns, last, turn, start_of, PlayedFile}
use Rattle.benchrun.proofs.play.play_file.Kinds as kinds
use Rattle.benchrun.proofs.play.play_file.Reads as play-file
use Rattle.benchrun.specs.Output.{later_lines, creation_lines, file_lines, Prints}

-- Text that is put at the front of a text is its front.
front_put : (text ys : List ℕ) → take (length ys) (overlay text 0 ys) ≡ ys
unfolding overlay
front_put text ys = take-append_seam ys (drop (0 + length ys) text)

-- After the last event no event stands.
ends_there : (xs : List ℕ) (at : ℕ) → length xs ≤ at → event_at xs at ≡ None
unfolding event_at
ends_there xs at h = sym (front_short (eqb at 0) (drop at xs) (rw (drop_of_length-le xs {i = at} h) (lit< tt)))

-- The event that is read at the offset of the run is the one that the step makes.
step_read : (run : Run) (xs io lent text : List ℕ) (e : List ℕ) → ReadAt xs run.at e
    → step_by run xs io lent text ≡ went_on run.index (run.at + length e) (act_by (get kind_byte e) (body_of e) run.device io lent) text
unfolding step_by event_by
step_read run xs io lent text e r = rw (r.head, r.body, r.next, r.number)

step_none : (run : Run) (xs io lent text : List ℕ) → length xs ≤ run.at → step_by run xs io lent text ≡ running_of (stopped_at run.device run.at run.index) io lent text
unfolding step_by
step_none run xs io lent text h = rw (ends_there xs run.at h)

-- A run that has ended has this turn only.
ended : (xs : List ℕ) (o to : Running) (out : List ℕ) → o.run.going ≡ false → Turns xs o to out → out ≡ turn_text o
ended xs o to out q (last _ _ _ g t e) = e
ended xs o to out q (turn _ _ _ rest g t e) = absurd (clash (sym g ∙ q))

-- What is handed over after this turn, where it is known what the step leaves.
module _ (xs : List ℕ) (o to next : Running) (out : List ℕ) (h : next_of xs o ≡ next) where
  pub record Turned : Type 0 where
    pub rest : List ℕ
    pub turns : Turns xs next to rest
    pub front : out ≡ turn_text o ++ rest

  turned : o.run.going ≡ true → Turns xs o to out → Turned
  turned q (last _ _ _ g t e) = absurd (clash (sym q ∙ g))
  turned q (turn _ _ _ rest g t e) = record { rest = rest; turns = subst (λ (x : Running). Turns xs x to rest) h t; front = e }

later_printed : (es before : List (List ℕ)) (o to : Running) (out : List ℕ) → are_events true (before ++ es) ≡ true → o.run.at ≡ length (joined before) → o.run.going ≡ true
    → Turns (joined (before ++ es)) o to out → out ≡ turn_text o ++ later_lines o.run.index es o.run.device o.io o.lent
unfolding later_lines went_on
later_printed [] before o to out are at going w =
    let xs = joined (before ++ []) in
    let none = step_none o.run xs o.io o.lent o.text (rw (append-nil before, at) (le_refl (length (joined before)))) in
    let t = turned xs o to _ out none going w in
    t.front ∙ ap (λ (x : List ℕ). turn_text o ++ x) (ended xs _ to t.rest refl t.turns)
later_printed (e ∷ es) before o to out are at going w =
    let xs = joined (before ++ e ∷ es) in
    let read : ReadAt xs o.run.at e = rw at (read_there before e es are) in
    let a : Acting = act_by (get kind_byte e) (body_of e) o.run.device o.io o.lent in
    let next = went_on o.run.index (o.run.at + length e) a o.text in
    let t = turned xs o to next out (step_read o.run xs o.io o.lent o.text e read) going w in
    let same : (before ++ e ∷ []) ++ es ≡ before ++ e ∷ es = append_assoc before (e ∷ []) es in
    let behind : t.rest ≡ turn_text next ++ later_lines (o.run.index + 1) es a.device a.io a.lent =
    later_printed es (before ++ e ∷ []) next to t.rest
    (rw same are)
    (rw (joined_snoc before e, length-append (joined before) e, at))
    refl
    (subst (λ (l : List (List ℕ)). Turns (joined l) next to t.rest) (sym same) t.turns)
    in
    t.front
    ∙ ap (λ (x : List ℕ). turn_text o ++ x)
    (behind ∙ ap (λ (x : List ℕ). x ++ later_lines (o.run.index + 1) es a.device a.io a.lent) (front_put o.text (line_of_acting o.run.index a)))

-- ---- the first event

body_seven : (e : List ℕ) → is_event true e ≡ true → length (body_of e) ≡ 7
unfolding body_of
body_seven e h = length-drop 3 e ∙ omega (arith, creation_long e h)

begin_read : (e : List ℕ) (es : List (List ℕ)) (text : List ℕ) → are_events true (e ∷ es) ≡ true → begin_by (joined (e ∷ es)) text ≡ beginning_of_creation (creation_of_body (body_of e)) text
unfolding begin_by joined are_events
begin_read e es text are =
    let read : ReadAt (joined (e ∷ es)) 0 e = read_there [] e es are in
    let seven : length (body_of e) ≡ 7 = body_seven e (and_left (is_event true e) (are_events false es) are) in
    rw (read.head, ← read.body, seven)

created_printed : (c : Creation) (e : List ℕ) (es : List (List ℕ)) (space lent text : List ℕ) (to : Running) (out : List ℕ) → are_events true (e ∷ es) ≡ true
    → Turns (joined (e ∷ es)) (start_of (beginning_of_creation c text) space lent) to out → out ≡ creation_lines c es space lent
unfolding beginning_of_creation creation_lines joined are_events
created_printed c e es space lent text to out are w =
    behind (eqb c.answer.number 0) refl ∙ ap (λ (x : List ℕ). x ++ rest (eqb c.answer.number 0)) (front_put text (line_text 0 c.device c.answer 0 Kept []))
  where
    start : Running
    start = start_of (beginning_of_creation c text) space lent

    rest : Bool → List ℕ
    rest b = cond b (later_lines 1 es c.device (take c.device.fixed.size space) lent) []

    behind : (b : Bool) → eqb c.answer.number 0 ≡ b → out ≡ turn_text start ++ rest b
    behind true q =
        later_printed es (e ∷ []) start to out are (rw (append-nil e) (sym (creation_long e (and_left (is_event true e) (are_events false es) are)))) q w
    behind false q = ended (joined (e ∷ es)) start to out q w ∙ sym (append-nil (turn_text start))

-- ---- a good file

begin_none : (text : List ℕ) → begin_by (joined []) text ≡ beginning_of (stopped_at no_device 0 0) text
unfolding begin_by joined
begin_none text = rw (ends_there [] 0 zero-le)

-- The turns from a beginning that is known.
from_begin : (xs space lent : List ℕ) (to : Running) (out : List ℕ) {b d : Beginning} → b ≡ d → Turns xs (start_of b space lent) to out → Turns xs (start_of d space lent) to out
from_begin xs space lent to out h = subst (λ (x : Beginning). Turns xs (start_of x space lent) to out) h

events_printed : (events : List (List ℕ)) (space lent text : List ℕ) (to : Running) (out : List ℕ) → are_events true events ≡ true
    → Turns (joined events) (start_of (begin_by (joined events) text) space lent) to out → out ≡ file_lines events space lent
unfolding file_lines
events_printed [] space lent text to out are w =
    ended (joined []) _ to out refl (from_begin (joined []) space lent to out (begin_none text) w)
events_printed (e ∷ es) space lent text to out are w =
    created_printed (creation_of_body (body_of e)) e es space lent text to out are (from_begin (joined (e ∷ es)) space lent to out (begin_read e es text are) w)

-- ---- any file

module _ (file space lent text : List ℕ) (begun : Beginning) (to : Running) (out : List ℕ) (w : Turns (events_of file) (start_of begun space lent) to out) where
  good_printed : (events : List (List ℕ)) → Good file events → begun ≡ begin_by (events_of file) text → out ≡ file_lines events space lent
  unfolding events_of
  good_printed events g h =
      events_printed events space lent text to out g.are
      (subst (λ (xs : List ℕ). Turns xs (start_of (begin_by xs text) space lent) to out) (events_part file events g) (from_begin (events_of file) space lent to out h w))

  bad_printed : begun ≡ beginning_refused text → out ≡ breach
  unfolding beginning_refused
  bad_printed h =
      ended (events_of file) (start_of (beginning_refused text) space lent) to out refl (from_begin (events_of file) space lent to out h w) ∙ front_put text breach

  opened_printed : (verdict : Bool) → Judges verdict file → begun ≡ open_by verdict file text → Prints file space lent out
  unfolding open_by
  opened_printed true j h = record {
    good = λ events g. good_printed events g h;
    bad = λ none. absurd (none (j.accepted refl).0 (j.accepted refl).1);
  }
  opened_printed false j h = record {
    good = λ events g. absurd (clash (sym (j.accepts events g)));
    bad = λ none. bad_printed h;
  }

-- Everything that the turns of `play_file` hand over, by its contract: a line for each event of a good file, and `14` for any other file.
pub prints : {file space lent text space' lent' text' : List ℕ} (p : PlayedFile file space lent text space' lent' text') → Prints file space lent p.played.out
prints {file} {space} {lent} {text} p =
    let o = p.opens in
    opened_printed file space lent text p.begun _ p.played.out p.played.turns o.verdict o.judges o.opened

-- The same for the contract itself, as the check reads it.
pub play_file_prints : (κs : Lfts 4) (a : Dens κs kinds.ps) (x : (res_t kinds.r κs).Denot) (s : AtExit (ended_of 4 kinds.ps kinds.r) κs) (p : play-file.Post κs a x s)
    → Prints a.0.now a.1.0.now a.1.1.0.now p.played.out
play_file_prints κs a x s p = prints p

-- A good file yields its events: each is read at its offset (`yields`), and no other list of events is that of the file (`events_once`).
-- Assumes nothing.
use mathlib.Core.Path.{◌≡◌, refl, sym, ap, ◌∙◌}
use mathlib.Core.Bool.{Bool, true, false}
use mathlib.Core.List.{List, [], ◌∷◌, ◌++◌, append_assoc}
use Prim.Native.Nat.{ℕ}
use native.Mathlib.Omega.{arith}
use lib.Dec.{eqb}
use lib.ListN.{length, take, drop, length-append, length-drop}
use lib.Seq.{take_at, drop_at, drop-drop, drop-append-le, take-append_seam}
use Rattle.fields.specs.Field.{get}
use Rattle.fields.proofs.Bools.{and_left, and_right}
use Rattle.benchfile.specs.Event.{length_field, body_of, is_event, front_of, event_at}
use Rattle.benchfile.specs.File.{joined, are_events, Good}
use Rattle.benchfile.specs.Inner.File.{ReadAt}
use Rattle.benchfile.proofs.Front.{event_long, front_event, head_event, event_kind}
use Rattle.benchfile.proofs.Lists.{is_first, first_at_0, none_joined}

joined_append : (es fs : List (List ℕ)) → joined (es ++ fs) ≡ joined es ++ joined fs
unfolding joined
joined_append [] fs = refl
joined_append (e ∷ es) fs = rw (joined_append es fs) (sym (append_assoc e (joined es) (joined fs)))

-- The events before an event are events, and so is that one.
are_before : (first : Bool) (before after : List (List ℕ)) → are_events first (before ++ after) ≡ true → are_events first before ≡ true
unfolding are_events
are_before first [] after h = refl
are_before first (x ∷ before) after h =
    rw (and_left (is_event first x) (are_events false (before ++ after)) h) (are_before false before after (and_right (is_event first x) (are_events false (before ++ after)) h))

is_there : (first : Bool) (before : List (List ℕ)) (e : List ℕ) (after : List (List ℕ)) → are_events first (before ++ e ∷ after) ≡ true → is_event (is_first first before) e ≡ true
unfolding are_events is_first
is_there first [] e after h = and_left (is_event first e) (are_events false after) h
is_there first (x ∷ before) e after h =
    later before (is_there false before e after (and_right (is_event first x) (are_events false (before ++ e ∷ after)) h))
  where
    later : (es : List (List ℕ)) → is_event (is_first false es) e ≡ true → is_event false e ≡ true
    later [] k = k
    later (y ∷ ys) k = k

module _ (before : List (List ℕ)) (e : List ℕ) (after : List (List ℕ)) (are : are_events true (before ++ e ∷ after) ≡ true) where
  abbrev offset : ℕ
  offset = length (joined before)

  is : is_event (eqb offset 0) e ≡ true
  is = rw (← first_at_0 before (are_before true before (e ∷ after) are)) (is_there true before e after are)

  body_long : length (body_of e) ≡ get length_field e
  unfolding body_of
  body_long = length-drop 3 e ∙ omega (arith, event_long (eqb offset 0) e is)

  from_there : drop offset (joined (before ++ e ∷ after)) ≡ e ++ joined after
  unfolding joined
  from_there = ap (drop offset) (joined_append before (e ∷ after)) ∙ drop_at (joined before) (e ++ joined after) offset refl

  pub read_there : ReadAt (joined (before ++ e ∷ after)) offset e
  unfolding event_at body_of
  read_there = record {
    kind = (event_kind (eqb offset 0) e is).0;
    number = (event_kind (eqb offset 0) e is).2;
    head = rw (from_there, head_event (eqb offset 0) e is (joined after), (event_kind (eqb offset 0) e is).1, body_long);
    body =
        rw (← drop-drop 3 offset (joined (before ++ e ∷ after)), from_there, drop-append-le 3 e (joined after) (omega (arith, event_long (eqb offset 0) e is)))
        (take-append_seam (drop 3 e) (joined after));
    next = omega (arith, body_long, event_long (eqb offset 0) e is);
  }

-- "yields": whichever event of a good file is asked for, it stands at its offset.
pub yields : (file : List ℕ) (events before : List (List ℕ)) (e : List ℕ) (after : List (List ℕ)) → Good file events → events ≡ before ++ e ∷ after → ReadAt (joined events) (length (joined before)) e
yields file events before e after g q = rw q (read_there before e after (rw (← q) g.are))

-- ---- one list of events

pub joined_once : (first : Bool) (es fs : List (List ℕ)) → are_events first es ≡ true → are_events first fs ≡ true → joined es ≡ joined fs → es ≡ fs
unfolding are_events joined
joined_once first [] fs h k q = sym (none_joined first fs k (ap length (sym q)))
joined_once first (e ∷ es) [] h k q = none_joined first (e ∷ es) h (ap length q)
joined_once first (e ∷ es) (f ∷ fs) h k q =
    let is_e : is_event first e ≡ true = and_left (is_event first e) (are_events false es) h in
    let is_f : is_event first f ≡ true = and_left (is_event first f) (are_events false fs) k in
    let same : e ≡ f = sym (front_event first e is_e (joined es)) ∙ ap front_of q ∙ front_event first f is_f (joined fs) in
    let rest : joined es ≡ joined fs =
    sym (drop_at e (joined es) (length e) refl) ∙ ap (drop (length e)) q ∙ drop_at f (joined fs) (length e) (ap length (sym same))
    in
    let tails : es ≡ fs =
    joined_once false es fs (and_right (is_event first e) (are_events false es) h) (and_right (is_event first f) (are_events false fs) k) rest
    in
    rw (same, tails)

pub events_once : (file : List ℕ) (es fs : List (List ℕ)) → Good file es → Good file fs → es ≡ fs
events_once file es fs g h =
    let parts : joined es ++ g.trailer ≡ joined fs ++ h.trailer = sym g.parts ∙ h.parts in
    let long : length (joined es) ≡ length (joined fs) =
    omega (arith, ap length parts, length-append (joined es) g.trailer, length-append (joined fs) h.trailer, g.closes.twelve, h.closes.twelve)
    in
    let same : joined es ≡ joined fs =
    sym (take_at (joined es) g.trailer (length (joined es)) refl) ∙ ap (take (length (joined es))) parts ∙ take_at (joined fs) h.trailer (length (joined es)) (sym long)
    in
    joined_once true es fs g.are h.are same

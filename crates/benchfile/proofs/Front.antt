-- What stands at the front of some bytes: what the ways through `event::front` owe, and how `event_head_of` and `is_event` belong together.
-- Assumes nothing.
use mathlib.Core.Path.{◌≡◌, refl, sym, ap, ◌∙◌}
use mathlib.Core.Bool.{Bool, true, false, cond, ◌&&◌}
use mathlib.Core.List.{List, ◌++◌}
use Prim.Native.Nat.{ℕ, ◌+◌, ◌-◌, ◌≤◌, ◌<◌}
use native.Mathlib.Omega.{arith}
use native.Mathlib.Nat.{min-le_right}
use lib.Dec.{eqb}
use lib.ListN.{length, take, drop, take-append-drop, length-take, length-drop}
use lib.Seq.{take_at, length-take-le, take_all, drop-drop}
use borrow.Author.Tests.{eq-eqb, ne_eqb, eqb-true}
use Rattle.std.specs.Prelude.{Option, Some, None}
use Rattle.std.proofs.lemmas.Bool.Decides.{nat_tests}
use Rattle.fields.specs.Field.{get}
use Rattle.fields.proofs.Bools.{and_left, and_right, clash}
use Rattle.fields.proofs.Field.{get_append, get_front}
use Rattle.fields.proofs.Seq.{drop_front}
use Rattle.benchfile.specs.declared.event.Kind.{Kind}
use Rattle.benchfile.specs.declared.event.EventHead.{EventHead}
use Rattle.benchfile.specs.Event.{kind_byte, length_field, kind_number, kind_of_number, body_of, is_long, suits, may_stand, is_event, front_of, head_of, event_head_of, event_at}

and_false : (b : Bool) → b && false ≡ false
and_false true = refl
and_false false = refl

-- ---- kinds and their numbers

pub kind_back : (n : ℕ) (k : Kind) → kind_of_number n ≡ Some k → kind_number k ≡ n
unfolding kind_of_number
kind_back n k e = grind (arith, nat_tests)

-- A number that suits some body is that of a kind.
pub suits_unknown : (n : ℕ) (body : List ℕ) → kind_of_number n ≡ None → suits n body ≡ false
unfolding kind_of_number suits is_long
suits_unknown n body e = grind (arith, nat_tests)

-- ---- an event

module _ (first : Bool) (e : List ℕ) (h : is_event first e ≡ true) where
  -- The length of an event is the one that it says.
  pub event_long : length e ≡ 3 + get length_field e
  unfolding is_event
  event_long = eqb-true _ _ (and_left _ _ h)

  pub event_suits : suits (get kind_byte e) (body_of e) ≡ true
  unfolding is_event
  event_suits =
      and_right (may_stand first (get kind_byte e)) _ (and_right (eqb (length e) (3 + get length_field e)) _ h)

  -- Where bytes begin with an event, that event stands at their front.
  pub front_event : (ys : List ℕ) → front_of (e ++ ys) ≡ e
  unfolding front_of
  front_event ys =
      rw (get_append length_field e ys (omega (arith, event_long))) (take_at e ys (3 + get length_field e) event_long)

  pub head_event : (ys : List ℕ) → event_head_of first (e ++ ys) ≡ head_of (kind_of_number (get kind_byte e)) (get length_field e)
  unfolding event_head_of
  head_event ys =
      rw (front_event ys, h, get_append kind_byte e ys (omega (arith, event_long)), get_append length_field e ys (omega (arith, event_long)))

  -- The kind of an event.
  pub event_kind : (k : Kind) × (kind_of_number (get kind_byte e) ≡ Some k) × (kind_number k ≡ get kind_byte e)
  event_kind = of_found (kind_of_number (get kind_byte e)) refl
    where
      of_found : (o : Option Kind) → kind_of_number (get kind_byte e) ≡ o → (k : Kind) × (kind_of_number (get kind_byte e) ≡ Some k) × (kind_number k ≡ get kind_byte e)
      of_found None q = absurd (clash (sym event_suits ∙ suits_unknown (get kind_byte e) (body_of e) q))
      of_found (Some k) q = (k, q, kind_back (get kind_byte e) k q)

-- ---- the front of any bytes

module _ (first : Bool) (xs : List ℕ) where
  no_event_lem : is_event first (front_of xs) ≡ false → None ≡ event_head_of first xs
  unfolding event_head_of
  no_event_lem e = rw e

  pub within : length (front_of xs) ≤ length xs
  unfolding front_of
  within = rw (length-take (3 + get length_field xs) xs) (min-le_right (3 + get length_field xs) (length xs))

  pub front_short : length xs < 3 → None ≡ event_head_of first xs
  unfolding is_event
  front_short h =
      no_event_lem (rw (ne_eqb (length (front_of xs)) (3 + get length_field (front_of xs)) (λ q. absurd (omega (arith, q, within)))))

  module _ {n : ℕ} (hn : n ≡ get length_field xs) where
    pub front_cut : length xs < 3 + n → None ≡ event_head_of first xs
    unfolding is_event front_of
    front_cut k =
        no_event_lem (rw (take_all (3 + get length_field xs) xs (omega (arith, hn)), ne_eqb (length xs) (3 + get length_field xs) (λ q. absurd (omega (arith, q, hn)))))

    module _ (k : 3 + n ≤ length xs) {number : ℕ} (hb : number ≡ get kind_byte xs) where
      front_there : is_event first (front_of xs) ≡ may_stand first number && suits number (take (3 + n - 3) (drop 3 xs))
      unfolding is_event front_of body_of
      front_there =
          let rest : 3 + n - 3 ≡ n = omega arith in
          rw (← hn, length-take-le (3 + n) xs k, get_front length_field (3 + n) xs (omega arith) k, ← hn, eq-eqb (3 + n) (3 + n) refl, get_front kind_byte (3 + n) xs (omega arith) k, ← hb, drop_front 3 n xs (omega arith), rest)

      pub front_unknown : None ≡ kind_of_number number → None ≡ event_head_of first xs
      front_unknown e =
          no_event_lem (front_there ∙ rw (suits_unknown number (take (3 + n - 3) (drop 3 xs)) (sym e)) (and_false (may_stand first number)))

      module _ {kind : Kind} (known : Some kind ≡ kind_of_number number) where
        here : kind_number kind ≡ number
        here = kind_back number kind (sym known)

        pub front_misplaced : false ≡ may_stand first (kind_number kind) → None ≡ event_head_of first xs
        front_misplaced q = no_event_lem (front_there ∙ rw (← here, ← q))

        pub front_unsuited : false ≡ suits (kind_number kind) (take (3 + n - 3) (drop 3 xs)) → None ≡ event_head_of first xs
        front_unsuited q = no_event_lem (front_there ∙ rw (← here, ← q) (and_false (may_stand first (kind_number kind))))

        pub front_suited : true ≡ may_stand first (kind_number kind) → true ≡ suits (kind_number kind) (take (3 + n - 3) (drop 3 xs)) → Some (record { kind = kind; length = n }) ≡ event_head_of first xs
        unfolding event_head_of
        front_suited q s =
            let is : is_event first (front_of xs) ≡ true = front_there ∙ rw (← here, ← q, ← s) in
            rw (is, ← hb, ← known, hn)

pub ruleset fronts = (front_short, front_cut, front_unknown, front_misplaced, front_unsuited, front_suited)

-- ---- the other way: where an event is found, the bytes begin with it

-- The event with the head `head` stands at the front of `xs`.
pub record Stands (first : Bool) (xs : List ℕ) (head : EventHead) : Type 0 where
  pub is : is_event first (front_of xs) ≡ true
  pub kind : kind_number head.kind ≡ get kind_byte xs
  pub long : head.length ≡ get length_field xs

module _ (first : Bool) (xs : List ℕ) {head : EventHead} where
  pub stands : event_head_of first xs ≡ Some head → Stands first xs head
  unfolding event_head_of
  stands = of_test (is_event first (front_of xs)) (kind_of_number (get kind_byte xs)) refl refl
    where
      of_test : (b : Bool) (o : Option Kind) → is_event first (front_of xs) ≡ b → kind_of_number (get kind_byte xs) ≡ o → cond b (head_of o (get length_field xs)) None ≡ Some head → Stands first xs head
      of_test true (Some kind) p q e =
          let same : record { kind = kind; length = get length_field xs } ≡ head = cc in
          record {
            is = p;
            kind = rw (← same) (kind_back (get kind_byte xs) kind q);
            long = sym (ap (λ (x : EventHead). x.length) same);
          }
      of_test true None p q e = cc
      of_test false o p q e = cc

  module _ (s : Stands first xs head) where
    -- The event is not cut off.
    pub stands_long : length (front_of xs) ≡ 3 + head.length
    unfolding front_of
    stands_long =
        let long : length (front_of xs) ≡ 3 + get length_field (front_of xs) = event_long first (front_of xs) s.is in
        let same : get length_field (front_of xs) ≡ get length_field xs =
        sym (get_append length_field (front_of xs) (drop (3 + get length_field xs) xs) (omega (arith, long))) ∙ ap (get length_field) (take-append-drop (3 + get length_field xs) xs)
        in
        long ∙ ap (λ (n : ℕ). 3 + n) (same ∙ sym s.long)

    pub stands_within : 3 + head.length ≤ length xs
    stands_within = omega (arith, stands_long, within first xs)

-- ---- for callers: what stands at an offset, if it is an event

module _ (xs : List ℕ) (at : ℕ) {head : EventHead} (w : event_at xs at ≡ Some head) where
  pub stands_at : Stands (eqb at 0) (drop at xs) head
  unfolding event_at
  stands_at = stands (eqb at 0) (drop at xs) w

  -- All of the event is there.
  pub whole_fits : at + 3 + head.length ≤ length xs
  whole_fits = omega (arith, stands_within (eqb at 0) (drop at xs) stands_at, length-drop at xs)

  -- Its body is as its kind asks.
  pub whole_suits : suits (kind_number head.kind) (take head.length (drop (at + 3) xs)) ≡ true
  unfolding front_of body_of
  whole_suits =
      let s = stands_at in
      let here : 3 + get length_field (drop at xs) ≤ length (drop at xs) = rw (← s.long) (stands_within (eqb at 0) (drop at xs) s) in
      rw (s.kind, s.long, ← drop-drop 3 at xs, ← drop_front 3 (get length_field (drop at xs)) (drop at xs) (omega (arith, here)), ← get_front kind_byte (3 + get length_field (drop at xs)) (drop at xs) (omega arith) here)
      (event_suits (eqb at 0) (front_of (drop at xs)) s.is)

-- The first event is a creation, and its body has 7 bytes.
seven : (kind : ℕ) (body : List ℕ) → kind ≡ 0 → suits kind body ≡ true → length body ≡ 7
unfolding suits is_long
seven kind body e h = eqb-true (length body) 7 (sym (ap (λ (k : ℕ). suits k body) e) ∙ h)

pub creation_long : (e : List ℕ) → is_event true e ≡ true → length e ≡ 10
unfolding is_event may_stand body_of
creation_long e h =
    let kind : get kind_byte e ≡ 0 =
    eqb-true _ _ (and_left (eqb (get kind_byte e) 0) (suits (get kind_byte e) (body_of e)) (and_right (eqb (length e) (3 + get length_field e)) _ h))
    in
    omega (arith, seven (get kind_byte e) (body_of e) kind (event_suits true e h), length-drop 3 e)

pub first_long : (xs : List ℕ) {head : EventHead} → event_at xs 0 ≡ Some head → 10 ≤ length xs
first_long xs w =
    omega (arith, creation_long (front_of (drop 0 xs)) (stands_at xs 0 w).is, within true (drop 0 xs))

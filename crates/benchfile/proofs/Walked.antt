-- The walk from event to event: what is known after each turn of it, and what each of its ways out owes (`walks`). Assumes nothing.
use mathlib.Core.Path.{◌≡◌, refl, sym, ap, ◌∙◌}
use mathlib.Core.Bool.{true}
use mathlib.Core.List.{List, [], ◌∷◌, ◌++◌, append-nil, append_assoc}
use Prim.Native.Nat.{ℕ, ◌+◌, ◌-◌, ◌≤◌, ◌<◌, zero-le}
use native.Mathlib.Omega.{arith}
use lib.Dec.{eqb}
use lib.ListN.{length, take, drop, length-append, length-drop}
use lib.Seq.{take_all, take-add, drop-drop, drop_at, length-take-le}
use borrow.Author.Tests.{ne_eqb}
use Rattle.std.specs.Prelude.{Option, Some, None}
use Rattle.fields.specs.Field.{get}
use Rattle.benchfile.specs.declared.Tally.{Tally}
use Rattle.benchfile.specs.declared.event.EventHead.{EventHead}
use Rattle.benchfile.specs.Event.{length_field, front_of, event_head_of, event_at}
use Rattle.benchfile.specs.File.{joined, are_events, last_offset}
use Rattle.benchfile.specs.Inner.Walk.{tally_of, Fills, Tallies}
use Rattle.benchfile.proofs.Front.{front_event, head_event, event_kind, Stands, stands_long, stands_at, whole_fits}
use Rattle.benchfile.proofs.Lists.{joined_snoc, are_snoc, last_snoc, first_at_0, none_joined, Leads, leads}

-- The events `all` are `events` and then others, and the first of these others stands at the offset `at` of `xs`.
pub record Behind (xs : List ℕ) (at : ℕ) (events all : List (List ℕ)) : Type 0 where
  pub rest : List (List ℕ)
  pub split : all ≡ events ++ rest
  pub bytes : drop at xs ≡ joined rest
  pub are : are_events (eqb at 0) rest ≡ true

-- The walk over `xs` has come to the offset `at`: `tally` is that of the events that it has read, and any events that fill `xs` begin with
-- these.
pub record Walked (xs : List ℕ) (at : ℕ) (tally : Tally) : Type 0 where
  pub events : List (List ℕ)
  pub within : at ≤ length xs
  pub few : tally.count ≤ at
  pub bytes : take at xs ≡ joined events
  pub are : are_events true events ≡ true
  pub counts : tally ≡ tally_of events
  pub behind : (all : List (List ℕ)) → Fills all xs → Behind xs at events all

pub begins : (xs : List ℕ) → Walked xs 0 (record { count = 0; last = 0 })
unfolding joined are_events last_offset
begins xs = record {
  events = [];
  within = zero-le;
  few = zero-le;
  bytes = refl;
  are = refl;
  counts = refl;
  behind = λ all f. record { rest = all; split = refl; bytes = f.bytes; are = f.are };
}

module _ (xs : List ℕ) (at : ℕ) {tally : Tally} (w : Walked xs at tally) where
  -- Where some events fill `xs`, one of them stands at the offset.
  standing : at < length xs → (all : List (List ℕ)) → (f : Fills all xs) → Leads (eqb at 0) (w.behind all f).rest
  standing h all f =
      let b = w.behind all f in
      leads (eqb at 0) b.rest b.are (omega (arith, ap length b.bytes, length-drop at xs))

  at_joined : at ≡ length (joined w.events)
  at_joined = sym (length-take-le at xs w.within) ∙ ap length w.bytes

  pub goes_count : at < length xs → tally.count + 1 ≤ length xs
  goes_count h = omega (arith, w.few)

  module _ (h : at < length xs) where
    -- The event at the offset is one more.
    module _ {head : EventHead} (e : Some head ≡ event_at xs at) where
      there : Stands (eqb at 0) (drop at xs) head
      there = stands_at xs at (sym e)

      abbrev next : List ℕ
      next = front_of (drop at xs)

      next_long : length next ≡ 3 + head.length
      next_long = stands_long (eqb at 0) (drop at xs) there

      pub goes_within : at + (3 + head.length) ≤ length xs
      goes_within = omega (arith, whole_fits xs at (sym e))

      pub goes_less : length xs - (at + (3 + head.length)) < length xs - at
      goes_less = omega (arith, h, goes_within)

      read_on_lem : take (at + (3 + head.length)) xs ≡ joined (w.events ++ next ∷ [])
      unfolding front_of
      read_on_lem = rw (joined_snoc w.events next, take-add at (3 + head.length) xs, w.bytes, there.long)

      go_behind : (all : List (List ℕ)) → Fills all xs → Behind xs (at + (3 + head.length)) (w.events ++ next ∷ []) all
      unfolding joined
      go_behind all f =
          let b = w.behind all f in
          let s = standing h all f in
          let bytes : drop at xs ≡ s.event ++ joined s.others = b.bytes ∙ ap joined s.split in
          let same : next ≡ s.event = ap front_of bytes ∙ front_event (eqb at 0) s.event s.is (joined s.others) in
          record {
            rest = s.others;
            split = b.split ∙ ap (λ (r : List (List ℕ)). w.events ++ r) s.split ∙ rw (same, append_assoc w.events (s.event ∷ []) s.others);
            bytes =
                sym (drop-drop (3 + head.length) at xs)
                ∙ ap (drop (3 + head.length)) bytes
                ∙ drop_at s.event (joined s.others) (3 + head.length) (ap length (sym same) ∙ next_long);
            are = rw (ne_eqb (at + (3 + head.length)) 0 (λ z. absurd (omega (arith, z)))) s.are;
          }

      pub goes : Walked xs (at + (3 + head.length)) (record { count = tally.count + 1; last = at })
      goes = record {
        events = w.events ++ next ∷ [];
        within = goes_within;
        few = omega (arith, w.few);
        bytes = read_on_lem;
        are = are_snoc true w.events next w.are (rw (first_at_0 w.events w.are, ← at_joined) there.is);
        counts = rw (length-append w.events (next ∷ []), last_snoc w.events next, ← at_joined, w.counts);
        behind = go_behind;
      }

    -- What stands at the offset is no event, so no events fill `xs`.
    pub breaks : None ≡ event_at xs at → {t : Option Tally} → t ≡ None → Tallies t xs
    unfolding event_at joined
    breaks e none = record {
      found = λ tally t. cc;
      only = λ all f.
          let b = w.behind all f in
          let s = standing h all f in
          let bytes : drop at xs ≡ s.event ++ joined s.others = b.bytes ∙ ap joined s.split in
          let k = event_kind (eqb at 0) s.event s.is in
          let head : event_head_of (eqb at 0) (drop at xs) ≡ Some (record { kind = k.0; length = get length_field s.event }) =
          ap (event_head_of (eqb at 0)) bytes ∙ head_event (eqb at 0) s.event s.is (joined s.others) ∙ rw k.1
          in
          cc;
    }

  -- The walk is at the end: what it has read fills `xs`, and nothing else does.
  pub ends : length xs ≤ at → Tallies (Some tally) xs
  ends h = record {
    found = λ t same. (w.events, record { bytes = sym (take_all at xs h) ∙ w.bytes; are = w.are }, counted t same);
    only = λ all f.
        let b = w.behind all f in
        let none : b.rest ≡ [] =
        none_joined (eqb at 0) b.rest b.are (omega (arith, ap length b.bytes, length-drop at xs, h))
        in
        let same : all ≡ w.events = b.split ∙ ap (λ (r : List (List ℕ)). w.events ++ r) none ∙ append-nil w.events in
        rw (same, ← w.counts);
  }
    where
      counted : (t : Tally) → Some tally ≡ Some t → t ≡ tally_of w.events
      counted t same = let e : tally ≡ t = cc in sym e ∙ w.counts

pub ruleset walks = (begins, goes_count, goes_less, goes)

-- The verdict: what each way through `good` owes (`judges`). Assumes nothing.
use mathlib.Core.Path.{◌≡◌, refl, sym, ap, ◌∙◌}
use mathlib.Core.Bool.{Bool, true, false}
use mathlib.Core.List.{List, ◌++◌}
use Prim.Native.Nat.{ℕ, ◌-◌, ◌≤◌, ◌<◌}
use native.Mathlib.Omega.{arith}
use lib.Dec.{eqb}
use lib.ListN.{length, take, drop, take-append-drop, length-append, length-drop}
use lib.Seq.{take_at, drop_at}
use borrow.Author.Tests.{eq-eqb, eqb-true}
use Rattle.std.specs.Prelude.{Some, None}
use Rattle.std.proofs.lemmas.Slice.Eq.{bytes_eq-Decides}
use Rattle.fields.specs.Field.{get}
use Rattle.fields.proofs.Bools.{and_left, and_right, clash}
use Rattle.benchfile.specs.declared.Tally.{Tally}
use Rattle.benchfile.specs.File.{joined, count_field, last_field, magic, Good, Judges}
use Rattle.benchfile.specs.Inner.Walk.{tally_of, Tallies, agrees_with}

-- ---- the file

module _ (file : List ℕ) where
  pub judges_long : 65536 < length file → Judges false file
  judges_long h = record {
    accepted = λ q. absurd (clash (sym q));
    accepts = λ es g. absurd (omega (arith, h, g.most));
  }

  pub judges_short : length file < 12 → Judges false file
  judges_short h = record {
    accepted = λ q. absurd (clash (sym q));
    accepts = λ es g. absurd (omega (arith, h, ap length g.parts, length-append (joined es) g.trailer, g.closes.twelve));
  }

-- The events of a good file stand before its trailer.
module _ (file : List ℕ) (events : List (List ℕ)) (g : Good file events) where
  seam : length (joined events) ≡ length file - 12
  seam = omega (arith, ap length g.parts, length-append (joined events) g.trailer, g.closes.twelve)

  pub events_part : take (length file - 12) file ≡ joined events
  events_part = ap (take (length file - 12)) g.parts ∙ take_at (joined events) g.trailer (length file - 12) seam

  trailer_part : drop (length file - 12) file ≡ g.trailer
  trailer_part = ap (drop (length file - 12)) g.parts ∙ drop_at (joined events) g.trailer (length file - 12) seam

module _ (file : List ℕ) (short : length file ≤ 65536) (enough : 12 ≤ length file) where
  abbrev trailer : List ℕ
  trailer = drop (length file - 12) file

  -- There are no events that fill the bytes before the trailer.
  pub judges_none : Tallies None (take (length file - 12) file) → Judges false file
  judges_none walked = record {
    accepted = λ q. absurd (clash (sym q));
    accepts = λ events g. let same = walked.only events (record { bytes = events_part file events g; are = g.are }) in cc;
  }

  module _ {t : Tally} (walked : Tallies (Some t) (take (length file - 12) file)) where
    accepts_only : agrees_with t trailer ≡ true → (events : List (List ℕ)) × Good file events
    unfolding agrees_with
    accepts_only q =
        let behind = and_right (eqb (get count_field trailer) t.count) _ q in
        let f = walked.found t refl in
        let twelve : length trailer ≡ 12 = length-drop (length file - 12) file ∙ omega (arith, enough) in (
          f.0,
          record {
            most = short;
            are = f.1.are;
            trailer = trailer;
            parts =
                sym (take-append-drop (length file - 12) file)
                ∙ ap (λ (xs : List ℕ). xs ++ drop (length file - 12) file) f.1.bytes;
            closes = record {
              twelve = twelve;
              count = eqb-true _ _ (and_left _ _ q) ∙ ap (λ (x : Tally). x.count) f.2;
              last = eqb-true _ _ (and_left _ _ behind) ∙ ap (λ (x : Tally). x.last) f.2;
              bot1 = sym ((bytes_eq-Decides magic (drop 8 trailer)).0 (and_right (eqb (get last_field trailer) t.last) _ behind));
            };
          },
        )

    accepts_each : (events : List (List ℕ)) → Good file events → agrees_with t trailer ≡ true
    unfolding agrees_with
    accepts_each events g =
        let k = g.closes in
        let behind : trailer ≡ g.trailer = trailer_part file events g in
        let tally = walked.only events (record { bytes = events_part file events g; are = g.are }) in
        let same : t ≡ tally_of events = cc in
        rw (behind, same, eq-eqb _ _ k.count, eq-eqb _ _ k.last, (bytes_eq-Decides magic (drop 8 g.trailer)).1 (sym k.bot1))

    pub judges_by : {r : Bool} → r ≡ agrees_with t trailer → Judges r file
    judges_by e = record { accepted = λ q. accepts_only (sym e ∙ q); accepts = λ events g. e ∙ accepts_each events g }

pub ruleset judges = (judges_long, judges_short, judges_none, judges_by)

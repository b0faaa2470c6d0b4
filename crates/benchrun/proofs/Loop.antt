-- The loop of `play`: how far it has come at the start of a turn (`Comes`), and what each of its ways owes. Assumes nothing.
use mathlib.Core.Path.{◌≡◌, refl, sym, ◌∙◌, subst}
use mathlib.Core.Bool.{true, false, not}
use mathlib.Core.List.{List, ◌++◌, append_assoc}
use Prim.Native.Nat.{ℕ, ◌-◌, ◌≤◌, ◌<◌}
use lib.ListN.{length, take, drop}
use Rattle.fields.proofs.Bools.{not_true, not_false}
use Rattle.benchrun.specs.declared.step.Run.{Run}
use Rattle.benchrun.specs.Run.{beginning_of, events_of, OpensFile, Running, running_of}
use Rattle.benchrun.specs.Inner.Run.{Roomy}
use Rattle.benchrun.specs.Turns.{turn_text, next_of, Turns, last, turn, Played, PlayedFile}
use Rattle.benchrun.proofs.After.{ahead, after_index, after_less, after_line, after_roomy}

-- The loop that began at `from` has come to `o`: what the turns so far handed over stands before everything that is handed over from here
-- on.
pub record Comes (events : List ℕ) (from o : Running) : Type 0 where
  pub roomy : Roomy o.lent o.text
  pub index : o.run.index ≤ o.run.at
  pub line : o.run.line ≤ length o.text
  pub io : length o.io ≡ length from.io
  pub lent : length o.lent ≡ length from.lent
  pub text : length o.text ≡ length from.text
  pub before : List ℕ
  pub onward : (to : Running) (rest : List ℕ) → Turns events o to rest → Turns events from to (before ++ rest)

module _ (events : List ℕ) (from o : Running) (h : Comes events from o) where
  -- The run goes on: another turn follows.
  module _ (g : not o.run.going ≡ false) {r : Run} {io lent text : List ℕ} (s : running_of r io lent text ≡ next_of events o) where
    pub comes_less : ahead events r < ahead events o.run
    comes_less = after_less o.run events o.io o.lent o.text s (not_false o.run.going g)

    pub comes_on : length io ≡ length o.io → length lent ≡ length o.lent → length text ≡ length o.text → Comes events from (running_of r io lent text)
    comes_on ei el et = record {
      roomy = after_roomy o.lent o.text lent text el et h.roomy;
      index = after_index o.run events o.io o.lent o.text s h.index;
      line = after_line o.run events o.io o.lent o.text s el et h.roomy;
      io = ei ∙ h.io;
      lent = el ∙ h.lent;
      text = et ∙ h.text;
      before = h.before ++ turn_text o;
      onward = λ to rest t. subst (Turns events from to) (sym (append_assoc h.before (turn_text o) rest))
          (h.onward to (turn_text o ++ rest) (turn o to (turn_text o ++ rest) rest (not_false o.run.going g) (subst (λ (x : Running). Turns events x to rest) s t) refl));
    }

  -- The run has ended: this was the last turn.
  pub comes_last : not o.run.going ≡ true → Played events from o.io o.lent o.text
  comes_last g = record {
    run = o.run;
    out = h.before ++ turn_text o;
    turns = h.onward o (turn_text o) (last o o (turn_text o) (not_true o.run.going g) refl refl);
  }

-- What `play_file` owes follows from what `open`, `events_end` and `play` ensure.
pub plays_file : (file space lent text : List ℕ) {r : Run} {after : List ℕ} → OpensFile file text (beginning_of r after) → {n : ℕ} → n ≡ length file - 12
    → {io lent' text' : List ℕ} → Played (take n file) (running_of r (take r.device.fixed.size space) lent after) io lent' text'
    → PlayedFile file space lent text (io ++ drop r.device.fixed.size space) lent' text'
unfolding events_of
plays_file file space lent text {r} {after} o e {io} p = record { begun = beginning_of r after; opens = o; io = io; played = rw (← e) p; behind = refl }

-- No second answer satisfies a promise: what a function ensures is true of only one run, and of only one content of what it may write to.
-- What the turns of a run hand over is only one list (`turns_once`). `Post` is the contract itself, as the check reads it. Assumes
-- nothing.
use mathlib.Core.Path.{◌≡◌, refl, sym, ap, ◌∙◌, subst}
use mathlib.Core.Bool.{Bool}
use mathlib.Core.List.{List, ◌++◌}
use Prim.Native.Nat.{ℕ}
use lib.ListN.{drop}
use Rattle.fields.proofs.Bools.{clash}
use Rattle.fields.proofs.Only.{Only}
use Rattle.benchfile.proofs.Unique.{judged_once}
use Rattle.benchrun.specs.Run.{Beginning, events_of, open_by, OpensFile, Running, running_of}
use Rattle.benchrun.specs.Turns.{turn_text, Turns, last, turn, start_of, PlayedFile}
use Rattle.benchrun.proofs.open.open.Kinds as open-kinds
use Rattle.benchrun.proofs.open.open.Reads as opens
use Rattle.benchrun.proofs.play.play.Kinds as play-kinds
use Rattle.benchrun.proofs.play.play.Reads as play
use Rattle.benchrun.proofs.play.play_file.Kinds as play-file-kinds
use Rattle.benchrun.proofs.play.play_file.Reads as play-file
use Rattle.benchrun.proofs.step.begin.Kinds as begin-kinds
use Rattle.benchrun.proofs.step.begin.Reads as begin
use Rattle.benchrun.proofs.step.step.Kinds as step-kinds
use Rattle.benchrun.proofs.step.step.Reads as step

pub begin_only : Only 2 begin-kinds.ps begin-kinds.r begin.Post (λ κs s. s.1.0.now)
begin_only κs a x y s t p q =
    let same = p ∙ sym q in
    (ap (λ (o : Beginning). o.run) same, ap (λ (o : Beginning). o.text) same)

-- It may write to the IO buffer, the lent bytes and the text.
pub step_only : Only {B = List ℕ × List ℕ × List ℕ} 4 step-kinds.ps step-kinds.r step.Post (λ κs s. (s.1.1.0.now, s.1.1.1.0.now, s.1.1.1.1.0.now))
step_only κs a x y s t p q =
    let same = p ∙ sym q in
    (ap (λ (o : Running). o.run) same, ap {B = List ℕ × List ℕ × List ℕ} (λ (o : Running). (o.io, o.lent, o.text)) same)

-- ---- a file, before anything is written

opens_once : (file text : List ℕ) (a b : Beginning) → OpensFile file text a → OpensFile file text b → a ≡ b
opens_once file text a b p q =
    p.opened ∙ ap (λ (v : Bool). open_by v file text) (judged_once file p.verdict q.verdict p.judges q.judges) ∙ sym q.opened

pub open_only : Only 2 open-kinds.ps open-kinds.r opens.Post (λ κs s. s.1.0.now)
open_only κs a x y s t p q =
    let same = opens_once _ _ _ _ p q in
    (ap (λ (o : Beginning). o.run) same, ap (λ (o : Beginning). o.text) same)

-- ---- the turns

-- From where a run is, it ends in only one way, and only one list is handed over.
pub turns_once : (events : List ℕ) (from a b : Running) (x y : List ℕ) → Turns events from a x → Turns events from b y → (a ≡ b) × (x ≡ y)
turns_once events from a b x y (last _ _ _ g t e) (last _ _ _ g' t' e') = (t ∙ sym t', e ∙ sym e')
turns_once events from a b x y (last _ _ _ g t e) (turn _ _ _ _ g' t' e') = absurd (clash (sym g' ∙ g))
turns_once events from a b x y (turn _ _ _ _ g t e) (last _ _ _ g' t' e') = absurd (clash (sym g ∙ g'))
turns_once events from a b x y (turn _ _ _ r g t e) (turn _ _ _ r' g' t' e') =
    let once = turns_once events _ a b r r' t t' in
    (once.0, e ∙ ap (λ (l : List ℕ). turn_text from ++ l) once.1 ∙ sym e')

-- It may write to the IO buffer, the lent bytes and the text.
pub play_only : Only {B = List ℕ × List ℕ × List ℕ} 4 play-kinds.ps play-kinds.r play.Post (λ κs s. (s.1.1.0.now, s.1.1.1.0.now, s.1.1.1.1.0.now))
play_only κs a x y s t p q =
    let same = (turns_once _ _ _ _ _ _ p.turns q.turns).0 in
    (refl, ap {B = List ℕ × List ℕ × List ℕ} (λ (o : Running). (o.io, o.lent, o.text)) same)

-- A file has only one first turn, so it has only one last turn.
played_once : (file space lent text : List ℕ) {space' lent' text' space'' lent'' text'' : List ℕ}
    → PlayedFile file space lent text space' lent' text' → PlayedFile file space lent text space'' lent'' text''
    → ◌≡◌ {A = List ℕ × List ℕ × List ℕ} (space', lent', text') (space'', lent'', text'')
played_once file space lent text {space'} {lent'} {text'} {space''} {lent''} {text''} p q =
    let first : q.begun ≡ p.begun = opens_once file text q.begun p.begun q.opens p.opens in
    let end : Running = running_of q.played.run q.io lent'' text'' in
    let turns = subst (λ (b : Beginning). Turns (events_of file) (start_of b space lent) end q.played.out) first q.played.turns in
    let same : running_of p.played.run p.io lent' text' ≡ end =
    (turns_once (events_of file) (start_of p.begun space lent) _ end _ _ p.played.turns turns).0
    in
    let spaces : space' ≡ space'' =
    p.behind
    ∙ ap (λ (o : Running). o.io ++ drop p.begun.run.device.fixed.size space) same
    ∙ ap (λ (b : Beginning). q.io ++ drop b.run.device.fixed.size space) (sym first)
    ∙ sym q.behind
    in
    rw (spaces, ap (λ (o : Running). o.lent) same, ap (λ (o : Running). o.text) same)

-- It may write to the space, the lent bytes and the text.
pub play_file_only : Only {B = List ℕ × List ℕ × List ℕ} 4 play-file-kinds.ps play-file-kinds.r play-file.Post (λ κs s. (s.1.0.now, s.1.1.0.now, s.1.1.1.0.now))
play_file_only κs a x y s t p q = (refl, played_once _ _ _ _ p q)

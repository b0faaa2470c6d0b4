-- No second answer satisfies a promise. `Post` is the contract itself, as the check reads it. Assumes nothing.
use mathlib.Core.Path.{◌≡◌, refl, sym, ◌∙◌}
use mathlib.Core.Bool.{Bool, true, false}
use mathlib.Core.List.{List}
use Prim.Native.Nat.{ℕ}
use Rattle.fields.proofs.Only.{Only}
use Rattle.benchfile.specs.File.{Judges}
use Rattle.benchfile.proofs.good.Kinds as good-kinds
use Rattle.benchfile.proofs.good.Reads as good
use Rattle.benchfile.proofs.event.event_at.Kinds as event-at-kinds
use Rattle.benchfile.proofs.event.event_at.Reads as event-at

-- A file has only one verdict.
pub judged_once : (file : List ℕ) (x y : Bool) → Judges x file → Judges y file → x ≡ y
judged_once file true y p q = let g = p.accepted refl in sym (q.accepts g.0 g.1)
judged_once file false true p q = let g = q.accepted refl in p.accepts g.0 g.1
judged_once file false false p q = refl

pub good_only : Only 1 good-kinds.ps good-kinds.r good.Post (λ κs s. tt {0})
good_only κs a x y s t p q = (judged_once _ x y p q, refl)

pub event_at_only : Only 1 event-at-kinds.ps event-at-kinds.r event-at.Post (λ κs s. tt {0})
event_at_only κs a x y s t p q = (p ∙ sym q, refl)

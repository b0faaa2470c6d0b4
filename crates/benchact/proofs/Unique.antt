-- No second answer satisfies the promise of `act`, and neither does a second content of the IO buffer or of the lent bytes. `Post` is the
-- contract itself, as the check reads it. Assumes nothing.
use mathlib.Core.Path.{◌≡◌, sym, ap, ◌∙◌}
use mathlib.Core.List.{List}
use Prim.Native.Nat.{ℕ}
use Rattle.fields.proofs.Only.{Only}
use Rattle.answers.proofs.Unique.{named, named_answer}
use Rattle.calls.proofs.Unique.{unoffered, unoffered_offered}
use Rattle.benchact.specs.declared.Acted.{Acted}
use Rattle.benchact.specs.Act.{Acting}
use Rattle.benchact.specs.Inner.Act.{acting_of}
use Rattle.benchact.proofs.act.Kinds as act-kinds
use Rattle.benchact.proofs.act.Reads as act

-- 01's number tells the answer, and the list tells the offer, so what a call tells determines what it returned.
abbrev unacted : Acting → Acted
unacted o = record { device = o.device; answer = named o.answer; count = o.count; stalls = o.stalls; shown = o.shown; offer = unoffered o.offers }

unacted_acted : (x : Acted) (io lent : List ℕ) → unacted (acting_of x io lent) ≡ x
unacted_acted x io lent = rw (named_answer x.answer, unoffered_offered x.offer)

acted_once : (x y : Acted) (io io' lent lent' : List ℕ) {o : Acting} → acting_of x io lent ≡ o → acting_of y io' lent' ≡ o → (x ≡ y) × ◌≡◌ {A = List ℕ × List ℕ} (io, lent) (io', lent')
acted_once x y io io' lent lent' h k =
    let e = h ∙ sym k in
    (sym (unacted_acted x io lent) ∙ ap unacted e ∙ unacted_acted y io' lent', ap {B = List ℕ × List ℕ} (λ (o : Acting). (o.io, o.lent)) e)

pub act_only : Only {B = List ℕ × List ℕ} 3 act-kinds.ps act-kinds.r act.Post (λ κs s. (s.1.1.1.0.now, s.1.1.1.1.0.now))
act_only κs a x y s t p q = acted_once x y _ _ _ _ p q

-- No second answer satisfies the promise: what the `ensures` of `put_line` says is true of only one length, and of only one content of
-- the buffer at exit. `Post` is the contract itself, as the check reads it. Assumes nothing.
use mathlib.Core.Path.{◌≡◌, sym, ◌∙◌}
use mathlib.Core.List.{List}
use Prim.Native.Nat.{ℕ}
use Rattle.fields.proofs.Only.{Only}
use Rattle.benchline.specs.Inner.Line.{Puts}
use Rattle.benchline.proofs.put_line.Kinds as put-line-kinds
use Rattle.benchline.proofs.put_line.Reads as put-line

puts_once : {at e f : ℕ} {ys d m n : List ℕ} → Puts at ys d m e → Puts at ys d n f → (e ≡ f) × (m ≡ n)
puts_once p q = (p.ends ∙ sym q.ends, p.text ∙ sym q.text)

pub put_line_only : Only 2 put-line-kinds.ps put-line-kinds.r put-line.Post (λ κs s. s.1.1.0.now)
put_line_only κs a x y s t p q = puts_once p q

-- `benchline::put_hex` meets its contract: after i turns the first 2 * i digits are laid over the text. Assumes nothing.
use Rattle.std.proofs.Common.{rules}
use native.Mathlib.Omega.{arith}
use lib.ListN.{length-set}
use Rattle.fields.proofs.Overlay.{laid_start}
use Rattle.benchline.proofs.Text.{length_hex}
use Rattle.benchline.proofs.Ways.{ways}
use Rattle.benchline.proofs.put_hex.Goals as goal

pub loop-i-init : goal.loop-i-init
loop-i-init c = laid_start _ _ _

pub bounds-text-at : goal.bounds-text-at
bounds-text-at c = omega (arith, length_hex c.args.bytes.now)

pub bounds-text-at-in-loop-i : goal.bounds-text-at-in-loop-i
bounds-text-at-in-loop-i c = simp length-set (omega (arith, length_hex c.args.bytes.now))

pub loop-i-preserved : goal.loop-i-preserved
loop-i-preserved c = search (ways, rules)

pub returns : goal.returns
returns c = search (ways, rules)

-- `benchline::put_end` meets its contract: a space, the digits, and a store after them. Assumes nothing.
use Rattle.std.proofs.Common.{rules}
use native.Mathlib.Omega.{arith}
use lib.ListN.{length-set}
use Rattle.benchline.proofs.Ways.{ways}
use Rattle.benchline.proofs.put_end.Goals as goal

pub bounds-text-at : goal.bounds-text-at
bounds-text-at c = search (ways, rules)

pub put_decimal-end-requires : goal.put_decimal-end-requires
put_decimal-end-requires c = search (ways, rules)

pub bounds-text-end : goal.bounds-text-end
bounds-text-end c = search (ways, rules)

pub overflow_add-result : goal.overflow_add-result
overflow_add-result c = omega (arith, bounds-text-end c, simp length-set at (c.put_decimal-end.auto.text))

pub returns : goal.returns
returns c = search (ways, rules)

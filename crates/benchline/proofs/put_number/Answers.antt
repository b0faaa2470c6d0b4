-- `benchline::put_number` meets its contract: a space is stored right after the digits. Assumes nothing.
use Rattle.std.proofs.Common.{rules}
use native.Mathlib.Omega.{arith}
use Rattle.benchline.proofs.Ways.{ways}
use Rattle.benchline.proofs.put_number.Goals as goal

pub put_decimal-end-requires : goal.put_decimal-end-requires
put_decimal-end-requires c = search (ways, rules)

pub bounds-text-end : goal.bounds-text-end
bounds-text-end c = search (ways, rules)

pub overflow_add-result : goal.overflow_add-result
overflow_add-result c = omega (arith, bounds-text-end c)

pub returns : goal.returns
returns c = search (ways, rules)

-- `benchline::put_decimal` meets its contract. It calls itself for the digits before the last, which are those of n / 10; the measure is
-- n. Assumes nothing.
use Rattle.std.proofs.Common.{rules}
use native.Mathlib.Omega.{arith}
use Rattle.benchline.proofs.Ways.{ways}
use Rattle.benchline.proofs.+put_decimal.Goals as goal

pub bounds-text-at : goal.bounds-text-at
bounds-text-at t c = search (ways, rules)

pub returns-then-n-lt10 : goal.returns-then-n-lt10
returns-then-n-lt10 t c = search (ways, rules)

pub put_decimal-end-requires : goal.put_decimal-end-requires
put_decimal-end-requires t c = (omega arith, search (ways, rules))

pub bounds-text-end : goal.bounds-text-end
bounds-text-end t c = search (ways, rules)

pub overflow_add-result-2 : goal.overflow_add-result-2
overflow_add-result-2 t c = omega (arith, bounds-text-end t c)

pub returns : goal.returns
returns t c = search (ways, rules)

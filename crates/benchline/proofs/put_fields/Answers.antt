-- `benchline::put_fields` meets its contract: numbers, stalls, and a store after them. Assumes nothing.
use Rattle.std.proofs.Common.{rules}
use native.Mathlib.Omega.{arith}
use Rattle.benchline.proofs.Ways.{spelled, stalls_fit, space_fits, fields_end, ways}
use Rattle.benchline.proofs.put_fields.Goals as goal

pub put_numbers-at-requires : goal.put_numbers-at-requires
put_numbers-at-requires c = search (ways, rules)

pub put_text-end-requires : goal.put_text-end-requires
put_text-end-requires c = rw c.letters_of.ensures (stalls_fit c.args.l _ c.requires c.put_numbers-at.ensures)

pub bounds-text-end : goal.bounds-text-end
bounds-text-end c = space_fits c.args.l _ c.requires c.put_numbers-at.ensures (spelled c.letters_of.ensures c.put_text-end.ensures)

pub overflow_add-result : goal.overflow_add-result
overflow_add-result c = omega (arith, bounds-text-end c)

pub returns : goal.returns
returns c = fields_end c.args.l _ c.requires c.put_numbers-at.ensures (spelled c.letters_of.ensures c.put_text-end.ensures)

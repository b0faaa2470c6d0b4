-- `recordbytes::known` meets its contract: it tests the length, then the four numbers in turn. Assumes nothing.
use Rattle.std.proofs.Common.{rules}
use Rattle.recordbytes.proofs.Reading.{ways, by_direction_lem, by_test_lem}
use Rattle.recordbytes.proofs.known.Goals as goal

pub returns-then-r-ne-SIZE : goal.returns-then-r-ne-SIZE
returns-then-r-ne-SIZE c = search (ways, rules)

pub returns-then-status-le2 : goal.returns-then-status-le2
returns-then-status-le2 c =
    let t = c.if-status-le2.true in
    by_direction_lem _ c.if-r-ne-SIZE.false c.byte-state.ensures t.0 c.byte-present.ensures t.1 c.byte-status.ensures t.2 c.byte-direction.ensures

pub returns-else-status-le2 : goal.returns-else-status-le2
returns-else-status-le2 c =
    by_test_lem _ c.if-r-ne-SIZE.false c.byte-state.ensures c.byte-present.ensures c.byte-status.ensures (search rules) c.if-status-le2.either

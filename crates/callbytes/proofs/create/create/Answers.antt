-- `callbytes::create::create` meets its contract: 01's refusals, bytes that are not 56, or a new record. Assumes nothing.
use Rattle.std.proofs.Common.{rules}
use Rattle.callbytes.proofs.Ways.{create_unlent, ways}
use Rattle.callbytes.proofs.create.create.Goals as goal

pub returns-in-Err : goal.returns-in-Err
returns-in-Err c = search (ways, rules)

-- The law is named, so that a record of another length is refused by it.
pub returns-then-record-ne-SIZE : goal.returns-then-record-ne-SIZE
returns-then-record-ne-SIZE c = create_unlent _ _ c.create.result c.create.ensures _ c.in_default.is c.if-record-ne-SIZE.true

pub new-requires : goal.new-requires
new-requires c = (search (ways, rules), search (ways, rules))

pub returns : goal.returns
returns c = search (ways, rules)

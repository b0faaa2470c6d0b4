-- `recordbytes::store::left` meets its contract: it stores one number. Assumes nothing.
use Rattle.std.proofs.Common.{rules}
use Rattle.recordbytes.proofs.Storing.{ways}
use Rattle.recordbytes.proofs.store.left.Goals as goal

pub returns : goal.returns
returns c = search (ways, rules)

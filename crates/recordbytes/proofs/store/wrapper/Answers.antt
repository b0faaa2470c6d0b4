-- `recordbytes::store::wrapper` meets its contract: it stores five numbers, and then the block. Assumes nothing.
use Rattle.std.proofs.Common.{rules}
use Rattle.recordbytes.proofs.Storing.{ways}
use Rattle.recordbytes.proofs.store.wrapper.Goals as goal

pub returns : goal.returns
returns c = search (ways, rules)

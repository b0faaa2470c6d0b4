-- `recordbytes::store::read_mark` meets its contract: it narrows and stores one number, and the other stays. Assumes nothing.
use Rattle.std.proofs.Common.{rules}
use Rattle.recordbytes.proofs.Storing.{ways}
use Rattle.recordbytes.proofs.store.read_mark.Goals as goal

pub returns : goal.returns
returns c = search (ways, rules)

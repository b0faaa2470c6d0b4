-- `recordbytes::store::marks` meets its contract: it narrows and stores two numbers. Assumes nothing.
use Rattle.std.proofs.Common.{rules}
use Rattle.recordbytes.proofs.Storing.{ways}
use Rattle.recordbytes.proofs.store.marks.Goals as goal

pub returns : goal.returns
returns c = search (ways, rules)

-- `recordbytes::store::new` meets its contract: zeros cover all that was there, and then three numbers are stored. Assumes nothing.
use Rattle.std.proofs.Common.{rules}
use Rattle.recordbytes.proofs.Storing.{ways}
use Rattle.recordbytes.proofs.store.new.Goals as goal

pub returns : goal.returns
returns c = search (ways, rules)

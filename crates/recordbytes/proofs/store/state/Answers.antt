-- `recordbytes::store::state` meets its contract: it stores one number, that of the state. Assumes nothing.
use Rattle.std.proofs.Common.{rules}
use Rattle.recordbytes.proofs.Storing.{ways}
use Rattle.recordbytes.proofs.store.state.Goals as goal

pub returns : goal.returns
returns c = search (ways, rules)

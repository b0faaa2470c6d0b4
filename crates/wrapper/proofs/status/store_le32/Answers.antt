-- `wrapper::status::store_le32` meets its contract: four stores in order. Assumes nothing.
use Rattle.std.proofs.Common.{rules}
use Rattle.wrapper.proofs.Csw.{ways}
use Rattle.wrapper.proofs.status.store_le32.Goals as goal

pub returns : goal.returns
returns c = search (ways, rules)

-- `wrapper::status::status_bytes` meets its contract: the status hides the array that it is written into. Assumes nothing.
use Rattle.std.proofs.Common.{rules}
use Rattle.wrapper.proofs.Csw.{ways}
use Rattle.wrapper.proofs.status.status_bytes.Goals as goal

pub returns : goal.returns
returns c = search (ways, rules)

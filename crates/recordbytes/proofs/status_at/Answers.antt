-- `recordbytes::status_at` meets its contract: it reads three fields. Assumes nothing.
use Rattle.std.proofs.Common.{rules}
use Rattle.recordbytes.proofs.Reading.{ways}
use Rattle.recordbytes.proofs.status_at.Goals as goal

pub returns : goal.returns
returns c = search (ways, rules)

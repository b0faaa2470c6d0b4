-- `recordbytes::fixed_at` meets its contract: it reads three numbers. Assumes nothing.
use Rattle.std.proofs.Common.{rules}
use Rattle.recordbytes.proofs.Reading.{ways}
use Rattle.recordbytes.proofs.fixed_at.Goals as goal

pub returns : goal.returns
returns c = search (ways, rules)

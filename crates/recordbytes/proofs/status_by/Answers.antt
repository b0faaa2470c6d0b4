-- `recordbytes::status_by` meets its contract: there is no status if the flag is 0. Assumes nothing.
use Rattle.std.proofs.Common.{rules}
use Rattle.recordbytes.proofs.Reading.{ways}
use Rattle.recordbytes.proofs.status_by.Goals as goal

pub returns-then-flag-eq0 : goal.returns-then-flag-eq0
returns-then-flag-eq0 c = search (ways, rules)

pub returns : goal.returns
returns c = search (ways, rules)

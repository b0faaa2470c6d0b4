-- `databytes::moved` meets its contract: the marks are stored, and answer and count are put into one number. Assumes nothing.
use Rattle.std.proofs.Common.{rules}
use Rattle.databytes.proofs.Ways.{ways}
use Rattle.databytes.proofs.moved.Goals as goal

pub returns-then-number-eq10 : goal.returns-then-number-eq10
returns-then-number-eq10 c = search (ways, rules)

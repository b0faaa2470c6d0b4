-- `recordbytes::wrapper_at` meets its contract: it reads five fields and the block. Assumes nothing.
use Rattle.std.proofs.Common.{rules}
use Rattle.recordbytes.proofs.Reading.{ways}
use Rattle.recordbytes.proofs.wrapper_at.Goals as goal

pub returns : goal.returns
returns c = search (ways, rules)

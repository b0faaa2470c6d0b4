-- `recordbytes::marks_at` meets its contract: it reads two fields. Assumes nothing.
use Rattle.std.proofs.Common.{rules}
use Rattle.recordbytes.proofs.Reading.{ways}
use Rattle.recordbytes.proofs.marks_at.Goals as goal

pub returns : goal.returns
returns c = search (ways, rules)

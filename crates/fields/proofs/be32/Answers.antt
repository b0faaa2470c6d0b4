-- `fields::be32` meets its contract. Assumes nothing.
use Rattle.std.proofs.Common.{rules}
use Rattle.fields.proofs.Field.{reads}
use Rattle.fields.proofs.be32.Goals as goal

pub returns : goal.returns
returns c = search (reads, rules)

-- `fields::put_byte` meets its contract: one store writes the field. Assumes nothing.
use Rattle.std.proofs.Common.{rules}
use Rattle.fields.proofs.Field.{byte_stored}
use Rattle.fields.proofs.put_byte.Goals as goal

pub returns : goal.returns
returns c = byte_stored _ _ c.args.n (search rules) (search rules)

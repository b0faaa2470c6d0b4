-- `fields::byte` meets its contract. Assumes nothing.
use Rattle.std.proofs.Common.{rules}
use Rattle.fields.proofs.Field.{byte_read}
use Rattle.fields.proofs.byte.Goals as goal

pub returns : goal.returns
returns c = byte_read _ _ (search rules) (c.type_inv.m _).fits

-- `fields::bits_of` meets its contract: it shifts, and takes the remainder by a power of two. Assumes nothing.
use Rattle.std.proofs.Common.{rules}
use Rattle.fields.specs.Field.{get_bits}
use Rattle.fields.proofs.Field.{shifted_one}
use Rattle.fields.proofs.bits_of.Goals as goal

pub returns : goal.returns
unfolding get_bits
returns c = rw (shifted_one c.args.width (search rules))

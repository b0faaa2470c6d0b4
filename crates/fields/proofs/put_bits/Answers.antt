-- `fields::put_bits` meets its contract: no bit is lost by the shifts, and what is stored is the byte with the field written. Assumes nothing.
use Rattle.std.proofs.Common.{rules}
use Rattle.fields.proofs.Bits.{shifts_fit, bits_stored}
use Rattle.fields.proofs.put_bits.Goals as goal

pub overflow_add-m : goal.overflow_add-m
overflow_add-m c = record { fits = (shifts_fit _ c.args.n c.args.low c.args.width (c.slice_known-1.given c.args.at).fits (search rules) (search rules) (search rules)).0 }

pub overflow_add-m-2 : goal.overflow_add-m-2
overflow_add-m-2 c = record { fits = (shifts_fit _ c.args.n c.args.low c.args.width (c.slice_known-1.given c.args.at).fits (search rules) (search rules) (search rules)).1 }

pub returns : goal.returns
returns c = bits_stored _ _ _ _ _ (c.slice_known-1.given _).fits (search rules) (search rules) (search rules)

-- Unfolding this unfolds all that cases over this crate's definitions compute with, and the statement of a table. Assumes nothing.
use Rattle.fields.specs.Overlay.{overlay}
use Rattle.fields.specs.Field.{bytes_at, counted, digits, ordered, get, put, tile, get_bits, with_bits, put_bits}
use Rattle.fields.specs.Case.{AllHold}
use Rattle.fields.proofs.Case.{computing_twice}

unfoldable pub computing : Unit {0}
unfolding overlay bytes_at counted digits ordered get put tile get_bits with_bits put_bits AllHold computing_twice
computing = tt

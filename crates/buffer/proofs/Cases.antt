-- Each case of specs/Cases.antt holds: antt computes it. Assumes nothing.
use Rattle.fields.specs.Case.{AllHold}
use Rattle.fields.proofs.Case.{by_computing}
use Rattle.buffer.specs.Cases.{after, table}
use Rattle.buffer.proofs.Computing.{computing}

pub table_hold : AllHold table
unfolding after table computing
table_hold = by_computing table

-- Each case of specs/Cases.antt holds: antt computes it. Assumes nothing.
use Rattle.fields.specs.Case.{AllHold}
use Rattle.fields.specs.Cases.{table}
use Rattle.fields.proofs.Case.{by_computing}
use Rattle.fields.proofs.Computing.{computing}

pub table_hold : AllHold table
unfolding table computing
table_hold = by_computing table

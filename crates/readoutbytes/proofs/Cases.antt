-- Each case of specs/Cases.antt holds: antt computes it. Assumes nothing.
use Rattle.fields.specs.Case.{AllHold}
use Rattle.fields.proofs.Case.{by_computing}
use Rattle.readout.specs.Cases.{read64, bare8, short8, unless_empty}
use Rattle.readoutbytes.specs.Cases.{table}
use Rattle.readoutbytes.proofs.Computing.{computing}

pub table_hold : AllHold table
unfolding table read64 bare8 short8 unless_empty computing
table_hold = by_computing table

-- Each case of specs/Cases.antt holds, because antt computes it. Assumes nothing.
use Rattle.fields.specs.Case.{AllHold}
use Rattle.fields.proofs.Case.{by_computing}
use Rattle.calls.specs.Cases.{table}
use Rattle.calls.proofs.Computing.{computing}

pub table_hold : AllHold table
unfolding table computing
table_hold = by_computing table

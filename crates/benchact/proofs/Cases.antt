-- Each case of specs/Cases.antt holds, because antt computes it. Assumes nothing.
use Rattle.fields.specs.Case.{AllHold}
use Rattle.fields.proofs.Case.{by_computing}
use Rattle.calls.proofs.Computing as calls
use Rattle.benchact.specs.Cases.{table}
use Rattle.benchact.proofs.Computing.{computing}

pub table_hold : AllHold table
unfolding table computing calls.computing
table_hold = by_computing table

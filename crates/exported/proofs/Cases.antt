-- Each case of specs/Cases.antt holds: antt computes it. Assumes nothing.
use Rattle.fields.specs.Case.{AllHold}
use Rattle.fields.proofs.Case.{by_computing}
use Rattle.exported.specs.Cases.{table, polling}
use Rattle.exported.proofs.Computing.{computing}

pub table_hold : AllHold table
unfolding table computing
table_hold = by_computing table

pub polling_hold : AllHold polling
unfolding polling computing
polling_hold = by_computing polling

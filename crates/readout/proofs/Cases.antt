-- Each case of specs/Cases.antt holds: antt computes it. Assumes nothing.
use Rattle.fields.specs.Case.{AllHold}
use Rattle.calls.specs.Data.{write_all_in}
use Rattle.fields.proofs.Case.{by_computing}
use Rattle.readout.specs.Cases.{read64, bare8, short8, write8, full8, answers_in, unless_empty, packets_in, packets, host_with, too_long, by_both, half_filled, half_sent, starred, ours, accounts}
use Rattle.readout.proofs.Computing.{computing}

pub starred_hold : AllHold starred
unfolding starred read64 bare8 short8 answers_in unless_empty packets_in packets host_with computing
starred_hold = by_computing starred

pub ours_hold : AllHold ours
unfolding ours short8 write8 full8 answers_in host_with computing
ours_hold = by_computing ours

pub accounts_hold : AllHold accounts
unfolding accounts too_long by_both half_filled half_sent write_all_in computing
accounts_hold = by_computing accounts

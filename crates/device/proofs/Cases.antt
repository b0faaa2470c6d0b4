-- Each case of specs/Cases.antt holds, because antt computes it. Assumes nothing.
use Rattle.fields.specs.Case.{AllHold}
use Rattle.fields.proofs.Case.{by_computing}
use Rattle.device.specs.Cases.{starred, ours}
use Rattle.device.proofs.Computing.{computing}

pub starred_hold : AllHold starred
unfolding starred computing
starred_hold = by_computing starred

pub ours_hold : AllHold ours
unfolding ours computing
ours_hold = by_computing ours

-- Each case of specs/Cases.antt holds: antt computes it. Assumes nothing.
use Rattle.fields.specs.Case.{AllHold}
use Rattle.fields.proofs.Case.{computing_twice, by_computing}
use Rattle.border.specs.Word.{stalls_of_number, reading_of}
use Rattle.border.specs.Cases.{readings}

pub readings_hold : AllHold readings
unfolding readings reading_of stalls_of_number computing_twice
readings_hold = by_computing readings

-- To unfold this is to unfold all that cases over this crate's definitions compute with. Assumes nothing.
use Rattle.exported.proofs.Computing as exported
use Rattle.readout.proofs.Computing as readout
use Rattle.border.specs.Word.{stalls_of_number, reading_of}
use Rattle.readoutbytes.specs.Calls.{call_on, seen}

unfoldable pub computing : Unit {0}
unfolding stalls_of_number reading_of call_on seen exported.computing readout.computing
computing = tt

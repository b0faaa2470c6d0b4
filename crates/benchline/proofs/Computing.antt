-- To unfold this is to unfold all that cases over this crate's definitions compute with. Assumes nothing.
use Rattle.fields.proofs.Computing as ground
use Rattle.benchline.specs.Line.{digit, decimal_up_to, decimal, number_text, numbers_text, hex, bytes_text, fields_text, end_text, line_of}

unfoldable pub computing : Unit {0}
unfolding digit decimal_up_to decimal number_text numbers_text hex bytes_text fields_text end_text line_of ground.computing
computing = tt

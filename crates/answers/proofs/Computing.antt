-- Unfolding this unfolds all that cases over this crate's definitions compute with. Assumes nothing.
use Rattle.answers.specs.Answers.{endpoint_of}

unfoldable pub computing : Unit {0}
unfolding endpoint_of
computing = tt

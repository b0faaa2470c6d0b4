-- To unfold this is to unfold all that cases over this crate's definitions compute with. Assumes nothing.
use Rattle.bbb.proofs.Computing as bbb
use Rattle.calls.proofs.Computing as calls
use Rattle.benchfile.proofs.Computing as benchfile
use Rattle.benchline.proofs.Computing as benchline
use Rattle.benchact.proofs.Computing as benchact
use Rattle.benchrun.specs.Run.{fields_of, line_text, line_of_acting, creation_of_body}
use Rattle.benchrun.specs.Output.{later_lines, creation_lines, file_lines}

unfoldable pub computing : Unit {0}
unfolding fields_of line_text line_of_acting creation_of_body later_lines creation_lines file_lines bbb.computing calls.computing benchfile.computing benchline.computing benchact.computing
computing = tt

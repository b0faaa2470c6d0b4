-- Whoever unfolds this unfolds everything that cases over this crate's definitions compute with. Assumes nothing.
use Rattle.buffer.proofs.Computing as buffer
use Rattle.wrapper.proofs.Computing as wrapper
use Rattle.device.specs.Create.{is_packet_size, creation_checks, create_call}
use Rattle.device.specs.Broken.{command_fits, is_whole, unless_broken}

unfoldable pub computing : Unit {0}
unfolding is_packet_size creation_checks create_call command_fits is_whole unless_broken buffer.computing wrapper.computing
computing = tt

-- Whoever unfolds this unfolds everything that cases over this crate's definitions compute with. Assumes nothing.
use Rattle.buffer.proofs.Computing as buffer
use Rattle.wrapper.proofs.Computing as wrapper
use Rattle.answers.proofs.Computing as answers
use Rattle.packets.specs.Packets.{handed, read_answer, takes_one, brought, received, accepted, send_answer, sent_count, sent_off, sent_into, filled_up, status_written}

unfoldable pub computing : Unit {0}
unfolding handed read_answer takes_one brought received accepted send_answer sent_count sent_off sent_into filled_up status_written buffer.computing wrapper.computing answers.computing
computing = tt

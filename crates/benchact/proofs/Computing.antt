-- To unfold this is to unfold all that cases over this crate's definitions compute with. Assumes nothing.
use Rattle.benchact.specs.Act.{turn_of, acting_of_poll, poll_acts, firmware_status_of, acting_of_status, status_acts, extended_of, command_in_front, acting_of_step, command_acts, act_by}

unfoldable pub computing : Unit {0}
unfolding turn_of acting_of_poll poll_acts firmware_status_of acting_of_status status_acts extended_of command_in_front acting_of_step command_acts act_by
computing = tt

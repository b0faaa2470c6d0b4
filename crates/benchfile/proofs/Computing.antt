-- To unfold this is to unfold all that cases over this crate's definitions compute with. Assumes nothing.
use Rattle.fields.proofs.Computing as fields
use Rattle.benchfile.specs.Event.{body_of, first_packet, second_packet, agrees, is_poll_body, is_status_body, is_step_body, is_long, suits, may_stand, kind_of_number, is_event, front_of, event_head_of, event_at}
use Rattle.benchfile.specs.File.{joined, are_events, last_offset}

unfoldable pub computing : Unit {0}
unfolding body_of first_packet second_packet agrees is_poll_body is_status_body is_step_body is_long suits may_stand kind_of_number is_event front_of event_head_of event_at joined are_events last_offset fields.computing
computing = tt

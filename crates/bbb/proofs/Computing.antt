-- Whoever unfolds this unfolds everything that cases over this crate's definitions compute with. Assumes nothing.
use Rattle.packets.proofs.Computing as packets
use Rattle.device.proofs.Computing as device
use Rattle.bbb.specs.Poll.{send_by, send, offered_packet, offered_by, take_by, take_data, status_put, enter_status, status_await_rule, no_data_rule, to_host_ending_rule, falls_short, to_host_rule, from_host_ending_rule, from_host_rule, start_rule, message_at, parse_rule, read_by, read_one_by, read_cbw_rule, status_transfer_rule, invalid_rule, rule_in, poll_rule, is_fitting, poll_call}

unfoldable pub computing : Unit {0}
unfolding send_by send offered_packet offered_by take_by take_data status_put enter_status status_await_rule no_data_rule to_host_ending_rule falls_short to_host_rule from_host_ending_rule from_host_rule start_rule message_at parse_rule read_by read_one_by read_cbw_rule status_transfer_rule invalid_rule rule_in poll_rule is_fitting poll_call packets.computing device.computing
computing = tt

-- Each case of specs/Cases.antt holds, because antt computes it. Assumes nothing.
use Rattle.fields.specs.Case.{AllHold}
use Rattle.fields.proofs.Case.{by_computing}
use Rattle.bbb.specs.Cases.{one_packet, first_poll, next_poll, wrapper_to_host, wrapper_from_host, poll_line_of, starred, device_in, io, poll_answered, passed, ours}
use Rattle.bbb.proofs.Computing.{computing}

pub starred_hold : AllHold starred
unfolding one_packet first_poll next_poll wrapper_to_host poll_line_of starred computing
starred_hold = by_computing starred

pub ours_hold : AllHold ours
unfolding one_packet first_poll next_poll wrapper_to_host wrapper_from_host poll_line_of device_in io poll_answered passed ours computing
ours_hold = by_computing ours

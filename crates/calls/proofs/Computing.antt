-- Whoever unfolds this unfolds everything that cases over this crate's definitions compute with. Assumes nothing.
use Rattle.wrapper.proofs.Computing as wrapper
use Rattle.scsi.proofs.Computing as scsi
use Rattle.device.proofs.Computing as device
use Rattle.calls.specs.Checks.{is_in}
use Rattle.calls.specs.Status.{takes_status, with_figure, accepted_status, set_status_call}
use Rattle.calls.specs.Data.{works_in, read_from, limited, write_in, write_all_in}
use Rattle.calls.specs.Bus.{handling_of_reset, reset_call, handling_of_request, control_call}
use Rattle.calls.specs.Command.{is_shown, command_call, is_offered, stepping_of_decoding, block_of, command_step_told_call, command_step_call}

unfoldable pub computing : Unit {0}
unfolding is_in takes_status with_figure accepted_status set_status_call works_in read_from limited write_in write_all_in handling_of_reset reset_call handling_of_request control_call is_shown command_call is_offered stepping_of_decoding block_of command_step_told_call command_step_call wrapper.computing scsi.computing device.computing
computing = tt

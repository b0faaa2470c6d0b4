-- To unfold this is to unfold all that cases over this crate's definitions compute with. Assumes nothing.
use Rattle.bbb.proofs.Computing as bbb
use Rattle.calls.proofs.Computing as calls
use Rattle.recordbytes.proofs.Computing as recordbytes
use Rattle.border.specs.Word.{word, upper_half}
use Rattle.border.specs.Record.{on_device}
use Rattle.ringbytes.specs.Poll.{poll_on}
use Rattle.databytes.specs.Data.{read_data_on, write_data_on, write_data_all_on}
use Rattle.callbytes.specs.Calls.{create_on, set_status_on, reset_on, control_on}
use Rattle.commandbytes.specs.Command.{command_on, command_step_by, command_step_on, command_step_told_on}

unfoldable pub computing : Unit {0}
unfolding word upper_half on_device create_on set_status_on reset_on control_on read_data_on write_data_on write_data_all_on poll_on command_on command_step_by command_step_on command_step_told_on bbb.computing calls.computing recordbytes.computing
computing = tt

-- Whoever unfolds this unfolds everything that cases over this crate's definitions compute with. Assumes nothing.
use Rattle.wrapper.proofs.Computing as wrapper
use Rattle.ring.specs.States.{state_of_number}
use Rattle.recordbytes.specs.Record.{is_known, status_by, status_at, marks_at, wrapper_at, fixed_at, device_at, store, store_state, store_marks, store_left, store_put_in, store_wrapper, store_device, new_record}

unfoldable pub computing : Unit {0}
unfolding is_known status_by status_at marks_at wrapper_at fixed_at device_at store store_state store_marks store_left store_put_in store_wrapper store_device new_record state_of_number wrapper.computing
computing = tt

-- Unfolding this unfolds all that cases over this crate's definitions compute with. Assumes nothing.
use Rattle.fields.proofs.Computing as fields
use Rattle.buffer.specs.Buffer.{is_sound, unread_bytes, moved, with_room, appended, fitting, written, filled, lacks_room, missing, written_all, ready, ready_bytes, read_off, emptied}
use Rattle.buffer.specs.Calls.{if_sound, available_call, clean_call, shift_call, write_call, fill_call, write_all_call, read_call, read_into}

unfoldable pub computing : Unit {0}
unfolding is_sound unread_bytes moved with_room appended fitting written filled lacks_room missing written_all ready ready_bytes read_off emptied if_sound available_call clean_call shift_call write_call fill_call write_all_call read_call read_into fields.computing
computing = tt

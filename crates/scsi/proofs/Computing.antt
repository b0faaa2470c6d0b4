-- Unfolding this unfolds all that cases over this crate's definitions compute with. Assumes nothing.
use Rattle.fields.proofs.Computing as fields
use Rattle.scsi.specs.Commands.{flag, page_control_of_number}
use Rattle.scsi.specs.Decoding.{lists, opcode_counts, is_listed, fields_by, decoded, decode_call, plain_call}

unfoldable pub computing : Unit {0}
unfolding flag page_control_of_number lists opcode_counts is_listed fields_by decoded decode_call plain_call fields.computing
computing = tt

-- Unfolding this unfolds all that cases over this crate's definitions compute with. Assumes nothing.
use Rattle.fields.proofs.Computing as fields
use Rattle.wrapper.specs.Counters.{fallen, residue_of, risen}
use Rattle.wrapper.specs.Status.{status_of_number, status_bytes, status_call}
use Rattle.wrapper.specs.Wrapper.{is_signed, is_block_length, is_valid, direction_of_flags, direction_of_number, wrapper_of, no_wrapper, parsed}
use Rattle.wrapper.specs.Verdict.{is_clear, is_meaningful, verdict_of, cleared}

unfoldable pub computing : Unit {0}
unfolding fallen residue_of risen status_of_number status_bytes status_call is_signed is_block_length is_valid direction_of_flags direction_of_number wrapper_of no_wrapper parsed is_clear is_meaningful verdict_of cleared fields.computing
computing = tt

-- `wrapper::block_fits` meets its contract: it tests the two bounds. Assumes nothing.
use Rattle.std.proofs.Common.{arith}
use Rattle.std.proofs.lemmas.Grind.{common_steps}
use Rattle.wrapper.specs.Wrapper.{is_block_length}
use Rattle.wrapper.proofs.block_fits.Goals as goal

pub returns : goal.returns
unfolding is_block_length
returns c = grind (arith, common_steps)

-- `commandbytes::show_block` meets its contract: the block takes the place of all 16 bytes. Assumes nothing.
use Rattle.std.proofs.Common.{rules}
use Rattle.commandbytes.proofs.Ways.{ways}
use Rattle.commandbytes.proofs.show_block.Goals as goal

pub returns : goal.returns
returns c = search (ways, rules)

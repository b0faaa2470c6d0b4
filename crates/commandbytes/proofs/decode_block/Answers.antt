-- `commandbytes::decode_block` meets its contract: the bytes decoded are the block of the wrapper that the record holds. Assumes nothing.
use Rattle.std.proofs.Common.{rules}
use Rattle.commandbytes.proofs.Ways.{ways}
use Rattle.commandbytes.proofs.decode_block.Goals as goal

pub returns : goal.returns
returns c = search (ways, rules)

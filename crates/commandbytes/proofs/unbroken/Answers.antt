-- `commandbytes::unbroken` meets its contract: bytes that are no record stand for a broken one. Assumes nothing.
use Rattle.std.proofs.Common.{rules}
use Rattle.commandbytes.proofs.Ways.{ways}
use Rattle.commandbytes.proofs.unbroken.Goals as goal

pub numbers_at-requires : goal.numbers_at-requires
numbers_at-requires c = search (ways, rules)

-- `commandbytes::command` meets its contract: what was lent is refused, nothing is shown, or the block is. Assumes nothing.
use Rattle.std.proofs.Common.{rules}
use Rattle.commandbytes.proofs.Ways.{ways}
use Rattle.commandbytes.proofs.command.Goals as goal

pub returns-then-block-ne16 : goal.returns-then-block-ne16
returns-then-block-ne16 c = search (ways, rules)

pub returns-then-not-unbroken : goal.returns-then-not-unbroken
returns-then-not-unbroken c = search (ways, rules)

pub device_at-requires : goal.device_at-requires
device_at-requires c = search (ways, rules)

pub returns-then-is_in : goal.returns-then-is_in
returns-then-is_in c = search (ways, rules)

pub show_block-requires : goal.show_block-requires
show_block-requires c = search (ways, rules)

pub returns : goal.returns
returns c = search (ways, rules)

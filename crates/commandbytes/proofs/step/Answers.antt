-- `commandbytes::step` meets its contract: what was lent is refused, nothing is offered, or the block is decoded. Assumes nothing.
use Rattle.std.proofs.Common.{rules}
use Rattle.commandbytes.proofs.Ways.{ways}
use Rattle.commandbytes.proofs.step.Goals as goal

pub returns-then-command-ne6 : goal.returns-then-command-ne6
returns-then-command-ne6 c = search (ways, rules)

pub returns-then-not-unbroken : goal.returns-then-not-unbroken
returns-then-not-unbroken c = search (ways, rules)

pub device_at-requires : goal.device_at-requires
device_at-requires c = search (ways, rules)

pub returns-then-not-offers : goal.returns-then-not-offers
returns-then-not-offers c = search (ways, rules)

pub decode_block-requires : goal.decode_block-requires
decode_block-requires c = search (ways, rules)

pub offered_word-requires : goal.offered_word-requires
offered_word-requires c = search (ways, rules)

pub returns-in-Ok : goal.returns-in-Ok
returns-in-Ok c = search (ways, rules)

pub returns-in-Err : goal.returns-in-Err
returns-in-Err c = search (ways, rules)

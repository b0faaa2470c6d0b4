-- `calls::command::command_step_told` meets its contract: a record that is not broken has a block of at most 16 bytes. Assumes nothing.
use Rattle.std.proofs.Common.{rules}
use Rattle.calls.proofs.Laws.{ways}
use Rattle.calls.proofs.command.command_step_told.Goals as goal

pub returns-then-broken : goal.returns-then-broken
returns-then-broken c = search (ways, rules)

pub decoded-requires : goal.decoded-requires
decoded-requires c = search (ways, rules)

pub returns-then-offers : goal.returns-then-offers
returns-then-offers c = search (ways, rules)

pub returns : goal.returns
returns c = search (ways, rules)

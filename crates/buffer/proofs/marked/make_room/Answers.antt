-- `buffer::marked::make_room` meets its contract: its test is that of `with_room`. Assumes nothing.
use Rattle.std.proofs.Common.{rules}
use Rattle.buffer.proofs.Ways.{room_made, room_enough}
use Rattle.buffer.proofs.marked.make_room.Goals as goal

pub returns-then-io-m : goal.returns-then-io-m
returns-then-io-m c = search (room_made, rules)

pub returns : goal.returns
returns c = search (room_enough, rules)

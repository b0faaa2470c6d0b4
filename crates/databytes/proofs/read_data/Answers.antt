-- `databytes::read_data` meets its contract: it refuses, or makes the call by value on the device that the bytes hold. Marks and count
-- fit into 32 bits. Assumes nothing.
use Rattle.std.proofs.Common.{rules}
use Rattle.databytes.proofs.Ways.{ways}
use Rattle.databytes.proofs.read_data.Goals as goal

pub returns-then-not-known : goal.returns-then-not-known
returns-then-not-known c = search (ways, rules)

pub device_at-requires : goal.device_at-requires
device_at-requires c = search (ways, rules)

pub moved-requires : goal.moved-requires
moved-requires c = search (ways, rules)

pub returns : goal.returns
returns c = search (ways, rules)

-- `databytes::try_write_data_all` meets its contract: it refuses, or makes the call by value on the device that the bytes hold. Marks and
-- count fit into 32 bits. Assumes nothing.
use Rattle.std.proofs.Common.{rules}
use Rattle.databytes.proofs.Ways.{write_all_fits, ways}
use Rattle.databytes.proofs.try_write_data_all.Goals as goal

pub returns-then-not-known : goal.returns-then-not-known
returns-then-not-known c = search (ways, rules)

pub device_at-requires : goal.device_at-requires
device_at-requires c = search (ways, rules)

pub written-requires : goal.written-requires
written-requires c = (search (ways, rules), search (write_all_fits, rules))

pub returns : goal.returns
returns c = search (ways, rules)

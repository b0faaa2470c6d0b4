-- `callbytes::bus::reset` meets its contract: it refuses, or makes the call by value on the device that the bytes hold. Only the
-- count of what was put in, status, state and left can change. Assumes nothing.
use Rattle.std.proofs.Common.{rules}
use Rattle.callbytes.proofs.Ways.{ways}
use Rattle.callbytes.proofs.bus.reset.Goals as goal

pub returns-then-not-known : goal.returns-then-not-known
returns-then-not-known c = search (ways, rules)

pub device_at-requires : goal.device_at-requires
device_at-requires c = search (ways, rules)

pub handled-requires : goal.handled-requires
handled-requires c = search (ways, rules)

pub returns : goal.returns
returns c = search (ways, rules)

-- `ringbytes::keep` meets its contract: the parts of a change are stored one after the other. Assumes nothing.
use Rattle.std.proofs.Common.{rules}
use Rattle.ringbytes.proofs.Round.{ways}
use Rattle.ringbytes.proofs.keep.Goals as goal

pub returns : goal.returns
returns c = search (ways, rules)

-- `ringbytes::keep_wrapper` meets its contract: the wrapper right before the read mark is stored, or nothing is. Assumes nothing.
use Rattle.std.proofs.Common.{rules}
use Rattle.ringbytes.proofs.Round.{ways}
use Rattle.ringbytes.proofs.keep_wrapper.Goals as goal

pub returns-then-is_valid : goal.returns-then-is_valid
returns-then-is_valid c = search (ways, rules)

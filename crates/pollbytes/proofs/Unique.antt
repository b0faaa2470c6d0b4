-- No second answer satisfies the promise: what the `ensures` of the poll says is true of only one result, and of only one content of each
-- lent slice at exit. `Post` is the contract itself, as the check reads it. Assumes nothing.
use mathlib.Core.Path.{sym, ◌∙◌}
use Rattle.fields.proofs.Only.{Only}
use Rattle.ringbytes.specs.Poll.{poll_outcome}
use Rattle.ringbytes.proofs.Unique.{polled_once}
use Rattle.pollbytes.proofs.poll.Kinds as poll-kinds
use Rattle.pollbytes.proofs.poll.Reads as poll

pub poll_only : Only 5 poll-kinds.ps poll-kinds.r poll.Post (λ κs s. poll_outcome 0 s.0.now s.1.0.now s.1.1.0.now)
poll_only κs a x y s t p q = polled_once (p ∙ sym q)

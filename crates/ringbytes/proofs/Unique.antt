-- No second answer satisfies the promise: what the `ensures` of the poll says is true of only one result, and of only one content of each
-- lent slice at exit. `Post` is the contract itself, as the check reads it. Assumes nothing.
use mathlib.Core.Path.{◌≡◌, sym, ap, ◌∙◌}
use mathlib.Core.List.{List}
use Prim.Native.Nat.{ℕ}
use Rattle.fields.proofs.Only.{Only}
use Rattle.ringbytes.specs.Poll.{PollOutcome, poll_outcome}
use Rattle.ringbytes.proofs.poll.Kinds as poll-kinds
use Rattle.ringbytes.proofs.poll.Reads as poll

-- What a poll leaves tells each of its parts. The record and the buffers are looked at together, with 0 in place of the result.
pub polled_once : {x y : ℕ} {r r' io io' p p' : List ℕ} → poll_outcome x r io p ≡ poll_outcome y r' io' p' → (x ≡ y) × (poll_outcome 0 r io p ≡ poll_outcome 0 r' io' p')
polled_once e = (ap (λ (o : PollOutcome). o.result) e, ap (λ (o : PollOutcome). poll_outcome 0 o.bytes o.io o.packet) e)

pub poll_only : Only 5 poll-kinds.ps poll-kinds.r poll.Post (λ κs s. poll_outcome 0 s.0.now s.1.0.now s.1.1.0.now)
poll_only κs a x y s t p q = polled_once (p ∙ sym q)

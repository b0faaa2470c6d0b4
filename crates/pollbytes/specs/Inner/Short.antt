-- What the short way of a poll promises. Only inner contracts cite this definition. Assumes nothing.
use Rattle.std.specs.Prelude.{◌≡◌, Option, Some, None, List, ℕ}
use Rattle.bbb.specs.Poll.{Given}
use Rattle.ringbytes.specs.Poll.{poll_outcome, poll_on}

-- Over the record's bytes `r` and the IO buffer `io`, the short way of a poll that is given `g` returns `result`, and leaves `r'`, `io'`
-- and the packet buffer `p'`. A result is that of the whole poll, and so is what is left. No result says that the poll was not made:
-- everything is as it was.
pub record PollsOrStays (r io : List ℕ) (g : Given) (result : Option ℕ) (r' io' p' : List ℕ) : Type 0 where
  pub polls : (x : ℕ) → result ≡ Some x → poll_outcome x r' io' p' ≡ poll_on r io g
  pub stays : result ≡ None → (r' ≡ r) × (io' ≡ io) × (p' ≡ g.packet)

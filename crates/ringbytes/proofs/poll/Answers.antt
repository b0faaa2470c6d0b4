-- `ringbytes::poll` meets its contract: the answer is 10 or 11, or a whole round is made. Assumes nothing.
use Rattle.std.proofs.Common.{ap}
use mathlib.Core.Bool.{not}
use Rattle.border.proofs.Lending.{known_then, long_then}
use Rattle.ringbytes.proofs.Round.{whole_there, fits_there, poll_unknown, poll_broken, poll_refused}
use Rattle.ringbytes.proofs.poll.Goals as goal

pub returns-then-not-known : goal.returns-then-not-known
returns-then-not-known c = poll_unknown _ _ _ c.known.ensures (ap not c.if-not-known.true)

pub numbers_at-n-requires : goal.numbers_at-n-requires
numbers_at-n-requires c = long_then _ c.known.ensures (ap not c.if-not-known.false)

pub returns-then-not-whole : goal.returns-then-not-whole
returns-then-not-whole c = poll_broken _ _ _ c.known.ensures (ap not c.if-not-known.false) c.numbers_at-n.ensures c.whole.ensures (ap not c.if-not-whole.true)

pub returns-then-not-fits : goal.returns-then-not-fits
returns-then-not-fits c = poll_refused _ _ _ c.known.ensures (ap not c.if-not-known.false) c.numbers_at-n.ensures c.whole.ensures (ap not c.if-not-whole.false) c.fits.ensures (ap not c.if-not-fits.true)

pub go_round-requires : goal.go_round-requires
go_round-requires c = (known_then _ c.known.ensures (ap not c.if-not-known.false), c.numbers_at-n.ensures, whole_there _ _ c.whole.ensures (ap not c.if-not-whole.false), fits_there _ _ _ _ c.fits.ensures (ap not c.if-not-fits.false))

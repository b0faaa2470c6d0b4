-- `onward::sends_on` meets its contract, test by test; `if-end-to` tells what `if-to-lent` does, too. Assumes nothing.
use Rattle.std.proofs.Common.{ap}
use mathlib.Core.Bool.{not}
use Rattle.onward.proofs.Going.{may_send}
use Rattle.onward.proofs.sends_on.Goals as goal

pub returns-then-end-to : goal.returns-then-end-to
returns-then-end-to c =
    may_send c.args.«record».now c.args.lent c.args.write c.requires c.byte-state.ensures c.byte-flag.ensures c.sends_in.ensures (ap not c.if-not-sends_in.false) c.if-write-ne0.false c.steady.ensures (ap not c.if-not-steady.false) c.byte-p.ensures
    c.fits.ensures (ap not c.if-not-fits.false) c.le32-to.ensures c.if-end-to.true.0 c.le32.ensures c.if-end-to.true.1 c.le32-left.ensures

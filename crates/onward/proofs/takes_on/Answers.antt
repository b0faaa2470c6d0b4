-- `onward::takes_on` meets its contract, test by test. Assumes nothing.
use Rattle.std.proofs.Common.{ap}
use mathlib.Core.Bool.{not}
use Rattle.onward.proofs.Going.{may_take}
use Rattle.onward.proofs.takes_on.Goals as goal

pub returns : goal.returns
returns c =
    may_take c.args.«record».now c.args.lent c.args.first c.requires c.byte-state.ensures c.if-state-ne7.false c.byte-flag.ensures c.if-flag-ne0.false c.if-first-ne0.false c.steady.ensures (ap not c.if-not-steady.false) c.byte-p.ensures
    c.if-lent-p.false c.fits.ensures (ap not c.if-not-fits.false) c.le32-at.ensures c.le32.ensures c.if-at-le32.false c.if-lent-at.false c.le32-2.ensures

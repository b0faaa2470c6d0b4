-- `onward::ending::ends_on` meets its contract, test by test. Assumes nothing.
use Rattle.std.proofs.Common.{ap}
use mathlib.Core.Bool.{not}
use Rattle.onward.proofs.Entering.{may_end}
use Rattle.onward.proofs.ending.ends_on.Goals as goal

pub returns : goal.returns
returns c =
    may_end c.args.«record».now c.args.lent c.args.write c.if-record-ne-SIZE.false c.byte-state.ensures c.if-state-lt4.false c.if-state-gt8.false c.byte.ensures c.if-byte-ne1.false c.if-write-ne0.false c.le32.ensures c.if-le32-ne0.false
    c.steady.ensures (ap not c.if-not-steady.false) c.byte-p.ensures c.fits.ensures (ap not c.if-not-fits.false) c.le32-to.ensures c.if-lent-to.false c.le32-from.ensures c.if-to-from.false c.is_packet_size.ensures

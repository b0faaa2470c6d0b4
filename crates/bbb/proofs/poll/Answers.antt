-- `bbb::poll` meets its contract: it answers 10 or 11, or it opens, decides and acts, which `Same` shows to be 01's rule. Assumes
-- nothing.
use Rattle.bbb.proofs.Polling.{broken_10, refused_11, polls}
use Rattle.bbb.proofs.poll.Goals as goal

pub returns-then-not-whole : goal.returns-then-not-whole
returns-then-not-whole c = broken_10 _ _ _ c.numbers_of-n.ensures c.whole.ensures c.if-not-whole.true c.refused.ensures

pub returns-then-not-fits : goal.returns-then-not-fits
returns-then-not-fits c =
    refused_11 _ _ _ c.numbers_of-n.ensures c.whole.ensures c.if-not-whole.false c.fits.ensures c.if-not-fits.true c.refused-then-not-fits.ensures

pub returns : goal.returns
returns c =
    polls _ _ _ c.numbers_of-n.ensures c.whole.ensures c.if-not-whole.false c.fits.ensures c.if-not-fits.false c.go_on-c.result
    c.open-o.ensures c.go_on-c.ensures c.wrapper_then-w.ensures c.put_in_then-putin.ensures c.changed-d.ensures

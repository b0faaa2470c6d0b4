-- `pollbytes::onward_poll` meets its contract: a packet of data comes in or goes out, or no poll is made. Assumes nothing.
use Rattle.pollbytes.proofs.Short.{short_takes, short_sends}
use Rattle.pollbytes.proofs.onward_poll.Goals as goal

pub returns-then-takes_on : goal.returns-then-takes_on
returns-then-takes_on c = short_takes _ _ _ c.takes_on.ensures c.if-takes_on.true c.numbers_at.ensures c.take_on.ensures

pub returns-then-sends_on : goal.returns-then-sends_on
returns-then-sends_on c = short_sends _ _ _ c.sends_on.ensures c.if-sends_on.true c.numbers_at-then-sends_on.ensures c.send_on.ensures

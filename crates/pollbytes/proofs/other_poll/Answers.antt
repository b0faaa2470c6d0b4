-- `pollbytes::other_poll` meets its contract: the status goes out, or the ring makes the poll. Assumes nothing.
use Rattle.pollbytes.proofs.Short.{end_needs, ends}
use Rattle.pollbytes.proofs.other_poll.Goals as goal

pub end_on-requires : goal.end_on-requires
end_on-requires c =
    let a = c.args in
    end_needs a.«record».now a.io.now a.packet.now a.one.now a.two.now c.ends_on.ensures c.if-ends_on.true

pub returns-then-ends_on : goal.returns-then-ends_on
returns-then-ends_on c = ends _ _ _ c.ends_on.ensures c.if-ends_on.true c.end_on.ensures

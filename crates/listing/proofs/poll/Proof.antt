-- `listing::poll` meets its contract, by the law of a lender. Assumes nothing.
use mathlib.Core.Path.{refl}
use Rattle.thin.proofs.Lender.{lender_spec}
use Rattle.lent.proofs.Types.{device, report, polled}
use Rattle.lent.proofs.Promises.{poll_others, poll_promise}
use Rattle.lent.proofs.poll.Symbol as thin
use Rattle.lent.proofs.poll.Met.{met}
use Rattle.listing.proofs.Types.{polled_built}
use Rattle.listing.specs.contracts.poll.Key as this
use Rattle.listing.proofs.poll.Statement.{statement}
use Rattle.listing.proofs.poll.Code as code

pub poll_spec : {M : Type 1} → statement M
poll_spec 𝓤 𝓛 𝓜 𝓡 w =
    lender_spec device report polled polled_built poll_others poll_promise 𝓛 𝓜 𝓡 𝓡.env this.name thin.name (𝓡.env thin.name)
    (code.unfolded 𝓤 𝓛.H 𝓜 𝓡 w) refl (met 𝓤 𝓛 𝓜 𝓡 (code.calls-lent::poll 𝓡.env w))

-- `lent::poll` meets its contract, by the law of a thin call. Assumes nothing.
use mathlib.Core.Path.{refl}
use Rattle.lent.proofs.Types.{device, report, polled}
use Rattle.thin.proofs.Law.{thin_spec}
use Rattle.lent.proofs.Promises.{poll_others, poll_promise}
use Rattle.bbb.proofs.poll.Symbol as core
use Rattle.bbb.proofs.poll.Met.{met}
use Rattle.lent.specs.contracts.poll.Key as this
use Rattle.lent.proofs.poll.Statement.{statement}
use Rattle.lent.proofs.poll.Code as code

pub poll_spec : {M : Type 1} → statement M
poll_spec 𝓤 𝓛 𝓜 𝓡 w =
    thin_spec device report polled poll_others poll_promise 𝓛 𝓜 𝓡 𝓡.env this.name core.name (𝓡.env core.name)
    (code.unfolded 𝓤 𝓛.H 𝓜 𝓡 w) refl (met 𝓤 𝓛 𝓜 𝓡 (code.calls-bbb::poll 𝓡.env w))

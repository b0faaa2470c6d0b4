-- `lent::set_status` meets its contract, by the law of a thin call. Assumes nothing.
use mathlib.Core.Path.{refl}
use Rattle.lent.proofs.Types.{device, answer, stated}
use Rattle.thin.proofs.Law.{thin_spec}
use Rattle.lent.proofs.Promises.{set_status_others, set_status_promise}
use Rattle.calls.proofs.set_status.Symbol as core
use Rattle.calls.proofs.set_status.Met.{met}
use Rattle.lent.specs.contracts.set_status.Key as this
use Rattle.lent.proofs.set_status.Statement.{statement}
use Rattle.lent.proofs.set_status.Code as code

pub set_status_spec : {M : Type 1} → statement M
set_status_spec 𝓤 𝓛 𝓜 𝓡 w =
    thin_spec device answer stated set_status_others set_status_promise 𝓛 𝓜 𝓡 𝓡.env this.name core.name (𝓡.env core.name)
    (code.unfolded 𝓤 𝓛.H 𝓜 𝓡 w) refl (met 𝓤 𝓛 𝓜 𝓡 (code.calls-calls::set_status 𝓡.env w))

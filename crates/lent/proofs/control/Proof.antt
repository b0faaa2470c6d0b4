-- `lent::control` meets its contract, by the law of a thin call. Assumes nothing.
use mathlib.Core.Path.{refl}
use Rattle.lent.proofs.Types.{device, controlled, handled}
use Rattle.thin.proofs.Law.{thin_spec}
use Rattle.lent.proofs.Promises.{control_others, control_promise}
use Rattle.calls.proofs.control.Symbol as core
use Rattle.calls.proofs.control.Met.{met}
use Rattle.lent.specs.contracts.control.Key as this
use Rattle.lent.proofs.control.Statement.{statement}
use Rattle.lent.proofs.control.Code as code

pub control_spec : {M : Type 1} → statement M
control_spec 𝓤 𝓛 𝓜 𝓡 w =
    thin_spec device controlled handled control_others control_promise 𝓛 𝓜 𝓡 𝓡.env this.name core.name (𝓡.env core.name)
    (code.unfolded 𝓤 𝓛.H 𝓜 𝓡 w) refl (met 𝓤 𝓛 𝓜 𝓡 (code.calls-calls::control 𝓡.env w))

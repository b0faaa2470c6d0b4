-- `lent::reset` meets its contract, by the law of a thin call. Assumes nothing.
use mathlib.Core.Path.{refl}
use Rattle.lent.proofs.Types.{device, controlled, handled}
use Rattle.thin.proofs.Law.{thin_spec}
use Rattle.lent.proofs.Promises.{reset_others, reset_promise}
use Rattle.calls.proofs.reset.Symbol as core
use Rattle.calls.proofs.reset.Met.{met}
use Rattle.lent.specs.contracts.reset.Key as this
use Rattle.lent.proofs.reset.Statement.{statement}
use Rattle.lent.proofs.reset.Code as code

pub reset_spec : {M : Type 1} → statement M
reset_spec 𝓤 𝓛 𝓜 𝓡 w =
    thin_spec device controlled handled reset_others reset_promise 𝓛 𝓜 𝓡 𝓡.env this.name core.name (𝓡.env core.name)
    (code.unfolded 𝓤 𝓛.H 𝓜 𝓡 w) refl (met 𝓤 𝓛 𝓜 𝓡 (code.calls-calls::reset 𝓡.env w))

-- `listing::set_status` meets its contract, by the law of a lender. Assumes nothing.
use mathlib.Core.Path.{refl}
use Rattle.thin.proofs.Lender.{lender_spec}
use Rattle.lent.proofs.Types.{device, answer, stated}
use Rattle.lent.proofs.Promises.{set_status_others, set_status_promise}
use Rattle.lent.proofs.set_status.Symbol as thin
use Rattle.lent.proofs.set_status.Met.{met}
use Rattle.listing.proofs.Types.{stated_built}
use Rattle.listing.specs.contracts.set_status.Key as this
use Rattle.listing.proofs.set_status.Statement.{statement}
use Rattle.listing.proofs.set_status.Code as code

pub set_status_spec : {M : Type 1} → statement M
set_status_spec 𝓤 𝓛 𝓜 𝓡 w =
    lender_spec device answer stated stated_built set_status_others set_status_promise 𝓛 𝓜 𝓡 𝓡.env this.name thin.name (𝓡.env thin.name)
    (code.unfolded 𝓤 𝓛.H 𝓜 𝓡 w) refl (met 𝓤 𝓛 𝓜 𝓡 (code.calls-lent::set_status 𝓡.env w))

-- `lent::read_data` meets its contract, by the law of a thin call. Assumes nothing.
use mathlib.Core.Path.{refl}
use Rattle.lent.proofs.Types.{device, count, moved}
use Rattle.thin.proofs.Law.{thin_spec}
use Rattle.lent.proofs.Promises.{read_data_others, read_data_promise}
use Rattle.calls.proofs.read_data.Symbol as core
use Rattle.calls.proofs.read_data.Met.{met}
use Rattle.lent.specs.contracts.read_data.Key as this
use Rattle.lent.proofs.read_data.Statement.{statement}
use Rattle.lent.proofs.read_data.Code as code

pub read_data_spec : {M : Type 1} → statement M
read_data_spec 𝓤 𝓛 𝓜 𝓡 w =
    thin_spec device count moved read_data_others read_data_promise 𝓛 𝓜 𝓡 𝓡.env this.name core.name (𝓡.env core.name)
    (code.unfolded 𝓤 𝓛.H 𝓜 𝓡 w) refl (met 𝓤 𝓛 𝓜 𝓡 (code.calls-calls::read_data 𝓡.env w))

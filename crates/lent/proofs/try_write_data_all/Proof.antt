-- `lent::try_write_data_all` meets its contract, by the law of a thin call. Assumes nothing.
use mathlib.Core.Path.{refl}
use Rattle.lent.proofs.Types.{device, count, moved}
use Rattle.thin.proofs.Law.{thin_spec}
use Rattle.lent.proofs.Promises.{try_write_data_all_others, try_write_data_all_promise}
use Rattle.calls.proofs.try_write_data_all.Symbol as core
use Rattle.calls.proofs.try_write_data_all.Met.{met}
use Rattle.lent.specs.contracts.try_write_data_all.Key as this
use Rattle.lent.proofs.try_write_data_all.Statement.{statement}
use Rattle.lent.proofs.try_write_data_all.Code as code

pub try_write_data_all_spec : {M : Type 1} → statement M
try_write_data_all_spec 𝓤 𝓛 𝓜 𝓡 w =
    thin_spec device count moved try_write_data_all_others try_write_data_all_promise 𝓛 𝓜 𝓡 𝓡.env this.name core.name (𝓡.env core.name)
    (code.unfolded 𝓤 𝓛.H 𝓜 𝓡 w) refl (met 𝓤 𝓛 𝓜 𝓡 (code.calls-calls::try_write_data_all 𝓡.env w))

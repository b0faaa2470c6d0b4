-- What the two calls return is made of the record and of what the lent call reports, as `thin.proofs.Data` asks for it. Assumes nothing.
use mathlib.Core.Path.{refl}
use base.Logic.{emp, id⊢}
use denote.Struct.Laws as SL
use Rattle.thin.proofs.Data.{Built}
use Rattle.lent.proofs.Types.{device, report, polled, answer, stated}
use Rattle.bbb.specs.contracts.Polled as Polled
use Rattle.bbb.proofs.Polled.TheLaws as Polled'
use Rattle.calls.specs.contracts.Stated as Stated
use Rattle.calls.proofs.Stated.TheLaws as Stated'

abbrev pub polled_built : Built device report polled
polled_built = record {
  build = λ d r. record { device = d; report = r };
  fst_of = λ d r. refl;
  snd_of = λ d r. refl;
  built_is = λ d r is is'. SL.owes Polled.the_type Polled'.the_laws (record { device = d; report = r }) (is, (is', tt));
  makes = λ 𝓛. SL.makes Polled.the_type Polled'.the_plain 𝓛;
  last = λ d. tt;
  had = λ {𝓤 = 𝓤} 𝓛 d. id⊢ 𝓤 (emp 𝓤);
}

abbrev pub stated_built : Built device answer stated
stated_built = record {
  build = λ d r. record { device = d; answer = r };
  fst_of = λ d r. refl;
  snd_of = λ d r. refl;
  built_is = λ d r is is'. SL.owes Stated.the_type Stated'.the_laws (record { device = d; answer = r }) (is, (is', tt));
  makes = λ 𝓛. SL.makes Stated.the_type Stated'.the_plain 𝓛;
  last = λ d. tt;
  had = λ {𝓤 = 𝓤} 𝓛 d. id⊢ 𝓤 (emp 𝓤);
}

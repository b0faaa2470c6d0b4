-- Each case of specs/Cases.antt holds: antt computes it. Two files are good, so the definition can be met. Assumes nothing.
use mathlib.Core.Path.{refl}
use mathlib.Core.List.{[], ◌++◌}
use lib.Dec.{lit≤}
use Rattle.fields.specs.Case.{AllHold}
use Rattle.fields.proofs.Case.{by_computing}
use Rattle.benchfile.specs.Cases.{listing, listing_trailer, none_trailer, table}
use Rattle.benchfile.specs.File.{joined, Good}
use Rattle.benchfile.proofs.Computing.{computing}

pub table_hold : AllHold table
unfolding listing table computing
table_hold = by_computing table

pub listing_good : Good (joined listing ++ listing_trailer) listing
unfolding listing listing_trailer computing
listing_good = record {
  most = lit≤ tt;
  are = refl;
  trailer = listing_trailer;
  parts = refl;
  closes = record { twelve = refl; count = refl; last = refl; bot1 = refl };
}

pub none_good : Good none_trailer []
unfolding none_trailer computing
none_good = record {
  most = lit≤ tt;
  are = refl;
  trailer = none_trailer;
  parts = refl;
  closes = record { twelve = refl; count = refl; last = refl; bot1 = refl };
}

-- The events of 01's listing print it, byte for byte: antt computes it. Assumes nothing.
use mathlib.Core.Path.{refl}
use Rattle.benchfile.specs.Cases.{listing}
use Rattle.benchrun.specs.Cases.{listing_text, Printed}
use Rattle.benchrun.proofs.Computing.{computing}

pub listing_printed : Printed
unfolding listing listing_text computing
listing_printed = refl

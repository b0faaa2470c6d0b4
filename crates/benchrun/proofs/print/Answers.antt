-- `benchrun::print` is safe and ends: each array has the length that it needs. Assumes nothing.
use native.Mathlib.Omega.{arith}
use Rattle.benchrun.proofs.After.{both_roomy}
use Rattle.benchrun.proofs.print.Goals as goal

pub play_file-requires : goal.play_file-requires
play_file-requires c = (both_roomy _ _ c.most_shown-lent.ensures c.longest_line-text.ensures, omega (arith, c.large_buffer-space.ensures))

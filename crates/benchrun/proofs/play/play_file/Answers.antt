-- `benchrun::play::play_file` meets its contract: what `open` leaves is what `play` asks for. Assumes nothing.
use mathlib.Core.Path.{refl, sym}
use lib.Seq.{length-take-le}
use native.Mathlib.Nat.{le_trans}
use Rattle.benchrun.proofs.After.{after_roomy, opened_index, opened_line, opened_size, none_roomy}
use Rattle.benchrun.proofs.Loop.{plays_file}
use Rattle.benchrun.proofs.play.play_file.Goals as goal

pub open-begun-requires : goal.open-begun-requires
open-begun-requires c = none_roomy _ _ c.requires.0

pub slice_bounds-play-end-2 : goal.slice_bounds-play-end-2
slice_bounds-play-end-2 c =
    le_trans (opened_size _ _ c.open-begun.ensures) c.requires.1

pub slice_bounds-play-end-3 : goal.slice_bounds-play-end-3
slice_bounds-play-end-3 c = sym (length-take-le _ _ (le_trans (opened_size _ _ c.open-begun.ensures) c.requires.1))

pub play-requires : goal.play-requires
play-requires c =
    let roomy = c.requires.0 in
    let kept = c.open-begun.auto.text in
    (after_roomy _ _ _ _ refl kept roomy, opened_index _ _ c.open-begun.ensures, opened_line _ _ c.open-begun.ensures (none_roomy _ _ roomy) kept)

pub returns : goal.returns
returns c =
    plays_file _ _ _ _ c.open-begun.ensures c.events_end-end.ensures c.play.ensures

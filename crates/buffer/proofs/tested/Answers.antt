-- `buffer::tested` meets its contract: marks that pass the test are sound. Assumes nothing.
use mathlib.Core.Path.{sym, ◌∙◌}
use Rattle.buffer.specs.Buffer.{buffer}
use Rattle.buffer.proofs.Kept.{is_sound_lem}
use Rattle.buffer.proofs.tested.Goals as goal

pub returns-then-sound : goal.returns-then-sound
returns-then-sound c = record { sound = is_sound_lem (buffer c.args.io.now c.args.m) (sym c.sound.ensures ∙ c.if-sound.true); broken = tt }

-- `buffer::sound` meets its contract: its tests are those of `is_sound`. Assumes nothing.
use borrow.Author.Tests.{le-leb, lt-leb}
use Rattle.buffer.specs.Buffer.{is_sound}
use Rattle.buffer.proofs.sound.Goals as goal

pub returns-then-m : goal.returns-then-m
unfolding is_sound
returns-then-m c = rw (le-leb _ _ c.if-m.true)

pub returns-else-m : goal.returns-else-m
unfolding is_sound
returns-else-m c = rw (lt-leb _ _ c.if-m.false)

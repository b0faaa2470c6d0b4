-- `fields::put_le32` meets its contract: std's bytes of a number are its digits. Assumes nothing.
use Rattle.std.proofs.Common.{ap, ◌∙◌}
use Rattle.fields.specs.Field.{ordered, put}
use Rattle.fields.specs.Overlay.{overlay}
use Rattle.fields.proofs.Field.{le_digits}
use Rattle.fields.proofs.put_le32.Goals as goal

pub returns : goal.returns
unfolding put ordered
returns c = c.put_bytes.ensures ∙ ap (overlay c.args.m.now c.args.at) (c.to_le_bytes.ensures ∙ le_digits c.args.n)

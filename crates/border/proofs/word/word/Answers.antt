-- `border::word::word` meets its contract: the parts of the sum fit into 64 bits. Assumes nothing.
use Rattle.std.proofs.Common.{rules}
use Rattle.border.specs.Word.{word}
use Rattle.border.proofs.word.word.Goals as goal

pub returns : goal.returns
unfolding word
returns c = search rules

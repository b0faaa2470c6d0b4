-- `leafhost::codecs::wrapper_parse` meets its contract: what is lent is refused, or the message is invalid, or it is valid.
-- Assumes nothing.
use Rattle.std.proofs.Common.{rules}
use Rattle.wrapper.specs.Wrapper.{parsed}
use Rattle.leafhost.specs.Codecs.{parse_fits, shown_parse}
use Rattle.leafhost.proofs.codecs.wrapper_parse.Goals as goal

pub returns-then-fields-ne5 : goal.returns-then-fields-ne5
unfolding shown_parse parse_fits
returns-then-fields-ne5 c = search rules

pub returns-in_default : goal.returns-in_default
unfolding shown_parse parse_fits parsed
returns-in_default c = search rules

pub returns : goal.returns
unfolding shown_parse parse_fits parsed
returns c = search rules

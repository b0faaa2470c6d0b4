-- `answers::endpoint_of` meets its contract: the byte is compared with 0 and 1. Assumes nothing.
use Rattle.std.proofs.Common.{rules, mod-eq_of_lt}
use Rattle.answers.specs.Answers.{endpoint_of}
use Rattle.answers.proofs.endpoint_of.Goals as goal

pub returns-in-0 : goal.returns-in-0
unfolding endpoint_of
returns-in-0 c = search rules

pub returns-in-1 : goal.returns-in-1
unfolding endpoint_of
returns-in-1 c = search rules

pub returns-in_default : goal.returns-in_default
unfolding endpoint_of
returns-in_default c = search (mod-eq_of_lt, rules)

-- `border::word::upper_half` meets its contract: with answer 1 it is what is missing, cut to 32 bits, and else the count. Assumes nothing.
use Rattle.border.proofs.Upper.{upper_missing, upper_count}
use Rattle.border.proofs.word.upper_half.Goals as goal

pub returns-then-answer_number-eq1 : goal.returns-then-answer_number-eq1
returns-then-answer_number-eq1 c =
    upper_missing _ _ c.answer_number.ensures c.if-answer_number-eq1.true c.missing.ensures c.min.ensures c.narrow.ensures

pub returns : goal.returns
returns c = upper_count _ _ c.answer_number.ensures c.if-answer_number-eq1.false

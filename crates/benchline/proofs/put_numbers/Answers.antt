-- `benchline::put_numbers` meets its contract: six texts are put one after the other. Assumes nothing.
use Rattle.benchline.proofs.Ways.{numbers_end}
use Rattle.benchline.proofs.put_numbers.Goals as goal

pub returns : goal.returns
returns c =
    numbers_end c.args.l _ c.put_number-answer.ensures c.put_number-state.ensures c.put_number-left.ensures c.put_number-unread.ensures c.put_number-count.ensures c.put_number.ensures

-- `calls::read_data` meets its contract: a record that is not broken has sound marks, so the buffer may be read. Assumes nothing.
use Rattle.calls.proofs.Laws.{data_refused, data_done, reads}
use Rattle.calls.proofs.read_data.Goals as goal

pub returns-in-Err : goal.returns-in-Err
returns-in-Err c = data_refused _ _ _ c.checked.ensures _ _ c.in-Err.is c.refused.ensures

pub returns : goal.returns
returns c =
    data_done _ _ _ c.checked.ensures _ _ c.in_default.is
    (reads _ _ _ c.read-got.ensures.0 c.read-got.ensures.1 c.read-got.ensures.2 c.left_at.ensures)

-- `calls::write_data` meets its contract: to cut a source to min(left, its length) is to cut it to left. Assumes nothing.
use Rattle.calls.proofs.Laws.{data_refused, data_done, writes}
use Rattle.calls.proofs.write_data.Goals as goal

pub returns-in-Err : goal.returns-in-Err
returns-in-Err c = data_refused _ _ _ c.checked.ensures _ _ c.in-Err.is c.refused.ensures

pub returns : goal.returns
returns c =
    data_done _ _ _ c.checked.ensures _ _ c.in_default.is
    (writes _ _ _ c.min-n.ensures c.write-put.ensures.0 c.write-put.ensures.1 c.put_in.ensures)

-- `calls::try_write_data_all` meets its contract: the marks are sound, and all of the source was taken or nothing. Assumes nothing.
use Rattle.calls.proofs.Laws.{data_refused, data_done, writes_all, overflows}
use Rattle.calls.proofs.try_write_data_all.Goals as goal

pub returns-in-Err : goal.returns-in-Err
returns-in-Err c = data_refused _ _ _ c.checked.ensures _ _ c.in-Err.is c.refused.ensures

pub returns-in-Ok : goal.returns-in-Ok
returns-in-Ok c = data_done _ _ _ c.checked.ensures _ _ c.in_default.is (writes_all _ _ _ c.in-Ok.ensures c.put_in.ensures)

pub returns-in-Err-write_all : goal.returns-in-Err-write_all
returns-in-Err-write_all c = data_done _ _ _ c.checked.ensures _ _ c.in_default.is (overflows _ _ _ c.in-Err-write_all.ensures c.left_at.ensures)

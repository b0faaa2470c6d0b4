-- `benchact::act` meets its contract: a law for each of the two writes. Assumes nothing.
use Rattle.benchact.specs.Act.{act_by}
use Rattle.benchact.proofs.Laws.{writes, writes_all}
use Rattle.benchact.proofs.act.Goals as goal

pub returns-in-WriteData : goal.returns-in-WriteData
unfolding act_by
returns-in-WriteData c =
    rw c.in-WriteData.is (writes _ _ _ _ c.write_data.result c.write_data.ensures c.from-in-WriteData.ensures)

pub returns-in-TryWriteDataAll : goal.returns-in-TryWriteDataAll
unfolding act_by
returns-in-TryWriteDataAll c =
    rw c.in-TryWriteDataAll.is (writes_all _ _ _ _ c.try_write_data_all.result c.try_write_data_all.ensures c.from-in-TryWriteDataAll.ensures)

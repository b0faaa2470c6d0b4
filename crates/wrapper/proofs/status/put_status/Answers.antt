-- `wrapper::status::put_status` meets its contract: its stores in order leave what fits of the status. Assumes nothing.
use Rattle.std.proofs.Common.{rules}
use Rattle.wrapper.proofs.Csw.{status_stored}
use Rattle.wrapper.proofs.status.put_status.Goals as goal

pub returns : goal.returns
returns c =
    status_stored _ _ _ _
    c.store_le32.ensures
    c.store_le32-2.ensures
    c.store_le32-3.ensures
    (search rules) c.status_number.ensures
    c.store.ensures

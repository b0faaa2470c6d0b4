-- `recordbytes::store::store32` meets its contract: four bytes are written. If their number stood there already, they stay, because the
-- elements of a slice are bytes; the check knows that at the function's entry. Assumes nothing.
use Rattle.recordbytes.proofs.Storing.{leaves_four}
use Rattle.recordbytes.proofs.store.store32.Goals as goal

pub returns : goal.returns
returns c =
    leaves_four _ _ _ c.requires (λ i. (c.slice_known-1.given i).fits) c.put_le32.ensures

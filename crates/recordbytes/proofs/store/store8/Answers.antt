-- `recordbytes::store::store8` meets its contract: one byte is written. If its number stood there already, it stays, because the elements
-- of a slice are bytes; the check knows that at the function's entry. Assumes nothing.
use Rattle.recordbytes.proofs.Storing.{leaves_byte}
use Rattle.recordbytes.proofs.store.store8.Goals as goal

pub returns : goal.returns
returns c =
    leaves_byte _ _ _ c.requires (c.slice_known-1.given _).fits c.put_byte.ensures

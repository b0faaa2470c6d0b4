-- `recordbytes::store::put_in` meets its contract: it stores one number. Assumes nothing.
use Rattle.recordbytes.proofs.Storing.{leaves_put_in}
use Rattle.recordbytes.proofs.store.put_in.Goals as goal

-- The law is named, so that a number at another place is refused by it.
pub returns : goal.returns
returns c =
    leaves_put_in _ c.args.putin c.store32.ensures

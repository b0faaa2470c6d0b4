-- To unfold this is to unfold all that cases over this crate's definitions compute with. Assumes nothing.
use mathlib.Core.List.{flatten}
use Rattle.bbb.proofs.Computing as bbb
use Rattle.calls.proofs.Computing as calls
use Rattle.readout.specs.History.{shows, all, is_served, is_poll, served, served_in}
use Rattle.readout.specs.Demand.{ceiling, filled_with}
use Rattle.readout.specs.Account.{filled_by, filled_in}

unfoldable pub computing : Unit {0}
unfolding flatten shows all is_served is_poll served served_in ceiling filled_with filled_by filled_in bbb.computing calls.computing
computing = tt

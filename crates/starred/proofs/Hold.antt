-- Every starred case holds: each crate computes its own part, and the parts are joined. Assumes nothing.
use Rattle.fields.proofs.Case.{joined}
use Rattle.device.specs.Cases as device
use Rattle.device.proofs.Cases as devices
use Rattle.wrapper.specs.Cases as wrapper
use Rattle.wrapper.proofs.Cases as wrappers
use Rattle.bbb.specs.Cases as bbb
use Rattle.bbb.proofs.Cases as bbbs
use Rattle.readout.specs.Cases as readout
use Rattle.readout.proofs.Cases as readouts
use Rattle.scsi.specs.Cases as scsi
use Rattle.scsi.proofs.Cases as scsis
use Rattle.starred.specs.Starred.{table, Statement}

pub hold : Statement
unfolding table
hold =
    joined device.starred _ devices.starred_hold
    (joined wrapper.starred _ wrappers.starred_hold
    (joined bbb.starred _ bbbs.starred_hold
    (joined readout.starred scsi.starred readouts.starred_hold scsis.starred_hold)))

-- `device::command_fits` meets its contract. Assumes nothing.
use Rattle.std.proofs.Common.{rules}
use Rattle.device.specs.Broken.{command_fits}
use Rattle.device.proofs.command_fits.Goals as goal

pub returns-then-lun-le15 : goal.returns-then-lun-le15
unfolding command_fits
returns-then-lun-le15 c = search rules

pub returns-else-lun-le15 : goal.returns-else-lun-le15
unfolding command_fits
returns-else-lun-le15 c = search rules

-- `device::whole` meets its contract, rule by rule. Assumes nothing.
use Rattle.std.proofs.Common.{rules}
use Rattle.device.specs.Broken.{is_whole}
use Rattle.device.proofs.whole.Goals as goal

pub returns-then-command_fits : goal.returns-then-command_fits
unfolding is_whole
returns-then-command_fits c = search rules

pub returns-else-command_fits : goal.returns-else-command_fits
unfolding is_whole
returns-else-command_fits c = search rules

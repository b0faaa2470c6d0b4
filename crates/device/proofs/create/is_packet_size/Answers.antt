-- `device::create::is_packet_size` meets its contract. Assumes nothing.
use Rattle.std.proofs.Common.{rules}
use Rattle.device.specs.Create.{is_packet_size}
use Rattle.device.proofs.create.is_packet_size.Goals as goal

pub returns-in-8 : goal.returns-in-8
unfolding is_packet_size
returns-in-8 c = search rules

pub returns-in_default : goal.returns-in_default
unfolding is_packet_size
returns-in_default c = search rules

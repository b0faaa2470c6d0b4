-- `device::create::judged` meets its contract: the rules come in 01's order. Assumes nothing.
use Rattle.std.proofs.Common.{rules}
use Rattle.device.specs.Create.{creation_checks}
use Rattle.device.proofs.create.judged.Goals as goal

pub returns-then-fixed-gt15 : goal.returns-then-fixed-gt15
unfolding creation_checks
returns-then-fixed-gt15 c = search rules

pub returns-then-fixed-lt31 : goal.returns-then-fixed-lt31
unfolding creation_checks
returns-then-fixed-lt31 c = search rules

pub returns-then-not-is_packet_size : goal.returns-then-not-is_packet_size
unfolding creation_checks
returns-then-not-is_packet_size c = search rules

pub returns-then-fixed-gt65536 : goal.returns-then-fixed-gt65536
unfolding creation_checks
returns-then-fixed-gt65536 c = search rules

pub returns : goal.returns
unfolding creation_checks
returns c = search rules

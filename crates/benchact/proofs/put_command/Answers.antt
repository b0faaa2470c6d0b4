-- `benchact::put_command` meets its contract: the LUN is put at the front, and the block after it. Assumes nothing.
use Rattle.std.proofs.Common.{rules}
use Rattle.benchact.proofs.Laws.{offers_command}
use Rattle.benchact.proofs.put_command.Goals as goal

pub returns : goal.returns
returns c = search (offers_command, rules)

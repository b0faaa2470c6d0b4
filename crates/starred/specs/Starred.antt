-- "The starred cases form a single table under a single statement." Each crate has its part of the table next to its definitions. Here
-- they are joined: creation, block lengths, LUN, the polls that answer 1, 4 and 0, the served polls of demand 3, residues and the three
-- decodings. Assumes nothing: these are definitions.
use Rattle.std.specs.Prelude.{List, ◌++◌}
use Rattle.fields.specs.Case.{Case, AllHold}
use Rattle.device.specs.Cases as device
use Rattle.wrapper.specs.Cases as wrapper
use Rattle.bbb.specs.Cases as bbb
use Rattle.readout.specs.Cases as readout
use Rattle.scsi.specs.Cases as scsi

-- The table of all starred cases.
unfoldable pub table : List Case
table = device.starred ++ (wrapper.starred ++ (bbb.starred ++ (readout.starred ++ scsi.starred)))

-- The statement: each case of the table holds.
abbrev pub Statement : Type 0
Statement = AllHold table

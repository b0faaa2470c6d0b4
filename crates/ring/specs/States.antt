-- The numbers of the states, the states by their numbers, and where the direction of a valid wrapper leads. Assumes nothing: these are
-- definitions.
use Rattle.std.specs.Prelude.{ℕ, cond, eqb}
use Rattle.wrapper.specs.declared.DataDirection.{DataDirection}
use Rattle.wrapper.specs.declared.DataDirection.TheVariants.{NotExpected, In, Out}
use Rattle.ring.specs.declared.State.{State}
use Rattle.ring.specs.declared.State.TheVariants.{CommandTransfer, CommandTransferInvalid, DataTransferNoData, StatusTransfer, DataTransferToHost, DataTransferToHostStatusAwait, DataTransferToHostEnding, DataTransferFromHost, DataTransferFromHostEnding}

-- This is document 01's number of a state. "States, numbered: 0 CommandTransfer, .. 8 DataTransferFromHostEnding."
abbrev pub state_number : State → ℕ
state_number CommandTransfer = 0
state_number CommandTransferInvalid = 1
state_number DataTransferNoData = 2
state_number StatusTransfer = 3
state_number DataTransferToHost = 4
state_number DataTransferToHostStatusAwait = 5
state_number DataTransferToHostEnding = 6
state_number DataTransferFromHost = 7
state_number DataTransferFromHostEnding = 8

-- This is the state with the number `n`. A number above 8 belongs to no state; it gives the last one.
unfoldable pub state_of_number : ℕ → State
state_of_number n =
    cond (eqb n 0) CommandTransfer
    (cond (eqb n 1) CommandTransferInvalid
    (cond (eqb n 2) DataTransferNoData
    (cond (eqb n 3) StatusTransfer
    (cond (eqb n 4) DataTransferToHost
    (cond (eqb n 5) DataTransferToHostStatusAwait
    (cond (eqb n 6) DataTransferToHostEnding
    (cond (eqb n 7) DataTransferFromHost DataTransferFromHostEnding)))))))

-- "Valid goes on to 7, 4 or, through 2, to 5": the direction picks `out` if the data comes from the host, `to` if it goes to the host,
-- and `none` if there is no data.
abbrev pub by_direction : {A : Type 0} → DataDirection → A → A → A → A
by_direction Out out to none = out
by_direction In out to none = to
by_direction NotExpected out to none = none

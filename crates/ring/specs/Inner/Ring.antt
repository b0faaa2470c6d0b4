-- One definition for each handler says to which act a poll comes, and a table has the row of each act. Assumes nothing: these are
-- definitions. In all of them `left` is the count left on the wire, and `present` says whether a status is present.
use Rattle.std.specs.Prelude.{ℕ, Bool, true, false, cond, eqb}
use Rattle.wrapper.specs.declared.DataDirection.{DataDirection}
use Rattle.ring.specs.declared.State.{State}
use Rattle.ring.specs.declared.State.TheVariants.{CommandTransfer, CommandTransferInvalid, DataTransferNoData, StatusTransfer, DataTransferToHost, DataTransferToHostStatusAwait, DataTransferToHostEnding, DataTransferFromHost, DataTransferFromHostEnding}
use Rattle.ring.specs.States.{by_direction}
use Rattle.ring.specs.declared.Found.{Found}
use Rattle.ring.specs.declared.Found.TheVariants.{Nothing, Invalid, Valid}
use Rattle.ring.specs.declared.Act.{Act}
use Rattle.ring.specs.declared.Act.TheVariants.{Stay, Stall, Next, Enter, Send, Wait, Fill, Take, Drop}
use Rattle.ring.specs.declared.Kind.{Kind}
use Rattle.ring.specs.declared.Before.{Before}
use Rattle.ring.specs.declared.Row.{Row}
use Rattle.ring.specs.declared.Act.TheVariants as act
use Rattle.ring.specs.declared.Kind.TheVariants as kind
use Rattle.ring.specs.declared.Before.TheVariants as before

-- State 5: "5: status present goes to 3." "Entering 3 .. sends at once." With no status the poll waits.
unfoldable pub status_await_act : Bool → Act
status_await_act present = cond present Enter Wait

-- State 2 goes on to 5.
unfoldable pub no_data_act : Bool → Act
no_data_act present = status_await_act present

-- State 6: "6: left 0 goes to 3. Otherwise .. fill .. send"
unfoldable pub to_host_ending_act : ℕ → Act
to_host_ending_act left = cond (eqb left 0) Enter Fill

-- State 4: "4: left 0 goes to 5; status present goes to 6; otherwise send one packet."
unfoldable pub to_host_act : ℕ → Bool → Act
to_host_act left present = cond (eqb left 0) (status_await_act present) (cond present (to_host_ending_act left) Send)

-- State 8: "8: left 0 goes to 3; otherwise empty the buffer and read."
unfoldable pub from_host_ending_act : ℕ → Act
from_host_ending_act left = cond (eqb left 0) Enter Drop

-- State 7: "7: left 0 goes to 5; status present goes to 8; otherwise read a packet."
unfoldable pub from_host_act : ℕ → Bool → Act
from_host_act left present = cond (eqb left 0) (status_await_act present) (cond present (from_host_ending_act left) Take)

-- A valid wrapper has this `direction` and declares `length` bytes, which are then left. "Valid goes on to 7, 4 or, through 2, to 5." In
-- 0 no status is present: a record that has one there is broken.
unfoldable pub start_act : DataDirection → ℕ → Act
start_act direction length = by_direction direction (from_host_act length false) (to_host_act length false) (no_data_act false)

-- One of three is picked by what the poll found: `none` for no whole wrapper, `bad` for an invalid one, `good` for a valid one, by its
-- direction.
abbrev pub by_found : {A : Type 0} → Found → A → A → (DataDirection → A) → A
by_found Nothing none bad good = none
by_found Invalid none bad good = bad
by_found (Valid direction) none bad good = good direction

-- State 0: "0: read one packet; with 31 or more unread parse. Invalid goes to 1, both endpoints stalled." `found` says what came of it;
-- `length` is that of a valid wrapper.
unfoldable pub read_cbw_act : Found → ℕ → Act
read_cbw_act found length = by_found found Stay Stall (λ direction. start_act direction length)

-- State 3: "Later polls in 3 send the next packet; with nothing unread, enter 0 and read." "Entering 0 clears status". `empty` says that
-- nothing is unread, and `entered` that this poll has just entered 3.
unfoldable pub status_transfer_act : Bool → Bool → Found → ℕ → Act
status_transfer_act empty entered found length = cond empty (read_cbw_act found length) (cond entered Enter Next)

-- The state in which a poll starts picks the handler; in 1 the act is to stall. "1: stall both again".
abbrev pub settled : State → ℕ → Bool → Bool → Found → ℕ → Act
settled CommandTransfer left present empty found length = read_cbw_act found length
settled CommandTransferInvalid left present empty found length = Stall
settled DataTransferNoData left present empty found length = no_data_act present
settled StatusTransfer left present empty found length = status_transfer_act empty false found length
settled DataTransferToHost left present empty found length = to_host_act left present
settled DataTransferToHostStatusAwait left present empty found length = status_await_act present
settled DataTransferToHostEnding left present empty found length = to_host_ending_act left
settled DataTransferFromHost left present empty found length = from_host_act left present
settled DataTransferFromHostEnding left present empty found length = from_host_ending_act left

-- If a status is present, the chain needs two more calls: 5, 6 and 8 then call `enter`, and `enter` calls the handler of 3.
abbrev pub extra : Bool → ℕ
extra true = 2
extra false = 0

-- If nothing is unread, the handler of 3 needs four more calls: 0, the start, 2 and 5.
abbrev pub whole_ring : Bool → ℕ
whole_ring true = 4
whole_ring false = 0

-- A row has the state `s` in which an act is done, what crosses the wire (`k`), what is done to the buffer first (`b`), and whether left
-- falls (`counts`).
abbrev row : State → Kind → Before → Bool → Row
row s k b counts = record { 0 = s; 1 = k; 2 = b; 3 = counts }

-- This is the row of each act.
abbrev pub row_of : Act → Row
row_of act.Stay = row CommandTransfer kind.Rest before.Nothing false
row_of act.Stall = row CommandTransferInvalid kind.Stall before.Nothing false
row_of act.Next = row StatusTransfer kind.Send before.Nothing false
row_of act.Enter = row StatusTransfer kind.Send before.Status false
row_of act.Send = row DataTransferToHost kind.Send before.Whole true
row_of act.Wait = row DataTransferToHostStatusAwait kind.Rest before.Nothing false
row_of act.Fill = row DataTransferToHostEnding kind.Send before.Fill true
row_of act.Take = row DataTransferFromHost kind.Read before.Nothing true
row_of act.Drop = row DataTransferFromHostEnding kind.Read before.Empty true

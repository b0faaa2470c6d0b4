-- Demand 3 and request 7 for the exported calls themselves: for what the library returned, call by call, where each call meets its contract.
-- `Post` is the contract, as the check reads it. Assumes nothing.
--     Called              a call that returned
--     kept, counted       demand 3 and request 7 of such calls
--     created             what `souk_create` leaves
use mathlib.Core.Path.{◌≡◌, ap}
use mathlib.Core.List.{[]}
use contract.Lifetimes.{Lfts}
use denote.Triple.Clauses.{AtExit}
use borrow.Fn.Kinds.{Dens, res_t, ended_of}
use Rattle.bbb.specs.Poll.{given}
use Rattle.exported.proofs.souk_poll.Kinds as poll-kinds
use Rattle.exported.proofs.souk_poll.Reads as poll_reads
use Rattle.exported.proofs.souk_set_status.Kinds as status-kinds
use Rattle.exported.proofs.souk_set_status.Reads as status-reads
use Rattle.exported.proofs.souk_write_data.Kinds as write-kinds
use Rattle.exported.proofs.souk_write_data.Reads as write-reads
use Rattle.exported.proofs.souk_try_write_data_all.Kinds as write-all-kinds
use Rattle.exported.proofs.souk_try_write_data_all.Reads as write-all-reads
use Rattle.exported.proofs.souk_read_data.Kinds as read-kinds
use Rattle.exported.proofs.souk_read_data.Reads as read-reads
use Rattle.exported.proofs.souk_reset.Kinds as reset-kinds
use Rattle.exported.proofs.souk_reset.Reads as reset_reads
use Rattle.exported.proofs.souk_control.Kinds as control-kinds
use Rattle.exported.proofs.souk_control.Reads as control_reads
use Rattle.exported.proofs.souk_command.Kinds as command-kinds
use Rattle.exported.proofs.souk_command.Reads as command-reads
use Rattle.exported.proofs.souk_command_step.Kinds as step-kinds
use Rattle.exported.proofs.souk_command_step.Reads as step-reads
use Rattle.exported.proofs.souk_command_step_told.Kinds as told-kinds
use Rattle.exported.proofs.souk_command_step_told.Reads as told-reads
use Rattle.readout.specs.Demand.{Story, Supposed}
use Rattle.readout.specs.Account.{Readout, SupposedReadout}
use Rattle.readoutbytes.specs.Calls.{Memory, memory, Call, souk_poll, souk_set_status, souk_write_data, souk_try_write_data_all, souk_read_data, souk_reset, souk_control, souk_command, souk_command_step, souk_command_step_told, Outcome, outcome, of_polled, of_called, of_written, of_read_off, of_looked, call_on}
use Rattle.readoutbytes.specs.Logs.{Truthful}
use Rattle.readoutbytes.specs.Demand.{Logged, DemandOn, LoggedReadout, AccountOn}
use Rattle.readoutbytes.proofs.Demand.{demand, account}

-- A call that returned. `a` are its arguments: the record first, then the IO buffer and whatever else it takes. `x` is its result, and `z`
-- are the slices as the call left them. Its contract holds of these. Then it is this call, made with the memory that was lent, and this is
-- what it returned and left.
pub data Called : Call → Memory → Outcome → Type 0 where
  poll_called : (κs : Lfts 5) (a : Dens κs poll-kinds.ps) (x : (res_t poll-kinds.r κs).Denot) (z : AtExit (ended_of 5 poll-kinds.ps poll-kinds.r) κs) → poll_reads.Post κs a x z
      → Called (souk_poll (given a.1.1.0.now a.1.1.1.0.now a.1.1.1.1.0.now (record { first = a.1.1.1.1.1.0; second = a.1.1.1.1.1.1.0; write = a.1.1.1.1.1.1.1.0 })))
      (memory a.0.now a.1.0.now) (outcome x (memory z.0.now z.1.0.now) z.1.1.0.now)
  status_called : (κs : Lfts 2) (a : Dens κs status-kinds.ps) (x : (res_t status-kinds.r κs).Denot) (z : AtExit (ended_of 2 status-kinds.ps status-kinds.r) κs) → status-reads.Post κs a x z
      → Called (souk_set_status (record { status = a.1.1.0; figure = a.1.1.1.0 })) (memory a.0.now a.1.0.now) (outcome x (memory z.0.now a.1.0.now) [])
  write_called : (κs : Lfts 3) (a : Dens κs write-kinds.ps) (x : (res_t write-kinds.r κs).Denot) (z : AtExit (ended_of 3 write-kinds.ps write-kinds.r) κs) → write-reads.Post κs a x z
      → Called (souk_write_data a.1.1.0.now) (memory a.0.now a.1.0.now) (outcome x (memory z.0.now z.1.0.now) [])
  write_all_called : (κs : Lfts 3) (a : Dens κs write-all-kinds.ps) (x : (res_t write-all-kinds.r κs).Denot) (z : AtExit (ended_of 3 write-all-kinds.ps write-all-kinds.r) κs) → write-all-reads.Post κs a x z
      → Called (souk_try_write_data_all a.1.1.0.now) (memory a.0.now a.1.0.now) (outcome x (memory z.0.now z.1.0.now) [])
  read_called : (κs : Lfts 3) (a : Dens κs read-kinds.ps) (x : (res_t read-kinds.r κs).Denot) (z : AtExit (ended_of 3 read-kinds.ps read-kinds.r) κs) → read-reads.Post κs a x z
      → Called (souk_read_data a.1.1.0.now) (memory a.0.now a.1.0.now) (outcome x (memory z.0.now a.1.0.now) z.1.1.0.now)
  reset_called : (κs : Lfts 2) (a : Dens κs reset-kinds.ps) (x : (res_t reset-kinds.r κs).Denot) (z : AtExit (ended_of 2 reset-kinds.ps reset-kinds.r) κs) → reset_reads.Post κs a x z
      → Called souk_reset (memory a.0.now a.1.0.now) (outcome x (memory z.0.now a.1.0.now) [])
  control_called : (κs : Lfts 2) (a : Dens κs control-kinds.ps) (x : (res_t control-kinds.r κs).Denot) (z : AtExit (ended_of 2 control-kinds.ps control-kinds.r) κs) → control_reads.Post κs a x z
      → Called (souk_control (record { requesttype = a.1.1.0; request = a.1.1.1.0 })) (memory a.0.now a.1.0.now) (outcome x (memory z.0.now a.1.0.now) [])
  command_called : (κs : Lfts 3) (a : Dens κs command-kinds.ps) (x : (res_t command-kinds.r κs).Denot) (z : AtExit (ended_of 3 command-kinds.ps command-kinds.r) κs) → command-reads.Post κs a x z
      → Called (souk_command a.1.1.0.now) (memory a.0.now a.1.0.now) (outcome x (memory a.0.now a.1.0.now) z.1.1.0.now)
  step_called : (κs : Lfts 3) (a : Dens κs step-kinds.ps) (x : (res_t step-kinds.r κs).Denot) (z : AtExit (ended_of 3 step-kinds.ps step-kinds.r) κs) → step-reads.Post κs a x z
      → Called (souk_command_step a.1.1.0.now) (memory a.0.now a.1.0.now) (outcome x (memory a.0.now a.1.0.now) z.1.1.0.now)
  told_called : (κs : Lfts 3) (a : Dens κs told-kinds.ps) (x : (res_t told-kinds.r κs).Denot) (z : AtExit (ended_of 3 told-kinds.ps told-kinds.r) κs) → told-reads.Post κs a x z
      → Called (souk_command_step_told a.1.1.0 a.1.1.1.0.now) (memory a.0.now a.1.0.now) (outcome x (memory a.0.now a.1.0.now) z.1.1.1.0.now)

-- What a call returned and left is what the definitions say.
called_is : {c : Call} {m : Memory} {o : Outcome} → Called c m o → o ≡ call_on c m
unfolding call_on
called_is (poll_called κs a x z p) = ap of_polled p
called_is (status_called κs a x z p) = ap (of_called a.1.0.now) p
called_is (write_called κs a x z p) = ap of_written p
called_is (write_all_called κs a x z p) = ap of_written p
called_is (read_called κs a x z p) = ap (of_read_off a.1.0.now) p
called_is (reset_called κs a x z p) = ap (of_called a.1.0.now) p
called_is (control_called κs a x z p) = ap (of_called a.1.0.now) p
called_is (command_called κs a x z p) = ap (of_looked (memory a.0.now a.1.0.now)) p
called_is (step_called κs a x z p) = ap (of_looked (memory a.0.now a.1.0.now)) p
called_is (told_called κs a x z p) = ap (of_looked (memory a.0.now a.1.0.now)) p

pub called_truthful : Truthful Called
called_truthful c m o called = called_is called

-- Demand 3 for the calls that firmware makes.
pub kept : (t : Story) (first before last : Memory) → Logged Called t first before last → Supposed t → DemandOn Called t first before last
kept = demand Called called_truthful

-- Request 7 for the calls that firmware makes.
pub counted : (r : Readout) (first last : Memory) → LoggedReadout Called r first last → SupposedReadout r → AccountOn r last
counted = account Called called_truthful

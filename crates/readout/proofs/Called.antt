-- Demand 3 and request 7 for the calls themselves: for what the code returned, call by call, where each call meets its contract. `Post` is
-- the contract, as the check reads it. Assumes nothing.
use mathlib.Core.Path.{◌≡◌, ap}
use contract.Lifetimes.{Lfts}
use denote.Triple.Clauses.{AtExit}
use borrow.Fn.Kinds.{Dens, res_t, ended_of}
use Rattle.bbb.specs.Poll.{given, polling_of}
use Rattle.bbb.proofs.poll.Kinds as poll-kinds
use Rattle.bbb.proofs.poll.Reads as poll_reads
use Rattle.calls.specs.Status.{stating_of}
use Rattle.calls.specs.Data.{moving_of}
use Rattle.calls.specs.Bus.{handling_of}
use Rattle.scsi.specs.Decoding.{plain_is_extended}
use Rattle.calls.specs.Command.{showing_of, stepping_of, command_step_call}
use Rattle.calls.proofs.set_status.Kinds as status-kinds
use Rattle.calls.proofs.set_status.Reads as status-reads
use Rattle.calls.proofs.write_data.Kinds as write-kinds
use Rattle.calls.proofs.write_data.Reads as write-reads
use Rattle.calls.proofs.try_write_data_all.Kinds as write-all-kinds
use Rattle.calls.proofs.try_write_data_all.Reads as write-all-reads
use Rattle.calls.proofs.read_data.Kinds as read-kinds
use Rattle.calls.proofs.read_data.Reads as read-reads
use Rattle.calls.proofs.reset.Kinds as reset-kinds
use Rattle.calls.proofs.reset.Reads as reset_reads
use Rattle.calls.proofs.control.Kinds as control-kinds
use Rattle.calls.proofs.control.Reads as control_reads
use Rattle.calls.proofs.command.command.Kinds as command-kinds
use Rattle.calls.proofs.command.command.Reads as command-reads
use Rattle.calls.proofs.command.command_step.Kinds as step-kinds
use Rattle.calls.proofs.command.command_step.Reads as step-reads
use Rattle.calls.proofs.command.command_step_told.Kinds as told-kinds
use Rattle.calls.proofs.command.command_step_told.Reads as told-reads
use Rattle.readout.specs.History.{Socket, socket, Event, poll, status, write, write_all, read, reset, control, command, command_step, Shows, of_poll, of_status, of_write, of_read, of_bus, of_command, of_step, shows, Throughout, Faithful}
use Rattle.readout.specs.Demand.{Story, Happened, Supposed, Demand}
use Rattle.readout.specs.Account.{Readout, all_since, SupposedReadout, Account}
use Rattle.readout.proofs.Demand.{demand}
use Rattle.readout.proofs.Account.{account}

-- A call that returned. `a` are its arguments: the record first, then the lent slices and whatever else it takes. `x` is its result, and
-- `z` are the slices as the call left them. Its contract holds of these. Then the event is this call, made with the record and the IO
-- buffer that were lent, and what it shows is read from `x` and `z`.
pub data Called : Event → Socket → Shows → Type 0 where
  poll_called : (κs : Lfts 4) (a : Dens κs poll-kinds.ps) (x : (res_t poll-kinds.r κs).Denot) (z : AtExit (ended_of 4 poll-kinds.ps poll-kinds.r) κs) → poll_reads.Post κs a x z
      → Called (poll (given a.1.1.0.now a.1.1.1.0.now a.1.1.1.1.0.now a.1.1.1.1.1.0)) (socket a.0 a.1.0.now)
      (of_poll (given a.1.1.0.now a.1.1.1.0.now a.1.1.1.1.0.now a.1.1.1.1.1.0) (polling_of x z.1.0.now z.1.1.0.now))
  status_called : (κs : Lfts 1) (a : Dens κs status-kinds.ps) (x : (res_t status-kinds.r κs).Denot) (z : AtExit (ended_of 1 status-kinds.ps status-kinds.r) κs) → status-reads.Post κs a x z
      → Called (status a.1.1.0) (socket a.0 a.1.0.now) (of_status a.1.0.now (stating_of x))
  write_called : (κs : Lfts 2) (a : Dens κs write-kinds.ps) (x : (res_t write-kinds.r κs).Denot) (z : AtExit (ended_of 2 write-kinds.ps write-kinds.r) κs) → write-reads.Post κs a x z
      → Called (write a.1.1.0.now) (socket a.0 a.1.0.now) (of_write a.1.1.0.now (moving_of x z.1.0.now))
  write_all_called : (κs : Lfts 2) (a : Dens κs write-all-kinds.ps) (x : (res_t write-all-kinds.r κs).Denot) (z : AtExit (ended_of 2 write-all-kinds.ps write-all-kinds.r) κs) → write-all-reads.Post κs a x z
      → Called (write_all a.1.1.0.now) (socket a.0 a.1.0.now) (of_write a.1.1.0.now (moving_of x z.1.0.now))
  read_called : (κs : Lfts 2) (a : Dens κs read-kinds.ps) (x : (res_t read-kinds.r κs).Denot) (z : AtExit (ended_of 2 read-kinds.ps read-kinds.r) κs) → read-reads.Post κs a x z
      → Called (read a.1.0.now) (socket a.0 a.1.1.0.now) (of_read a.1.1.0.now (moving_of x z.1.0.now))
  reset_called : (κs : Lfts 1) (a : Dens κs reset-kinds.ps) (x : (res_t reset-kinds.r κs).Denot) (z : AtExit (ended_of 1 reset-kinds.ps reset-kinds.r) κs) → reset_reads.Post κs a x z
      → Called reset (socket a.0 a.1.0.now) (of_bus a.1.0.now (handling_of x))
  control_called : (κs : Lfts 1) (a : Dens κs control-kinds.ps) (x : (res_t control-kinds.r κs).Denot) (z : AtExit (ended_of 1 control-kinds.ps control-kinds.r) κs) → control_reads.Post κs a x z
      → Called (control a.1.1.0) (socket a.0 a.1.0.now) (of_bus a.1.0.now (handling_of x))
  command_called : (κs : Lfts 1) (a : Dens κs command-kinds.ps) (x : (res_t command-kinds.r κs).Denot) (z : AtExit (ended_of 1 command-kinds.ps command-kinds.r) κs) → command-reads.Post κs a x z
      → Called command (socket a.0 a.1.0.now) (of_command (socket a.0 a.1.0.now) (showing_of x))
  step_called : (κs : Lfts 1) (a : Dens κs step-kinds.ps) (x : (res_t step-kinds.r κs).Denot) (z : AtExit (ended_of 1 step-kinds.ps step-kinds.r) κs) → step-reads.Post κs a x z
      → Called (command_step plain_is_extended) (socket a.0 a.1.0.now) (of_step (socket a.0 a.1.0.now) (stepping_of x))
  told_called : (κs : Lfts 1) (a : Dens κs told-kinds.ps) (x : (res_t told-kinds.r κs).Denot) (z : AtExit (ended_of 1 told-kinds.ps told-kinds.r) κs) → told-reads.Post κs a x z
      → Called (command_step a.1.1.0) (socket a.0 a.1.0.now) (of_step (socket a.0 a.1.0.now) (stepping_of x))

-- What a call showed is what its event shows.
called_shows : {e : Event} {s : Socket} {o : Shows} → Called e s o → o ≡ shows e s
unfolding shows command_step_call
called_shows (poll_called κs a x z p) = ap (of_poll (given a.1.1.0.now a.1.1.1.0.now a.1.1.1.1.0.now a.1.1.1.1.1.0)) p
called_shows (status_called κs a x z p) = ap (of_status a.1.0.now) p
called_shows (write_called κs a x z p) = ap (of_write a.1.1.0.now) p
called_shows (write_all_called κs a x z p) = ap (of_write a.1.1.0.now) p
called_shows (read_called κs a x z p) = ap (of_read a.1.1.0.now) p
called_shows (reset_called κs a x z p) = ap (of_bus a.1.0.now) p
called_shows (control_called κs a x z p) = ap (of_bus a.1.0.now) p
called_shows (command_called κs a x z p) = ap (of_command (socket a.0 a.1.0.now)) p
called_shows (step_called κs a x z p) = ap (of_step (socket a.0 a.1.0.now)) p
called_shows (told_called κs a x z p) = ap (of_step (socket a.0 a.1.0.now)) p

called_faithful : Faithful Called
called_faithful e s o c = called_shows c

-- Demand 3 for the calls: of every story that the calls made and that meets what is supposed. "the firmware keeps one device record": each
-- call is made with the record and the IO buffer that the call before left, and so is the poll that is called next.
pub kept : (t : Story) → Happened Called t → Supposed t → Demand Called t
kept = demand Called called_faithful

-- Request 7 for the calls.
pub counted : (r : Readout) → Throughout Called (all_since r) r.start → SupposedReadout r → Account r
counted = account Called called_faithful

-- Where a history starts. Assumes nothing: these are definitions.
use Rattle.std.specs.Prelude.{◌≡◌, List, ℕ}
use Rattle.device.specs.declared.Fixed.{Fixed}
use Rattle.device.specs.Create.{new_device}
use Rattle.readout.specs.History.{socket}
use Rattle.readout.specs.Demand.{Between}
use Rattle.readoutbytes.specs.Calls.{memory, socket_in}

-- The record's bytes, with the IO buffer `io`, hold a new device with the numbers `f`; it is between two commands, so that a story can start.
pub record StartsNew (f : Fixed) (bytes io : List ℕ) : Type 0 where
  pub device : socket_in (memory bytes io) ≡ socket (new_device f) io
  pub between : Between (socket_in (memory bytes io))

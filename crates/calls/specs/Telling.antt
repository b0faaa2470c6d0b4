-- Request 6 of 02: what it changes to tell the command step that extended addressing is on. Assumes nothing: these are definitions.
use Rattle.std.specs.Prelude.{◌≡◌, true, false, ◌&&◌, List, ℕ, length}
use Rattle.scsi.specs.Telling.{is_read_or_write16}
use Rattle.device.specs.declared.Device.{Device}
use Rattle.device.specs.Device.{numbers_of}
use Rattle.device.specs.Broken.{Whole}
use Rattle.calls.specs.Command.{is_offered, block_of, command_step_told_call, command_step_call}

-- This is promised of every record `d` over every IO buffer `io`: the plain step is the one that is told on; where a READ (16) or a
-- WRITE (16) is offered, both tellings give different steps; and otherwise they give the same.
pub record Telling (d : Device) (io : List ℕ) : Type 0 where
  pub plain : command_step_call d io ≡ command_step_told_call true d io
  pub differs : Whole (numbers_of d) (length io) → is_offered d && is_read_or_write16 (block_of d.wrapper) ≡ true
      → command_step_told_call true d io ≡ command_step_told_call false d io → ⊥
  pub same : is_offered d && is_read_or_write16 (block_of d.wrapper) ≡ false → command_step_told_call true d io ≡ command_step_told_call false d io

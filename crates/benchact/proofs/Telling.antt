-- What a command step is told decides what it offers, and nothing else. Assumes nothing.
use mathlib.Core.Path.{◌≡◌, refl}
use mathlib.Core.Bool.{Bool, true, false, cond}
use mathlib.Core.List.{List, [], ◌∷◌}
use Prim.Native.Nat.{ℕ}
use lib.Dec.{eqb}
use lib.ListN.{length}
use Rattle.answers.specs.Answers.{answer}
use Rattle.scsi.specs.declared.ScsiCommand.{ScsiCommand}
use Rattle.scsi.specs.Decoding.{Decoding, decoding, decoded, decode_call}
use Rattle.device.specs.declared.Device.{Device}
use Rattle.device.specs.Device.{numbers_of}
use Rattle.device.specs.Broken.{is_whole, unless_broken}
use Rattle.calls.specs.Command.{Stepping, stepping, is_offered, stepping_of_decoding, block_of, command_step_told_call}
use Rattle.benchact.specs.Act.{Acting, extended_of, command_in_front, acting_of_step, command_acts, act_by}
use Rattle.benchact.specs.Telling.{without_offers, Telling}

module _ (d : Device) (io lent : List ℕ) where
  -- What a step leaves and tells that gives `o`, but for the offer.
  apart : Stepping → Acting
  apart o = without_offers (acting_of_step d io lent o)

  found : Bool → ScsiCommand → Decoding
  found empty c = cond empty (decoding 13 []) (decoding 0 (c ∷ []))

  -- It is the same with any two commands in the place of the decoded one: the block is empty or not, a command is offered or not, the
  -- record is broken or not.
  any_command : (whole offers empty : Bool) (b c : ScsiCommand)
      → apart (cond whole (cond offers (stepping_of_decoding d.wrapper.lun (found empty b)) (stepping (answer 0) [])) (stepping (answer 10) []))
      ≡ apart (cond whole (cond offers (stepping_of_decoding d.wrapper.lun (found empty c)) (stepping (answer 0) [])) (stepping (answer 10) []))
  unfolding apart found acting_of_step stepping_of_decoding command_in_front
  any_command true true true b c = refl
  any_command true true false b c = refl
  any_command true false empty b c = refl
  any_command false offers empty b c = refl

  any_telling : (e f : Bool) → apart (command_step_told_call e d io) ≡ apart (command_step_told_call f d io)
  unfolding command_step_told_call unless_broken decode_call found
  any_telling e f =
      any_command (is_whole (numbers_of d) (length io)) (is_offered d) (eqb (length (block_of d.wrapper)) 0)
      (decoded e (block_of d.wrapper)) (decoded f (block_of d.wrapper))

pub telling : (body : List ℕ) (d : Device) (io lent : List ℕ) → Telling body d io lent
unfolding act_by command_acts acting_of_step apart
telling body d io lent = record { offers = refl; line = λ other. any_telling d io lent (extended_of body) (extended_of other) }

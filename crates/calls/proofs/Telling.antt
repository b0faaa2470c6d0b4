-- What is told to the command step matters exactly where a READ (16) or a WRITE (16) is offered. Assumes nothing.
use mathlib.Core.Path.{◌≡◌, refl, sym, ap, ◌∙◌}
use mathlib.Core.Bool.{Bool, true, false, cond, ◌&&◌}
use mathlib.Core.List.{List, [], ◌∷◌, map}
use Prim.Native.Nat.{ℕ}
use lib.ListN.{length}
use Rattle.fields.proofs.Bools.{and_left, and_right}
use Rattle.answers.specs.Answers.{answer}
use Rattle.scsi.specs.declared.ScsiCommand.{ScsiCommand}
use Rattle.scsi.specs.Decoding.{Decoding, decoding, decode_call}
use Rattle.scsi.specs.Telling.{is_read_or_write16}
use Rattle.scsi.proofs.Telling.{telling}
use Rattle.device.specs.declared.Device.{Device}
use Rattle.device.specs.Device.{numbers_of}
use Rattle.device.specs.Broken.{Whole, unless_broken}
use Rattle.calls.specs.Command.{Offered, offered, Stepping, stepping, is_offered, stepping_of_decoding, block_of, command_step_told_call, command_step_call}
use Rattle.calls.specs.Telling.{Telling}
use Rattle.calls.proofs.After.{step_done}

-- ---- a step tells what was decoded

commands_back : (lun : ℕ) (cs : List ScsiCommand) → map (λ (o : Offered). o.command) (map (offered lun) cs) ≡ cs
commands_back lun [] = refl
commands_back lun (c ∷ cs) = ap (λ (l : List ScsiCommand). c ∷ l) (commands_back lun cs)

abbrev decoding_of : Stepping → Decoding
decoding_of s = decoding s.answer.number (map (λ (o : Offered). o.command) s.offers)

decoding_back : (lun : ℕ) (o : Decoding) → decoding_of (stepping_of_decoding lun o) ≡ o
unfolding stepping_of_decoding
decoding_back lun o = ap (decoding o.answer) (commands_back lun o.commands)

-- ---- the step

module _ (d : Device) (io : List ℕ) where
  differ : Whole (numbers_of d) (length io) → is_offered d && is_read_or_write16 (block_of d.wrapper) ≡ true
      → command_step_told_call true d io ≡ command_step_told_call false d io → ⊥
  differ w h e =
      let is : is_offered d ≡ true = and_left _ _ h in
      let lun : ℕ = d.wrapper.lun in
      let block : List ℕ = block_of d.wrapper in
      let steps : stepping_of_decoding lun (decode_call true block) ≡ stepping_of_decoding lun (decode_call false block) = sym (step_done d io w true is) ∙ e ∙ step_done d io w false is in
      (telling block).differs (and_right (is_offered d) _ h) (sym (decoding_back lun _) ∙ ap decoding_of steps ∙ decoding_back lun _)

  same_else : is_offered d && is_read_or_write16 (block_of d.wrapper) ≡ false → command_step_told_call true d io ≡ command_step_told_call false d io
  unfolding command_step_told_call
  same_else h = ap (unless_broken d io (stepping (answer 10) [])) (by (is_offered d) h)
    where
      by : (b : Bool) → b && is_read_or_write16 (block_of d.wrapper) ≡ false
          → cond b (stepping_of_decoding d.wrapper.lun (decode_call true (block_of d.wrapper))) (stepping (answer 0) [])
          ≡ cond b (stepping_of_decoding d.wrapper.lun (decode_call false (block_of d.wrapper))) (stepping (answer 0) [])
      by true e = ap (stepping_of_decoding d.wrapper.lun) ((telling (block_of d.wrapper)).same e)
      by false e = refl

pub step_telling : (d : Device) (io : List ℕ) → Telling d io
unfolding command_step_call
step_telling d io = record { plain = refl; differs = differ d io; same = same_else d io }

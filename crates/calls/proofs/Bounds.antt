-- What every call leaves and answers is in bounds, for any record over any IO buffer: laws for callers that keep it in bytes.
--     .._narrow            a narrow device stays narrow
--     .._plain             the answer is one byte and not 1; it carries nothing, and nothing is missing
--     write_all_legible    a result word can show its answer and the count; write_all_carries: it carries nothing
--     .._replies           what goes back to the host is one byte or nothing
--     command_lun          the LUN of a command shown is at most 15
--     by_step              what holds of every answer of the command step, and of an offer on a whole record, holds of the step
-- Assumes nothing.
use mathlib.Core.Path.{◌≡◌, refl}
use mathlib.Core.Bool.{Bool, cond}
use mathlib.Core.List.{List, [], ◌∷◌}
use Prim.Native.Nat.{ℕ, ◌≤◌, zero-le}
use native.Mathlib.Omega.{arith}
use lib.Dec.{eqb, lit<, lit≤}
use lib.ListN.{length, get_or}
use Rattle.fields.proofs.Bools.{of_picked}
use Rattle.buffer.specs.Buffer.{lacks_room, missing}
use Rattle.answers.specs.declared.Stalls.TheVariants.{Kept}
use Rattle.answers.specs.Answers.{Answering, answer}
use Rattle.answers.proofs.Legible.{Legible, Plain, plain, legible_plain, legible_lacking}
use Rattle.scsi.specs.declared.ScsiCommand.{ScsiCommand}
use Rattle.scsi.specs.Decoding.{Decoding, decode_call}
use Rattle.wrapper.specs.Counters.{residue_of}
use Rattle.device.specs.declared.Device.{Device}
use Rattle.device.specs.Device.{numbers_of}
use Rattle.device.specs.Broken.{Whole}
use Rattle.device.proofs.Wholly.{either}
use Rattle.device.proofs.Narrow.{Narrow, narrow_status, narrow_put_in, narrow_entered}
use Rattle.calls.specs.declared.FirmwareStatus.{FirmwareStatus}
use Rattle.calls.specs.declared.Request.{Request}
use Rattle.calls.specs.Checks.{buffer_of}
use Rattle.calls.specs.Status.{Stating, with_figure, set_status_call}
use Rattle.calls.specs.Data.{Moving, read_from, read_data_call, write_in, write_data_call, write_all_in, write_data_all_call}
use Rattle.calls.specs.Bus.{Handling, handling, handling_of_reset, reset_call, control_call}
use Rattle.calls.specs.Command.{Showing, showing, hiding, is_shown, command_call, offered, Stepping, stepping, is_offered, stepping_of_decoding, block_of, command_step_told_call}
use Rattle.calls.proofs.After.{by_status, by_refusals, by_data, risen_small, by_control}

-- The answers that the calls give beside 1.
answers_0 : Plain (answer 0)
answers_0 = plain 0 (lit< tt) refl

answers_3 : Plain (answer 3)
answers_3 = plain 3 (lit< tt) refl

answers_10 : Plain (answer 10)
answers_10 = plain 10 (lit< tt) refl

answers_12 : Plain (answer 12)
answers_12 = plain 12 (lit< tt) refl

answers_13 : Plain (answer 13)
answers_13 = plain 13 (lit< tt) refl

-- ---- the status

module _ (d : Device) (io : List ℕ) (f : FirmwareStatus) where
  -- The residue is no greater than the length that the wrapper declares.
  pub status_narrow : Narrow d → Narrow (set_status_call d io f).device
  unfolding with_figure residue_of
  status_narrow n = by_status d io f (λ (o : Stating). Narrow o.device) n n (λ _ _. narrow_status d n _ (omega (arith, n.declared)))

  pub status_plain : Plain (set_status_call d io f).answer
  status_plain = by_status d io f (λ (o : Stating). Plain o.answer) answers_10 answers_12 (λ _ _. answers_0)

-- ---- data

module _ (d : Device) (io dst : List ℕ) where
  pub read_narrow : Narrow d → Narrow (read_data_call d io dst).device
  unfolding read_from
  read_narrow n = by_data (λ (o : Moving). Narrow o.device) 7 d io dst _ (λ _. n) n

  pub read_plain : Plain (read_data_call d io dst).answer
  unfolding read_from
  read_plain = by_refusals (λ (o : Moving). Plain o.answer) 7 d io dst _ answers_10 answers_3 answers_0

module _ (d : Device) (io src : List ℕ) where
  -- What was put in is counted up to the largest number of 32 bits.
  pub write_narrow : Narrow d → Narrow (write_data_call d io src).device
  unfolding write_in
  write_narrow n = by_data (λ (o : Moving). Narrow o.device) 4 d io io _ (λ _. n) (narrow_put_in d n _ (risen_small d.putin _))

  pub write_all_narrow : Narrow d → Narrow (write_data_all_call d io src).device
  unfolding write_all_in
  write_all_narrow n =
      let P : Moving → Type 0 = λ (o : Moving). Narrow o.device in
      by_data P 4 d io io _ (λ _. n) (of_picked P (lacks_room (length src) (buffer_of d io)) (λ _. n) (λ _. narrow_put_in d n _ (risen_small d.putin (length src))))

  pub write_plain : Plain (write_data_call d io src).answer
  unfolding write_in
  write_plain = by_refusals (λ (o : Moving). Plain o.answer) 4 d io io _ answers_10 answers_3 answers_0

  -- With answer 1 nothing is written.
  pub write_all_legible : Legible (write_data_all_call d io src).answer (write_data_all_call d io src).count
  unfolding write_all_in
  write_all_legible =
      let P : Moving → Type 0 = λ (o : Moving). Legible o.answer o.count in
      by_refusals P 4 d io io _ (legible_plain 10 0 (lit< tt) refl) (legible_plain 3 0 (lit< tt) refl)
      (of_picked P (lacks_room (length src) (buffer_of d io)) (λ _. legible_lacking (missing (length src) (buffer_of d io))) (λ _. legible_plain 0 (length src) (lit< tt) refl))

  pub write_all_carries : (write_data_all_call d io src).answer.carried ≡ 0
  unfolding write_all_in
  write_all_carries =
      let P : Moving → Type 0 = λ (o : Moving). o.answer.carried ≡ 0 in
      by_refusals P 4 d io io _ refl refl (of_picked P (lacks_room (length src) (buffer_of d io)) (λ _. refl) (λ _. refl))

-- ---- the bus

-- One byte or nothing goes back to the host.
pub record Replies (o : Handling) : Type 0 where
  pub most : length o.bytes ≤ 1
  pub one : o.bytes ≡ cond (eqb (length o.bytes) 1) (get_or o.bytes 0 0 ∷ []) []

module _ (d : Device) (io : List ℕ) where
  by_reset : (P : Handling → Type 0) → P (handling (answer 10) Kept [] d) → P (handling_of_reset d) → P (reset_call d io)
  unfolding reset_call
  by_reset P broken done = either d io P broken (λ _. done)

  pub reset_narrow : Narrow d → Narrow (reset_call d io).device
  unfolding handling_of_reset
  reset_narrow n = by_reset (λ (o : Handling). Narrow o.device) n (narrow_entered d n)

  pub reset_plain : Plain (reset_call d io).answer
  unfolding handling_of_reset
  reset_plain = by_reset (λ (o : Handling). Plain o.answer) answers_10 answers_0

  pub reset_replies : Replies (reset_call d io)
  unfolding handling_of_reset
  reset_replies = by_reset Replies (record { most = zero-le; one = refl }) (record { most = zero-le; one = refl })

  module _ (q : Request) where
    pub control_narrow : Narrow d → Narrow (control_call d io q).device
    unfolding handling_of_reset
    control_narrow n = by_control d io q (λ (o : Handling). Narrow o.device) n n n (λ _ _. narrow_entered d n)

    pub control_plain : Plain (control_call d io q).answer
    unfolding handling_of_reset
    control_plain = by_control d io q (λ (o : Handling). Plain o.answer) answers_10 answers_0 answers_0 (λ _ _. answers_0)

    pub control_replies : Replies (control_call d io q)
    unfolding handling_of_reset
    control_replies =
        let none : (a : Answering) (e : Device) → Replies (handling a Kept [] e) = λ _ _. record { most = zero-le; one = refl } in
        by_control d io q Replies (none (answer 10) d) (record { most = lit≤ tt; one = refl }) (none (answer 0) d) (λ _ _. record { most = zero-le; one = refl })

-- ---- the command

module _ (d : Device) (io : List ℕ) where
  by_command : (P : Showing → Type 0) → P (hiding (answer 10)) → P (hiding (answer 0)) → (Whole (numbers_of d) (length io) → P (showing d.wrapper)) → P (command_call d io)
  unfolding command_call
  by_command P broken hidden shown = either d io P broken (λ w. of_picked P (is_shown d) (λ _. shown w) (λ _. hidden))

  pub command_plain : Plain (command_call d io).answer
  command_plain = by_command (λ (o : Showing). Plain o.answer) answers_10 answers_0 (λ _. answers_0)

  pub command_lun : (command_call d io).lun ≤ 15
  command_lun = by_command (λ (o : Showing). o.lun ≤ 15) zero-le zero-le (λ w. w.lun)

module _ (extended : Bool) (d : Device) (io : List ℕ) where
  pub by_step : (P : Stepping → Type 0) → P (stepping (answer 10) []) → P (stepping (answer 0) []) → P (stepping (answer 13) [])
      → (Whole (numbers_of d) (length io) → (c : ScsiCommand) → P (stepping (answer 0) (offered d.wrapper.lun c ∷ []))) → P (command_step_told_call extended d io)
  unfolding command_step_told_call stepping_of_decoding decode_call
  by_step P broken none empty done =
      either d io P broken
      (λ w. of_picked P (is_offered d)
      (λ _. of_picked (λ (o : Decoding). P (stepping_of_decoding d.wrapper.lun o)) (eqb (length (block_of d.wrapper)) 0) (λ _. empty) (λ _. done w _))
      (λ _. none))

  pub step_plain : Plain (command_step_told_call extended d io).answer
  step_plain = by_step (λ (o : Stepping). Plain o.answer) answers_10 answers_0 answers_13 (λ _ _. answers_0)

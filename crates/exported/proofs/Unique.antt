-- No second answer satisfies a promise: what the `ensures` of an exported call says is true of only one result, and of only one content
-- of each lent slice at exit. `Post` is the contract itself, as the check reads it. `Rattle.border.proofs.Parts` proves that a result
-- tells each of its parts. Assumes nothing.
use mathlib.Core.Path.{refl, sym, ◌∙◌}
use Rattle.fields.proofs.Only.{Only}
use Rattle.scsi.proofs.Unique as scsi
use Rattle.ringbytes.specs.Poll.{poll_outcome}
use Rattle.ringbytes.proofs.Unique.{polled_once}
use Rattle.databytes.specs.Data.{data_outcome}
use Rattle.databytes.proofs.Unique.{moved_once}
use Rattle.callbytes.proofs.Unique.{left_once}
use Rattle.commandbytes.proofs.Unique.{shown_once}
use Rattle.exported.proofs.souk_create.Kinds as souk-create-kinds
use Rattle.exported.proofs.souk_create.Reads as souk-create
use Rattle.exported.proofs.souk_set_status.Kinds as souk-set-status-kinds
use Rattle.exported.proofs.souk_set_status.Reads as souk_set_status
use Rattle.exported.proofs.souk_poll.Kinds as souk-poll-kinds
use Rattle.exported.proofs.souk_poll.Reads as souk_poll
use Rattle.exported.proofs.souk_read_data.Kinds as souk-read-data-kinds
use Rattle.exported.proofs.souk_read_data.Reads as souk_read_data
use Rattle.exported.proofs.souk_write_data.Kinds as souk-write-data-kinds
use Rattle.exported.proofs.souk_write_data.Reads as souk_write_data
use Rattle.exported.proofs.souk_try_write_data_all.Kinds as souk-try-write-data-all-kinds
use Rattle.exported.proofs.souk_try_write_data_all.Reads as souk_try_write_data_all
use Rattle.exported.proofs.souk_reset.Kinds as souk-reset-kinds
use Rattle.exported.proofs.souk_reset.Reads as souk_reset
use Rattle.exported.proofs.souk_control.Kinds as souk-control-kinds
use Rattle.exported.proofs.souk_control.Reads as souk_control
use Rattle.exported.proofs.souk_command.Kinds as souk-command-kinds
use Rattle.exported.proofs.souk_command.Reads as souk_command
use Rattle.exported.proofs.souk_command_step.Kinds as souk-command-step-kinds
use Rattle.exported.proofs.souk_command_step.Reads as souk_command_step
use Rattle.exported.proofs.souk_command_step_told.Kinds as souk-command-step-told-kinds
use Rattle.exported.proofs.souk_command_step_told.Reads as souk_command_step_told
use Rattle.exported.proofs.decode.souk_decode.Kinds as souk-decode-kinds
use Rattle.exported.proofs.decode.souk_decode.Reads as souk-decode
use Rattle.exported.proofs.decode.souk_decode_told.Kinds as souk-decode-told-kinds
use Rattle.exported.proofs.decode.souk_decode_told.Reads as souk-decode-told
use Rattle.exported.proofs.decode.souk_verdict.Kinds as souk-verdict-kinds
use Rattle.exported.proofs.decode.souk_verdict.Reads as souk-verdict

pub souk_create_only : Only 1 souk-create-kinds.ps souk-create-kinds.r souk-create.Post (λ κs s. s.0.now)
souk_create_only κs a x y s t p q = left_once (p ∙ sym q)

pub souk_set_status_only : Only 2 souk-set-status-kinds.ps souk-set-status-kinds.r souk_set_status.Post (λ κs s. s.0.now)
souk_set_status_only κs a x y s t p q = left_once (p ∙ sym q)

pub souk_read_data_only : Only 3 souk-read-data-kinds.ps souk-read-data-kinds.r souk_read_data.Post (λ κs s. data_outcome 0 s.0.now s.1.1.0.now)
souk_read_data_only κs a x y s t p q = moved_once (p ∙ sym q)

pub souk_write_data_only : Only 3 souk-write-data-kinds.ps souk-write-data-kinds.r souk_write_data.Post (λ κs s. data_outcome 0 s.0.now s.1.0.now)
souk_write_data_only κs a x y s t p q = moved_once (p ∙ sym q)

pub souk_try_write_data_all_only : Only 3 souk-try-write-data-all-kinds.ps souk-try-write-data-all-kinds.r souk_try_write_data_all.Post (λ κs s. data_outcome 0 s.0.now s.1.0.now)
souk_try_write_data_all_only κs a x y s t p q = moved_once (p ∙ sym q)

pub souk_reset_only : Only 2 souk-reset-kinds.ps souk-reset-kinds.r souk_reset.Post (λ κs s. s.0.now)
souk_reset_only κs a x y s t p q = left_once (p ∙ sym q)

pub souk_control_only : Only 2 souk-control-kinds.ps souk-control-kinds.r souk_control.Post (λ κs s. s.0.now)
souk_control_only κs a x y s t p q = left_once (p ∙ sym q)

-- The record is lent only for reading.
pub souk_command_only : Only 3 souk-command-kinds.ps souk-command-kinds.r souk_command.Post (λ κs s. s.1.1.0.now)
souk_command_only κs a x y s t p q = shown_once (p ∙ sym q)

pub souk_command_step_only : Only 3 souk-command-step-kinds.ps souk-command-step-kinds.r souk_command_step.Post (λ κs s. s.1.1.0.now)
souk_command_step_only κs a x y s t p q = shown_once (p ∙ sym q)

pub souk_command_step_told_only : Only 3 souk-command-step-told-kinds.ps souk-command-step-told-kinds.r souk_command_step_told.Post (λ κs s. s.1.1.1.0.now)
souk_command_step_told_only κs a x y s t p q = shown_once (p ∙ sym q)

pub souk_decode_only : Only 2 souk-decode-kinds.ps souk-decode-kinds.r souk-decode.Post (λ κs s. s.1.0.now)
souk_decode_only κs a x y s t p q = scsi.shown_once (p ∙ sym q)

pub souk_decode_told_only : Only 2 souk-decode-told-kinds.ps souk-decode-told-kinds.r souk-decode-told.Post (λ κs s. s.1.1.0.now)
souk_decode_told_only κs a x y s t p q = scsi.shown_once (p ∙ sym q)

pub souk_verdict_only : Only 1 souk-verdict-kinds.ps souk-verdict-kinds.r souk-verdict.Post (λ κs s. tt {0})
souk_verdict_only κs a x y s t p q = (p ∙ sym q, refl)

pub souk_poll_only : Only 5 souk-poll-kinds.ps souk-poll-kinds.r souk_poll.Post (λ κs s. poll_outcome 0 s.0.now s.1.0.now s.1.1.0.now)
souk_poll_only κs a x y s t p q = polled_once (p ∙ sym q)

-- A call that cannot be made changes nothing: it answers 10, and record, IO buffer and whatever else it was lent stay as they were, byte for
-- byte. Assumes nothing.
--     broken_refused     in a memory that holds no record, or a broken one
--     mislent_refused    with a place of a wrong length for the command, or a number for no flag
use mathlib.Core.Path.{◌≡◌, sym}
use mathlib.Core.Bool.{true, false}
use lib.Dec.{eqb, leb}
use lib.ListN.{length}
use borrow.Table.Steps.{cases}
use Rattle.fields.proofs.Bools.{clash}
use Rattle.device.specs.Device.{numbers_of}
use Rattle.device.specs.Broken.{is_whole, unless_broken}
use Rattle.device.proofs.Wholly.{is_whole_lem}
use Rattle.bbb.specs.Poll.{poll_call}
use Rattle.calls.specs.Status.{set_status_call}
use Rattle.calls.specs.Data.{works_in}
use Rattle.calls.specs.Bus.{reset_call, control_call}
use Rattle.calls.specs.Command.{command_call, command_step_told_call}
use Rattle.recordbytes.specs.Record.{is_known, device_at}
use Rattle.recordbytes.proofs.Stored.{is_known_lem}
use Rattle.recordbytes.proofs.Parts.{device_kept}
use Rattle.border.specs.Record.{on_device}
use Rattle.border.specs.Word.{word, upper_half}
use Rattle.ringbytes.specs.Poll.{poll_on}
use Rattle.databytes.specs.Data.{read_data_on, write_data_on, write_data_all_on}
use Rattle.callbytes.specs.Calls.{set_status_on, reset_on, control_on}
use Rattle.commandbytes.specs.Command.{command_on, command_step_by, command_step_on, command_step_told_on}
use Rattle.readoutbytes.specs.Calls.{Memory, HoldsRecord, Call, souk_poll, souk_set_status, souk_write_data, souk_try_write_data_all, souk_read_data, souk_reset, souk_control, souk_command, souk_command_step, souk_command_step_told, outcome, lent_to, call_on, event_of, is_mislent}

-- ---- bytes that are no record

none_refused : (m : Memory) → is_known m.bytes ≡ false → (c : Call) → call_on c m ≡ outcome 10 m (lent_to c)
unfolding call_on poll_on set_status_on write_data_on write_data_all_on read_data_on reset_on control_on command_on command_step_by command_step_on command_step_told_on on_device word
none_refused m none (souk_poll g) = rw none
none_refused m none (souk_set_status f) = rw none
none_refused m none (souk_write_data src) = rw none
none_refused m none (souk_try_write_data_all src) = rw none
none_refused m none (souk_read_data dst) = rw none
none_refused m none souk_reset = rw none
none_refused m none (souk_control q) = rw none
none_refused m none (souk_command block) = cases (eqb (length block) 16) (λ fits. rw (fits, none)) (λ other. rw other)
none_refused m none (souk_command_step numbers) = cases (eqb (length numbers) 6) (λ fits. rw (fits, none)) (λ other. rw other)
none_refused m none (souk_command_step_told extended numbers) =
    cases (leb extended 1) (λ flag. rw flag (cases (eqb (length numbers) 6) (λ fits. rw (fits, none)) (λ other. rw other))) (λ other. rw other)

-- ---- a broken record

-- What was read is stored again, and that changes no byte.
kept_refused : (m : Memory) → is_known m.bytes ≡ true → is_whole (numbers_of (device_at m.bytes)) (length m.io) ≡ false → (c : Call) → call_on c m ≡ outcome 10 m (lent_to c)
unfolding call_on poll_on set_status_on write_data_on write_data_all_on read_data_on reset_on control_on command_on command_step_by command_step_on command_step_told_on on_device word upper_half poll_call set_status_call works_in reset_call control_call command_call command_step_told_call unless_broken
kept_refused m known broken (souk_poll g) = rw (known, broken, device_kept m.bytes (is_known_lem m.bytes known))
kept_refused m known broken (souk_set_status f) = rw (known, broken, device_kept m.bytes (is_known_lem m.bytes known))
kept_refused m known broken (souk_write_data src) = rw (known, broken, device_kept m.bytes (is_known_lem m.bytes known))
kept_refused m known broken (souk_try_write_data_all src) = rw (known, broken, device_kept m.bytes (is_known_lem m.bytes known))
kept_refused m known broken (souk_read_data dst) = rw (known, broken, device_kept m.bytes (is_known_lem m.bytes known))
kept_refused m known broken souk_reset = rw (known, broken, device_kept m.bytes (is_known_lem m.bytes known))
kept_refused m known broken (souk_control q) = rw (known, broken, device_kept m.bytes (is_known_lem m.bytes known))
kept_refused m known broken (souk_command block) = cases (eqb (length block) 16) (λ fits. rw (fits, known, broken)) (λ other. rw other)
kept_refused m known broken (souk_command_step numbers) = cases (eqb (length numbers) 6) (λ fits. rw (fits, known, broken)) (λ other. rw other)
kept_refused m known broken (souk_command_step_told extended numbers) =
    cases (leb extended 1) (λ flag. rw flag (cases (eqb (length numbers) 6) (λ fits. rw (fits, known, broken)) (λ other. rw other))) (λ other. rw other)

pub broken_refused : (c : Call) (m : Memory) → (HoldsRecord m → ⊥) → call_on c m ≡ outcome 10 m (lent_to c)
broken_refused c m not =
    cases (is_known m.bytes)
    (λ known. cases (is_whole (numbers_of (device_at m.bytes)) (length m.io))
    (λ whole. absurd (not (record { known = known; whole = is_whole_lem _ _ whole })))
    (λ broken. kept_refused m known broken c))
    (λ none. none_refused m none c)

-- ---- something of a wrong length

pub mislent_refused : (c : Call) (m : Memory) → is_mislent (event_of c) ≡ true → call_on c m ≡ outcome 10 m (lent_to c)
unfolding call_on command_on command_step_by command_step_on command_step_told_on word
mislent_refused (souk_poll g) m h = absurd (clash (sym h))
mislent_refused (souk_set_status f) m h = absurd (clash (sym h))
mislent_refused (souk_write_data src) m h = absurd (clash (sym h))
mislent_refused (souk_try_write_data_all src) m h = absurd (clash (sym h))
mislent_refused (souk_read_data dst) m h = absurd (clash (sym h))
mislent_refused souk_reset m h = absurd (clash (sym h))
mislent_refused (souk_control q) m h = absurd (clash (sym h))
mislent_refused (souk_command block) m h = cases (eqb (length block) 16) (λ fits. absurd (clash (sym (rw fits at h)))) (λ other. rw other)
mislent_refused (souk_command_step numbers) m h = cases (eqb (length numbers) 6) (λ fits. absurd (clash (sym (rw fits at h)))) (λ other. rw other)
mislent_refused (souk_command_step_told extended numbers) m h =
    cases (leb extended 1) (λ flag. cases (eqb (length numbers) 6) (λ fits. absurd (clash (sym (rw (flag, fits) at h)))) (λ other. rw (flag, other))) (λ other. rw other)

-- What creation, the status and the calls of the bus return, and what they leave of the record's bytes. Each but creation does what the
-- call by value does on the device that the bytes hold; `store_device` says which bytes hold the device that it leaves. Assumes nothing:
-- these are definitions.
use Rattle.std.specs.Prelude.{ℕ, cond, List, eqb, length, get_or}
use Rattle.device.specs.declared.Fixed.{Fixed}
use Rattle.device.specs.declared.Device.{Device}
use Rattle.device.specs.Create.{creation_checks}
use Rattle.calls.specs.declared.FirmwareStatus.{FirmwareStatus}
use Rattle.calls.specs.declared.Request.{Request}
use Rattle.calls.specs.Status.{Stating, set_status_call}
use Rattle.calls.specs.Bus.{Handling, reset_call, control_call}
use Rattle.recordbytes.specs.Layout.{record_size}
use Rattle.recordbytes.specs.Record.{store_device, new_record}
use Rattle.border.specs.Word.{word, answer_word, stalls_number}
use Rattle.border.specs.Record.{on_device}

-- `result` is what the call returns, and `bytes` are the record's bytes as it leaves them. `call_outcome` makes such a record of the two.
pub record CallOutcome : Type 0 where
  pub result : ℕ
  pub bytes : List ℕ

abbrev pub call_outcome : ℕ → List ℕ → CallOutcome
call_outcome result bytes = record { result = result; bytes = bytes }

-- Creation with the numbers `f`, over the lent bytes `r`. "Creation checks 2, 5, 8, 9 in that order"; after these it answers 10 unless
-- `r` is as long as a record. Where no device is created the bytes stay as they were.
unfoldable pub create_on : List ℕ → Fixed → CallOutcome
create_on r f = cond (eqb (creation_checks f) 0) (cond (eqb (length r) record_size) (call_outcome 0 (new_record f)) (call_outcome 10 r)) (call_outcome (creation_checks f) r)

-- What a status over the record's bytes `r` returns and leaves where the call by value gives `o`.
abbrev pub call_outcome_of_status : List ℕ → Stating → CallOutcome
call_outcome_of_status r o = call_outcome o.answer.number (store_device o.device r)

-- `set_status` with the status byte and the figure in `f`, over the record's bytes `r` and the IO buffer `io`. Bytes that are no record
-- are refused with 10, and they stay as they were.
unfoldable pub set_status_on : List ℕ → List ℕ → FirmwareStatus → CallOutcome
set_status_on r io f = on_device r (call_outcome 10 r) (λ (d : Device). call_outcome_of_status r (set_status_call d io f))

-- What a reset or a control request over the record's bytes `r` returns and leaves where the call by value gives `o`. The byte that
-- answers a control request is the count of the result, and the flag is 1 where there is such a byte.
abbrev pub call_outcome_of_bus : List ℕ → Handling → CallOutcome
call_outcome_of_bus r o = call_outcome (word o.answer.number 0 (stalls_number o.stalls) (length o.bytes) (get_or o.bytes 0 0)) (store_device o.device r)

-- A reset, over the record's bytes `r` and the IO buffer `io`. Bytes that are no record are refused with 10, and they stay as they were.
unfoldable pub reset_on : List ℕ → List ℕ → CallOutcome
reset_on r io = on_device r (call_outcome (answer_word 10) r) (λ (d : Device). call_outcome_of_bus r (reset_call d io))

-- The control request `q`, over the record's bytes `r` and the IO buffer `io`; refused in the same way.
unfoldable pub control_on : List ℕ → List ℕ → Request → CallOutcome
control_on r io q = on_device r (call_outcome (answer_word 10) r) (λ (d : Device). call_outcome_of_bus r (control_call d io q))

-- What a read or a write over a record of bytes returns and leaves. It does what the call by value does on the device that the bytes
-- hold; `store_device` says which bytes hold the device that it leaves. Assumes nothing: these are definitions.
use Rattle.std.specs.Prelude.{ℕ, List}
use Rattle.device.specs.declared.Device.{Device}
use Rattle.calls.specs.Data.{Moving, read_data_call, write_data_call, write_data_all_call}
use Rattle.recordbytes.specs.Record.{store_device}
use Rattle.border.specs.Word.{word, upper_half, answer_word}
use Rattle.border.specs.Record.{on_device}

-- `result` is what the call returns, and `bytes` are the record's bytes as it leaves them. `into` is what the call may write to, as it
-- leaves it: the destination of a read, the IO buffer of a write. `data_outcome` makes such a record of the three.
pub record DataOutcome : Type 0 where
  pub result : ℕ
  pub bytes : List ℕ
  pub into : List ℕ

abbrev pub data_outcome : ℕ → List ℕ → List ℕ → DataOutcome
data_outcome result bytes into = record { result = result; bytes = bytes; into = into }

-- What a call over the record's bytes `r` returns and leaves where the call by value gives `o`: answer and count, or the bytes missing, are
-- put into one number, and the device is stored in `r`.
abbrev pub data_outcome_of : List ℕ → Moving → DataOutcome
data_outcome_of r o = data_outcome (word o.answer.number 0 0 0 (upper_half o.answer o.count)) (store_device o.device r) o.bytes

-- `read_data` into the destination `dst`, over the record's bytes `r` and the IO buffer `io`. Bytes that are no record are refused with
-- 10, and everything stays as it was.
unfoldable pub read_data_on : List ℕ → List ℕ → List ℕ → DataOutcome
read_data_on r io dst = on_device r (data_outcome (answer_word 10) r dst) (λ (d : Device). data_outcome_of r (read_data_call d io dst))

-- `write_data` of the source `src`, over the record's bytes `r` and the IO buffer `io`; refused in the same way.
unfoldable pub write_data_on : List ℕ → List ℕ → List ℕ → DataOutcome
write_data_on r io src = on_device r (data_outcome (answer_word 10) r io) (λ (d : Device). data_outcome_of r (write_data_call d io src))

-- `try_write_data_all` of the source `src`, over the record's bytes `r` and the IO buffer `io`; refused in the same way.
unfoldable pub write_data_all_on : List ℕ → List ℕ → List ℕ → DataOutcome
write_data_all_on r io src = on_device r (data_outcome (answer_word 10) r io) (λ (d : Device). data_outcome_of r (write_data_all_call d io src))

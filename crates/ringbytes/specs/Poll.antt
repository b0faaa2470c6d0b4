-- What a poll over a record of bytes returns and leaves. It does what the poll by value does on the device that the bytes hold;
-- `store_device` says which bytes hold the device that it leaves. Assumes nothing: these are definitions.
use Rattle.std.specs.Prelude.{ℕ, List}
use Rattle.device.specs.declared.Device.{Device}
use Rattle.bbb.specs.Poll.{Given, Polling, poll_call}
use Rattle.recordbytes.specs.Record.{store_device}
use Rattle.border.specs.Word.{word, upper_half, answer_word, stalls_number}
use Rattle.border.specs.Record.{on_device}

-- `result` is what the poll returns. `bytes`, `io` and `packet` are the record's bytes, the IO buffer and the packet buffer as it leaves
-- them. `poll_outcome` makes such a record of the four.
pub record PollOutcome : Type 0 where
  pub result : ℕ
  pub bytes : List ℕ
  pub io : List ℕ
  pub packet : List ℕ

abbrev pub poll_outcome : ℕ → List ℕ → List ℕ → List ℕ → PollOutcome
poll_outcome result bytes io packet = record { result = result; bytes = bytes; io = io; packet = packet }

-- What the poll over the record's bytes `r` returns and leaves where the poll by value gives `o`: the report is put into one number,
-- and the device is stored in `r`.
abbrev pub poll_outcome_of : List ℕ → Polling → PollOutcome
poll_outcome_of r o = poll_outcome (word o.answer.number o.answer.carried (stalls_number o.stalls) o.taken (upper_half o.answer o.sent)) (store_device o.device r) o.io o.packet

-- A poll that is given `g`, over the record's bytes `r` and the IO buffer `io`. Bytes that are no record are refused with 10, and
-- everything stays as it was.
unfoldable pub poll_on : List ℕ → List ℕ → Given → PollOutcome
poll_on r io g = on_device r (poll_outcome (answer_word 10) r io g.packet) (λ (d : Device). poll_outcome_of r (poll_call d io g))

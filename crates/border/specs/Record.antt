-- A call is lent bytes of any number and any values as its record. Assumes nothing: these are definitions.
use Rattle.std.specs.Prelude.{cond, List, ℕ}
use Rattle.device.specs.declared.Device.{Device}
use Rattle.recordbytes.specs.Record.{is_known, device_at}

-- Bytes `r` that are no record count as a broken one, and the result is `refused`. With any other bytes, `call` is made on the device
-- that they hold; it checks itself whether that device is broken.
unfoldable pub on_device : {A : Type 0} → List ℕ → A → (Device → A) → A
on_device r refused call = cond (is_known r) (call (device_at r)) refused

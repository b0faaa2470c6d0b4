-- What follows from the test whether the bytes that a call is lent are a record. Assumes nothing.
use mathlib.Core.Path.{◌≡◌, sym, ◌∙◌}
use mathlib.Core.Bool.{Bool, true, false, not}
use mathlib.Core.List.{List}
use Prim.Native.Nat.{ℕ}
use lib.ListN.{length}
use Rattle.fields.proofs.Bools.{not_true, not_false}
use Rattle.device.specs.declared.Device.{Device}
use Rattle.recordbytes.specs.Layout.{record_size}
use Rattle.recordbytes.specs.Record.{is_known, device_at}
use Rattle.recordbytes.proofs.Stored.{is_known_lem}
use Rattle.border.specs.Record.{on_device}

module _ (r : List ℕ) where
  pub known_long : {k : Bool} → k ≡ is_known r → k ≡ true → length r ≡ record_size
  known_long ek q = (is_known_lem r (sym ek ∙ q)).long

  -- The code makes this test the other way round.
  module _ {k : Bool} (ek : k ≡ is_known r) where
    pub known_then : not k ≡ false → is_known r ≡ true
    known_then q = sym ek ∙ not_false k q

    pub long_then : not k ≡ false → length r ≡ record_size
    long_then q = (is_known_lem r (known_then q)).long

    -- Bytes that are no record are refused.
    pub unknown : {A : Type 0} (refused : A) (call : Device → A) → not k ≡ true → refused ≡ on_device r refused call
    unfolding on_device
    unknown refused call q = rw (← ek, not_true k q)

  -- With any other bytes the call is made on the device that they hold.
  pub made : {A : Type 0} (refused : A) (call : Device → A) → is_known r ≡ true → call (device_at r) ≡ on_device r refused call
  unfolding on_device
  made refused call q = rw q

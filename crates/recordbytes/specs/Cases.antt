-- One table of cases. proofs/Cases.antt states that each of them holds. Assumes nothing.
use Rattle.std.specs.Prelude.{true, false, List, [], ◌∷◌, ℕ, take, replicate, None, Some}
use Rattle.fields.specs.Field.{tile}
use Rattle.fields.specs.Case.{Case, case}
use Rattle.buffer.specs.Buffer.{at}
use Rattle.ring.specs.declared.State.TheVariants.{DataTransferNoData}
use Rattle.wrapper.specs.declared.DataDirection.TheVariants.{Out}
use Rattle.wrapper.specs.declared.status.CommandStatus.TheVariants.{Failed}
use Rattle.device.specs.Device.{told}
use Rattle.device.specs.Create.{fixed}
use Rattle.recordbytes.specs.Layout as field
use Rattle.recordbytes.specs.Record.{is_known, status_at, device_at, store, store_status, store_device, new_record}

-- In this record every byte is its own place, except the numbers of the state, the `flag`, the status and the direction.
abbrev numbered : ℕ → ℕ → ℕ → ℕ → List ℕ
numbered state flag status direction =
    0 ∷ 1 ∷ state ∷ flag ∷ 4 ∷ 5 ∷ 6 ∷ 7 ∷ 8 ∷ 9 ∷ 10 ∷ 11 ∷ 12 ∷ 13 ∷ 14 ∷ 15 ∷ 16 ∷ 17 ∷ 18 ∷ 19 ∷ 20 ∷ 21 ∷ 22 ∷ 23
    ∷ status ∷ direction ∷ 26 ∷ 27 ∷ 28 ∷ 29 ∷ 30 ∷ 31 ∷ 32 ∷ 33 ∷ 34 ∷ 35 ∷ 36 ∷ 37 ∷ 38 ∷ 39 ∷ 40 ∷ 41 ∷ 42 ∷ 43
    ∷ 44 ∷ 45 ∷ 46 ∷ 47 ∷ 48 ∷ 49 ∷ 50 ∷ 51 ∷ 52 ∷ 53 ∷ 54 ∷ 55 ∷ []

-- These are the cases.
unfoldable pub table : List Case
table =
    -- Each field starts where the one before it ends, without a gap.
    case (tile 0 field.record_table 56) true
    -- These are the bytes of a new device with P 64, max LUN 3 and a buffer of 512 bytes.
    ∷ case (new_record (fixed 64 3 512))
    (64 ∷ 3 ∷ 0 ∷ 0 ∷ 0 ∷ 2 ∷ 0 ∷ 0 ∷ 0 ∷ 0 ∷ 0 ∷ 0 ∷ 0 ∷ 0 ∷ 0 ∷ 0 ∷ 0 ∷ 0 ∷ 0 ∷ 0 ∷ 0 ∷ 0 ∷ 0 ∷ 0 ∷ 0 ∷ 0
    ∷ 0 ∷ 0 ∷ 0 ∷ 0 ∷ 0 ∷ 0 ∷ 0 ∷ 0 ∷ 0 ∷ 0 ∷ 0 ∷ 0 ∷ 0 ∷ 0 ∷ 0 ∷ 0 ∷ 0 ∷ 0 ∷ 0 ∷ 0 ∷ 0 ∷ 0 ∷ 0 ∷ 0 ∷ 0 ∷ 0 ∷ 0 ∷ 0 ∷ 0 ∷ 0 ∷ [])
    -- Each field is read from a record that has another number in every field.
    ∷ case (device_at (numbered 2 1 1 2)) (record {
      fixed = fixed 0 1 0x07060504;
      state = DataTransferNoData;
      marks = at 0x0B0A0908 0x0F0E0D0C;
      wrapper = record {
        tag = 0x1F1E1D1C;
        length = 0x23222120;
        direction = Out;
        lun = 26;
        blocklength = 27;
        block = 36 ∷ 37 ∷ 38 ∷ 39 ∷ 40 ∷ 41 ∷ 42 ∷ 43 ∷ 44 ∷ 45 ∷ 46 ∷ 47 ∷ 48 ∷ 49 ∷ 50 ∷ 51 ∷ [];
      };
      status = Some (told Failed (record { 0 = 0x17161514 }));
      left = record { 0 = 0x13121110 };
      putin = record { 0 = 0x37363534 };
    })
    -- The same device is stored over a new one.
    ∷ case (store_device (device_at (numbered 2 1 1 2)) (new_record (fixed 0 1 0x07060504))) (numbered 2 1 1 2)
    -- The highest number of each is known; one above it is not; nor is a record with a byte less, or one of 52 bytes, as it was before
    -- request 7 of 02.
    ∷ case (is_known (numbered 8 1 2 2)) true
    ∷ case (is_known (numbered 9 1 2 2)) false
    ∷ case (is_known (numbered 8 2 2 2)) false
    ∷ case (is_known (numbered 8 1 3 2)) false
    ∷ case (is_known (numbered 8 1 2 3)) false
    ∷ case (is_known (take 55 (numbered 8 1 2 2))) false
    ∷ case (is_known (take 52 (numbered 8 1 2 2))) false
    -- Without a status only the flag changes.
    ∷ case (store_status None (numbered 2 1 1 2)) (numbered 2 0 1 2)
    ∷ case (status_at (numbered 2 0 1 2)) None
    -- A number that the field holds already changes nothing; another changes its four bytes.
    ∷ case (store field.tag 0x1F1E1D1C (numbered 2 1 1 2)) (numbered 2 1 1 2)
    ∷ case (store field.left 0x04030201 (new_record (fixed 64 3 512)))
    (64 ∷ 3 ∷ 0 ∷ 0 ∷ 0 ∷ 2 ∷ 0 ∷ 0 ∷ 0 ∷ 0 ∷ 0 ∷ 0 ∷ 0 ∷ 0 ∷ 0 ∷ 0 ∷ 1 ∷ 2 ∷ 3 ∷ 4 ∷ replicate 36 0)
    ∷ []

-- What a record of bytes holds is in bounds, and so every whole, narrow device can be stored and read back.
--     narrow_read      the device that a record holds is narrow
--     storable_is      a whole, narrow device fits into a record
--     stored_back      stored into a record of its own, it is read back, and the bytes are still a record
--     created_holds    the record of a new device that creation accepts holds it
-- Assumes nothing.
use mathlib.Core.Path.{◌≡◌, sym}
use mathlib.Core.Bool.{true}
use mathlib.Core.List.{List}
use Prim.Native.Nat.{ℕ, ◌^◌, ◌<◌}
use native.Mathlib.Omega.{arith}
use lib.Dec.{eqb}
use lib.ListN.{length}
use Rattle.std.specs.Prelude.{Option, Some}
use Rattle.fields.specs.Field.{bytes_at, get}
use Rattle.fields.proofs.Bools.{of_picked}
use Rattle.fields.proofs.Field.{get_below}
use Rattle.fields.proofs.Seq.{length_part}
use Rattle.device.specs.declared.Fixed.{Fixed}
use Rattle.device.specs.declared.Told.{Told}
use Rattle.device.specs.declared.Device.{Device}
use Rattle.device.specs.Device.{numbers_of}
use Rattle.device.specs.Create.{creation_checks, new_device}
use Rattle.device.specs.Broken.{Whole}
use Rattle.device.proofs.Wholly.{packet_below, lun_below, size_below}
use Rattle.device.proofs.Narrow.{Narrow, residue_absent, residue_present}
use Rattle.recordbytes.specs.Layout as field
use Rattle.recordbytes.specs.Record.{is_known, status_by, status_at, wrapper_at, device_at, store_device, new_record}
use Rattle.recordbytes.specs.Inner.Storable.{Storable}
use Rattle.recordbytes.proofs.Stored.{Known, is_known_lem}
use Rattle.recordbytes.proofs.RoundTrip.{back, back_known, new_holds}

-- ---- what is read

residue_read : (r : List ℕ) (t : Told) → status_at r ≡ Some t → t.residue.0 < 2 ^ 32
unfolding status_at status_by
residue_read r =
    of_picked (λ (s : Option Told). (t : Told) → s ≡ Some t → t.residue.0 < 2 ^ 32) (eqb (get field.present r) 0)
    (λ _. residue_absent) (λ _. residue_present _ (get_below field.residue r))

pub narrow_read : (r : List ℕ) → length r ≡ field.record_size → Narrow (device_at r)
unfolding device_at wrapper_at bytes_at
narrow_read r long = record {
  tag = get_below field.tag r;
  declared = get_below field.declared r;
  block = length_part 36 16 r (omega (arith, long));
  left = get_below field.left r;
  residue = residue_read r;
  putin = get_below field.put_in r;
}

-- ---- what is stored

pub storable_is : (d : Device) (len : ℕ) → Whole (numbers_of d) len → Narrow d → Storable d
storable_is d len w n =
    let size : d.fixed.size < 2 ^ 32 = size_below d.fixed w.created in
    record {
      read = omega (arith, w.order, w.within, size);
      write = omega (arith, w.within, size);
      left = n.left;
      putin = n.putin;
      residue = n.residue;
      tag = n.tag;
      declared = n.declared;
      lun = omega (arith, w.lun);
      blocklength = omega (arith, w.block);
      block = n.block;
    }

pub stored_back : (d : Device) (r : List ℕ) (len : ℕ) → is_known r ≡ true → Whole (numbers_of d) len → Narrow d → d.fixed ≡ (device_at r).fixed → (device_at (store_device d r) ≡ d) × (is_known (store_device d r) ≡ true)
unfolding device_at
stored_back d r len known w n e =
    let k : Known r = is_known_lem r known in
    (back d r (storable_is d len w n) (record { long = k.long; fixed = sym e }), back_known d r k.long n.block (λ _. k.status))

pub created_holds : (f : Fixed) → creation_checks f ≡ 0 → device_at (new_record f) ≡ new_device f
created_holds f e = new_holds f (record { packetsize = packet_below f e; maxlun = lun_below f e; size = size_below f e })

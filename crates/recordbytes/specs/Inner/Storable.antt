-- Which devices fit into a record, and which records belong to a device. Assumes nothing: these are definitions.
use Rattle.std.specs.Prelude.{◌≡◌, List, ℕ, ◌<◌, ◌^◌, length, Some}
use Rattle.device.specs.declared.Fixed.{Fixed}
use Rattle.device.specs.declared.Device.{Device}
use Rattle.device.specs.declared.Told.{Told}
use Rattle.recordbytes.specs.Layout as field
use Rattle.recordbytes.specs.Record.{fixed_at}

-- Each number of the device `d` that storing writes fits into its field of one byte or four, and the command block has its 16 bytes.
pub record Storable (d : Device) : Type 0 where
  pub read : d.marks.read < 2 ^ 32
  pub write : d.marks.write < 2 ^ 32
  pub left : d.left.0 < 2 ^ 32
  pub putin : d.putin.0 < 2 ^ 32
  pub residue : (t : Told) → d.status ≡ Some t → t.residue.0 < 2 ^ 32
  pub tag : d.wrapper.tag < 2 ^ 32
  pub declared : d.wrapper.length < 2 ^ 32
  pub lun : d.wrapper.lun < 256
  pub blocklength : d.wrapper.blocklength < 256
  pub block : length d.wrapper.block ≡ 16

-- The bytes `r` are 56, and hold in their fields what creation fixed for the device `d`: only creation writes those fields.
pub record RecordOf (d : Device) (r : List ℕ) : Type 0 where
  pub long : length r ≡ field.record_size
  pub fixed : fixed_at r ≡ d.fixed

-- What creation fixes, `f`, fits into its fields.
pub record StorableFixed (f : Fixed) : Type 0 where
  pub packetsize : f.packetsize < 256
  pub maxlun : f.maxlun < 256
  pub size : f.size < 2 ^ 32

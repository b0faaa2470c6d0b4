-- Document 01, "The standard's verdict (added)", and document 02, request 3: BOT 6.2 on one received message.
-- Assumes nothing: these are definitions.
use Rattle.std.specs.Prelude.{◌≡◌, ℕ, ◌≤◌, Bool, cond, ◌&&◌, List, eqb, leb}
use Rattle.fields.specs.Field.{Bits, bits, get, get_bits, put_bits}
use Rattle.wrapper.specs.Wrapper.{obsolete_flag, reserved_flags, b_cbw_lun, reserved_beside_lun, b_cbw_cb_length, Valid, is_signed, is_block_length}
use Rattle.wrapper.specs.declared.verdict.Verdict.{Verdict}
use Rattle.wrapper.specs.declared.verdict.Verdict.TheVariants.{Invalid, ValidOnly, Meaningful}

-- Request 3: "Meaningful now also needs bits 0 to 6 of byte 12 and bits 4 to 7 of byte 13 to be zero." `is_clear` tests this of the
-- message `m`.
abbrev pub bits0_to6_of_byte12 : Bits
bits0_to6_of_byte12 = bits 12 0 7

abbrev pub bits4_to7_of_byte13 : Bits
bits4_to7_of_byte13 = bits 13 4 4

unfoldable pub is_clear : List ℕ → Bool
is_clear m = eqb (get_bits bits0_to6_of_byte12 m) 0 && eqb (get_bits bits4_to7_of_byte13 m) 0

-- 01: "meaningful if also the LUN's low four bits are at most max LUN and block length is 1 to 16"; and `is_clear`, by request 3. `max_lun`
-- is max LUN, and `m` is a message that has 31 bytes and the signature.
unfoldable pub is_meaningful : ℕ → List ℕ → Bool
is_meaningful max_lun m = is_clear m && leb (get_bits b_cbw_lun m) max_lun && is_block_length (get b_cbw_cb_length m)

-- This is the verdict on the message `m` for a device with the max LUN `max_lun`:
-- "invalid unless 31 bytes with the signature; meaningful if also ..; otherwise valid only".
unfoldable pub verdict_of : ℕ → List ℕ → Verdict
verdict_of max_lun m = cond (is_signed m) (cond (is_meaningful max_lun m) Meaningful ValidOnly) Invalid

-- These are our numbers for the three verdicts, since 01 gives none.
abbrev pub verdict_number : Verdict → ℕ
verdict_number Invalid = 0
verdict_number ValidOnly = 1
verdict_number Meaningful = 2

-- This is BOT 6.2.2, "Meaningful CBW", over the fields of BOT's own table: the message `m` has 31 bytes, the signature and a legal block
-- length (`Valid`), its LUN is one that the device has, and no reserved bit is set "(we count obsolete bit 6)". Bits 5 to 7 of byte 14 are
-- reserved too; they are 0 where that byte is 1 to 16.
pub record MeaningfulCBW (max_lun : ℕ) (m : List ℕ) : Type 0 where
  pub valid : Valid m
  pub lun : get_bits b_cbw_lun m ≤ max_lun
  pub flags : get_bits reserved_flags m ≡ 0
  pub obsolete : get_bits obsolete_flag m ≡ 0
  pub beside : get_bits reserved_beside_lun m ≡ 0

-- This is the message `m` with the bits that `is_clear` tests set to 0.
unfoldable pub cleared : List ℕ → List ℕ
cleared m = put_bits bits0_to6_of_byte12 0 (put_bits bits4_to7_of_byte13 0 m)

-- Document 01, 'Wrapper (31 bytes)': BOT 1.0, table 5.1, Command Block Wrapper. Assumes nothing: these are definitions.
use Rattle.std.specs.Prelude.{◌≡◌, ℕ, ◌≤◌, Bool, cond, ◌&&◌, List, [], ◌∷◌, eqb, leb, length, replicate, Option, Some, None}
use Rattle.fields.specs.Field.{Field, Bits, little_endian, one_byte, bits, bytes_at, get, get_bits}
use Rattle.wrapper.specs.declared.DataDirection.{DataDirection}
use Rattle.wrapper.specs.declared.DataDirection.TheVariants.{Out, In, NotExpected}
use Rattle.wrapper.specs.declared.Wrapper.{Wrapper}

-- These are the fields of BOT's table by their names there, in snake case, each with its first byte and its number
-- of bytes. All numbers in BOT are little-endian.
abbrev pub d_cbw_signature : Field
d_cbw_signature = little_endian 0 4

-- 01 says of it: "4 to 7 tag".
abbrev pub d_cbw_tag : Field
d_cbw_tag = little_endian 4 4

-- 01 says of it: "8 to 11 length L, little-endian".
abbrev pub d_cbw_data_transfer_length : Field
d_cbw_data_transfer_length = little_endian 8 4

-- 01 says of it: "12 flags".
abbrev pub bm_cbw_flags : Field
bm_cbw_flags = one_byte 12

-- Bit 7 of the flags gives the direction.
abbrev pub direction_bit : Bits
direction_bit = bits 12 7 1

-- BOT calls bit 6 of the flags obsolete, and reserves bits 0 to 5. The host has to set all of them to 0.
abbrev pub obsolete_flag : Bits
obsolete_flag = bits 12 6 1

abbrev pub reserved_flags : Bits
reserved_flags = bits 12 0 6

-- 01 says of it: "13 LUN, low four bits". BOT reserves the other four.
abbrev pub b_cbw_lun : Bits
b_cbw_lun = bits 13 0 4

abbrev pub reserved_beside_lun : Bits
reserved_beside_lun = bits 13 4 4

-- For the block length BOT has bits 0 to 4 of this byte and reserves the others. 01 and the Rust look at the whole
-- byte, which is above 16 if a reserved bit is set.
abbrev pub b_cbw_cb_length : Field
b_cbw_cb_length = one_byte 14

-- 01 says of it: "15 to 30 the command block". It is not a number: only its bytes are used, and its order never counts.
abbrev pub cbwcb : Field
cbwcb = little_endian 15 16

-- This is BOT's whole table, in order. The byte at 13 stands here as a whole; `b_cbw_lun` is a part of it.
abbrev pub wrapper_table : List Field
wrapper_table = d_cbw_signature ∷ d_cbw_tag ∷ d_cbw_data_transfer_length ∷ bm_cbw_flags ∷ one_byte 13 ∷ b_cbw_cb_length ∷ cbwcb ∷ []

-- "0 to 3 are 55 53 42 43": as a little-endian number this is BOT's 43425355h.
abbrev pub wrapper_signature : ℕ
wrapper_signature = 0x43425355

-- This tests whether the message `m` has 31 bytes, and the signature.
unfoldable pub is_signed : List ℕ → Bool
is_signed m = eqb (length m) 31 && eqb (get d_cbw_signature m) wrapper_signature

-- This tests whether `n` is a block length as 01 has it: "14 block length, 1 to 16".
unfoldable pub is_block_length : ℕ → Bool
is_block_length n = leb 1 n && leb n 16

-- "A wrong signature or block length is invalid, all else valid; the demands mean this sense." `Valid` says as a fact, and `is_valid` as a
-- test, that the message `m` has 31 bytes, the signature, and a block length of 1 to 16.
pub record Valid (m : List ℕ) : Type 0 where
  pub whole : length m ≡ 31
  pub signature : get d_cbw_signature m ≡ wrapper_signature
  pub least : 1 ≤ get b_cbw_cb_length m
  pub most : get b_cbw_cb_length m ≤ 16

unfoldable pub is_valid : List ℕ → Bool
is_valid m = is_signed m && is_block_length (get b_cbw_cb_length m)

-- "L = 0 means no data, flags ignored; otherwise flag bit 7 set means to the host." `length` is L, and `to_host` is that bit.
unfoldable pub direction_of_flags : ℕ → ℕ → DataDirection
direction_of_flags length to_host = cond (eqb length 0) NotExpected (cond (eqb to_host 1) In Out)

-- These are our numbers for the directions, for callers in C and Rust: 0 is no data, 1 is to the host, 2 is from the host.
abbrev pub direction_number : DataDirection → ℕ
direction_number Out = 2
direction_number In = 1
direction_number NotExpected = 0

-- This is the direction whose number is `n`. A number above 2 belongs to no direction; for it this gives `Out`.
unfoldable pub direction_of_number : ℕ → DataDirection
direction_of_number n = cond (eqb n 0) NotExpected (cond (eqb n 1) In Out)

-- A valid message `m` says this, field by field.
unfoldable pub wrapper_of : List ℕ → Wrapper
wrapper_of m = record {
  tag = get d_cbw_tag m;
  length = get d_cbw_data_transfer_length m;
  direction = direction_of_flags (get d_cbw_data_transfer_length m) (get_bits direction_bit m);
  lun = get_bits b_cbw_lun m;
  blocklength = get b_cbw_cb_length m;
  block = bytes_at cbwcb m;
}

-- This wrapper stands where there is none: all its numbers are 0, and no data is expected.
unfoldable pub no_wrapper : Wrapper
no_wrapper = record { tag = 0; length = 0; direction = NotExpected; lun = 0; blocklength = 0; block = replicate 16 0 }

-- Parsing any message `m` gives this: if it is valid, all its fields; otherwise none.
unfoldable pub parsed : List ℕ → Option Wrapper
parsed m = cond (is_valid m) (Some (wrapper_of m)) None

-- These are laws of the reserved bits.
--     flag_set, beside_lun_set                  one of them is enough: the message is valid only
--     clear_bytes                               no reserved bit is set exactly if byte 12 is 00h or 80h and byte 13 is at most 0Fh
--     parsed_cleared                            the parser does not see them
--     cleared_meaningful, meaningful_cleared    without them a message is meaningful exactly if it is valid and the device has its LUN
-- Assumes nothing.
use mathlib.Core.Path.{◌≡◌, sym, ap, ◌∙◌}
use mathlib.Core.Bool.{true, false, ◌&&◌, ◌||◌}
use mathlib.Core.List.{List}
use Prim.Native.Nat.{ℕ, ◌+◌, ◌*◌, ◌/◌, ◌%◌, ◌≤◌, ◌<◌}
use native.Mathlib.Nat.{div-one, div-add-mod', mod-lt, mod-eq_of_lt}
use native.Mathlib.Omega.{arith}
use lib.Dec.{eqb, leb, lit<, lit≤}
use lib.ListN.{length, get_or}
use borrow.Author.Tests.{eq-eqb, ne_eqb, eqb-true, eqb-false, leb-true, leb-false}
use borrow.Table.Steps.{cases}
use Rattle.fields.specs.Field.{Field, bits, one_byte, bytes_at, get, get_bits, put_bits}
use Rattle.fields.proofs.Field.{byte_held}
use Rattle.fields.proofs.Bits.{clear_parts, bit_clear, length_put_bits, get_put_bits, bits_below, bits_above, bits_elsewhere, bytes_before_bits, bytes_behind_bits}
use Rattle.wrapper.specs.declared.verdict.Verdict.TheVariants.{ValidOnly, Meaningful}
use Rattle.wrapper.specs.Wrapper.{d_cbw_signature, d_cbw_tag, d_cbw_data_transfer_length, bm_cbw_flags, direction_bit, b_cbw_lun, b_cbw_cb_length, cbwcb, Valid, is_signed, is_valid, wrapper_of, parsed}
use Rattle.wrapper.specs.Verdict.{bits0_to6_of_byte12, bits4_to7_of_byte13, is_clear, is_meaningful, verdict_of, cleared}
use Rattle.wrapper.proofs.Cbw.{is_valid_lem, valid_is}
use Rattle.wrapper.proofs.Judged.{clear_bits, meaningful_cbw, cbw_meaningful}

-- ---- one reserved bit

-- The bit b is 1. If a clear message has 0 there, this message is not clear.
valid_only : (max : ℕ) (m : List ℕ) {b : ℕ} → is_signed m ≡ true → b ≡ 1 → (is_clear m ≡ true → b ≡ 0) → verdict_of max m ≡ ValidOnly
unfolding verdict_of is_meaningful
valid_only max m signed set never = cases (is_clear m) (λ c. absurd (omega (arith, set, never c))) (λ c. rw (signed, c))

pub flag_set : (max : ℕ) (m : List ℕ) (i : ℕ) → is_signed m ≡ true → i ≤ 6 → get_bits (bits 12 i 1) m ≡ 1 → verdict_of max m ≡ ValidOnly
flag_set max m i signed most set = valid_only max m signed set (λ c. bit_clear m bits0_to6_of_byte12 i (clear_bits m c).0 (omega arith) (omega arith))

pub beside_lun_set : (max : ℕ) (m : List ℕ) (i : ℕ) → is_signed m ≡ true → 4 ≤ i → i ≤ 7 → get_bits (bits 13 i 1) m ≡ 1 → verdict_of max m ≡ ValidOnly
beside_lun_set max m i signed least most set = valid_only max m signed set (λ c. bit_clear m bits4_to7_of_byte13 i (clear_bits m c).1 (omega arith) (omega arith))

-- ---- the two bytes as they are seen in a trace

module _ (b : ℕ) (byte : b < 256) where
  flags_byte : eqb (b / 1 % 128) 0 ≡ eqb b 0x00 || eqb b 0x80
  flags_byte = rw (div-one b) (cases (eqb (b % 128) 0) (λ e. rw e (clear (eqb-true (b % 128) 0 e))) (λ e. rw e (unclear (eqb-false (b % 128) 0 e))))
    where
      parts : b / 128 * 128 + b % 128 ≡ b
      parts = div-add-mod' b 128

      clear : b % 128 ≡ 0 → true ≡ eqb b 0x00 || eqb b 0x80
      clear e = cases (eqb b 0) (λ z. rw z) (λ z. rw (z, eq-eqb b 128 (omega (arith, e, parts, byte, eqb-false b 0 z))))

      unclear : (b % 128 ≡ 0 → ⊥) → false ≡ eqb b 0x00 || eqb b 0x80
      unclear n = rw (ne_eqb b 0 (λ z. n (ap (λ (x : ℕ). x % 128) z)), ne_eqb b 128 (λ z. n (ap (λ (x : ℕ). x % 128) z)))

  lun_byte : eqb (b / 16 % 16) 0 ≡ leb b 0x0F
  lun_byte =
      rw (mod-eq_of_lt {n = b / 16} {m = 16} (omega (arith, parts, byte)))
      (cases (leb b 15) (λ l. rw l (eq-eqb (b / 16) 0 (omega (arith, parts, leb-true b 15 l))))
      (λ l. rw l (ne_eqb (b / 16) 0 (λ z. absurd (omega (arith, parts, rest, z, leb-false b 15 l))))))
    where
      parts : b / 16 * 16 + b % 16 ≡ b
      parts = div-add-mod' b 16

      rest : b % 16 < 16
      rest = mod-lt b (lit< tt)

-- A list may hold any numbers. What lies above a byte does not count for its bits, nor for what it stands for.
flags_held : (b : ℕ) → b / 1 % 128 ≡ b % 256 / 1 % 128
flags_held b = rw (div-one b, div-one (b % 256)) (omega arith)

lun_held : (b : ℕ) → b / 16 % 16 ≡ b % 256 / 16 % 16
lun_held b = omega (arith, div-add-mod' b 256)

pub clear_bytes : (m : List ℕ) → length m ≡ 31 → is_clear m ≡ (eqb (get bm_cbw_flags m) 0x00 || eqb (get bm_cbw_flags m) 0x80) && leb (get (one_byte 13) m) 0x0F
unfolding is_clear get_bits
clear_bytes m whole =
    let held : (b : ℕ) → b % 256 < 256 = λ b. mod-lt b (lit< tt) in
    rw (flags_held (get_or m 12 0), lun_held (get_or m 13 0), flags_byte _ (held (get_or m 12 0)), lun_byte _ (held (get_or m 13 0)), byte_held m 12 (omega (arith, whole)), byte_held m 13 (omega (arith, whole)))

-- ---- without the reserved bits

module _ (m : List ℕ) where
  length_cleared : length (cleared m) ≡ length m
  unfolding cleared
  length_cleared = length_put_bits bits0_to6_of_byte12 0 _ ∙ length_put_bits bits4_to7_of_byte13 0 m

  bytes_cleared : (g : Field) → 13 < g.start → bytes_at g (cleared m) ≡ bytes_at g m
  unfolding cleared
  bytes_cleared g h = bytes_behind_bits bits0_to6_of_byte12 0 _ g (omega arith) ∙ bytes_behind_bits bits4_to7_of_byte13 0 m g h

  behind_cleared : (g : Field) → 13 < g.start → get g (cleared m) ≡ get g m
  unfolding get
  behind_cleared g h = rw (bytes_cleared g h)

  before_cleared : (g : Field) → g.start + g.width ≤ 12 → get g (cleared m) ≡ get g m
  unfolding get cleared
  before_cleared g h = rw (bytes_before_bits bits0_to6_of_byte12 0 (put_bits bits4_to7_of_byte13 0 m) g h, bytes_before_bits bits4_to7_of_byte13 0 m g (omega arith))

  valid_cleared : is_valid (cleared m) ≡ is_valid m
  unfolding is_valid is_signed
  valid_cleared = rw (length_cleared, before_cleared d_cbw_signature (lit≤ tt), behind_cleared b_cbw_cb_length (lit< tt))

  module _ (whole : length m ≡ 31) where
    direction_cleared : get_bits direction_bit (cleared m) ≡ get_bits direction_bit m
    unfolding cleared
    direction_cleared =
        bits_above bits0_to6_of_byte12 0 _ (omega (arith, length_put_bits bits4_to7_of_byte13 0 m, whole)) 7 1 (lit≤ tt)
        ∙ bits_elsewhere bits4_to7_of_byte13 0 m direction_bit (λ e. absurd (omega (arith, e)))

    lun_cleared : get_bits b_cbw_lun (cleared m) ≡ get_bits b_cbw_lun m
    unfolding cleared
    lun_cleared =
        bits_elsewhere bits0_to6_of_byte12 0 _ b_cbw_lun (λ e. absurd (omega (arith, e))) ∙ bits_below bits4_to7_of_byte13 0 m (omega (arith, whole)) 0 4 (lit≤ tt)

    flags_cleared : get_bits bits0_to6_of_byte12 (cleared m) ≡ 0
    unfolding cleared
    flags_cleared = get_put_bits bits0_to6_of_byte12 0 _ (omega (arith, length_put_bits bits4_to7_of_byte13 0 m, whole))

    beside_cleared : get_bits bits4_to7_of_byte13 (cleared m) ≡ 0
    unfolding cleared
    beside_cleared = bits_elsewhere bits0_to6_of_byte12 0 _ bits4_to7_of_byte13 (λ e. absurd (omega (arith, e))) ∙ get_put_bits bits4_to7_of_byte13 0 m (omega (arith, whole))

    wrapper_cleared : wrapper_of (cleared m) ≡ wrapper_of m
    unfolding wrapper_of
    wrapper_cleared =
        rw (before_cleared d_cbw_tag (lit≤ tt), before_cleared d_cbw_data_transfer_length (lit≤ tt), direction_cleared, lun_cleared, behind_cleared b_cbw_cb_length (lit< tt), bytes_cleared cbwcb (lit< tt))

pub parsed_cleared : (m : List ℕ) → parsed (cleared m) ≡ parsed m
unfolding parsed
parsed_cleared m =
    rw (valid_cleared m) (cases (is_valid m) (λ v. rw (v, wrapper_cleared m (is_valid_lem m v).whole)) (λ v. rw v))

pub cleared_meaningful : (max : ℕ) (m : List ℕ) → verdict_of max (cleared m) ≡ Meaningful → Valid m × (get_bits b_cbw_lun m ≤ max)
cleared_meaningful max m e =
    let cbw = meaningful_cbw max (cleared m) e in
    let valid = is_valid_lem m (sym (valid_cleared m) ∙ valid_is (cleared m) cbw.valid) in
    (valid, rw (lun_cleared m valid.whole) at cbw.lun)

pub meaningful_cleared : (max : ℕ) (m : List ℕ) → Valid m → get_bits b_cbw_lun m ≤ max → verdict_of max (cleared m) ≡ Meaningful
meaningful_cleared max m valid lun =
    let flags = clear_parts (cleared m) 12 0 6 1 (flags_cleared m valid.whole) in
    cbw_meaningful max (cleared m) (record {
      valid = is_valid_lem (cleared m) (valid_cleared m ∙ valid_is m valid);
      lun = rw (lun_cleared m valid.whole) lun;
      flags = flags.1;
      obsolete = flags.0;
      beside = beside_cleared m valid.whole;
    })

-- These are laws of the verdict.
--     meaningful_cbw, cbw_meaningful    a message is meaningful exactly if BOT calls it so
-- Assumes nothing.
use mathlib.Core.Path.{◌≡◌, refl, sym, ap, ◌∙◌}
use mathlib.Core.Bool.{Bool, true, false, cond, ◌&&◌}
use mathlib.Core.List.{List}
use Prim.Native.Nat.{ℕ}
use lib.Dec.{eqb, leb}
use borrow.Author.Tests.{eq-eqb, eqb-true, leb-true, le-leb}
use Rattle.fields.specs.Field.{get, get_bits}
use Rattle.fields.proofs.Bools.{and_left, and_right}
use Rattle.fields.proofs.Bits.{bits_split, clear_parts}
use Rattle.wrapper.specs.declared.verdict.Verdict.{Verdict}
use Rattle.wrapper.specs.declared.verdict.Verdict.TheVariants.{Invalid, ValidOnly, Meaningful}
use Rattle.wrapper.specs.Wrapper.{obsolete_flag, reserved_flags, b_cbw_lun, reserved_beside_lun, b_cbw_cb_length, is_signed, is_block_length, is_valid}
use Rattle.wrapper.specs.Verdict.{bits0_to6_of_byte12, bits4_to7_of_byte13, is_clear, is_meaningful, verdict_of, MeaningfulCBW}
use Rattle.wrapper.proofs.Cbw.{is_valid_lem, valid_is}

-- ---- BOT's rule

-- A message that passes the test of the reserved bits has 0 there. It passes if BOT's own reserved fields hold 0.
pub clear_bits : (m : List ℕ) → is_clear m ≡ true → (get_bits bits0_to6_of_byte12 m ≡ 0) × (get_bits bits4_to7_of_byte13 m ≡ 0)
unfolding is_clear
clear_bits m e =
    let flags = eqb (get_bits bits0_to6_of_byte12 m) 0 in
    let beside = eqb (get_bits bits4_to7_of_byte13 m) 0 in
    (eqb-true _ _ (and_left flags beside e), eqb-true _ _ (and_right flags beside e))

clear_fields : (m : List ℕ) → get_bits reserved_flags m ≡ 0 → get_bits obsolete_flag m ≡ 0 → get_bits reserved_beside_lun m ≡ 0 → is_clear m ≡ true
unfolding is_clear
clear_fields m ef eo eb =
    let flags : get_bits bits0_to6_of_byte12 m ≡ 0 = bits_split m 12 0 6 1 ∙ rw (ef, eo) in
    rw (eq-eqb _ _ flags, eq-eqb _ _ eb)

pub cbw_meaningful : (max : ℕ) (m : List ℕ) → MeaningfulCBW max m → verdict_of max m ≡ Meaningful
unfolding verdict_of is_meaningful is_valid
cbw_meaningful max m h =
    let valid = valid_is m h.valid in
    let signed = and_left (is_signed m) (is_block_length (get b_cbw_cb_length m)) valid in
    let fits = and_right (is_signed m) (is_block_length (get b_cbw_cb_length m)) valid in
    rw (signed, clear_fields m h.flags h.obsolete h.beside, le-leb _ _ h.lun, fits)

-- The two tests are read off a verdict.
abbrev says_meaningful : Verdict → Bool
says_meaningful Invalid = false
says_meaningful ValidOnly = false
says_meaningful Meaningful = true

both : (s t : Bool) → says_meaningful (cond s (cond t Meaningful ValidOnly) Invalid) ≡ s && t
both true true = refl
both true false = refl
both false t = refl

pub meaningful_cbw : (max : ℕ) (m : List ℕ) → verdict_of max m ≡ Meaningful → MeaningfulCBW max m
unfolding verdict_of is_meaningful is_valid
meaningful_cbw max m e =
    let in-range = leb (get_bits b_cbw_lun m) max in
    let fits = is_block_length (get b_cbw_cb_length m) in
    let told = sym (both (is_signed m) (is_meaningful max m)) ∙ ap says_meaningful e in
    let meant = and_right (is_signed m) (is_meaningful max m) told in
    let front = and_left (is_clear m && in-range) fits meant in
    let clear = clear_bits m (and_left (is_clear m) in-range front) in
    let parts = clear_parts m 12 0 6 1 clear.0 in
    record {
      valid = is_valid_lem m (rw (and_left (is_signed m) (is_meaningful max m) told, and_right (is_clear m && in-range) fits meant));
      lun = leb-true _ _ (and_right (is_clear m) in-range front);
      flags = parts.1;
      obsolete = parts.0;
      beside = clear.1;
    }

-- These are laws of a field of bits: one for each fact, at every place and width.
--     bits_split                                a field is two fields side by side
--     clear_parts, bit_clear                    if a field holds 0, so do its parts and each of its bits
--     length_put_bits                           a message keeps its length
--     get_put_bits                              what was written is read
--     bits_below, bits_above, bits_elsewhere    other bits keep their values: below and above in the same byte, and in another byte
--     bytes_before_bits, bytes_behind_bits      so do the bytes before and after
--     shifted_middle, shifted_byte, shifts_fit, bits_stored    shifts within eight bits write a field
-- Assumes nothing.
use mathlib.Core.Path.{◌≡◌, refl, sym, ap, ◌∙◌, subst}
use mathlib.Core.Logic.{◌≢◌}
use mathlib.Core.List.{List}
use Prim.Native.Nat.{ℕ, zero, suc, ◌+◌, ◌-◌, ◌*◌, ◌^◌, ◌/◌, ◌%◌, ◌≤◌, ◌<◌}
use native.Mathlib.Nat.{mod-lt, div-lt_iff_lt-mul, lt_of_lt_of_le}
use native.Mathlib.Omega.{arith}
use lib.Pow.{pow_pos, pow-add, pow_mono, shl_exact, shr-shr, shr_lt, high, low, field, mod-pow-add, mod-mod-pow}
use lib.ListN.{length, take, drop, get_or, set, length-set}
use lib.Seq.{get_or-set_same, get_or-set_other, take-set-le, drop-set-lt, drop-set-add}
use Rattle.fields.specs.Field.{Field, Bits, bits, bytes_at, get_bits, with_bits, put_bits}
use Rattle.fields.proofs.Field.{shifted_one}

-- ---- one field and its parts

-- The lower part has `a` bits, and the upper part has `b`.
pub bits_split : (m : List ℕ) (at l a b : ℕ) → get_bits (bits at l (b + a)) m ≡ get_bits (bits at (l + a) b) m * 2 ^ a + get_bits (bits at l a) m
unfolding get_bits
bits_split m at l a b =
    let n = get_or m at 0 in
    mod-pow-add (n / 2 ^ l) b a ∙ ap (λ (x : ℕ). x % 2 ^ b * 2 ^ a + n / 2 ^ l % 2 ^ a) (shr-shr n l a)

-- Two numbers are 0 if their sum is, though one of them counts p times.
no_sum : (x p y : ℕ) → 0 < p → x * p + y ≡ 0 → (x ≡ 0) × (y ≡ 0)
no_sum zero p y h e = (refl, omega arith)
no_sum (suc x) p y h e = absurd (omega (arith, e))

pub clear_parts : (m : List ℕ) (at l a b : ℕ) → get_bits (bits at l (b + a)) m ≡ 0 → (get_bits (bits at (l + a) b) m ≡ 0) × (get_bits (bits at l a) m ≡ 0)
clear_parts m at l a b e = no_sum _ (2 ^ a) _ (pow_pos a) (sym (bits_split m at l a b) ∙ e)

pub bit_clear : (m : List ℕ) (f : Bits) (i : ℕ) → get_bits f m ≡ 0 → f.low ≤ i → i < f.low + f.width → get_bits (bits f.byte i 1) m ≡ 0
bit_clear m f i e least most =
    let below = i - f.low in
    let behind = f.width - suc below in
    let upper = (clear_parts m f.byte f.low below (behind + 1) (ap (λ (w : ℕ). get_bits (bits f.byte f.low w) m) (omega arith) ∙ e)).0 in
    ap (λ (l : ℕ). get_bits (bits f.byte l 1) m) (omega arith) ∙ (clear_parts m f.byte (f.low + below) 1 behind upper).1

-- ---- a field is written

-- A field reads the same in two bytes that have the same bits up to its end, or from its lowest bit on.
same_low : (x y l w k : ℕ) → l + w ≤ k → x % 2 ^ k ≡ y % 2 ^ k → x / 2 ^ l % 2 ^ w ≡ y / 2 ^ l % 2 ^ w
same_low x y l w k h e =
    sym (field x w l) ∙ ap (λ (n : ℕ). n / 2 ^ l) (sym (shorter x) ∙ ap (λ (n : ℕ). n % 2 ^ (w + l)) e ∙ shorter y) ∙ field y w l
  where
    shorter : (n : ℕ) → n % 2 ^ k % 2 ^ (w + l) ≡ n % 2 ^ (w + l)
    shorter n = ap (λ (j : ℕ). n % 2 ^ j % 2 ^ (w + l)) (omega arith) ∙ mod-mod-pow n (k - (w + l)) (w + l)

same_high : (x y l k : ℕ) → k ≤ l → x / 2 ^ k ≡ y / 2 ^ k → x / 2 ^ l ≡ y / 2 ^ l
same_high x y l k h e = sym (twice x) ∙ ap (λ (n : ℕ). n / 2 ^ (l - k)) e ∙ twice y
  where
    twice : (n : ℕ) → n / 2 ^ k / 2 ^ (l - k) ≡ n / 2 ^ l
    twice n = shr-shr n k (l - k) ∙ ap (λ (j : ℕ). n / 2 ^ j) (omega arith)

module _ (f : Bits) (n b : ℕ) where
  -- The byte without the bits below the field.
  without_low : with_bits f n b / 2 ^ f.low ≡ b / 2 ^ (f.low + f.width) * 2 ^ f.width + n % 2 ^ f.width
  unfolding with_bits
  without_low = high _ f.low (mod-lt b (pow_pos f.low))

  written_field : with_bits f n b / 2 ^ f.low % 2 ^ f.width ≡ n % 2 ^ f.width
  written_field = ap (λ (x : ℕ). x % 2 ^ f.width) without_low ∙ low _ f.width (mod-lt n (pow_pos f.width))

  written_low : with_bits f n b % 2 ^ f.low ≡ b % 2 ^ f.low
  unfolding with_bits
  written_low = low _ f.low (mod-lt b (pow_pos f.low))

  written_high : with_bits f n b / 2 ^ (f.low + f.width) ≡ b / 2 ^ (f.low + f.width)
  written_high =
      sym (shr-shr _ f.low f.width) ∙ ap (λ (x : ℕ). x / 2 ^ f.width) without_low ∙ high _ f.width (mod-lt n (pow_pos f.width))

module _ (f : Bits) (n : ℕ) (m : List ℕ) where
  pub length_put_bits : length (put_bits f n m) ≡ length m
  unfolding put_bits
  length_put_bits = length-set m f.byte _

  pub bits_elsewhere : (g : Bits) → g.byte ≢ f.byte → get_bits g (put_bits f n m) ≡ get_bits g m
  unfolding get_bits put_bits
  bits_elsewhere g h = rw (get_or-set_other m f.byte g.byte (with_bits f n (get_or m f.byte 0)) 0 h)

  pub bytes_before_bits : (g : Field) → g.start + g.width ≤ f.byte → bytes_at g (put_bits f n m) ≡ bytes_at g m
  unfolding bytes_at put_bits
  bytes_before_bits g h =
      let b = with_bits f n (get_or m f.byte 0) in
      let k = f.byte - g.start in
      ap (λ (i : ℕ). take g.width (drop g.start (set m i b))) (omega arith)
      ∙ ap (take g.width) (drop-set-add g.start m k b)
      ∙ take-set-le g.width (drop g.start m) k b (omega arith)

  pub bytes_behind_bits : (g : Field) → f.byte < g.start → bytes_at g (put_bits f n m) ≡ bytes_at g m
  unfolding bytes_at put_bits
  bytes_behind_bits g h = ap (take g.width) (drop-set-lt g.start m f.byte (with_bits f n (get_or m f.byte 0)) h)

  module _ (there : f.byte < length m) where
    stored : get_or (put_bits f n m) f.byte 0 ≡ with_bits f n (get_or m f.byte 0)
    unfolding put_bits
    stored = get_or-set_same m f.byte (with_bits f n (get_or m f.byte 0)) 0 there

    pub get_put_bits : get_bits f (put_bits f n m) ≡ n % 2 ^ f.width
    unfolding get_bits
    get_put_bits = rw stored (written_field f n _)

    pub bits_below : (l w : ℕ) → l + w ≤ f.low → get_bits (bits f.byte l w) (put_bits f n m) ≡ get_bits (bits f.byte l w) m
    unfolding get_bits
    bits_below l w h = rw stored (same_low _ _ l w f.low h (written_low f n _))

    pub bits_above : (l w : ℕ) → f.low + f.width ≤ l → get_bits (bits f.byte l w) (put_bits f n m) ≡ get_bits (bits f.byte l w) m
    unfolding get_bits
    bits_above l w h = rw stored (ap (λ (x : ℕ). x % 2 ^ w) (same_high _ _ l (f.low + f.width) h (written_high f n _)))

-- ---- a byte is written by shifts

-- A number below 2^j, with w bits behind it, is below 2^(j + w).
joined_small : (a x j w : ℕ) → a < 2 ^ j → x < 2 ^ w → a * 2 ^ w + x < 2 ^ (j + w)
joined_small a x j w ha hx = subst (λ (k : ℕ). a * 2 ^ w + x < k) (sym (pow-add 2 j w)) ((div-lt_iff_lt-mul (pow_pos w)).0 (rw (high a w hx) ha))

-- This is how the code writes `n` to the bits of a byte `b`: a shift to the left keeps eight bits, and 1 shifted is a power of two. The middle
-- is all but the bits below the field.
abbrev pub shifted_middle : ℕ → ℕ → ℕ → ℕ → ℕ
shifted_middle b n low width = b / 2 ^ low / 2 ^ width * 2 ^ width % 256 + n % (1 * 2 ^ width % 256)

abbrev pub shifted_byte : ℕ → ℕ → ℕ → ℕ → ℕ
shifted_byte b n low width = shifted_middle b n low width * 2 ^ low % 256 + b % (1 * 2 ^ low % 256)

module _ (b n low width : ℕ) (small : b < 256) (in-low : low < 8) (in-width : width < 8) (fits : low + width ≤ 8) where
  abbrev upper : ℕ
  upper = b / 2 ^ low / 2 ^ width

  abbrev middle : ℕ
  middle = upper * 2 ^ width + n % 2 ^ width

  -- No bit is lost by the shifts.
  upper_small : upper < 2 ^ (8 - (low + width))
  upper_small =
      let eight : 8 ≡ 8 - (low + width) + (low + width) = omega arith in
      rw (shr-shr b low width) (shr_lt (8 - (low + width)) (low + width) (subst (λ (k : ℕ). b < 2 ^ k) eight small))

  middle_small : middle < 2 ^ (8 - low)
  middle_small =
      let rest : 8 - (low + width) + width ≡ 8 - low = omega arith in
      subst (λ (k : ℕ). middle < 2 ^ k) rest (joined_small upper (n % 2 ^ width) (8 - (low + width)) width upper_small (mod-lt n (pow_pos width)))

  middle_is : shifted_middle b n low width ≡ middle
  middle_is = rw (shl_exact (8 - (low + width)) width 8 upper_small (omega arith), shifted_one width in-width)

  byte_is : shifted_byte b n low width ≡ middle * 2 ^ low + b % 2 ^ low
  byte_is = rw (middle_is, shl_exact (8 - low) low 8 middle_small (omega arith), shifted_one low in-low)

  pub shifts_fit : (shifted_middle b n low width < 256) × (shifted_byte b n low width < 256)
  shifts_fit =
      let fewer : 8 - low ≤ 8 = omega arith in
      let eight : 8 - low + low ≡ 8 = omega arith in
      let all : middle * 2 ^ low + b % 2 ^ low < 2 ^ (8 - low + low) = joined_small middle (b % 2 ^ low) (8 - low) low middle_small (mod-lt b (pow_pos low)) in
      (rw middle_is (lt_of_lt_of_le middle_small (pow_mono fewer)), rw byte_is (subst (λ (k : ℕ). middle * 2 ^ low + b % 2 ^ low < 2 ^ k) eight all))

  pub written_by_shifts : shifted_byte b n low width ≡ with_bits (bits 0 low width) n b
  unfolding with_bits
  written_by_shifts = byte_is ∙ rw (shr-shr b low width)

pub bits_stored : (m : List ℕ) (at n low width : ℕ) → get_or m at 0 < 256 → low < 8 → width < 8 → low + width ≤ 8 → set m at (shifted_byte (get_or m at 0) n low width) ≡ put_bits (bits at low width) n m
unfolding put_bits with_bits
bits_stored m at n low width small in-low in-width fits = ap (set m at) (written_by_shifts (get_or m at 0) n low width small in-low in-width fits)

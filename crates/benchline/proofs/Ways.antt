-- One law for each way through a function of src/: what it owes follows from the tests on the way and from what the called functions
-- ensure. Assumes nothing.
use mathlib.Core.Path.{◌≡◌, refl, sym, ap, ◌∙◌}
use mathlib.Core.Bool.{true, false}
use mathlib.Core.List.{List, [], ◌∷◌}
use Prim.Native.Nat.{ℕ, zero, suc, ◌+◌, ◌*◌, ◌^◌, ◌/◌, ◌%◌, ◌≤◌, ◌<◌, zero-le}
use native.Mathlib.Omega.{arith}
use borrow.Author.Tests.{eqb-true}
use lib.Dec.{eqb}
use lib.ListN.{length, get_or, set, length-append, length-set}
use Rattle.fields.proofs.Bools.{clash}
use Rattle.fields.proofs.Overlay.{length_overlay, Laid, laid_turn, laid_end}
use Rattle.benchline.specs.declared.Line.{Line}
use Rattle.benchline.specs.Line.{digit, decimal, number_text, numbers_text, stalls_text, fields_text, hex, bytes_text, end_text, line_of}
use Rattle.benchline.specs.Inner.Line.{numbers_length, room_for, Puts}
use Rattle.benchline.proofs.Decimal.{one_digit, more_digits, some_digit}
use Rattle.benchline.proofs.Text.{then_put, fits_behind, then_store, store, length_more, length_number, length_numbers, length_fields, length_hex, length_end, length_line, line_fits}

-- ---- numbers

-- A number of 64 bits is below 10^20.
pub below : (n : ℕ) → n < 2 ^ 64 → n < 10 ^ 20
below n h = omega arith

module _ (d : List ℕ) (at n : ℕ) (h : at + length (decimal n) ≤ length d) where
  pub decimal_first : at < length d
  decimal_first = omega (arith, some_digit n)

  pub decimal_ends : n < 10 → Puts at (decimal n) d (set d at (48 + n)) (at + 1)
  decimal_ends l = rw (one_digit n l) (store d at (48 + n) decimal_first)

  pub decimal_fits : n < 2 ^ 64 → 10 ≤ n → at + length (decimal (n / 10)) ≤ length d
  decimal_fits f l = omega (arith, length_more n (below n f) l)

  pub decimal_last : {m : List ℕ} {e : ℕ} → n < 2 ^ 64 → 10 ≤ n → Puts at (decimal (n / 10)) d m e → e < length m
  decimal_last f l p = omega (arith, fits_behind 1 p (omega (arith, length_more n (below n f) l)))

  pub decimal_goes_on : {m : List ℕ} {e : ℕ} → n < 2 ^ 64 → 10 ≤ n → Puts at (decimal (n / 10)) d m e → Puts at (decimal n) d (set m e (48 + n % 10)) (e + 1)
  decimal_goes_on f l p = rw (more_digits n (below n f) l) (then_store (48 + n % 10) (omega (arith, length_more n (below n f) l)) p)

module _ (d : List ℕ) (at n : ℕ) (h : at + length (number_text n) ≤ length d) where
  pub number_fits : at + length (decimal n) ≤ length d
  number_fits = omega (arith, length_number n)

  pub number_last : {m : List ℕ} {e : ℕ} → Puts at (decimal n) d m e → e < length m
  number_last p = omega (arith, fits_behind 1 p (omega (arith, length_number n)))

  pub number_ends : {m : List ℕ} {e : ℕ} → Puts at (decimal n) d m e → Puts at (number_text n) d (set m e 0x20) (e + 1)
  unfolding number_text
  number_ends p = then_store 0x20 (omega (arith, length_number n)) p

-- Six numbers are put one after the other.
pub numbers_end : (l : Line) (d : List ℕ) {m₁ m₂ m₃ m₄ m₅ m : List ℕ} {e₁ e₂ e₃ e₄ e₅ e : ℕ}
    → Puts 0 (number_text l.index) d m₁ e₁ → Puts e₁ (number_text l.answer) m₁ m₂ e₂ → Puts e₂ (number_text l.state) m₂ m₃ e₃
    → Puts e₃ (number_text l.left) m₃ m₄ e₄ → Puts e₄ (number_text l.unread) m₄ m₅ e₅ → Puts e₅ (number_text l.count) m₅ m e → Puts 0 (numbers_text l) d m e
unfolding numbers_text
numbers_end l d p q r s t u = then_put zero-le (then_put zero-le (then_put zero-le (then_put zero-le (then_put zero-le p q) r) s) t) u

-- ---- bytes

-- What is put is known by another name.
pub spelled : {at e : ℕ} {xs ys d m : List ℕ} → xs ≡ ys → Puts at xs d m e → Puts at ys d m e
spelled q p = rw (← q) p

-- The two digits of a byte.
high_at : (bs : List ℕ) (i : ℕ) → i < length bs → get_or (hex bs) (2 * i) 0 ≡ digit (get_or bs i 0 / 16)
unfolding hex
high_at [] i h = omega arith
high_at (b ∷ bs) zero h = refl
high_at (b ∷ bs) (suc i) h =
    let two : 2 * suc i ≡ suc (suc (2 * i)) = omega arith in
    ap (λ (k : ℕ). get_or (hex (b ∷ bs)) k 0) two ∙ high_at bs i (omega arith)

low_at : (bs : List ℕ) (i : ℕ) → i < length bs → get_or (hex bs) (2 * i + 1) 0 ≡ digit (get_or bs i 0 % 16)
unfolding hex
low_at [] i h = omega arith
low_at (b ∷ bs) zero h = refl
low_at (b ∷ bs) (suc i) h =
    let two : 2 * suc i + 1 ≡ suc (suc (2 * i + 1)) = omega arith in
    ap (λ (k : ℕ). get_or (hex (b ∷ bs)) k 0) two ∙ low_at bs i (omega arith)

-- One turn puts two digits.
pub hex_turn : (d : List ℕ) (at : ℕ) (bs : List ℕ) (i : ℕ) (l : List ℕ) {u v : ℕ} → at + length (hex bs) ≤ length d → i < length bs
    → Laid d at (hex bs) (2 * i) l → u ≡ digit (get_or bs i 0 / 16) → v ≡ digit (get_or bs i 0 % 16)
    → Laid d at (hex bs) (2 * (i + 1)) (set (set l (at + 2 * i) u) (at + 2 * i + 1) v)
hex_turn d at bs i l {u} {v} h k g eu ev =
    let turns : 2 * (i + 1) ≡ 2 * i + 1 + 1 = omega arith in
    let place : at + 2 * i + 1 ≡ at + (2 * i + 1) = omega arith in
    let first = laid_turn d at (hex bs) (2 * i) l u h g (omega (arith, length_hex bs)) (eu ∙ sym (high_at bs i k)) in
    rw (turns, place) (laid_turn d at (hex bs) (2 * i + 1) _ v h first (omega (arith, length_hex bs)) (ev ∙ sym (low_at bs i k)))

pub hex_ends : (d : List ℕ) (at : ℕ) (bs : List ℕ) (i : ℕ) (l : List ℕ) → length bs ≤ i → Laid d at (hex bs) (2 * i) l → Puts at (hex bs) d l (at + 2 * length bs)
hex_ends d at bs i l k g =
    record {
      ends = omega (arith, length_hex bs);
      text = laid_end d at (hex bs) (2 * i) l g (omega (arith, length_hex bs));
    }

module _ (d : List ℕ) (at : ℕ) where
  pub bytes_first : (bs : List ℕ) → at + length (bytes_text bs) ≤ length d → at < length d
  unfolding bytes_text
  bytes_first [] h = omega arith
  bytes_first (b ∷ bs) h = omega (arith, length_hex (b ∷ bs))

  pub bytes_fit : (bs : List ℕ) → false ≡ eqb (length bs) 0 → at + length (bytes_text bs) ≤ length d → at + length (hex bs) ≤ length d
  unfolding bytes_text
  bytes_fit [] n h = absurd (clash (sym n))
  bytes_fit (b ∷ bs) n h = h

  pub none_shown : (bs : List ℕ) {m : List ℕ} {e : ℕ} → true ≡ eqb (length bs) 0 → Puts at (0x2D ∷ []) d m e → Puts at (bytes_text bs) d m e
  unfolding bytes_text
  none_shown [] q p = p
  none_shown (b ∷ bs) q p = absurd (omega (arith, eqb-true (length (b ∷ bs)) 0 (sym q)))

  pub bytes_shown : (bs : List ℕ) {m : List ℕ} {e : ℕ} → false ≡ eqb (length bs) 0 → Puts at (hex bs) d m e → Puts at (bytes_text bs) d m e
  unfolding bytes_text
  bytes_shown [] n p = absurd (clash (sym n))
  bytes_shown (b ∷ bs) n p = p

-- ---- the line

module _ (d : List ℕ) (at n : ℕ) (h : at + length (end_text n) ≤ length d) where
  pub end_first : at < length d
  end_first = omega (arith, length_end n)

  spaced : length (set d at 0x20) ≡ length d
  spaced = length-set d at 0x20

  pub missing_fits : at + 1 + length (decimal n) ≤ length (set d at 0x20)
  missing_fits = omega (arith, length_end n, spaced)

  module _ {m : List ℕ} {e : ℕ} (p : Puts (at + 1) (decimal n) (set d at 0x20) m e) where
    pub end_last : e < length m
    end_last = omega (arith, fits_behind 1 p (omega (arith, length_end n, spaced)))

    pub end_length : length (set m e 0x0A) ≡ length d
    end_length = length-set m e 0x0A ∙ ap length p.text ∙ length_overlay (set d at 0x20) (at + 1) (decimal n) missing_fits ∙ spaced

    pub end_put : Puts at (end_text n) d (set m e 0x0A) (e + 1)
    unfolding end_text
    end_put = then_store 0x0A (omega (arith, length_end n)) (then_put (omega (arith, end_first)) (store d at 0x20 end_first) p)

module _ (l : Line) (d : List ℕ) (h : length (fields_text l) ≤ length d) where
  pub numbers_fit : numbers_length l ≤ length d
  numbers_fit = omega (arith, length_fields l, length_numbers l)

  module _ {m₁ : List ℕ} {e₁ : ℕ} (p : Puts 0 (numbers_text l) d m₁ e₁) where
    after_numbers : e₁ + (length (stalls_text l.stalls) + 1) ≤ length m₁
    after_numbers = fits_behind _ p (omega (arith, length_fields l))

    pub stalls_fit : e₁ + length (stalls_text l.stalls) ≤ length m₁
    stalls_fit = omega (arith, after_numbers)

    module _ {m₂ : List ℕ} {e₂ : ℕ} (q : Puts e₁ (stalls_text l.stalls) m₁ m₂ e₂) where
      pub space_fits : e₂ < length m₂
      space_fits = omega (arith, fits_behind _ q after_numbers)

      pub fields_end : Puts 0 (fields_text l) d (set m₂ e₂ 0x20) (e₂ + 1)
      unfolding fields_text
      fields_end = then_store 0x20 (omega (arith, length_fields l, length-append (numbers_text l) (stalls_text l.stalls))) (then_put zero-le p q)

module _ (l : Line) (bs d : List ℕ) (h : room_for (length bs) ≤ length d) where
  pub fields_fit : length (fields_text l) ≤ length d
  fields_fit = omega (arith, line_fits l bs, length_line l bs)

  module _ {m₁ : List ℕ} {e₁ : ℕ} (p : Puts 0 (fields_text l) d m₁ e₁) where
    after_fields : e₁ + (length (bytes_text bs) + length (end_text l.missing)) ≤ length m₁
    after_fields = fits_behind _ p (omega (arith, line_fits l bs, length_line l bs))

    pub shown_fits : e₁ + length (bytes_text bs) ≤ length m₁
    shown_fits = omega (arith, after_fields)

    module _ {m₂ : List ℕ} {e₂ : ℕ} (q : Puts e₁ (bytes_text bs) m₁ m₂ e₂) where
      pub end_fits : e₂ + length (end_text l.missing) ≤ length m₂
      end_fits = fits_behind _ q after_fields

      pub line_ends : {m : List ℕ} {e : ℕ} → Puts e₂ (end_text l.missing) m₂ m e → Puts 0 (line_of l bs) d m e
      unfolding line_of
      line_ends r = then_put zero-le (then_put zero-le p q) r

pub ruleset ways = (decimal_first, decimal_ends, decimal_fits, decimal_last, decimal_goes_on, number_fits, number_last, number_ends, numbers_end, hex_turn, hex_ends, numbers_fit, stalls_fit, space_fits, fields_end, end_first, missing_fits, end_last, end_length, end_put, fields_fit, shown_fits, end_fits, line_ends)

-- Laws of decimal text, for every number below 10^20, as every number of 64 bits is.
--     one_digit, more_digits    the text by the number of its digits
--     decimal_value             its digits, read back, give the number
--     no_leading_zero           it begins with `0` only where the number is 0
--     some_digit, few_digits    it has at least one digit, and at most 20
-- Assumes nothing.
use mathlib.Core.Path.{◌≡◌, refl, sym, ap, ◌∙◌}
use mathlib.Core.List.{List, [], ◌∷◌, ◌++◌}
use Prim.Native.Nat.{ℕ, zero, suc, ◌+◌, ◌-◌, ◌*◌, ◌^◌, ◌/◌, ◌%◌, ◌≤◌, ◌<◌, zero-le}
use native.Mathlib.Nat.{pow-suc, mod-lt, div-add-mod, div-lt_iff_lt-mul, zero-lt-suc}
use native.Mathlib.Omega.{arith}
use borrow.Author.Tests.{ltb-true, ltb-false, lt-ltb, le-ltb}
use lib.Dec.{ltb}
use lib.ListN.{length, get_or, length-append, get_or-append}
use Rattle.fields.proofs.Bools.{of_picked}
use Rattle.benchline.specs.Line.{digit, decimal_up_to, decimal}

-- ---- one digit, or more

-- What follows both for a number below 10 and for any other follows for every number.
by_size : {A : Type 0} (n : ℕ) → (n < 10 → A) → (10 ≤ n → A) → A
by_size {A} n p q = of_picked (λ (_ : ℕ). A) (ltb n 10) {s = 0} {t = 0} (λ e. p (ltb-true n 10 e)) (λ e. q (ltb-false n 10 e))

one : (most n : ℕ) → n < 10 → decimal_up_to (suc most) n ≡ (0x30 + n) ∷ []
unfolding decimal_up_to digit
one most n h = rw (lt-ltb n 10 h)

more : (most n : ℕ) → 10 ≤ n → decimal_up_to (suc most) n ≡ decimal_up_to most (n / 10) ++ ((0x30 + n % 10) ∷ [])
unfolding decimal_up_to digit
more most n h = rw (le-ltb n 10 h, lt-ltb (n % 10) 10 (mod-lt n (zero-lt-suc 9)))

tenth : (most n : ℕ) → n < 10 ^ suc most → n / 10 < 10 ^ most
tenth most n h = (div-lt_iff_lt-mul (zero-lt-suc 9)).1 (rw pow-suc at h)

-- To allow one digit more than a number has changes nothing.
steady : (most n : ℕ) → n < 10 ^ suc most → decimal_up_to (suc (suc most)) n ≡ decimal_up_to (suc most) n
steady zero n h = one 1 n h ∙ sym (one 0 n h)
steady (suc most) n h =
    by_size n
    (λ l. one (suc (suc most)) n l ∙ sym (one (suc most) n l))
    (λ l.
    more (suc (suc most)) n l
    ∙ ap (λ (t : List ℕ). t ++ ((0x30 + n % 10) ∷ [])) (steady most (n / 10) (tenth (suc most) n h))
    ∙ sym (more (suc most) n l))

pub one_digit : (n : ℕ) → n < 10 → decimal n ≡ (0x30 + n) ∷ []
unfolding decimal
one_digit n h = one 19 n h

pub more_digits : (n : ℕ) → n < 10 ^ 20 → 10 ≤ n → decimal n ≡ decimal (n / 10) ++ ((0x30 + n % 10) ∷ [])
unfolding decimal
more_digits n h l = more 19 n l ∙ ap (λ (t : List ℕ). t ++ ((0x30 + n % 10) ∷ [])) (sym (steady 18 (n / 10) (tenth 19 n h)))

-- ---- what number the digits give

-- The number that results where decimal digits are read on after the number `n`.
unfoldable pub read_on : ℕ → List ℕ → ℕ
read_on n [] = n
read_on n (c ∷ cs) = read_on (10 * n + (c - 0x30)) cs

read_last : (n : ℕ) (cs : List ℕ) (c : ℕ) → read_on n (cs ++ (c ∷ [])) ≡ 10 * read_on n cs + (c - 0x30)
unfolding read_on
read_last n [] c = refl
read_last n (d ∷ cs) c = read_last (10 * n + (d - 0x30)) cs c

value : (most n : ℕ) → n < 10 ^ most → read_on 0 (decimal_up_to most n) ≡ n
unfolding read_on decimal_up_to
value zero n h = omega arith
value (suc most) n h =
    by_size n
    (λ l. ap (read_on 0) (one most n l) ∙ omega arith)
    (λ l.
    ap (read_on 0) (more most n l)
    ∙ read_last 0 (decimal_up_to most (n / 10)) (0x30 + n % 10)
    ∙ ap (λ (k : ℕ). 10 * k + (0x30 + n % 10 - 0x30)) (value most (n / 10) (tenth most n h))
    ∙ omega (arith, div-add-mod n 10))

pub decimal_value : (n : ℕ) → n < 10 ^ 20 → read_on 0 (decimal n) ≡ n
unfolding decimal
decimal_value n h = value 20 n h

-- ---- how many digits there are, and which is the first

some : (most n : ℕ) → 0 < length (decimal_up_to (suc most) n)
some most n =
    by_size n
    (λ l. rw (one most n l) (zero-lt-suc 0))
    (λ l. rw (more most n l, length-append) (omega arith))

few : (most n : ℕ) → length (decimal_up_to most n) ≤ most
unfolding decimal_up_to
few zero n = zero-le
few (suc most) n =
    by_size n
    (λ l. rw (one most n l) (omega arith))
    (λ l. rw (more most n l, length-append) (omega (arith, few most (n / 10))))

first : (most n : ℕ) → n < 10 ^ suc most → get_or (decimal_up_to (suc most) n) 0 0 ≡ 0x30 → n ≡ 0
first zero n h e = omega (arith, rw (one 0 n h) at e)
first (suc most) n h e =
    by_size n
    (λ l. omega (arith, rw (one (suc most) n l) at e))
    (λ l.
    omega (
      arith,
      first most (n / 10) (tenth (suc most) n h)
          (sym (get_or-append (decimal_up_to (suc most) (n / 10)) ((0x30 + n % 10) ∷ []) 0 0 (some most (n / 10))) ∙ rw (more (suc most) n l) at e),
    ))

pub some_digit : (n : ℕ) → 0 < length (decimal n)
unfolding decimal
some_digit n = some 19 n

pub few_digits : (n : ℕ) → length (decimal n) ≤ 20
unfolding decimal
few_digits n = few 20 n

pub no_leading_zero : (n : ℕ) → n < 10 ^ 20 → get_or (decimal n) 0 0 ≡ 0x30 → n ≡ 0
unfolding decimal
no_leading_zero n h e = first 19 n h e

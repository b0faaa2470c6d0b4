-- These are laws of fields: one for each fact, at every width.
--     byte_held, byte_read           a field of one byte is what a byte holds of that element; of a byte it is the byte
--     byte_alone                     the one byte of such a field
--     one_order                      one byte has no order
--     get_below                      what a field holds has its place there, in any list
--     little_doubled, big_doubled    two fields side by side are one of twice the width
--     le_two, le_four, be_two, be_four, be_eight    what std makes of a field's bytes is the number that it holds, at std's widths
--     le_digits                      what std makes of a number is its digits
--     get_append, get_front          what follows the message does not count
--     put_stored, byte_stored    stores in order write a field
--     length_put                     a message keeps its length
--     get_put                        what was written is read
--     bytes_before, bytes_behind, get_before, get_behind    a field before or after the written one keeps its bytes, and reads as before
--     put_own                        a field's own number, written again, changes nothing
--     put_again                      written into another message, it brings the field's bytes
--     all_bytes, one_byte_lem            what both of these ask: the field's bytes are bytes; all of the message are, or its one byte is
--     shifted_one                    the divisor of a field of bits
-- Assumes nothing.
use mathlib.Core.Path.{◌≡◌, refl, sym, ap, ◌∙◌}
use mathlib.Core.List.{List, [], ◌∷◌, ◌++◌, reverse, reverse_aux, reverse-append, reverse-reverse}
use Prim.Native.Nat.{ℕ, zero, suc, ◌+◌, ◌*◌, ◌^◌, ◌/◌, ◌%◌, ◌≤◌, ◌<◌}
use native.Mathlib.Nat.{add_comm, one-mul, mul_assoc, mul_comm, pow-suc, mod-add-div, mod-lt, mod-eq_of_lt, div-lt_iff_lt-mul, zero-lt-suc}
use native.Mathlib.Omega.{arith}
use lib.Dec.{lit<}
use lib.Pow.{shl_exact}
use lib.ListN.{length, take, drop, get_or, set, take-append-drop, length-take, length-drop}
use lib.Seq.{drop-cons, drop-drop, take-append-le, drop-append-le, take-add, length-take-le, sets, sets-eq}
use Rattle.std.proofs.Common.{Fits, w8}
use Rattle.std.specs.Int.{w16, w32, w64, from_le_bytes, from_be_bytes, to_le_bytes}
use Rattle.fields.specs.Overlay.{overlay}
use Rattle.fields.specs.Field.{Order, little, big, Field, little_endian, big_endian, one_byte, bytes_at, counted, digits, ordered, get, put}
use Rattle.fields.proofs.Overlay.{overlay_own, length_overlay, part_inside, part_before, part_behind}
use Rattle.fields.proofs.Seq.{length_part, length_reverse, listed, part_listed}

-- ---- what bytes count

step : (p c : ℕ) → p * 256 * c ≡ 256 * (p * c)
step p c = ap (λ (x : ℕ). x * c) (mul_comm p 256) ∙ mul_assoc 256 p c

counted_append : (xs ys : List ℕ) → counted (xs ++ ys) ≡ counted xs + 256 ^ length xs * counted ys
unfolding counted
counted_append [] ys = omega (arith, one-mul (counted ys))
counted_append (x ∷ xs) ys = rw (pow-suc 256 (length xs), step, counted_append xs ys) (omega arith)

counted_digits : (w n : ℕ) → n < 256 ^ w → counted (digits w n) ≡ n
unfolding counted digits
counted_digits zero n h = omega arith
counted_digits (suc w) n h =
    ap (λ (c : ℕ). n % 256 % 256 + 256 * c) (counted_digits w (n / 256) ((div-lt_iff_lt-mul (zero-lt-suc 255)).1 (rw pow-suc at h)))
    ∙ ap (λ (b : ℕ). b + 256 * (n / 256)) (mod-eq_of_lt (mod-lt n {m = 256} (zero-lt-suc 255)))
    ∙ mod-add-div n 256

counted_below : (w : ℕ) (bs : List ℕ) → length bs ≤ w → counted bs < 256 ^ w
unfolding counted
counted_below zero [] h = lit< tt
counted_below zero (b ∷ bs) h = absurd (omega arith)
counted_below (suc w) [] h = rw (pow-suc 256 w) (omega (arith, counted_below w [] (omega arith)))
counted_below (suc w) (b ∷ bs) h = rw (pow-suc 256 w) (omega (arith, mod-lt b {m = 256} (zero-lt-suc 255), counted_below w bs (omega arith)))

-- ---- order

length_ordered : (o : Order) (bs : List ℕ) → length (ordered o bs) ≡ length bs
unfolding ordered
length_ordered little bs = refl
length_ordered big bs = length_reverse bs

ordered_twice : (o : Order) (bs : List ℕ) → ordered o (ordered o bs) ≡ bs
unfolding ordered
ordered_twice little bs = refl
ordered_twice big bs = reverse-reverse bs

length_digits : (w n : ℕ) → length (digits w n) ≡ w
unfolding digits
length_digits zero n = refl
length_digits (suc w) n = ap suc (length_digits w (n / 256))

length_written : (o : Order) (w n : ℕ) → length (ordered o (digits w n)) ≡ w
length_written o w n = length_ordered o (digits w n) ∙ length_digits w n

-- ---- reading

pub byte_held : (m : List ℕ) (at : ℕ) → at < length m → get_or m at 0 % 256 ≡ get (one_byte at) m
unfolding get bytes_at counted ordered
byte_held m at h = rw (drop-cons m at 0 h) (omega arith)

pub byte_read : (m : List ℕ) (at : ℕ) → at < length m → get_or m at 0 < 256 → get_or m at 0 ≡ get (one_byte at) m
byte_read m at h k = sym (mod-eq_of_lt k) ∙ byte_held m at h

pub byte_alone : (m : List ℕ) (at : ℕ) → at < length m → bytes_at (one_byte at) m ≡ get_or m at 0 ∷ []
unfolding bytes_at
byte_alone m at h = part_listed m at 1 (omega arith)

pub get_below : (f : Field) (m : List ℕ) → get f m < 256 ^ f.width
unfolding get bytes_at
get_below f m =
    let bs : List ℕ = take f.width (drop f.start m) in
    counted_below f.width (ordered f.order bs) (omega (arith, length_ordered f.order bs, length-take f.width (drop f.start m)))

pub one_order : (m : List ℕ) (at : ℕ) {x : ℕ} → at < length m → x ≡ get (one_byte at) m → x ≡ get (big_endian at 1) m
unfolding get bytes_at ordered
one_order m at h e = rw (drop-cons m at 0 h) (rw (drop-cons m at 0 h) at e)

-- The bytes of a field are those of its two halves.
halves : (m : List ℕ) (at w : ℕ) → take (w + w) (drop at m) ≡ take w (drop at m) ++ take w (drop (at + w) m)
halves m at w = take-add w w (drop at m) ∙ ap (λ (l : List ℕ). take w (drop at m) ++ take w l) (drop-drop w at m)

half_length : (m : List ℕ) (at w : ℕ) → at + w ≤ length m → length (take w (drop at m)) ≡ w
half_length m at w h = length-take-le w (drop at m) (omega (arith, length-drop at m))

pub little_doubled : (m : List ℕ) (at w : ℕ) {low high : ℕ} → at + (w + w) ≤ length m
    → low ≡ get (little_endian at w) m → high ≡ get (little_endian (at + w) w) m → low + 256 ^ w * high ≡ get (little_endian at (w + w)) m
unfolding get bytes_at ordered
little_doubled m at w h el eh =
    rw (el, eh, halves m at w, counted_append (take w (drop at m)) (take w (drop (at + w) m)), half_length m at w (omega arith))

pub big_doubled : (m : List ℕ) (at w : ℕ) {low high : ℕ} → at + (w + w) ≤ length m
    → high ≡ get (big_endian at w) m → low ≡ get (big_endian (at + w) w) m → 256 ^ w * high + low ≡ get (big_endian at (w + w)) m
unfolding get bytes_at ordered
big_doubled m at w {low} {high} h eh el =
    let first : List ℕ = take w (drop at m) in
    let second : List ℕ = take w (drop (at + w) m) in
    add_comm (256 ^ w * high) low
    ∙ rw (el, eh, halves m at w, reverse-append first second, counted_append (reverse second) (reverse first), length_reverse second, half_length m (at + w) w (omega arith))

-- ---- what std reads and writes

pub le_two : (m : List ℕ) (at : ℕ) {bs : List ℕ} {n : ℕ} → n ≡ from_le_bytes w16 bs → bs ≡ bytes_at (little_endian at 2) m
    → at + 2 ≤ length m → ((i : ℕ) → Fits w8 (get_or m i 0)) → n ≡ get (little_endian at 2) m
unfolding get bytes_at counted ordered
le_two m at e eb h small = e ∙ rw (eb, part_listed m at 2 h) (omega (arith, (small (at)).fits, (small (suc (at))).fits))

pub le_four : (m : List ℕ) (at : ℕ) {bs : List ℕ} {n : ℕ} → n ≡ from_le_bytes w32 bs → bs ≡ bytes_at (little_endian at 4) m
    → at + 4 ≤ length m → ((i : ℕ) → Fits w8 (get_or m i 0)) → n ≡ get (little_endian at 4) m
unfolding get bytes_at counted ordered
le_four m at e eb h small = e ∙ rw (eb, part_listed m at 4 h) (omega (arith, (small (at)).fits, (small (suc (at))).fits, (small (suc (suc (at)))).fits, (small (suc (suc (suc (at))))).fits))

pub be_two : (m : List ℕ) (at : ℕ) {bs : List ℕ} {n : ℕ} → n ≡ from_be_bytes w16 bs → bs ≡ bytes_at (little_endian at 2) m
    → at + 2 ≤ length m → ((i : ℕ) → Fits w8 (get_or m i 0)) → n ≡ get (big_endian at 2) m
unfolding get bytes_at counted ordered
be_two m at e eb h small = e ∙ rw (eb, part_listed m at 2 h) (omega (arith, (small (at)).fits, (small (suc (at))).fits))

pub be_four : (m : List ℕ) (at : ℕ) {bs : List ℕ} {n : ℕ} → n ≡ from_be_bytes w32 bs → bs ≡ bytes_at (little_endian at 4) m
    → at + 4 ≤ length m → ((i : ℕ) → Fits w8 (get_or m i 0)) → n ≡ get (big_endian at 4) m
unfolding get bytes_at counted ordered
be_four m at e eb h small = e ∙ rw (eb, part_listed m at 4 h) (omega (arith, (small (at)).fits, (small (suc (at))).fits, (small (suc (suc (at)))).fits, (small (suc (suc (suc (at))))).fits))

pub be_eight : (m : List ℕ) (at : ℕ) {bs : List ℕ} {n : ℕ} → n ≡ from_be_bytes w64 bs → bs ≡ bytes_at (little_endian at 8) m
    → at + 8 ≤ length m → ((i : ℕ) → Fits w8 (get_or m i 0)) → n ≡ get (big_endian at 8) m
unfolding get bytes_at counted ordered
be_eight m at e eb h small = e ∙ rw (eb, part_listed m at 8 h) (omega (arith, (small (at)).fits, (small (suc (at))).fits, (small (suc (suc (at)))).fits, (small (suc (suc (suc (at))))).fits, (small (suc (suc (suc (suc (at)))))).fits, (small (suc (suc (suc (suc (suc (at))))))).fits, (small (suc (suc (suc (suc (suc (suc (at)))))))).fits, (small (suc (suc (suc (suc (suc (suc (suc (at))))))))).fits))

-- The bytes that std makes of a number are its digits.
pub le_digits : (n : ℕ) → to_le_bytes w32 n ≡ digits 4 n
unfolding digits
le_digits n = grind arith

pub ruleset reads = (le_two, le_four, be_two, be_four, be_eight)

-- ---- a field of a message that goes on

pub get_append : (f : Field) (m ys : List ℕ) → f.start + f.width ≤ length m → get f (m ++ ys) ≡ get f m
unfolding get bytes_at
get_append f m ys h =
    rw (drop-append-le f.start m ys (omega arith), take-append-le f.width (drop f.start m) ys (omega (arith, length-drop f.start m)))

pub get_front : (f : Field) (n : ℕ) (xs : List ℕ) → f.start + f.width ≤ n → n ≤ length xs → get f (take n xs) ≡ get f xs
get_front f n xs h k =
    sym (get_append f (take n xs) (drop n xs) (omega (arith, length-take-le n xs k))) ∙ ap (get f) (take-append-drop n xs)

-- ---- writing

pub length_put : (f : Field) (n : ℕ) (m : List ℕ) → f.start + f.width ≤ length m → length (put f n m) ≡ length m
unfolding put
length_put f n m h = length_overlay m f.start _ (omega (arith, length_written f.order f.width n))

pub put_stored : (m : List ℕ) (at w n : ℕ) → at + w ≤ length m → sets m at (digits w n) ≡ put (little_endian at w) n m
unfolding put ordered overlay
put_stored m at w n h = sets-eq (digits w n) m at (omega (arith, length_digits w n))

pub byte_stored : (m : List ℕ) (at n : ℕ) → n < 256 → at < length m → set m at n ≡ put (one_byte at) n m
unfolding digits
byte_stored m at n h k = ap (set m at) (sym (mod-eq_of_lt h)) ∙ put_stored m at 1 n (omega arith)

module _ (f : Field) (n : ℕ) (m : List ℕ) (fits : f.start + f.width ≤ length m) where
  -- These bytes are laid over m.
  ys : List ℕ
  ys = ordered f.order (digits f.width n)

  length_ys : length ys ≡ f.width
  unfolding ys
  length_ys = length_written f.order f.width n

  bytes_put : bytes_at f (put f n m) ≡ ordered f.order (digits f.width n)
  unfolding put bytes_at ys
  bytes_put = rw length_ys at (part_inside m f.start ys (omega arith))

  pub get_put : n < 256 ^ f.width → get f (put f n m) ≡ n
  unfolding get
  get_put h = rw bytes_put (ap counted (ordered_twice f.order (digits f.width n)) ∙ counted_digits f.width n h)

  pub bytes_before : (g : Field) → g.start + g.width ≤ f.start → bytes_at g (put f n m) ≡ bytes_at g m
  unfolding put bytes_at ys
  bytes_before g h = part_before m f.start ys g.start g.width h (omega (arith, length_ys))

  pub bytes_behind : (g : Field) → f.start + f.width ≤ g.start → bytes_at g (put f n m) ≡ bytes_at g m
  unfolding put bytes_at ys
  bytes_behind g h = part_behind m f.start ys g.start g.width (omega (arith, length_ys)) (omega arith)

  pub get_before : (g : Field) → g.start + g.width ≤ f.start → get g (put f n m) ≡ get g m
  unfolding get
  get_before g h = rw (bytes_before g h)

  pub get_behind : (g : Field) → f.start + f.width ≤ g.start → get g (put f n m) ≡ get g m
  unfolding get
  get_behind g h = rw (bytes_behind g h)

-- ---- what stands there already

-- A list holds numbers of any size. Those of this one are bytes.
abbrev pub Bytes : List ℕ → Type 0
Bytes [] = Unit {0}
Bytes (b ∷ bs) = (b < 256) × Bytes bs

lowest : (b c : ℕ) → b < 256 → (b % 256 + 256 * c) % 256 ≡ b
lowest b c h = omega arith

others : (b c : ℕ) → b < 256 → (b % 256 + 256 * c) / 256 ≡ c
others b c h = omega arith

digits_counted : (bs : List ℕ) → Bytes bs → digits (length bs) (counted bs) ≡ bs
unfolding counted digits
digits_counted [] h = refl
digits_counted (b ∷ bs) h = rw (lowest b (counted bs) h.0, others b (counted bs) h.0, digits_counted bs h.1)

bytes_onto : (bs cs : List ℕ) → Bytes bs → Bytes cs → Bytes (reverse_aux bs cs)
bytes_onto [] cs h k = k
bytes_onto (b ∷ bs) cs h k = bytes_onto bs (b ∷ cs) h.1 (h.0, k)

bytes_ordered : (o : Order) (bs : List ℕ) → Bytes bs → Bytes (ordered o bs)
unfolding ordered
bytes_ordered little bs h = h
bytes_ordered big bs h = bytes_onto bs [] h tt

bytes_listed : (m : List ℕ) → ((i : ℕ) → get_or m i 0 < 256) → (at w : ℕ) → Bytes (listed m at w)
bytes_listed m h at zero = tt
bytes_listed m h at (suc w) = (h at, bytes_listed m h (suc at) w)

pub one_byte_lem : (m : List ℕ) (at : ℕ) → at < length m → get_or m at 0 < 256 → Bytes (bytes_at (one_byte at) m)
unfolding bytes_at
one_byte_lem m at h k = rw (part_listed m at 1 (omega arith)) (k, tt)

module _ (f : Field) (m : List ℕ) (fits : f.start + f.width ≤ length m) where
  pub all_bytes : ((i : ℕ) → get_or m i 0 < 256) → Bytes (bytes_at f m)
  unfolding bytes_at
  all_bytes h = rw (part_listed m f.start f.width fits) (bytes_listed m h f.start f.width)

  -- The digits of the number that a field holds are its bytes.
  digits_held : Bytes (bytes_at f m) → ordered f.order (digits f.width (get f m)) ≡ bytes_at f m
  unfolding get bytes_at
  digits_held h =
      let bs : List ℕ = bytes_at f m in
      let long : length (ordered f.order bs) ≡ f.width = length_ordered f.order bs ∙ length_part f.start f.width m fits in
      rw (rw long at (digits_counted (ordered f.order bs) (bytes_ordered f.order bs h))) (ordered_twice f.order bs)

  pub put_own : Bytes (bytes_at f m) → put f (get f m) m ≡ m
  unfolding put bytes_at
  put_own h = rw (digits_held h) (overlay_own m f.start f.width fits)

  pub put_again : Bytes (bytes_at f m) → (z : List ℕ) → f.start + f.width ≤ length z → bytes_at f (put f (get f m) z) ≡ bytes_at f m
  put_again h z there = bytes_put f (get f m) z there ∙ digits_held h

-- ---- bits

-- One shifted left within a byte is a power of two.
pub shifted_one : (k : ℕ) → k < 8 → 1 * 2 ^ k % 2 ^ 8 ≡ 2 ^ k
shifted_one k h = shl_exact {a = 1} 1 k 8 (lit< tt) (omega arith) ∙ one-mul (2 ^ k)

-- Laws of texts that are put one after the other, and of how long they are.
--     then_put, then_store, store    a text or one byte right after a text; one byte alone
--     fits_behind                    what has room after a text keeps it
--     length_more .. length_line     the length of each text, from those of its parts
--     some_stalls                    the text of stalls is never empty
--     line_fits                      no line is longer than the room that `room_for` asks for
-- Assumes nothing.
use mathlib.Core.Path.{◌≡◌, refl, sym, ap, ◌∙◌}
use mathlib.Core.List.{List, [], ◌∷◌, ◌++◌, append_assoc}
use Prim.Native.Nat.{ℕ, ◌+◌, ◌*◌, ◌^◌, ◌/◌, ◌%◌, ◌≤◌, ◌<◌}
use native.Mathlib.Omega.{arith}
use lib.ListN.{length, take, drop, set, length-append}
use lib.Seq.{drop-drop}
use Rattle.fields.specs.Overlay.{overlay}
use Rattle.fields.proofs.Overlay.{length_overlay, take_overlay, drop_overlay, overlay_nothing, overlay_stored}
use Rattle.answers.specs.declared.Stalls.{Stalls}
use Rattle.answers.specs.declared.Stalls.TheVariants.{Kept, Stalled, Unstalled, UnstalledStalled}
use Rattle.benchline.specs.declared.Line.{Line}
use Rattle.benchline.specs.Line.{space, newline, decimal, number_text, numbers_text, stalls_text, fields_text, hex, bytes_text, end_text, line_of}
use Rattle.benchline.specs.Inner.Line.{numbers_length, room_for, Puts}
use Rattle.benchline.proofs.Decimal.{more_digits, few_digits}

-- What is put right after `xs` makes `xs` longer.
behind : (d : List ℕ) (at : ℕ) (xs ys : List ℕ) → at ≤ length d → overlay (overlay d at xs) (at + length xs) ys ≡ overlay d at (xs ++ ys)
unfolding overlay
behind d at xs ys h =
    let k : ℕ = at + length xs in
    let e : at + length (xs ++ ys) ≡ k + length ys = omega (arith, length-append xs ys) in
    ap (λ (l : List ℕ). l ++ ys ++ drop (k + length ys) (overlay d at xs)) (take_overlay d at xs h)
    ∙ ap (λ (r : List ℕ). take at d ++ xs ++ ys ++ r)
    (sym (drop-drop (length ys) k (overlay d at xs)) ∙ ap (drop (length ys)) (drop_overlay d at xs h) ∙ drop-drop (length ys) k d)
    ∙ ap (λ (l : List ℕ). l ++ drop (k + length ys) d) (append_assoc (take at d) xs ys)
    ∙ ap (λ (n : ℕ). take at d ++ (xs ++ ys) ++ drop n d) (sym e)

-- One text is put after the other.
pub then_put : {at e f : ℕ} {xs ys d m t : List ℕ} → at ≤ length d → Puts at xs d m e → Puts e ys m t f → Puts at (xs ++ ys) d t f
then_put {at} {e} {f} {xs} {ys} {d} h p q =
    record {
      ends = omega (arith, p.ends, q.ends, length-append xs ys);
      text = q.text ∙ rw (p.ends, p.text) (behind d at xs ys h);
    }

-- The buffer keeps its length, so what has room after a text still has it when the text has been put.
pub fits_behind : {at e : ℕ} {xs d m : List ℕ} (k : ℕ) → Puts at xs d m e → at + (length xs + k) ≤ length d → e + k ≤ length m
fits_behind {at} {e} {xs} {d} k p h = rw p.text (omega (arith, p.ends, length_overlay d at xs (omega arith)))

-- One byte is stored right after a text, or alone.
pub then_store : {at e : ℕ} {xs d m : List ℕ} (v : ℕ) → at + length xs < length d → Puts at xs d m e → Puts at (xs ++ (v ∷ [])) d (set m e v) (e + 1)
then_store {at} {e} {xs} {d} v h p =
    record {
      ends = omega (arith, p.ends, length-append xs (v ∷ []));
      text = rw (p.ends, p.text) (overlay_stored d at xs v h);
    }

pub store : (d : List ℕ) (at v : ℕ) → at < length d → Puts at (v ∷ []) d (set d at v) (at + 1)
store d at v h = then_store v (omega arith) record { ends = omega arith; text = sym (overlay_nothing d at) }

-- ---- how long each text is

pub length_more : (n : ℕ) → n < 10 ^ 20 → 10 ≤ n → length (decimal n) ≡ length (decimal (n / 10)) + 1
length_more n h l = ap length (more_digits n h l) ∙ length-append (decimal (n / 10)) ((0x30 + n % 10) ∷ [])

pub length_number : (n : ℕ) → length (number_text n) ≡ length (decimal n) + 1
unfolding number_text
length_number n = length-append (decimal n) (space ∷ [])

pub length_numbers : (l : Line) → length (numbers_text l) ≡ numbers_length l
unfolding numbers_text
length_numbers l = simp length-append

pub length_hex : (bs : List ℕ) → length (hex bs) ≡ 2 * length bs
unfolding hex
length_hex [] = refl
length_hex (b ∷ bs) = omega (arith, length_hex bs)

pub length_fields : (l : Line) → length (fields_text l) ≡ length (numbers_text l) + length (stalls_text l.stalls) + 1
unfolding fields_text
length_fields l = simp length-append

pub length_end : (n : ℕ) → length (end_text n) ≡ length (decimal n) + 2
unfolding end_text
length_end n = omega (arith, length-append (decimal n) (newline ∷ []))

pub length_line : (l : Line) (bs : List ℕ) → length (line_of l bs) ≡ length (fields_text l) + length (bytes_text bs) + length (end_text l.missing)
unfolding line_of
length_line l bs = simp length-append

short_number : (n : ℕ) → length (number_text n) ≤ 21
short_number n = omega (arith, length_number n, few_digits n)

pub some_stalls : (s : Stalls) → 0 < length (stalls_text s)
some_stalls Kept = omega arith
some_stalls Stalled = omega arith
some_stalls Unstalled = omega arith
some_stalls UnstalledStalled = omega arith

short_stalls : (s : Stalls) → length (stalls_text s) ≤ 2
short_stalls Kept = omega arith
short_stalls Stalled = omega arith
short_stalls Unstalled = omega arith
short_stalls UnstalledStalled = omega arith

short_bytes : (bs : List ℕ) → length (bytes_text bs) ≤ 1 + 2 * length bs
unfolding bytes_text
short_bytes [] = omega arith
short_bytes (b ∷ bs) = omega (arith, length_hex (b ∷ bs))

-- A line fits where there is room for one with as many bytes.
pub line_fits : (l : Line) (bs : List ℕ) → length (line_of l bs) ≤ room_for (length bs)
unfolding room_for
line_fits l bs =
    omega (
      arith,
      length_line l bs,
      length_fields l,
      length_numbers l,
      short_number l.index,
      short_number l.answer,
      short_number l.state,
      short_number l.left,
      short_number l.unread,
      short_number l.count,
      short_stalls l.stalls,
      short_bytes bs,
      length_end l.missing,
      few_digits l.missing,
    )

-- These are laws of a copy in chunks, each proved once for every length of a chunk.
--     through                    a chunk goes through a local array
--     no_chunk, chunk_copied     before `copy`'s loop, and a turn of it
--     next_chunk, chunk_laid, last_chunk     a turn of a loop, and the chunk behind the loop
--     both_ends                  two chunks are all
--     chunk_moved, at_rest, next_byte_moved, all_moved    a turn and the end if the list itself is read
-- Assumes nothing.
use mathlib.Core.Path.{◌≡◌, sym, ap, subst, ◌∙◌}
use mathlib.Core.List.{List}
use Prim.Native.Nat.{ℕ, ◌+◌, ◌-◌, ◌*◌, ◌≤◌, ◌<◌, zero-le}
use native.Mathlib.Nat.{add-zero, zero-add, zero-mul, suc-mul, mul-suc, mul-le-mul_right}
use native.Mathlib.Numerals.{add-one}
use native.Mathlib.Omega.{arith}
use lib.ListN.{length, take, drop, get_or, set}
use Rattle.fields.specs.Field.{little_endian, bytes_at}
use Rattle.fields.specs.Overlay.{overlay}
use Rattle.fields.proofs.Overlay.{Laid, laid_start, laid_turn, laid_chunk, laid_end, unmoved, unmoved_part}
use Rattle.fields.proofs.Seq.{length_part, part_of_part}

-- A chunk of k elements goes through a local array.
pub through : (d : List ℕ) (at f k : ℕ) (src : List ℕ) {b d' : List ℕ} → d' ≡ overlay d at b → b ≡ bytes_at (little_endian f k) src → d' ≡ overlay d at (take k (drop f src))
unfolding bytes_at
through d at f k src ed eb = ed ∙ ap (overlay d at) eb

-- The next chunk of a loop that lays ys over d.
pub next_chunk : (d : List ℕ) (at : ℕ) (ys : List ℕ) (i k : ℕ) (l : List ℕ) {l' : List ℕ}
    → l' ≡ overlay l (at + i) (take k (drop i ys)) → Laid d at ys i l → k ≤ length ys - i → at + length ys ≤ length d → Laid d at ys (i + k) l'
next_chunk d at ys i k l el h hk fits =
    rw el (laid_chunk d at ys i i k l fits h (omega arith) (omega arith) (omega (arith, h.reached)))

-- The same of chunk i, where all chunks have k elements.
pub chunk_laid : (d : List ℕ) (at : ℕ) (ys : List ℕ) (i k : ℕ) (l : List ℕ) {l' : List ℕ}
    → l' ≡ overlay l (at + k * i) (take k (drop (k * i) ys)) → Laid d at ys (k * i) l → k * i + k ≤ length ys → at + length ys ≤ length d
    → Laid d at ys (k * (i + 1)) l'
chunk_laid d at ys i k l el h hk fits =
    let turns : k * (i + 1) ≡ k * i + k = ap (λ (x : ℕ). k * x) (add-one i) ∙ mul-suc k i in
    rw turns (next_chunk d at ys (k * i) k l el h (omega arith) fits)

-- The last chunk ends where ys ends, wherever the one before it has ended.
pub last_chunk : (d : List ℕ) (at : ℕ) (ys : List ℕ) (i k : ℕ) (l : List ℕ) {l' : List ℕ}
    → l' ≡ overlay l (at + (length ys - k)) (take k (drop (length ys - k) ys)) → Laid d at ys i l → k ≤ length ys → length ys - i ≤ k → at + length ys ≤ length d
    → l' ≡ overlay d at ys
last_chunk d at ys i k l el h hk hi fits =
    let j : ℕ = length ys - k in
    let all : Laid d at ys (j + k) (overlay l (at + j) (take k (drop j ys))) =
    laid_chunk d at ys i j k l fits h (omega arith) (omega (arith, h.reached)) (omega arith) in
    el ∙ laid_end d at ys (j + k) _ all (omega arith)

-- Two chunks do, one at each end.
pub both_ends : (d : List ℕ) (at : ℕ) (ys : List ℕ) (k : ℕ) {l l' : List ℕ}
    → l' ≡ overlay l (at + (length ys - k)) (take k (drop (length ys - k) ys)) → l ≡ overlay d at (take k (drop 0 ys)) → k ≤ length ys → length ys ≤ k + k
    → at + length ys ≤ length d → l' ≡ overlay d at ys
both_ends d at ys k {l} e' e h hk fits =
    let first : l ≡ overlay d (at + 0) (take k (drop 0 ys)) = rw add-zero e in
    last_chunk d at ys (0 + k) k l e' (next_chunk d at ys 0 k d first (laid_start d at ys) (omega arith) fits) h (omega arith) fits

-- Before the first of `copy`'s chunks, n elements each, none is laid.
pub no_chunk : (d : List ℕ) (at n : ℕ) (ys : List ℕ) → Laid d at ys (0 * n) d
no_chunk d at n ys = rw (zero-mul n) (laid_start d at ys)

-- The next of `copy`'s k chunks of n elements each, which come from index f of src on.
pub chunk_copied : (d : List ℕ) (at f i k n : ℕ) (src l : List ℕ) {b l' : List ℕ}
    → l' ≡ overlay l (at + i * n) b → b ≡ bytes_at (little_endian (f + i * n) n) src → Laid d at (take (k * n) (drop f src)) (i * n) l → i < k
    → f + k * n ≤ length src → at + k * n ≤ length d → Laid d at (take (k * n) (drop f src)) ((i + 1) * n) l'
chunk_copied d at f i k n src l el eb h hi hs hd =
    let turns : (i + 1) * n ≡ i * n + n = ap (λ (x : ℕ). x * n) (add-one i) ∙ suc-mul i n in
    let within : (i + 1) * n ≤ k * n = mul-le-mul_right n (omega arith) in
    let long : length (take (k * n) (drop f src)) ≡ k * n = length_part f (k * n) src hs in
    let same : take n (drop (f + i * n) src) ≡ take n (drop (i * n) (take (k * n) (drop f src))) = sym (part_of_part f (k * n) (i * n) n src (omega arith) hs) in
    let chunk = through l (at + i * n) (f + i * n) n src el eb ∙ ap (overlay l (at + i * n)) same in
    rw turns (next_chunk d at (take (k * n) (drop f src)) (i * n) n l chunk h (omega arith) (omega arith))

-- Chunk i of a loop that moves the n elements of d from index f on to its front: none of them has been overwritten yet.
pub chunk_moved : (d : List ℕ) (f n i k : ℕ) (l : List ℕ) {l' : List ℕ}
    → l' ≡ overlay l (k * i) (take k (drop (f + k * i) l)) → Laid d 0 (take n (drop f d)) (k * i) l → k * i + k ≤ n → f + n ≤ length d
    → Laid d 0 (take n (drop f d)) (k * (i + 1)) l'
chunk_moved d f n i k l el h hk fits =
    let long : length (take n (drop f d)) ≡ n = length_part f n d fits in
    let unread = ap (overlay l (k * i)) (unmoved_part d 0 f n (k * i) k l h zero-le hk fits) in
    chunk_laid d 0 (take n (drop f d)) i k l (rw zero-add (el ∙ unread)) h (omega arith) (omega arith)

-- Where the chunks end, the single elements begin.
pub at_rest : {d ys l : List ℕ} {at i j : ℕ} → Laid d at ys i l → i ≡ j → Laid d at ys j l
at_rest {d} {ys} {l} {at} h e = subst (λ (x : ℕ). Laid d at ys x l) e h

-- The next single element of that loop, and its end.
pub next_byte_moved : (d : List ℕ) (f n i : ℕ) (l : List ℕ)
    → Laid d 0 (take n (drop f d)) i l → i < n → f + n ≤ length d → Laid d 0 (take n (drop f d)) (i + 1) (set l i (get_or l (f + i) 0))
next_byte_moved d f n i l h hi fits =
    let long : length (take n (drop f d)) ≡ n = length_part f n d fits in
    rw zero-add at (laid_turn d 0 (take n (drop f d)) i l _ (omega arith) h (omega arith) (unmoved d 0 f n i l h zero-le hi fits))

pub all_moved : (d : List ℕ) (f n i : ℕ) (l : List ℕ) → Laid d 0 (take n (drop f d)) i l → n ≤ i → f + n ≤ length d → l ≡ overlay d 0 (take n (drop f d))
all_moved d f n i l h hi fits = laid_end d 0 (take n (drop f d)) i l h (omega (arith, length_part f n d fits))

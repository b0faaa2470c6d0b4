-- These facts about parts of lists are not in the library. Assumes nothing.
use mathlib.Core.Path.{◌≡◌, refl, sym, ap, ◌∙◌}
use mathlib.Core.List.{List, [], ◌∷◌, ◌++◌, append-nil, reverse, reverse_aux}
use Prim.Native.Nat.{ℕ, zero, suc, ◌+◌, ◌-◌, ◌≤◌}
use native.Mathlib.Nat.{add-zero, add-sub_of_le}
use native.Mathlib.Omega.{arith}
use lib.ListN.{length, take, drop, get_or, length-drop, drop_of_length-le}
use lib.Seq.{length-take-le, take-add, take-take, drop-drop, drop_at, drop-cons, sets, sets-eq}

-- A list of no elements is empty.
pub none_of : (l : List ℕ) → length l ≡ 0 → l ≡ []
none_of [] e = refl
none_of (x ∷ xs) e = absurd (omega arith)

-- A part of n elements from index f on has n elements, if the list is long enough.
pub length_part : (f n : ℕ) (l : List ℕ) → f + n ≤ length l → length (take n (drop f l)) ≡ n
length_part f n l h = length-take-le n (drop f l) (simp length-drop (omega arith))

-- The n elements from index f on are the same if the list is first cut off after them.
pub drop_front : (f n : ℕ) (l : List ℕ) → f ≤ length l → drop f (take (f + n) l) ≡ take n (drop f l)
drop_front f n l h = ap (drop f) (take-add f n l) ∙ drop_at (take f l) (take n (drop f l)) f (length-take-le f l h)

-- The elements from index f up to index t are the t - f elements from f on.
pub drop_take : (f t : ℕ) (l : List ℕ) → f ≤ t → f ≤ length l → drop f (take t l) ≡ take (t - f) (drop f l)
drop_take f t l h k =
    ap (λ (n : ℕ). drop f (take n l)) (sym (add-sub_of_le h)) ∙ drop_front f (t - f) l k

-- Of the n elements from index f on, the k from index i on are the k from index f + i on.
pub part_of_part : (f n i k : ℕ) (l : List ℕ) → i + k ≤ n → f + n ≤ length l → take k (drop i (take n (drop f l))) ≡ take k (drop (f + i) l)
part_of_part f n i k l h fits =
    ap (take k) (drop_take i n (drop f l) (omega arith) (omega (arith, length-drop f l)))
    ∙ take-take k (n - i) (drop i (drop f l)) (omega arith)
    ∙ ap (take k) (drop-drop i f l)

pub length_reverse : (l : List ℕ) → length (reverse l) ≡ length l
length_reverse l = onto l [] ∙ add-zero (length l)
  where
    onto : (l r : List ℕ) → length (reverse_aux l r) ≡ length l + length r
    onto [] r = omega arith
    onto (x ∷ xs) r = rw (onto xs (x ∷ r)) (omega arith)

-- These are the n elements from index f on, one by one.
abbrev pub listed : List ℕ → ℕ → ℕ → List ℕ
listed l f zero = []
listed l f (suc n) = get_or l f 0 ∷ listed l (suc f) n

pub part_listed : (l : List ℕ) (f n : ℕ) → f + n ≤ length l → take n (drop f l) ≡ listed l f n
part_listed l f zero h = refl
part_listed l f (suc n) h = rw (drop-cons l f 0 (omega arith), part_listed l (suc f) n (omega arith))

-- Stores at 0, 1, 2 and so on fill a list.
pub all_stored : (l vs : List ℕ) → length l ≡ length vs → sets l 0 vs ≡ vs
all_stored l vs e = sets-eq vs l 0 (omega arith) ∙ ap (λ (r : List ℕ). vs ++ r) (drop_of_length-le l {i = 0 + length vs} (omega arith)) ∙ append-nil vs

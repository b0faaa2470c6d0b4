-- Fields that leave no gap decide a message: two messages with the same bytes in each of them are the same. Assumes nothing.
use mathlib.Core.Path.{◌≡◌, refl, sym, ap, ap₂, ◌∙◌}
use mathlib.Core.Bool.{true}
use mathlib.Core.List.{List, [], ◌∷◌, ◌++◌}
use Prim.Native.Nat.{ℕ, ◌+◌}
use native.Mathlib.Omega.{arith}
use lib.Dec.{eqb}
use lib.ListN.{length, take, drop}
use lib.Seq.{take-add, drop-drop, take_all}
use borrow.Author.Tests.{eqb-true}
use Rattle.fields.specs.Field.{Field, bytes_at, tile}
use Rattle.fields.proofs.Bools.{and_left, and_right}

-- The messages `x` and `y` have the same bytes in each field of a list.
abbrev pub Same : List Field → List ℕ → List ℕ → Type 0
Same [] x y = Unit {0}
Same (f ∷ fs) x y = (bytes_at f x ≡ bytes_at f y) × Same fs x y

-- How many bytes the fields of a list have.
abbrev width : List Field → ℕ
width [] = 0
width (f ∷ fs) = f.width + width fs

-- Without a gap they end so many bytes after they start.
width_is : (fs : List Field) (from to : ℕ) → tile from fs to ≡ true → from + width fs ≡ to
unfolding tile
width_is [] from to e = omega (arith, eqb-true from to e)
width_is (f ∷ fs) from to e = omega (arith, width_is fs (from + f.width) to (and_right (eqb f.start from) (tile (from + f.width) fs to) e))

parts_same : (fs : List Field) (from to : ℕ) (x y : List ℕ) → tile from fs to ≡ true → Same fs x y → take (width fs) (drop from x) ≡ take (width fs) (drop from y)
unfolding tile bytes_at
parts_same [] from to x y e h = refl
parts_same (f ∷ fs) from to x y e (same, rest) =
    let starts : f.start ≡ from = eqb-true f.start from (and_left (eqb f.start from) (tile (from + f.width) fs to) e) in
    let behind = parts_same fs (from + f.width) to x y (and_right (eqb f.start from) (tile (from + f.width) fs to) e) rest in
    split x ∙ ap₂ ◌++◌ (rw starts at same) behind ∙ sym (split y)
  where
    split : (m : List ℕ) → take (f.width + width fs) (drop from m) ≡ take f.width (drop from m) ++ take (width fs) (drop (from + f.width) m)
    split m = take-add f.width (width fs) (drop from m) ∙ ap (λ (l : List ℕ). take f.width (drop from m) ++ take (width fs) l) (drop-drop f.width from m)

pub tiled_same : (fs : List Field) (n : ℕ) (x y : List ℕ) → tile 0 fs n ≡ true → length x ≡ n → length y ≡ n → Same fs x y → x ≡ y
tiled_same fs n x y e hx hy same =
    let all = width_is fs 0 n e in
    sym (take_all (width fs) x (omega arith)) ∙ parts_same fs 0 n x y e same ∙ take_all (width fs) y (omega arith)

-- These are laws of `overlay`, and of any loop that makes one by stores in order.
--     overlay_nothing, overlay_own, overlay_whole       an empty list and a list's own part change nothing; one as long as d hides d
--     length_overlay                                    the length stays
--     take_overlay, drop_overlay                        the list up to the end of ys, and from there on
--     take_within, drop_behind                          the list up to a place in ys, and from a place behind ys on
--     overlay_before, overlay_inside, overlay_after     each element: before ys, in ys, after ys
--     part_inside, part_before, part_behind             parts: ys itself, and what lies before or after it
--     overlay_stored                                    a store right after ys makes ys one longer
--     Laid, laid_start, laid_turn, laid_chunk, laid_end the invariant of such a loop, of single elements or of chunks
--     unmoved, unmoved_part                             what a loop that moves a part of the list itself reads next
-- Assumes nothing.
use mathlib.Core.Path.{◌≡◌, refl, sym, ap, ◌∙◌}
use mathlib.Core.List.{List, [], ◌∷◌, ◌++◌, append_assoc, append-nil}
use Prim.Native.Nat.{ℕ, suc, ◌+◌, ◌-◌, ◌≤◌, ◌<◌, zero-le}
use native.Mathlib.Nat.{add-zero, add-sub_of_le}
use native.Mathlib.Numerals.{add-one}
use native.Mathlib.Omega.{arith}
use lib.ListN.{length, take, drop, get_or, set, length-append, length-drop, length-set, take-append-drop, drop_of_length-le, get_or-append}
use lib.Seq.{get_or-take, get_or-drop, get_or-append-add, length-take-le, take_all, take_at, drop_at, drop-drop, take-take, take-append-le, take-append-add, take-add, take-suc, drop-cons, set_at, append_snoc}
use Rattle.fields.specs.Overlay.{overlay}
use Rattle.fields.proofs.Seq.{length_part, drop_front, part_of_part}

pub overlay_nothing : (d : List ℕ) (at : ℕ) → overlay d at [] ≡ d
unfolding overlay
overlay_nothing d at = simp (add-zero, append-nil, take-append-drop)

-- The part of d is laid where it already stands.
pub overlay_own : (d : List ℕ) (at n : ℕ) → at + n ≤ length d → overlay d at (take n (drop at d)) ≡ d
unfolding overlay
overlay_own d at n h =
    let part : List ℕ = take n (drop at d) in
    let long : length part ≡ n = length-take-le n (drop at d) (omega (arith, length-drop at d)) in
    rw (long, ← drop-drop n at d, append_assoc (take at d) part (drop n (drop at d)), take-append-drop n (drop at d), take-append-drop at d)

-- A list as long as d hides all of d.
pub overlay_whole : (d ys : List ℕ) → length ys ≡ length d → overlay d 0 ys ≡ ys
unfolding overlay
overlay_whole d ys e = ap (λ (r : List ℕ). ys ++ r) (drop_of_length-le d {i = 0 + length ys} (omega arith)) ∙ append-nil ys

module _ (d : List ℕ) (at : ℕ) (ys : List ℕ) where
  -- The list up to the end of ys has this length.
  length_head : at ≤ length d → length (take at d ++ ys) ≡ at + length ys
  length_head h = length-append (take at d) ys ∙ ap (λ (k : ℕ). k + length ys) (length-take-le at d h)

  pub length_overlay : at + length ys ≤ length d → length (overlay d at ys) ≡ length d
  unfolding overlay
  length_overlay h = omega (arith, length-append (take at d ++ ys) (drop (at + length ys) d), length_head (omega arith), length-drop (at + length ys) d)

  pub take_overlay : at ≤ length d → take (at + length ys) (overlay d at ys) ≡ take at d ++ ys
  unfolding overlay
  take_overlay h = take_at (take at d ++ ys) (drop (at + length ys) d) (at + length ys) (length_head h)

  pub drop_overlay : at ≤ length d → drop (at + length ys) (overlay d at ys) ≡ drop (at + length ys) d
  unfolding overlay
  drop_overlay h = drop_at (take at d ++ ys) (drop (at + length ys) d) (at + length ys) (length_head h)

  pub take_within : (n : ℕ) → n ≤ length ys → at ≤ length d → take (at + n) (overlay d at ys) ≡ take at d ++ take n ys
  take_within n h fits =
      sym (take-take (at + n) (at + length ys) (overlay d at ys) (omega arith))
      ∙ ap (take (at + n)) (take_overlay fits)
      ∙ ap (λ (k : ℕ). take (k + n) (take at d ++ ys)) (sym (length-take-le at d fits))
      ∙ take-append-add (take at d) ys n

  pub drop_behind : (f : ℕ) → at + length ys ≤ f → at ≤ length d → drop f (overlay d at ys) ≡ drop f d
  drop_behind f h fits =
      let k : ℕ = at + length ys in
      let on : k + (f - k) ≡ f = add-sub_of_le h in
      ap (λ (i : ℕ). drop i (overlay d at ys)) (sym on)
      ∙ sym (drop-drop (f - k) k (overlay d at ys))
      ∙ ap (drop (f - k)) (drop_overlay fits)
      ∙ drop-drop (f - k) k d
      ∙ ap (λ (i : ℕ). drop i d) on

  pub overlay_before : (k : ℕ) → at ≤ length d → k < at → get_or (overlay d at ys) k 0 ≡ get_or d k 0
  unfolding overlay
  overlay_before k h hk =
      get_or-append (take at d ++ ys) (drop (at + length ys) d) 0 k (omega (arith, length_head h))
      ∙ get_or-append (take at d) ys 0 k (omega (arith, length-take-le at d h))
      ∙ get_or-take at d k 0 hk

  pub overlay_inside : (i : ℕ) → at ≤ length d → i < length ys → get_or (overlay d at ys) (at + i) 0 ≡ get_or ys i 0
  unfolding overlay
  overlay_inside i h hi =
      get_or-append (take at d ++ ys) (drop (at + length ys) d) 0 (at + i) (omega (arith, length_head h))
      ∙ ap (λ (n : ℕ). get_or (take at d ++ ys) (n + i) 0) (sym (length-take-le at d h))
      ∙ get_or-append-add (take at d) ys i 0

  pub overlay_after : (i : ℕ) → at ≤ length d → get_or (overlay d at ys) (at + length ys + i) 0 ≡ get_or d (at + length ys + i) 0
  overlay_after i h =
      sym (get_or-drop (at + length ys) (overlay d at ys) i 0)
      ∙ ap (λ (l : List ℕ). get_or l i 0) (drop_overlay h)
      ∙ get_or-drop (at + length ys) d i 0

  pub part_inside : at ≤ length d → take (length ys) (drop at (overlay d at ys)) ≡ ys
  unfolding overlay
  part_inside h =
      ap (λ (l : List ℕ). take (length ys) (drop at l)) (append_assoc (take at d) ys (drop (at + length ys) d))
      ∙ ap (take (length ys)) (drop_at (take at d) (ys ++ drop (at + length ys) d) at (length-take-le at d h))
      ∙ take_at ys (drop (at + length ys) d) (length ys) refl

  front : (n : ℕ) → n ≤ at → at ≤ length d → take n (overlay d at ys) ≡ take n d
  unfolding overlay
  front n h fits =
      take-append-le n (take at d ++ ys) (drop (at + length ys) d) (omega (arith, length_head fits))
      ∙ take-append-le n (take at d) ys (omega (arith, length-take-le at d fits))
      ∙ take-take n at d h

  pub part_before : (f n : ℕ) → f + n ≤ at → at + length ys ≤ length d → take n (drop f (overlay d at ys)) ≡ take n (drop f d)
  part_before f n h fits =
      sym (drop_front f n (overlay d at ys) (omega (arith, length_overlay fits)))
      ∙ ap (drop f) (front (f + n) h (omega arith))
      ∙ drop_front f n d (omega arith)

  pub part_behind : (f n : ℕ) → at + length ys ≤ f → at ≤ length d → take n (drop f (overlay d at ys)) ≡ take n (drop f d)
  part_behind f n h fits = ap (take n) (drop_behind f h fits)

  pub overlay_stored : (v : ℕ) → at + length ys < length d → set (overlay d at ys) (at + length ys) v ≡ overlay d at (ys ++ (v ∷ []))
  unfolding overlay
  overlay_stored v h =
      let k : ℕ = at + length ys in
      let p : List ℕ = take at d ++ ys in
      let e : at + length (ys ++ (v ∷ [])) ≡ suc k = omega (arith, length-append ys (v ∷ [])) in
      ap (λ (r : List ℕ). set (p ++ r) k v) (drop-cons d k 0 h)
      ∙ set_at p (get_or d k 0) (drop (suc k) d) v k (length_head (omega arith))
      ∙ sym (append_snoc p v (drop (suc k) d))
      ∙ ap (λ (r : List ℕ). r ++ drop (suc k) d) (append_assoc (take at d) ys (v ∷ []))
      ∙ ap (λ (m : ℕ). take at d ++ (ys ++ (v ∷ [])) ++ drop m d) (sym e)

-- ---- a loop that lays ys over d: l is the slice's list at the loop's head, after i turns

pub record Laid (d : List ℕ) (at : ℕ) (ys : List ℕ) (i : ℕ) (l : List ℕ) : Type 0 where
  pub reached : i ≤ length ys
  pub laid : l ≡ overlay d at (take i ys)
  pub long : length l ≡ length d

pub laid_start : (d : List ℕ) (at : ℕ) (ys : List ℕ) → Laid d at ys 0 d
laid_start d at ys = record { reached = zero-le; laid = sym (overlay_nothing d at); long = refl }

pub laid_turn : (d : List ℕ) (at : ℕ) (ys : List ℕ) (i : ℕ) (l : List ℕ) (v : ℕ)
    → at + length ys ≤ length d → Laid d at ys i l → i < length ys → v ≡ get_or ys i 0 → Laid d at ys (i + 1) (set l (at + i) v)
laid_turn d at ys i l v fits h hi ev =
    let n : length (take i ys) ≡ i = length-take-le i ys h.reached in
    let one_more_lem : take i ys ++ (v ∷ []) ≡ take (i + 1) ys = rw (ev, add-one, take-suc ys i 0 hi) in
    record {
      reached = omega arith;
      laid = rw h.laid (rw n at (overlay_stored d at (take i ys) v (omega arith)) ∙ ap (overlay d at) one_more_lem);
      long = length-set l (at + i) v ∙ h.long;
    }

-- A chunk of k elements is laid at once, from index j of ys on. It may begin before i, so it may lay some elements again: a last chunk
-- can end where ys ends.
pub laid_chunk : (d : List ℕ) (at : ℕ) (ys : List ℕ) (i j k : ℕ) (l : List ℕ)
    → at + length ys ≤ length d → Laid d at ys i l → j ≤ i → i ≤ j + k → j + k ≤ length ys → Laid d at ys (j + k) (overlay l (at + j) (take k (drop j ys)))
unfolding overlay
laid_chunk d at ys i j k l fits h hj hi hk =
    let old : List ℕ = take i ys in
    let new : List ℕ = take k (drop j ys) in
    let n : length old ≡ i = length-take-le i ys h.reached in
    let m : length new ≡ k = length_part j k ys hk in
    let before : take (at + j) l ≡ take at d ++ take j ys =
    ap (take (at + j)) h.laid ∙ take_within d at old j (omega arith) (omega arith) ∙ ap (λ (r : List ℕ). take at d ++ r) (take-take j i ys hj) in
    let end : at + j + length new ≡ at + length (take (j + k) ys) = omega (arith, length-take-le (j + k) ys hk) in
    let behind : drop (at + j + length new) l ≡ drop (at + length (take (j + k) ys)) d =
    ap (drop (at + j + length new)) h.laid
    ∙ drop_behind d at old (at + j + length new) (omega arith) (omega arith)
    ∙ ap (λ (x : ℕ). drop x d) end in
    record {
      reached = hk;
      laid =
          ap (λ (r : List ℕ). r ++ new ++ drop (at + j + length new) l) before
          ∙ ap (λ (r : List ℕ). take at d ++ take j ys ++ new ++ r) behind
          ∙ ap (λ (r : List ℕ). r ++ drop (at + length (take (j + k) ys)) d) (append_assoc (take at d) (take j ys) new)
          ∙ ap (λ (r : List ℕ). take at d ++ r ++ drop (at + length (take (j + k) ys)) d) (sym (take-add j k ys));
      long = length_overlay l (at + j) new (omega (arith, h.long)) ∙ h.long;
    }

pub laid_end : (d : List ℕ) (at : ℕ) (ys : List ℕ) (i : ℕ) (l : List ℕ) → Laid d at ys i l → length ys ≤ i → l ≡ overlay d at ys
laid_end d at ys i l h e = h.laid ∙ ap (overlay d at) (take_all i ys e)

-- Let ys be n elements of d itself, from index f on, which are laid over d at a place not behind them. Then the element that is read next
-- has not been overwritten yet.
pub unmoved : (d : List ℕ) (at f n i : ℕ) (l : List ℕ)
    → Laid d at (take n (drop f d)) i l → at ≤ f → i < n → f + n ≤ length d → get_or l (f + i) 0 ≡ get_or (take n (drop f d)) i 0
unmoved d at f n i l h ha hi fits =
    let ys : List ℕ = take i (take n (drop f d)) in
    let behind : at + length ys + (f - at) ≡ f + i = omega (arith, length-take-le i (take n (drop f d)) h.reached) in
    ap (λ (x : List ℕ). get_or x (f + i) 0) h.laid
    ∙ ap (λ (k : ℕ). get_or (overlay d at ys) k 0) (sym behind)
    ∙ overlay_after d at ys (f - at) (omega arith)
    ∙ ap (λ (k : ℕ). get_or d k 0) behind
    ∙ sym (get_or-drop f d i 0)
    ∙ sym (get_or-take n (drop f d) i 0 hi)

-- The same of the k elements that are read next.
pub unmoved_part : (d : List ℕ) (at f n i k : ℕ) (l : List ℕ)
    → Laid d at (take n (drop f d)) i l → at ≤ f → i + k ≤ n → f + n ≤ length d → take k (drop (f + i) l) ≡ take k (drop i (take n (drop f d)))
unmoved_part d at f n i k l h ha hk fits =
    let ys : List ℕ = take i (take n (drop f d)) in
    ap (λ (x : List ℕ). take k (drop (f + i) x)) h.laid
    ∙ part_behind d at ys (f + i) k (omega (arith, length-take-le i (take n (drop f d)) h.reached)) (omega arith)
    ∙ sym (part_of_part f n i k d hk fits)

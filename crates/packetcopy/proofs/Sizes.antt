-- What each way through `put_packet` owes: one law for a packet size, and one for any other number. Assumes nothing.
use mathlib.Core.Path.{◌≡◌}
use mathlib.Core.Bool.{true, false, cond}
use mathlib.Core.List.{List}
use Prim.Native.Nat.{ℕ}
use lib.ListN.{take, drop}
use borrow.Author.Tests.{ne_eqb}
use Rattle.fields.specs.Overlay.{overlay}
use Rattle.device.specs.Create.{is_packet_size}

module _ (p : ℕ) where
  says : (k : ℕ) → is_packet_size k ≡ true → p ≡ k → true ≡ is_packet_size p
  says k q e = rw (e, q)

  denies : (p ≡ 8 → ⊥) → (p ≡ 16 → ⊥) → (p ≡ 32 → ⊥) → (p ≡ 64 → ⊥) → false ≡ is_packet_size p
  unfolding is_packet_size
  denies a b c e = rw (ne_eqb _ _ a, ne_eqb _ _ b, ne_eqb _ _ c, ne_eqb _ _ e)

module _ (d : List ℕ) (at : ℕ) (src : List ℕ) (from p : ℕ) where
  -- `k` is a packet size, and that many bytes were copied.
  pub sized : (k : ℕ) → is_packet_size k ≡ true → p ≡ k → {l : List ℕ} → l ≡ overlay d at (take k (drop from src))
      → (true ≡ is_packet_size p) × (l ≡ cond (is_packet_size p) (overlay d at (take p (drop from src))) d)
  sized k q e h = (says p k q e, rw (e, q) h)

  -- No bytes were copied.
  pub other : (p ≡ 8 → ⊥) → (p ≡ 16 → ⊥) → (p ≡ 32 → ⊥) → (p ≡ 64 → ⊥)
      → (false ≡ is_packet_size p) × (d ≡ cond (is_packet_size p) (overlay d at (take p (drop from src))) d)
  other a b c e = let no : false ≡ is_packet_size p = denies p a b c e in (no, rw (← no))

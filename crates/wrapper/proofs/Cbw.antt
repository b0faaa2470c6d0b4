-- These are laws of the wrapper (CBW).
--     is_valid_lem, valid_is               what passes the test is valid, and what is valid passes it
--     parsed_valid, parsed_accepted    what is valid parses to all its fields, and nothing else is taken
--     ways                             how long a message is that passed a test
-- Assumes nothing.
use mathlib.Core.Path.{◌≡◌, refl, sym, ap, ◌∙◌}
use mathlib.Core.Bool.{Bool, true, false, cond}
use mathlib.Core.List.{List}
use Rattle.std.specs.Prelude.{Some, None, is_some}
use Prim.Native.Nat.{ℕ, ◌≤◌, ◌<◌}
use native.Mathlib.Omega.{arith}
use lib.Dec.{eqb, leb}
use lib.ListN.{length}
use borrow.Author.Tests.{eq-eqb, eqb-true, leb-true, le-leb}
use Rattle.fields.specs.Field.{get, bytes_at}
use borrow.Table.Steps.{cases}
use Rattle.fields.proofs.Bools.{and_left, and_right, clash}
use Rattle.fields.proofs.Seq.{length_part}
use Rattle.wrapper.specs.declared.DataDirection.{DataDirection}
use Rattle.wrapper.specs.declared.DataDirection.TheVariants.{Out, In, NotExpected}
use Rattle.wrapper.specs.Wrapper.{wrapper_signature, d_cbw_signature, b_cbw_cb_length, Valid, is_signed, is_block_length, is_valid, direction_of_flags, wrapper_of, parsed}

-- ---- the tests

signed_whole : (m : List ℕ) → is_signed m ≡ true → length m ≡ 31
unfolding is_signed
signed_whole m e = eqb-true _ _ (and_left (eqb (length m) 31) (eqb (get d_cbw_signature m) wrapper_signature) e)

signed_signature : (m : List ℕ) → is_signed m ≡ true → get d_cbw_signature m ≡ wrapper_signature
unfolding is_signed
signed_signature m e = eqb-true _ _ (and_right (eqb (length m) 31) (eqb (get d_cbw_signature m) wrapper_signature) e)

fits_bounds : (n : ℕ) → is_block_length n ≡ true → (1 ≤ n) × (n ≤ 16)
unfolding is_block_length
fits_bounds n e = (leb-true 1 n (and_left (leb 1 n) (leb n 16) e), leb-true n 16 (and_right (leb 1 n) (leb n 16) e))

-- ---- from the test to the fact, and back

pub is_valid_lem : (m : List ℕ) → is_valid m ≡ true → Valid m
unfolding is_valid
is_valid_lem m e =
    let b = fits_bounds (get b_cbw_cb_length m) (and_right (is_signed m) (is_block_length (get b_cbw_cb_length m)) e) in
    let s = and_left (is_signed m) (is_block_length (get b_cbw_cb_length m)) e in
    record { whole = signed_whole m s; signature = signed_signature m s; least = b.0; most = b.1 }

pub valid_is : (m : List ℕ) → Valid m → is_valid m ≡ true
unfolding is_valid is_signed is_block_length
valid_is m v = rw (eq-eqb _ _ v.whole, eq-eqb _ _ v.signature, le-leb _ _ v.least, le-leb _ _ v.most)

pub parsed_valid : (m : List ℕ) → Valid m → parsed m ≡ Some (wrapper_of m)
unfolding parsed
parsed_valid m v = rw (valid_is m v)

-- A message is taken if and only if it is valid.
pub parsed_is : (m : List ℕ) → is_some (parsed m) ≡ is_valid m
unfolding parsed
parsed_is m = picked (is_valid m)
  where
    picked : (b : Bool) → is_some (cond b (Some (wrapper_of m)) None) ≡ b
    picked true = refl
    picked false = refl

pub parsed_accepted : (m : List ℕ) → is_some (parsed m) ≡ true → Valid m
parsed_accepted m e = is_valid_lem m (sym (parsed_is m) ∙ e)

pub length_block : (m : List ℕ) → Valid m → length (wrapper_of m).block ≡ 16
unfolding wrapper_of bytes_at
length_block m v = length_part 15 16 m (omega (arith, v.whole))

-- ---- the fields

-- Only a length of 0 means no data (`no_data_only`). The proof of this tells the directions apart by this test.
abbrev is_expected : DataDirection → Bool
is_expected Out = true
is_expected In = true
is_expected NotExpected = false

pub no_data_only : (l b : ℕ) → direction_of_flags l b ≡ NotExpected → l ≡ 0
unfolding direction_of_flags
no_data_only l b e =
    cases (eqb l 0) (λ h. eqb-true l 0 h)
    (λ h. cases (eqb b 1) (λ k. absurd (clash (ap is_expected (rw (h, k) at e)))) (λ k. absurd (clash (ap is_expected (rw (h, k) at e)))))

-- ---- what a test of the message owes to what reads it

pub signed_long : (m : List ℕ) {s : Bool} → s ≡ is_signed m → s ≡ true → length m ≡ 31
signed_long m es e = signed_whole m (sym es ∙ e)

-- Each of the 31 bytes of a wrapper can be read.
pub reaches : (m : List ℕ) (i : ℕ) {s : Bool} → s ≡ is_signed m → s ≡ true → i < 31 → i < length m
reaches m i es e h = omega (arith, signed_long m es e)

pub valid_whole : (m : List ℕ) {r : Bool} → r ≡ is_valid m → r ≡ true → length m ≡ 31
valid_whole m er e = (is_valid_lem m (sym er ∙ e)).whole

pub ruleset ways = (signed_long, reaches, valid_whole)

-- What is told to the decoder matters exactly for READ (16) and WRITE (16). Assumes nothing.
use mathlib.Core.Path.{◌≡◌, refl, sym, ap, ◌∙◌}
use mathlib.Core.Bool.{Bool, true, false, not, ◌&&◌, ◌||◌}
use mathlib.Core.List.{List, [], ◌∷◌}
use Prim.Native.Nat.{ℕ}
use lib.Dec.{eqb, leb}
use lib.ListN.{length}
use borrow.Author.Tests.{eqb-true, ne_eqb}
use Rattle.fields.proofs.Bools.{and_left, and_right, clash}
use Rattle.scsi.specs.declared.ScsiCommand.{ScsiCommand}
use Rattle.scsi.specs.declared.ScsiCommand.TheVariants.{Unknown}
use Rattle.scsi.specs.Decoding.{rows, opcode_of, lists, opcode_counts, is_listed, Decoding, decoding, decoded, decode_call, plain_call}
use Rattle.scsi.specs.Telling.{is_read_or_write16, Telling}
use Rattle.scsi.proofs.Laws.{is_unknown, listed_known, unlisted_unknown}

-- ---- the table

-- Whether an opcode is one of the two.
abbrev is_one : ℕ → Bool
is_one op = eqb op 0x88 || eqb op 0x8A

-- The table lists both with blocks of 14 bytes and more.
from_14 : (op n : ℕ) → is_one op ≡ true → lists rows op n ≡ leb 14 n
unfolding lists
from_14 op n h = by (eqb op 0x88) (eqb op 0x8A) refl refl h
  where
    by : (a b : Bool) → eqb op 0x88 ≡ a → eqb op 0x8A ≡ b → a || b ≡ true → lists rows op n ≡ leb 14 n
    by true b ea eb e = rw (eqb-true op 0x88 ea)
    by false true ea eb e = rw (eqb-true op 0x8A eb)
    by false false ea eb e = absurd (clash (sym e))

listed_on : (op n : ℕ) → is_one op ≡ true → leb 14 n ≡ true → is_listed true op n ≡ true
unfolding is_listed opcode_counts
listed_on op n h long = from_14 op n h ∙ long

listed_off : (op n : ℕ) → is_one op ≡ true → is_listed false op n ≡ false
unfolding is_listed opcode_counts
listed_off op n h = rw h

listed_same : (op n : ℕ) → is_one op && leb 14 n ≡ false → is_listed true op n ≡ is_listed false op n
unfolding is_listed opcode_counts
listed_same op n h = by (is_one op) refl h
  where
    by : (a : Bool) → is_one op ≡ a → a && leb 14 n ≡ false → lists rows op n ≡ not a && lists rows op n
    by true ea e = from_14 op n ea ∙ e
    by false ea e = refl

-- ---- the decoder

-- Whether the first of some commands is Unknown.
abbrev first_unknown : List ScsiCommand → Bool
first_unknown [] = false
first_unknown (c ∷ cs) = is_unknown c

module _ (b : List ℕ) (h : is_read_or_write16 b ≡ true) where
  one : is_one (opcode_of b) ≡ true
  unfolding is_read_or_write16
  one = and_left _ _ h

  some : length b ≡ 0 → ⊥
  unfolding is_read_or_write16
  some e = clash (sym (and_right (is_one (opcode_of b)) _ h) ∙ rw e)

  gives : (e : Bool) → decode_call e b ≡ decoding 0 (decoded e b ∷ [])
  unfolding decode_call
  gives e = rw (ne_eqb _ _ some)

  told_off : decode_call false b ≡ decoding 0 (Unknown (opcode_of b) ∷ [])
  told_off = gives false ∙ ap (λ (c : ScsiCommand). decoding 0 (c ∷ [])) (unlisted_unknown false b (listed_off _ _ one))

  told_on : first_unknown (decode_call true b).commands ≡ false
  unfolding is_read_or_write16
  told_on = ap (λ (o : Decoding). first_unknown o.commands) (gives true) ∙ listed_known true b (listed_on (opcode_of b) (length b) one (and_right (is_one (opcode_of b)) _ h))

  differ : decode_call true b ≡ decode_call false b → ⊥
  differ e = clash (sym (ap (λ (o : Decoding). first_unknown o.commands) (e ∙ told_off)) ∙ told_on)

same_else : (b : List ℕ) → is_read_or_write16 b ≡ false → decode_call true b ≡ decode_call false b
unfolding is_read_or_write16 decode_call decoded
same_else b h = rw (listed_same (opcode_of b) (length b) h)

pub telling : (b : List ℕ) → Telling b
unfolding plain_call
telling b = record { plain = refl; off = told_off b; differs = differ b; same = same_else b }

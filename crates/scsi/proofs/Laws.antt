-- These are laws of the decoder.
--     here, past              the table's rule at one row: the row has the opcode and decides, or the rows after it do
--     missing                 an opcode that is in no row
--     long_enough             a listed block is as long as the row of its opcode says
--     listed_known            a block of a listed opcode and length never decodes to Unknown
--     unlisted_unknown        any other always does, with its opcode
-- Assumes nothing.
use mathlib.Core.Path.{◌≡◌, refl, sym, ◌∙◌}
use mathlib.Core.Bool.{Bool, true, false, cond, not, ◌&&◌}
use mathlib.Core.List.{List, [], ◌∷◌, map}
use Prim.Native.Nat.{ℕ, ◌+◌, ◌≤◌, ◌<◌, zero-le}
use native.Mathlib.Numerals.{add-one}
use lib.Dec.{eqb, leb}
use lib.ListN.{length, get_or, drop, get_or-map}
use lib.Seq.{drop-cons}
use borrow.Author.Tests.{eq-eqb, ne_eqb, not-true, leb-true}
use Rattle.fields.proofs.Bools.{and_left, and_right}
use Rattle.scsi.specs.declared.ScsiCommand.{ScsiCommand}
use Rattle.scsi.specs.declared.ScsiCommand.TheVariants.{Unknown, Inquiry, TestUnitReady, RequestSense, ModeSense6, ModeSense10, ReadCapacity10, ReadCapacity16, Read, Write, ReadFormatCapacities}
use Rattle.scsi.specs.declared.table.Row.{Row}
use Rattle.scsi.specs.Decoding.{Layout, rows, opcode_of, lists, opcode_counts, is_listed, fields_by, decoded}
use Rattle.scsi.specs.Inner.Decoding.{shortest_of}

-- ---- the table, in the code's form

abbrev row_of : Layout → Row
row_of r = record { 0 = r.opcode; 1 = r.shortest }

abbrev no_layout : Layout
no_layout = record { opcode = 0; shortest = 0; fields = λ b. Unknown 0 }

abbrev pub no_row : Row
no_row = record { 0 = 0; 1 = 0 }

-- This is row i of a table.
abbrev pub row_at : List Layout → ℕ → Row
row_at rs i = get_or (map row_of rs) i no_row

-- From row i on a table lists what row i says of the opcode, if it has it, and otherwise what the rows after it list.
at_row : (rs : List Layout) (op n i : ℕ) → i < length rs
    → lists (drop i rs) op n ≡ cond (eqb (row_at rs i).0 op) (leb (row_at rs i).1 n) (lists (drop (i + 1) rs) op n)
unfolding lists
at_row rs op n i h = rw (add-one, get_or-map row_of rs i no_layout, drop-cons rs i no_layout)

pub here : (rs : List Layout) (op n i : ℕ) → i < length rs → (row_at rs i).0 ≡ op → leb (row_at rs i).1 n ≡ lists (drop i rs) op n
here rs op n i h e = sym (at_row rs op n i h ∙ simp (eq-eqb _ _ e))

pub past : (rs : List Layout) (op n i : ℕ) → i < length rs → ((row_at rs i).0 ≡ op → ⊥) → lists (drop (i + 1) rs) op n ≡ lists (drop i rs) op n
past rs op n i h k = sym (at_row rs op n i h ∙ simp (ne_eqb _ _ k))

-- No row has the opcode, in the form in which a `match` states it after its last arm: A, and then one such fact for each row in turn.
abbrev pub Missing : Type 0 → List Layout → ℕ → Type 0
Missing A [] op = A
Missing A (r ∷ rs) op = Missing (A × (op ≡ r.opcode → ⊥)) rs op

before : (A : Type 0) (rs : List Layout) (op : ℕ) → Missing A rs op → A
before A [] op m = m
before A (r ∷ rs) op m = (before (A × (op ≡ r.opcode → ⊥)) rs op m).0

pub missing : (A : Type 0) (rs : List Layout) (op : ℕ) (b : List ℕ) → Missing A rs op → Unknown op ≡ fields_by rs op b
unfolding fields_by
missing A [] op b m = refl
missing A (r ∷ rs) op b m =
    let B = A × (op ≡ r.opcode → ⊥) in
    rw (ne_eqb r.opcode op (λ e. (before B rs op m).1 (sym e))) (missing B rs op b m)

-- ---- a listed block is long enough for its fields

by_row : (rs : List Layout) (op n : ℕ) → lists rs op n ≡ true → shortest_of rs op ≤ n
unfolding lists
by_row [] op n h = zero-le
by_row (r ∷ rs) op n h = picked (eqb r.opcode op) h (by_row rs op n)
  where
    picked : (b : Bool) → cond b (leb r.shortest n) (lists rs op n) ≡ true → (lists rs op n ≡ true → shortest_of rs op ≤ n) → cond b r.shortest (shortest_of rs op) ≤ n
    picked true e behind = leb-true _ _ e
    picked false e behind = behind e

pub long_enough : (rs : List Layout) {op n k : ℕ} → op ≡ k → lists rs op n ≡ true → shortest_of rs k ≤ n
long_enough rs {op} {n} e h = rw e at (by_row rs op n h)

-- ---- a listed block is known, and no other

-- This tests whether a command is Unknown.
abbrev pub is_unknown : ScsiCommand → Bool
is_unknown (Unknown cmd) = true
is_unknown (Inquiry evpd page allocation) = false
is_unknown TestUnitReady = false
is_unknown (RequestSense desc allocation) = false
is_unknown (ModeSense6 dbd control page subpage allocation) = false
is_unknown (ModeSense10 dbd control page subpage allocation) = false
is_unknown ReadCapacity10 = false
is_unknown (ReadCapacity16 allocation) = false
is_unknown (Read address blocks) = false
is_unknown (Write address blocks) = false
is_unknown (ReadFormatCapacities allocation) = false

-- This tests whether no row of a table reads Unknown.
all_known : List Layout → List ℕ → Bool
all_known [] b = true
all_known (r ∷ rs) b = not (is_unknown (r.fields b)) && all_known rs b

known_by : (rs : List Layout) (op n : ℕ) (b : List ℕ) → all_known rs b ≡ true → lists rs op n ≡ true → is_unknown (fields_by rs op b) ≡ false
unfolding all_known lists fields_by
known_by [] op n b k e = sym e
known_by (r ∷ rs) op n b k e =
    picked (eqb r.opcode op) e (known_by rs op n b (and_right (not (is_unknown (r.fields b))) (all_known rs b) k))
  where
    picked : (h : Bool) → cond h (leb r.shortest n) (lists rs op n) ≡ true
        → (lists rs op n ≡ true → is_unknown (fields_by rs op b) ≡ false) → is_unknown (cond h (r.fields b) (fields_by rs op b)) ≡ false
    picked true e behind = not-true _ (and_left (not (is_unknown (r.fields b))) (all_known rs b) k)
    picked false e behind = behind e

rows_known : (b : List ℕ) → all_known rows b ≡ true
unfolding all_known
rows_known b = refl

pub listed_lists : (e : Bool) (op n : ℕ) {r : Bool} → r ≡ is_listed e op n → r ≡ true → lists rows op n ≡ true
unfolding is_listed
listed_lists e op n er h = and_right (opcode_counts e op) (lists rows op n) (sym er ∙ h)

pub listed_known : (e : Bool) (b : List ℕ) → is_listed e (opcode_of b) (length b) ≡ true → is_unknown (decoded e b) ≡ false
unfolding decoded
listed_known e b h = rw h (known_by rows (opcode_of b) (length b) b (rows_known b) (listed_lists e (opcode_of b) (length b) refl h))

pub unlisted_unknown : (e : Bool) (b : List ℕ) → is_listed e (opcode_of b) (length b) ≡ false → decoded e b ≡ Unknown (opcode_of b)
unfolding decoded
unlisted_unknown e b h = rw h

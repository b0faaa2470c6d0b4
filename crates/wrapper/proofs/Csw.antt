-- These are laws of the status (CSW).
--     status_accepted, status_above    a byte that is known stands for itself; one that is refused is above 2
--     length_status                    a status has 13 bytes
--     status_stored, status_whole      stores in order leave what fits of it; it hides an array of 13 bytes
--     signature_read, tag_read, residue_read, status_read    a host that reads it by BOT's table finds what was put in
--     ways                             what each way through a function owes
-- Assumes nothing.
use mathlib.Core.Path.{◌≡◌, refl, sym, ap, ◌∙◌}
use mathlib.Core.Bool.{Bool, true, false, cond}
use mathlib.Core.List.{List, [], ◌∷◌, ◌++◌}
use Rattle.std.specs.Prelude.{Some, None}
use Rattle.std.specs.Int.{to_le_bytes, w32}
use Prim.Native.Nat.{ℕ, suc, ◌+◌, ◌^◌, ◌≤◌, ◌<◌}
use native.Mathlib.Numerals.{unary_clauses}
use native.Mathlib.Omega.{arith}
use lib.Dec.{leb, lit<, lit≤}
use lib.ListN.{length, take, get_or, set, replicate}
use lib.Seq.{sets, take_all}
use borrow.Author.Tests.{leb-true, leb-false}
use Rattle.fields.specs.Field.{digits, get, put}
use Rattle.fields.specs.Overlay.{overlay}
use Rattle.fields.proofs.Field.{length_put, put_stored, byte_stored, get_put, get_before, le_digits}
use Rattle.fields.proofs.Overlay.{overlay_nothing, overlay_whole}
use Rattle.fields.proofs.Seq.{all_stored}
use Rattle.wrapper.specs.declared.status.CommandStatus.{CommandStatus}
use Rattle.wrapper.specs.declared.counters.Residue.{Residue}
use Rattle.wrapper.specs.Status.{status_signature, d_csw_signature, d_csw_tag, d_csw_data_residue, b_csw_status, status_number, status_bytes, StatusAnswering, answer_of, status_call}

-- ---- the status byte

-- A byte that was known is at most 2 and is the number of its status; one that was refused is above 2.
pub status_accepted : (b : ℕ) (s : CommandStatus) → answer_of (Some s) ≡ status_call b → (b ≤ 2) × (status_number s ≡ b)
unfolding status_call
status_accepted b s e = picked (leb b 2) refl e
  where
    picked : (t : Bool) → leb b 2 ≡ t → answer_of (Some s) ≡ cond t (record { answer = 0; status = b }) (record { answer = 12; status = 0 }) → (b ≤ 2) × (status_number s ≡ b)
    picked true h e = (leb-true b 2 h, ap (λ (x : StatusAnswering). x.status) e)
    picked false h e = let n : ◌≡◌ {A = ℕ} 0 12 = ap (λ (x : StatusAnswering). x.answer) e in omega arith

pub status_above : (b : ℕ) → answer_of None ≡ status_call b → 2 < b
unfolding status_call
status_above b e = picked (leb b 2) refl e
  where
    picked : (t : Bool) → leb b 2 ≡ t → answer_of None ≡ cond t (record { answer = 0; status = b }) (record { answer = 12; status = 0 }) → 2 < b
    picked true h e = let n : ◌≡◌ {A = ℕ} 12 0 = ap (λ (x : StatusAnswering). x.answer) e in omega arith
    picked false h e = leb-false b 2 h

-- ---- the 13 bytes, as each field is written in turn

blank : List ℕ
blank = replicate 13 0

signed : List ℕ
signed = put d_csw_signature status_signature blank

tagged : ℕ → List ℕ
tagged tag = put d_csw_tag tag signed

counted : ℕ → Residue → List ℕ
counted tag r = put d_csw_data_residue r.0 (tagged tag)

length_signed : length signed ≡ 13
unfolding signed blank
length_signed = length_put d_csw_signature status_signature blank (lit≤ tt)

length_tagged : (tag : ℕ) → length (tagged tag) ≡ 13
unfolding tagged
length_tagged tag = length_put d_csw_tag tag signed (omega (arith, length_signed)) ∙ length_signed

length_counted : (tag : ℕ) (r : Residue) → length (counted tag r) ≡ 13
unfolding counted
length_counted tag r = length_put d_csw_data_residue r.0 (tagged tag) (omega (arith, length_tagged tag)) ∙ length_tagged tag

pub length_status : (tag : ℕ) (r : Residue) (n : ℕ) → length (status_bytes tag r n) ≡ 13
unfolding status_bytes blank signed tagged counted
length_status tag r n = length_put b_csw_status n (counted tag r) (omega (arith, length_counted tag r)) ∙ length_counted tag r

-- ---- bytes stored one after the other, as far as there is room

pub number_stored : (d : List ℕ) (at n : ℕ) {bs a b c e : List ℕ} → bs ≡ to_le_bytes w32 n
    → a ≡ set d at (get_or bs 0 0) → b ≡ set a (at + 1) (get_or bs 1 0) → c ≡ set b (at + 2) (get_or bs 2 0) → e ≡ set c (at + 3) (get_or bs 3 0)
    → e ≡ sets d at (digits 4 n)
unfolding digits
number_stored d at n {bs} h ea eb ec ee =
    let told : bs ≡ digits 4 n = h ∙ le_digits n in
    rw (ee, ec, eb, ea, told) (simp unary_clauses)

sets_nowhere : (i : ℕ) (ys : List ℕ) → sets [] i ys ≡ []
sets_nowhere i [] = refl
sets_nowhere i (y ∷ ys) = sets_nowhere (suc i) ys

sets_behind : (x : ℕ) (d : List ℕ) (i : ℕ) (ys : List ℕ) → sets (x ∷ d) (suc i) ys ≡ x ∷ sets d i ys
sets_behind x d i [] = refl
sets_behind x d i (y ∷ ys) = sets_behind x (set d i y) (suc i) ys

-- Stores from the front on leave what fits of ys.
sets_front : (d ys : List ℕ) → sets d 0 ys ≡ overlay d 0 (take (length d) ys)
unfolding overlay
sets_front [] ys = sets_nowhere 0 ys
sets_front (x ∷ d) [] = sym (overlay_nothing (x ∷ d) 0)
sets_front (x ∷ d) (y ∷ ys) = simp unary_clauses (sets_behind y d 0 ys ∙ ap (λ (l : List ℕ). y ∷ l) (sets_front d ys))

module _ (tag : ℕ) (r : Residue) (status : ℕ) where
  -- These are the 13 bytes in their order.
  ordered_bytes : List ℕ
  ordered_bytes = digits 4 status_signature ++ digits 4 tag ++ digits 4 r.0 ++ (status ∷ [])

  -- Field by field, they are stored from the front on.
  in_order : (d : List ℕ) → set (sets (sets (sets d 0 (digits 4 status_signature)) 4 (digits 4 tag)) 8 (digits 4 r.0)) 12 status ≡ sets d 0 ordered_bytes
  unfolding ordered_bytes digits
  in_order d = refl

  are_ordered : status < 256 → status_bytes tag r status ≡ ordered_bytes
  unfolding status_bytes blank signed tagged counted ordered_bytes digits
  are_ordered h =
      sym (byte_stored (counted tag r) 12 status h (omega (arith, length_counted tag r)))
      ∙ ap (λ (l : List ℕ). set l 12 status)
      (sym (put_stored (tagged tag) 8 4 r.0 (omega (arith, length_tagged tag)))
      ∙ ap (λ (l : List ℕ). sets l 8 (digits 4 r.0))
      (sym (put_stored signed 4 4 tag (omega (arith, length_signed)))
      ∙ ap (λ (l : List ℕ). sets l 4 (digits 4 tag)) (sym (put_stored blank 0 4 status_signature (lit≤ tt)))))
      ∙ in_order blank
      ∙ all_stored blank ordered_bytes refl

pub status_stored : (tag : ℕ) (r : Residue) (status : ℕ) (d : List ℕ) {a b c : List ℕ} {n : ℕ}
    → a ≡ sets d 0 (digits 4 status_signature) → b ≡ sets a 4 (digits 4 tag) → c ≡ sets b 8 (digits 4 r.0) → n < 256 → n ≡ status
    → {e : List ℕ} → e ≡ set c 12 n → e ≡ overlay d 0 (take (length d) (status_bytes tag r status))
status_stored tag r status d ea eb ec small en ee =
    rw (ee, ec, eb, ea, en)
    (in_order tag r status d
    ∙ sets_front d (ordered_bytes tag r status)
    ∙ ap (λ (l : List ℕ). overlay d 0 (take (length d) l)) (sym (are_ordered tag r status (rw en at small))))

-- An array of 13 bytes is hidden by the status.
pub status_whole : (tag : ℕ) (r : Residue) (n : ℕ) (d : List ℕ) {m : List ℕ} → length d ≡ 13 → m ≡ overlay d 0 (take (length d) (status_bytes tag r n)) → m ≡ status_bytes tag r n
status_whole tag r n d h e =
    e ∙ ap (overlay d 0) (take_all (length d) (status_bytes tag r n) (omega (arith, length_status tag r n)))
    ∙ overlay_whole d (status_bytes tag r n) (length_status tag r n ∙ sym h)

-- ---- what a host reads

module _ (tag : ℕ) (r : Residue) (status : ℕ) where
  pub signature_read : get d_csw_signature (status_bytes tag r status) ≡ status_signature
  unfolding status_bytes blank signed tagged counted
  signature_read =
      get_before b_csw_status status (counted tag r) (omega (arith, length_counted tag r)) d_csw_signature (lit≤ tt)
      ∙ get_before d_csw_data_residue r.0 (tagged tag) (omega (arith, length_tagged tag)) d_csw_signature (lit≤ tt)
      ∙ get_before d_csw_tag tag signed (omega (arith, length_signed)) d_csw_signature (lit≤ tt)
      ∙ get_put d_csw_signature status_signature blank (lit≤ tt) (lit< tt)

  pub tag_read : tag < 2 ^ 32 → get d_csw_tag (status_bytes tag r status) ≡ tag
  unfolding status_bytes blank signed tagged counted
  tag_read h =
      get_before b_csw_status status (counted tag r) (omega (arith, length_counted tag r)) d_csw_tag (lit≤ tt)
      ∙ get_before d_csw_data_residue r.0 (tagged tag) (omega (arith, length_tagged tag)) d_csw_tag (lit≤ tt)
      ∙ get_put d_csw_tag tag signed (omega (arith, length_signed)) h

  pub residue_read : r.0 < 2 ^ 32 → get d_csw_data_residue (status_bytes tag r status) ≡ r.0
  unfolding status_bytes blank signed tagged counted
  residue_read h =
      get_before b_csw_status status (counted tag r) (omega (arith, length_counted tag r)) d_csw_data_residue (lit≤ tt)
      ∙ get_put d_csw_data_residue r.0 (tagged tag) (omega (arith, length_tagged tag)) h

  pub status_read : status < 256 → get b_csw_status (status_bytes tag r status) ≡ status
  unfolding status_bytes blank signed tagged counted
  status_read h = get_put b_csw_status status (counted tag r) (omega (arith, length_counted tag r)) h

pub ruleset ways = (number_stored, status_whole)

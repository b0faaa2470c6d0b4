-- Many numbers are stored, one after the other: what that leaves of every field. Assumes nothing.
--     store_all                    a list of fields and numbers, stored in its order
--     length_all, bytes_elsewhere, get_elsewhere, get_there    the length; a field apart from all of them; the field of one of them
--     is_known_lem, known_is                                       what follows if the bytes pass the test of a record, and what passes it
--     state_kept, .., wrapper_kept                             a part of the device that the bytes hold already changes nothing
use mathlib.Core.Path.{◌≡◌, refl, sym, ◌∙◌}
use mathlib.Core.Bool.{Bool, true, ◌&&◌}
use mathlib.Core.List.{List, [], ◌∷◌, ◌++◌}
use Prim.Native.Nat.{ℕ, ◌+◌, ◌^◌, ◌≤◌, ◌<◌}
use native.Mathlib.Omega.{arith}
use lib.Dec.{eqb, leb}
use lib.ListN.{length}
use borrow.Table.Steps.{cases}
use borrow.Author.Tests.{leb-true, eqb-true, eqb-false, eq-eqb, le-leb}
use Rattle.fields.specs.Field.{Field, bytes_at, get}
use Rattle.fields.proofs.Bools.{and_left, and_right}
use Rattle.fields.proofs.Overlay.{overlay_own}
use Rattle.ring.specs.States.{state_of_number}
use Rattle.ring.proofs.Numbers.{state_number_lem}
use Rattle.wrapper.proofs.Numbers.{direction_number_lem, status_number_lem}
use Rattle.recordbytes.specs.Layout as field
use Rattle.recordbytes.specs.Record.{is_known, status_by, status_at, marks_at, wrapper_at, store, store_state, store_marks, store_left, store_put_in, store_status, store_wrapper}
use Rattle.recordbytes.proofs.Storing.{is_apart, store_same, length_store, get_stored, bytes_apart}

-- ---- a list of numbers to store

pub record Write : Type 0 where
  pub at : Field
  pub number : ℕ

abbrev pub write : Field → ℕ → Write
write f n = record { at = f; number = n }

abbrev pub store_all : List Write → List ℕ → List ℕ
store_all [] r = r
store_all (w ∷ ws) r = store_all ws (store w.at w.number r)

-- All of these stand within the first `n` bytes; in `are_apart`, apart from the field `g`.
abbrev pub are_within : ℕ → List Write → Bool
are_within n [] = true
are_within n (w ∷ ws) = leb (w.at.start + w.at.width) n && are_within n ws

abbrev pub are_apart : Field → List Write → Bool
are_apart g [] = true
are_apart g (w ∷ ws) = is_apart w.at g && are_apart g ws

within : (n : ℕ) (w : Write) (ws : List Write) (r : List ℕ) → length r ≡ n → are_within n (w ∷ ws) ≡ true → w.at.start + w.at.width ≤ length r
within n w ws r e h = rw e (leb-true _ _ (and_left (leb (w.at.start + w.at.width) n) (are_within n ws) h))

behind : (n : ℕ) (w : Write) (ws : List Write) → are_within n (w ∷ ws) ≡ true → are_within n ws ≡ true
behind n w ws h = and_right (leb (w.at.start + w.at.width) n) (are_within n ws) h

module _ (n : ℕ) where
  pub length_all : (ws : List Write) (r : List ℕ) → length r ≡ n → are_within n ws ≡ true → length (store_all ws r) ≡ n
  length_all [] r e h = e
  length_all (w ∷ ws) r e h =
      length_all ws (store w.at w.number r) (length_store w.at w.number r (within n w ws r e h) ∙ e) (behind n w ws h)

  pub bytes_elsewhere : (g : Field) (ws : List Write) (r : List ℕ) → length r ≡ n → are_within n ws ≡ true → are_apart g ws ≡ true → bytes_at g (store_all ws r) ≡ bytes_at g r
  bytes_elsewhere g [] r e h a = refl
  bytes_elsewhere g (w ∷ ws) r e h a =
      let fits = within n w ws r e h in
      bytes_elsewhere g ws (store w.at w.number r) (length_store w.at w.number r fits ∙ e) (behind n w ws h) (and_right (is_apart w.at g) (are_apart g ws) a)
      ∙ bytes_apart w.at w.number r fits g (and_left (is_apart w.at g) (are_apart g ws) a)

  pub get_elsewhere : (g : Field) (ws : List Write) (r : List ℕ) → length r ≡ n → are_within n ws ≡ true → are_apart g ws ≡ true → get g (store_all ws r) ≡ get g r
  unfolding get
  get_elsewhere g ws r e h a = rw (bytes_elsewhere g ws r e h a)

  -- This is the field of one of them, if none that is stored later stands there too.
  pub get_there : (before : List Write) (f : Field) (x : ℕ) (after : List Write) (r : List ℕ) → length r ≡ n → are_within n (before ++ (write f x ∷ after)) ≡ true
      → are_apart f after ≡ true → x < 256 ^ f.width → get f (store_all (before ++ (write f x ∷ after)) r) ≡ x
  get_there [] f x after r e h a b =
      let fits = within n (write f x) after r e h in
      get_elsewhere f after (store f x r) (length_store f x r fits ∙ e) (behind n (write f x) after h) a ∙ get_stored f x r fits b
  get_there (w ∷ ws) f x after r e h a b =
      get_there ws f x after (store w.at w.number r) (length_store w.at w.number r (within n w (ws ++ (write f x ∷ after)) r e h) ∙ e) (behind n w (ws ++ (write f x ∷ after)) h) a b

-- ---- whether bytes are a record

-- These follow if the bytes pass the test of a record.
pub record Known (r : List ℕ) : Type 0 where
  pub long : length r ≡ field.record_size
  pub state : get field.state r ≤ 8
  pub flag : get field.present r ≤ 1
  pub status : get field.status r ≤ 2
  pub direction : get field.direction r ≤ 2

pub is_known_lem : (r : List ℕ) → is_known r ≡ true → Known r
unfolding is_known
is_known_lem r h =
    let a : Bool = eqb (length r) field.record_size in
    let b : Bool = leb (get field.state r) 8 in
    let c : Bool = leb (get field.present r) 1 in
    let d : Bool = leb (get field.status r) 2 in
    let e : Bool = leb (get field.direction r) 2 in
    let behind_a : b && (c && (d && e)) ≡ true = and_right a (b && (c && (d && e))) h in
    let behind_b : c && (d && e) ≡ true = and_right b (c && (d && e)) behind_a in
    let behind_c : d && e ≡ true = and_right c (d && e) behind_b in
    record {
      long = eqb-true _ _ (and_left a (b && (c && (d && e))) h);
      state = leb-true _ _ (and_left b (c && (d && e)) behind_a);
      flag = leb-true _ _ (and_left c (d && e) behind_b);
      status = leb-true _ _ (and_left d e behind_c);
      direction = leb-true _ _ (and_right d e behind_c);
    }

pub known_is : (r : List ℕ) → Known r → is_known r ≡ true
unfolding is_known
known_is r k = rw (eq-eqb _ _ k.long, le-leb _ _ k.state, le-leb _ _ k.flag, le-leb _ _ k.status, le-leb _ _ k.direction)

-- ---- a part that the bytes hold already

pub state_kept : (r : List ℕ) → get field.state r ≤ 8 → store_state (state_of_number (get field.state r)) r ≡ r
unfolding store_state
state_kept r h = store_same field.state _ r (sym (state_number_lem (get field.state r) h))

pub marks_kept : (r : List ℕ) → store_marks (marks_at r) r ≡ r
unfolding store_marks marks_at
marks_kept r = rw (store_same field.read_mark (get field.read_mark r) r refl) (store_same field.write_mark (get field.write_mark r) r refl)

pub left_kept : (r : List ℕ) → store_left (record { 0 = get field.left r }) r ≡ r
unfolding store_left
left_kept r = store_same field.left _ r refl

pub put_in_kept : (r : List ℕ) → store_put_in (record { 0 = get field.put_in r }) r ≡ r
unfolding store_put_in
put_in_kept r = store_same field.put_in _ r refl

pub status_kept : (r : List ℕ) → get field.present r ≤ 1 → get field.status r ≤ 2 → store_status (status_at r) r ≡ r
unfolding status_at status_by
status_kept r h k = cases (eqb (get field.present r) 0)
    (λ e. rw e (store_same field.present 0 r (eqb-true _ _ e)))
    (λ e. rw (e, store_same field.present 1 r (omega (arith, eqb-false (get field.present r) 0 e)), store_same field.residue (get field.residue r) r refl) (store_same field.status _ r (sym (status_number_lem (get field.status r) k))))

pub wrapper_kept : (r : List ℕ) → length r ≡ field.record_size → get field.direction r ≤ 2 → store_wrapper (wrapper_at r) r ≡ r
unfolding store_wrapper wrapper_at bytes_at
wrapper_kept r e h =
    rw (store_same field.direction _ r (sym (direction_number_lem (get field.direction r) h)), store_same field.lun (get field.lun r) r refl, store_same field.block_length (get field.block_length r) r refl, store_same field.tag (get field.tag r) r refl, store_same field.declared (get field.declared r) r refl)
    (overlay_own r 36 16 (omega arith))

-- Laws of storing.
--     length_store, get_stored    the length stays; the number stored is read
--     bytes_apart, get_apart      a field apart from it keeps its bytes and its number
--     store_same                  a number that the field holds already changes nothing
--     put_stores                  nor does writing it: the code need not compare
--     ways, leaves_byte, leaves_four    what has to be shown for each way through a function
-- Assumes nothing.
use mathlib.Core.Path.{◌≡◌, refl, sym, ap, ◌∙◌}
use mathlib.Core.Bool.{Bool, true, false, ◌||◌}
use mathlib.Core.List.{List}
use Prim.Native.Nat.{ℕ, ◌+◌, ◌^◌, ◌≤◌, ◌<◌}
use native.Mathlib.Omega.{arith}
use lib.Dec.{eqb, leb}
use lib.ListN.{length, get_or, replicate}
use borrow.Author.Tests.{eq-eqb, eqb-true, leb-true}
use Rattle.std.specs.Prelude.{Option, None, Some}
use Rattle.fields.specs.Field.{Field, little_endian, one_byte, bytes_at, get, put}
use Rattle.fields.specs.Overlay.{overlay}
use Rattle.fields.proofs.Bools.{of_picked}
use Rattle.fields.proofs.Overlay.{overlay_whole}
use Rattle.fields.proofs.Field.{length_put, get_put, bytes_before, bytes_behind, Bytes, all_bytes, one_byte_lem, put_own}
use Rattle.buffer.specs.declared.Marks.{Marks}
use Rattle.buffer.specs.Buffer.{at}
use Rattle.ring.specs.declared.State.{State}
use Rattle.ring.specs.States.{state_number}
use Rattle.wrapper.specs.declared.Head.{Head}
use Rattle.wrapper.specs.declared.counters.Left.{Left}
use Rattle.wrapper.specs.declared.counters.PutIn.{PutIn}
use Rattle.wrapper.specs.Status.{status_number}
use Rattle.wrapper.specs.Wrapper.{direction_number}
use Rattle.device.specs.declared.Fixed.{Fixed}
use Rattle.device.specs.declared.Told.{Told}
use Rattle.recordbytes.specs.Layout as field
use Rattle.recordbytes.specs.Record.{marks_at, store, store_state, store_marks, store_left, store_put_in, store_status, store_wrapper, new_record}
use Rattle.recordbytes.specs.Inner.Record.{wrapper_of_head}

-- ---- one field

-- One of the two fields stands wholly before the other.
unfoldable pub is_apart : Field → Field → Bool
is_apart f g = leb (g.start + g.width) f.start || leb (f.start + f.width) g.start

put_apart : (f : Field) (n : ℕ) (r : List ℕ) → f.start + f.width ≤ length r → (g : Field) → is_apart f g ≡ true → bytes_at g (put f n r) ≡ bytes_at g r
unfolding is_apart
put_apart f n r fits g h = by (leb (g.start + g.width) f.start) refl
  where
    by : (b : Bool) → leb (g.start + g.width) f.start ≡ b → bytes_at g (put f n r) ≡ bytes_at g r
    by true e = bytes_before f n r fits g (leb-true _ _ e)
    by false e = bytes_behind f n r fits g (leb-true _ _ (rw e at h))

module _ (f : Field) (n : ℕ) (r : List ℕ) where
  pub store_same : get f r ≡ n → store f n r ≡ r
  unfolding store
  store_same e = rw (eq-eqb _ _ e)

  module _ (fits : f.start + f.width ≤ length r) where
    -- A number that stands there already may be written too. That asks for bytes: a list may hold larger elements, which writing would change.
    put_stores : Bytes (bytes_at f r) → put f n r ≡ store f n r
    unfolding store
    put_stores h = of_picked (λ (l : List ℕ). put f n r ≡ l) (eqb (get f r) n) (λ q. again (eqb-true _ _ q)) (λ _. refl)
      where
        again : get f r ≡ n → put f n r ≡ r
        again e = ap (λ (k : ℕ). put f k r) (sym e) ∙ put_own f r fits h

    pub length_store : length (store f n r) ≡ length r
    unfolding store
    length_store = of_picked (λ (l : List ℕ). length l ≡ length r) (eqb (get f r) n) (λ _. refl) (λ _. length_put f n r fits)

    pub get_stored : n < 256 ^ f.width → get f (store f n r) ≡ n
    unfolding store
    get_stored h = of_picked (λ (l : List ℕ). get f l ≡ n) (eqb (get f r) n) (λ q. eqb-true _ _ q) (λ _. get_put f n r fits h)

    pub bytes_apart : (g : Field) → is_apart f g ≡ true → bytes_at g (store f n r) ≡ bytes_at g r
    unfolding store
    bytes_apart g h = of_picked (λ (l : List ℕ). bytes_at g l ≡ bytes_at g r) (eqb (get f r) n) (λ _. refl) (λ _. put_apart f n r fits g h)

    get_apart : (g : Field) → is_apart f g ≡ true → get g (store f n r) ≡ get g r
    unfolding get
    get_apart g h = rw (bytes_apart g h)

-- This has to be shown for a function that stores a number.
module _ (r : List ℕ) (at n : ℕ) where
  -- These two are no rules for a search: what stands there must be bytes, of which the check knows a fact for every index.
  pub leaves_byte : {l : List ℕ} → at < length r → get_or r at 0 < 256 → l ≡ put (one_byte at) n r → l ≡ store (one_byte at) n r
  leaves_byte h k e = e ∙ put_stores (one_byte at) n r (omega arith) (one_byte_lem r at h k)

  pub leaves_four : {l : List ℕ} → at + 4 ≤ length r → ((i : ℕ) → get_or r i 0 < 256) → l ≡ put (little_endian at 4) n r → l ≡ store (little_endian at 4) n r
  leaves_four h k e = e ∙ put_stores (little_endian at 4) n r h (all_bytes (little_endian at 4) r h k)

-- ---- parts

module _ (r : List ℕ) where
  pub leaves_state : (s : State) {n : ℕ} {l : List ℕ} → n ≡ state_number s → l ≡ store field.state n r → l ≡ store_state s r
  unfolding store_state
  leaves_state s en h = rw en at h

  pub leaves_left : (x : Left) {l : List ℕ} → l ≡ store field.left x.0 r → l ≡ store_left x r
  unfolding store_left
  leaves_left x h = h

  pub leaves_put_in : (c : PutIn) {l : List ℕ} → l ≡ store field.put_in c.0 r → l ≡ store_put_in c r
  unfolding store_put_in
  leaves_put_in c h = h

  pub leaves_marks : (m : Marks) {x y : ℕ} {l k : List ℕ} → x ≡ m.read → l ≡ store field.read_mark x r → y ≡ m.write → k ≡ store field.write_mark y l → k ≡ store_marks m r
  unfolding store_marks
  leaves_marks m ex hl ey hk = rw (ey, hl, ex) at hk

  -- One mark is stored. To store the other as it stands changes nothing.
  pub leaves_read_mark : (m : ℕ) {x : ℕ} {l : List ℕ} → length r ≡ field.record_size → x ≡ m → l ≡ store field.read_mark x r → l ≡ store_marks (at m (marks_at r).write) r
  unfolding store_marks marks_at is_apart
  leaves_read_mark m h ex hl =
      let stays = get_apart field.read_mark m r (omega arith) field.write_mark refl in
      rw ex at hl ∙ sym (store_same field.write_mark (get field.write_mark r) (store field.read_mark m r) stays)

  pub leaves_write_mark : (m : ℕ) {x : ℕ} {l : List ℕ} → x ≡ m → l ≡ store field.write_mark x r → l ≡ store_marks (at (marks_at r).read m) r
  unfolding store_marks marks_at
  leaves_write_mark m ex hl = rw ex at hl ∙ ap (store field.write_mark m) (sym (store_same field.read_mark (get field.read_mark r) r refl))

  pub leaves_absent : (s : Option Told) {l : List ℕ} → s ≡ None → l ≡ store field.present 0 r → l ≡ store_status s r
  leaves_absent s e h = rw e h

  pub leaves_present : (s : Option Told) (t : Told) {n : ℕ} {l k j : List ℕ} → s ≡ Some t → l ≡ store field.present 1 r → k ≡ store field.residue t.residue.0 l → n ≡ status_number t.status → j ≡ store field.status n k → j ≡ store_status s r
  leaves_present s t e hl hk en hj = rw e (rw (en, hk, hl) at hj)

  pub leaves_wrapper : (h : Head) (block : List ℕ) {n : ℕ} {a b c d e l : List ℕ} → n ≡ direction_number h.direction → a ≡ store field.direction n r → b ≡ store field.lun h.lun a
      → c ≡ store field.block_length h.blocklength b → d ≡ store field.tag h.tag c → e ≡ store field.declared h.length d → l ≡ overlay e 36 block → l ≡ store_wrapper (wrapper_of_head h block) r
  unfolding store_wrapper
  leaves_wrapper h block en ha hb hc hd he hl = rw (he, hd, hc, hb, ha, en) at hl

-- Zeros cover all that was there.
pub leaves_new : (r : List ℕ) (f : Fixed) {a b c l : List ℕ} {k : ℕ} → length r ≡ field.record_size → a ≡ overlay r 0 (replicate field.record_size 0) → b ≡ store field.packet_size f.packetsize a
    → c ≡ store field.max_lun f.maxlun b → k ≡ f.size → l ≡ store field.size k c → l ≡ new_record f
unfolding new_record
leaves_new r f h ha hb hc hk hl = rw (hk, hc, hb, ha ∙ overlay_whole r (replicate field.record_size 0) (sym h)) at hl

pub ruleset ways = (leaves_new, leaves_state, leaves_left, leaves_put_in, leaves_marks, leaves_read_mark, leaves_write_mark, leaves_absent, leaves_present, leaves_wrapper)

-- The parts of a device are stored one after the other, as `store_device` has them. A part that did not change leaves the bytes, whatever
-- was stored before it. So a call that stores the parts that it changes leaves the bytes of the whole device.
--     device_kept                  nothing changed
--     status_alone, marks_alone    one part changed
--     entered                      status, state and left changed
--     polled                       state, marks and left changed, and the status perhaps
--     moved_to, moved_within       state, marks and left changed; marks and left
--     reached                      state and marks changed
--     parsed                       the wrapper, state, marks and left changed
--     renewed                      all of them changed
--     count_first                  the count of what was put in changed, and whatever else
--     counted-..                   the count changed, and what is named
-- Assumes nothing.
use mathlib.Core.Path.{◌≡◌, refl, sym, ap, ◌∙◌}
use mathlib.Core.Bool.{true}
use mathlib.Core.List.{List, [], ◌∷◌, ◌++◌}
use Prim.Native.Nat.{ℕ, ◌+◌, ◌^◌, ◌<◌}
use native.Mathlib.Omega.{arith}
use lib.Dec.{eqb, leb}
use lib.ListN.{length}
use borrow.Author.Tests.{leb-true, eq-eqb, eqb-true}
use borrow.Table.Steps.{cases}
use Rattle.std.specs.Prelude.{Option, None, Some}
use Rattle.fields.specs.Field.{Field, bytes_at, counted, ordered, get}
use Rattle.fields.proofs.Bools.{clash}
use Rattle.fields.proofs.Overlay.{length_overlay, part_before, part_behind}
use Rattle.buffer.specs.declared.Marks.{Marks}
use Rattle.ring.specs.declared.State.{State}
use Rattle.ring.specs.States.{state_number, state_of_number}
use Rattle.wrapper.specs.declared.Wrapper.{Wrapper}
use Rattle.wrapper.specs.declared.counters.Left.{Left}
use Rattle.wrapper.specs.declared.counters.PutIn.{PutIn}
use Rattle.wrapper.specs.Status.{status_number}
use Rattle.wrapper.specs.Wrapper.{direction_number}
use Rattle.device.specs.declared.Told.{Told}
use Rattle.device.specs.declared.Device.{Device}
use Rattle.device.specs.Device.{in_state, with_marks, with_status, with_wrapper, with_left, with_put_in}
use Rattle.recordbytes.specs.Layout as field
use Rattle.recordbytes.specs.Record.{status_at, marks_at, wrapper_at, fixed_at, device_at, store_state, store_marks, store_left, store_put_in, store_status, store_wrapper, store_device}
use Rattle.recordbytes.proofs.Storing.{is_apart, store_same, get_stored}
use Rattle.recordbytes.proofs.Stored.{Write, write, store_all, are_within, are_apart, length_all, bytes_elsewhere, get_elsewhere, Known, state_kept, marks_kept, left_kept, put_in_kept, status_kept, wrapper_kept}

-- ---- after numbers that stand elsewhere

module _ (r : List ℕ) (k : Known r) (ws : List Write) (within : are_within field.record_size ws ≡ true) where
  reads : (g : Field) → are_apart g ws ≡ true → get g (store_all ws r) ≡ get g r
  reads g a = get_elsewhere field.record_size g ws r k.long within a

  state_behind : are_apart field.state ws ≡ true → store_state (state_of_number (get field.state r)) (store_all ws r) ≡ store_all ws r
  state_behind a = rw (reads field.state a) at (state_kept (store_all ws r) (rw (reads field.state a) k.state))

  marks_behind : are_apart field.read_mark ws ≡ true → are_apart field.write_mark ws ≡ true → store_marks (marks_at r) (store_all ws r) ≡ store_all ws r
  unfolding marks_at
  marks_behind a b = rw (reads field.read_mark a, reads field.write_mark b) at (marks_kept (store_all ws r))

  left_behind : are_apart field.left ws ≡ true → store_left (record { 0 = get field.left r }) (store_all ws r) ≡ store_all ws r
  left_behind a = rw (reads field.left a) at (left_kept (store_all ws r))

-- ---- a call's parts

-- These are the numbers of a status.
abbrev pub status_writes : Option Told → List Write
status_writes None = write field.present 0 ∷ []
status_writes (Some t) = write field.present 1 ∷ write field.residue t.residue.0 ∷ write field.status (status_number t.status) ∷ []

-- These are the numbers of a wrapper; its block is stored after them.
abbrev pub wrapper_writes : Wrapper → List Write
wrapper_writes w =
    write field.direction (direction_number w.direction) ∷ write field.lun w.lun ∷ write field.block_length w.blocklength
    ∷ write field.tag w.tag ∷ write field.declared w.length ∷ []

module _ (r : List ℕ) (long : length r ≡ field.record_size) (w : Wrapper) (sixteen : length w.block ≡ 16) where
  -- This is about a field that stands apart from the block, which is stored later.
  pub beside_block : (g : Field) → is_apart field.block g ≡ true → get g (store_wrapper w r) ≡ get g (store_all (wrapper_writes w) r)
  unfolding store_wrapper get bytes_at is_apart
  beside_block g h =
      let q : List ℕ = store_all (wrapper_writes w) r in
      let whole : length q ≡ field.record_size = length_all field.record_size (wrapper_writes w) r long refl in
      ap (λ (l : List ℕ). counted (ordered g.order l))
      (cases (leb (g.start + g.width) 36)
      (λ e. part_before q 36 w.block g.start g.width (leb-true _ _ e) (omega arith))
      (λ e. part_behind q 36 w.block g.start g.width (omega (arith, leb-true 52 g.start (rw e at h))) (omega arith)))

  -- This field also stands apart from the wrapper's numbers.
  pub beside_wrapper : (g : Field) → is_apart field.block g ≡ true → are_apart g (wrapper_writes w) ≡ true → get g (store_wrapper w r) ≡ get g r
  beside_wrapper g h a = beside_block g h ∙ get_elsewhere field.record_size g (wrapper_writes w) r long refl a

  pub length_wrapper : length (store_wrapper w r) ≡ field.record_size
  unfolding store_wrapper
  length_wrapper =
      let q : List ℕ = store_all (wrapper_writes w) r in
      let whole : length q ≡ field.record_size = length_all field.record_size (wrapper_writes w) r long refl in
      length_overlay q 36 w.block (omega arith) ∙ whole

module _ (r : List ℕ) (k : Known r) where
  abbrev state₀ : State
  state₀ = state_of_number (get field.state r)

  abbrev left₀ : Left
  left₀ = record { 0 = get field.left r }

  wrapper_stays : store_wrapper (wrapper_at r) r ≡ r
  wrapper_stays = wrapper_kept r k.long k.direction

  status_stays : store_status (status_at r) r ≡ r
  status_stays = status_kept r k.flag k.status

  pub renewed : (w : Wrapper) (x : Option Told) (s : State) (m : Marks) (l : Left)
      → store_device (in_state s (with_marks m (with_left l (with_status x (with_wrapper w (device_at r)))))) r ≡ store_left l (store_marks m (store_state s (store_status x (store_wrapper w r))))
  unfolding store_device device_at
  renewed w x s m l = ap (λ (q : List ℕ). store_left l (store_marks m (store_state s (store_status x (store_wrapper w q))))) (put_in_kept r)

  pub polled : (x : Option Told) (s : State) (m : Marks) (l : Left)
      → store_device (in_state s (with_marks m (with_left l (with_status x (device_at r))))) r ≡ store_left l (store_marks m (store_state s (store_status x r)))
  unfolding device_at
  polled x s m l = renewed (wrapper_at r) x s m l ∙ ap (λ (q : List ℕ). store_left l (store_marks m (store_state s (store_status x q)))) wrapper_stays

  module _ (w : Wrapper) (sixteen : length w.block ≡ 16) where
    status_behind_wrapper : store_status (status_at r) (store_wrapper w r) ≡ store_wrapper w r
    unfolding status_at is_apart
    status_behind_wrapper =
        let reads : (g : Field) → is_apart field.block g ≡ true → are_apart g (wrapper_writes w) ≡ true → get g (store_wrapper w r) ≡ get g r = beside_wrapper r k.long w sixteen in
        let flag = reads field.present refl refl in
        let byte = reads field.status refl refl in
        let residue = reads field.residue refl refl in
        rw (flag, byte, residue) at (status_kept (store_wrapper w r) (rw flag k.flag) (rw byte k.status))

    pub parsed : (s : State) (m : Marks) (l : Left) → store_device (in_state s (with_marks m (with_left l (with_wrapper w (device_at r))))) r ≡ store_left l (store_marks m (store_state s (store_wrapper w r)))
    unfolding device_at
    parsed s m l = renewed w (status_at r) s m l ∙ ap (λ (q : List ℕ). store_left l (store_marks m (store_state s q))) status_behind_wrapper

  -- These parts did not change, after a status was stored, or a status and a state.
  state_next : (x : Option Told) → store_state state₀ (store_status x r) ≡ store_status x r
  unfolding is_apart
  state_next None = state_behind r k (status_writes None) refl refl
  state_next (Some t) = state_behind r k (status_writes (Some t)) refl refl

  marks_next : (x : Option Told) (s : State) → store_marks (marks_at r) (store_state s (store_status x r)) ≡ store_state s (store_status x r)
  unfolding store_state is_apart
  marks_next None s = marks_behind r k (status_writes None ++ (write field.state (state_number s) ∷ [])) refl refl refl
  marks_next (Some t) s = marks_behind r k (status_writes (Some t) ++ (write field.state (state_number s) ∷ [])) refl refl refl

  left_next : (x : Option Told) (m : Marks) → store_left left₀ (store_marks m (store_status x r)) ≡ store_marks m (store_status x r)
  unfolding store_marks is_apart
  left_next None m = left_behind r k (status_writes None ++ (write field.read_mark m.read ∷ write field.write_mark m.write ∷ [])) refl refl
  left_next (Some t) m = left_behind r k (status_writes (Some t) ++ (write field.read_mark m.read ∷ write field.write_mark m.write ∷ [])) refl refl

  pub entered : (x : Option Told) (s : State) (l : Left) → store_device (in_state s (with_status x (with_left l (device_at r)))) r ≡ store_left l (store_state s (store_status x r))
  unfolding device_at
  entered x s l = polled x s (marks_at r) l ∙ ap (store_left l) (marks_next x s)

  -- A status and marks changed: state and left stay.
  status_marks : (x : Option Told) (m : Marks) → store_device (with_marks m (with_status x (device_at r))) r ≡ store_marks m (store_status x r)
  unfolding device_at
  status_marks x m = polled x state₀ m left₀ ∙ ap (λ (q : List ℕ). store_left left₀ (store_marks m q)) (state_next x) ∙ left_next x m

  -- State, marks and left changed, or marks and left.
  pub moved_to : (s : State) (m : Marks) (l : Left) → store_device (in_state s (with_marks m (with_left l (device_at r)))) r ≡ store_left l (store_marks m (store_state s r))
  unfolding device_at
  moved_to s m l = polled (status_at r) s m l ∙ ap (λ (q : List ℕ). store_left l (store_marks m (store_state s q))) status_stays

  pub moved_within : (m : Marks) (l : Left) → store_device (with_marks m (with_left l (device_at r))) r ≡ store_left l (store_marks m r)
  unfolding device_at
  moved_within m l = moved_to state₀ m l ∙ ap (λ (q : List ℕ). store_left l (store_marks m q)) (state_kept r k.state)

  -- State and marks changed: left stays.
  pub reached : (s : State) (m : Marks) → store_device (in_state s (with_marks m (device_at r))) r ≡ store_marks m (store_state s r)
  unfolding device_at store_marks store_state is_apart
  reached s m = moved_to s m left₀ ∙ left_behind r k (write field.state (state_number s) ∷ write field.read_mark m.read ∷ write field.write_mark m.write ∷ []) refl refl

  pub marks_alone : (m : Marks) → store_device (with_marks m (device_at r)) r ≡ store_marks m r
  unfolding device_at
  marks_alone m = status_marks (status_at r) m ∙ ap (store_marks m) status_stays

  pub status_alone : (x : Option Told) → store_device (with_status x (device_at r)) r ≡ store_status x r
  unfolding device_at is_apart
  status_alone x = entered x state₀ left₀ ∙ ap (store_left left₀) (state_next x) ∙ left_alone x
    where
      left_alone : (x : Option Told) → store_left left₀ (store_status x r) ≡ store_status x r
      left_alone None = left_behind r k (status_writes None) refl refl
      left_alone (Some t) = left_behind r k (status_writes (Some t)) refl refl

  pub device_kept : store_device (device_at r) r ≡ r
  unfolding device_at
  device_kept = marks_alone (marks_at r) ∙ marks_kept r

-- ---- the count of what was put in

-- It is stored first. What it leaves is the record of the device with that count, so that the rest of a change is a change of this one. A
-- count that changes must have 32 bits.
module _ (r : List ℕ) (k : Known r) (c : PutIn) (small : (get field.put_in r ≡ c.0 → ⊥) → c.0 < 2 ^ 32) where
  abbrev put : List Write
  put = write field.put_in c.0 ∷ []

  beside : (g : Field) → are_apart g put ≡ true → get g (store_put_in c r) ≡ get g r
  unfolding store_put_in
  beside g a = get_elsewhere field.record_size g put r k.long refl a

  bytes_beside : (g : Field) → are_apart g put ≡ true → bytes_at g (store_put_in c r) ≡ bytes_at g r
  unfolding store_put_in
  bytes_beside g a = bytes_elsewhere field.record_size g put r k.long refl a

  length_counted : length (store_put_in c r) ≡ field.record_size
  unfolding store_put_in
  length_counted = length_all field.record_size put r k.long refl

  -- The count is read back.
  pub count_there : get field.put_in (store_put_in c r) ≡ c.0
  unfolding store_put_in
  count_there = cases (eqb (get field.put_in r) c.0)
      (λ e. let same = eqb-true _ _ e in rw (store_same field.put_in c.0 r same) same)
      (λ e. get_stored field.put_in c.0 r (omega (arith, k.long)) (small (λ same. clash (sym (eq-eqb _ _ same) ∙ e))))

  pub counted_known : Known (store_put_in c r)
  unfolding is_apart
  counted_known = record {
    long = length_counted;
    state = rw (beside field.state refl) k.state;
    flag = rw (beside field.present refl) k.flag;
    status = rw (beside field.status refl) k.status;
    direction = rw (beside field.direction refl) k.direction;
  }

  pub counted_holds : device_at (store_put_in c r) ≡ with_put_in c (device_at r)
  unfolding device_at fixed_at marks_at wrapper_at status_at is_apart
  counted_holds =
      rw (beside field.packet_size refl, beside field.max_lun refl, beside field.size refl, beside field.state refl, beside field.read_mark refl, beside field.write_mark refl, beside field.tag refl, beside field.declared refl, beside field.direction refl, beside field.lun refl, beside field.block_length refl, bytes_beside field.block refl, beside field.present refl, beside field.status refl, beside field.residue refl, beside field.left refl, count_there)

  -- A device with that count is stored: this is the same over the bytes with the count stored.
  pub count_first : (d : Device) → store_device (with_put_in c d) r ≡ store_device (with_put_in c d) (store_put_in c r)
  unfolding store_device store_put_in
  count_first d =
      ap (λ (q : List ℕ). store_left d.left (store_marks d.marks (store_state d.state (store_status d.status (store_wrapper d.wrapper q)))))
      (sym (store_same field.put_in c.0 (store_put_in c r) count_there))

  -- Marks changed too; or status, state and left.
  pub counted_marks : (m : Marks) → store_device (with_marks m (with_put_in c (device_at r))) r ≡ store_marks m (store_put_in c r)
  counted_marks m = count_first (with_marks m (device_at r)) ∙ rw counted_holds at (marks_alone (store_put_in c r) counted_known m)

  pub counted_entered : (x : Option Told) (s : State) (l : Left) → store_device (in_state s (with_status x (with_left l (with_put_in c (device_at r))))) r ≡ store_left l (store_state s (store_status x (store_put_in c r)))
  counted_entered x s l = count_first (in_state s (with_status x (with_left l (device_at r)))) ∙ rw counted_holds at (entered (store_put_in c r) counted_known x s l)

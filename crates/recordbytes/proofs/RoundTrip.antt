-- The round trip of the record.
--     back, back_known         a device that was stored is read back, and the bytes are still a record
--     new_holds, new_known     the bytes of a new device are a record, and hold it
--     of_read_lem, of_new          when the first two apply: each record is that of the device which it holds, and a new one is a new device's
-- By `Parts.device_kept`, storing back what was read changes no byte. With it these are the two laws of a record that is read and
-- written: nothing is lost on the way into the bytes, and nothing on the way out. Assumes nothing.
use mathlib.Core.Path.{◌≡◌, refl, sym, ap, ◌∙◌}
use mathlib.Core.Bool.{true, ◌&&◌}
use mathlib.Core.List.{List, [], ◌∷◌, ◌++◌}
use Prim.Native.Nat.{ℕ, ◌^◌, ◌≤◌, ◌<◌}
use native.Mathlib.Omega.{arith}
use lib.Dec.{leb, lit<}
use lib.ListN.{length, replicate}
use borrow.Author.Tests.{leb-true}
use Rattle.std.specs.Prelude.{Option, None, Some}
use Rattle.fields.specs.Field.{Field, bytes_at, counted, ordered, get}
use Rattle.fields.proofs.Bools.{and_left}
use Rattle.fields.proofs.Overlay.{part_inside}
use Rattle.ring.specs.States.{state_number, state_of_number}
use Rattle.ring.proofs.Numbers.{state_back, state_small}
use Rattle.wrapper.specs.declared.Wrapper.{Wrapper}
use Rattle.wrapper.specs.declared.status.CommandStatus.TheVariants.{Passed}
use Rattle.wrapper.specs.Status.{status_number}
use Rattle.wrapper.specs.Wrapper.{direction_number, direction_of_number, no_wrapper}
use Rattle.wrapper.proofs.Numbers.{direction_back, direction_small, status_back, status_small}
use Rattle.device.specs.Device.{told}
use Rattle.device.specs.declared.Fixed.{Fixed}
use Rattle.device.specs.declared.Device.{Device}
use Rattle.device.specs.declared.Told.{Told}
use Rattle.device.specs.Create.{new_device}
use Rattle.recordbytes.specs.Layout as field
use Rattle.recordbytes.specs.Record.{is_known, status_by, status_at, marks_at, wrapper_at, fixed_at, device_at, store_state, store_marks, store_left, store_put_in, store_status, store_wrapper, store_device, new_record}
use Rattle.recordbytes.specs.Inner.Storable.{Storable, RecordOf, StorableFixed}
use Rattle.recordbytes.proofs.Storing.{is_apart}
use Rattle.recordbytes.proofs.Reading.{reads_marks, reads_wrapper, reads_device, reads_status}
use Rattle.recordbytes.proofs.Stored.{Write, write, store_all, are_within, are_apart, length_all, bytes_elsewhere, get_elsewhere, get_there, known_is}
use Rattle.recordbytes.proofs.Parts.{status_writes, wrapper_writes, beside_block, beside_wrapper, length_wrapper}

-- ---- a number is a byte

a_byte : (n k : ℕ) → leb n k ≡ true → k < 256 → n < 256 ^ 1
a_byte n k h b = omega (arith, leb-true n k h)

-- ---- the wrapper's fields

module _ (r : List ℕ) (long : length r ≡ field.record_size) (w : Wrapper) (sixteen : length w.block ≡ 16) where
  -- This is one of the wrapper's numbers; the block is stored after it.
  in_wrapper : (before : List Write) (g : Field) (x : ℕ) (after : List Write) → before ++ (write g x ∷ after) ≡ wrapper_writes w
      → is_apart field.block g ≡ true → are_apart g after ≡ true → x < 256 ^ g.width → get g (store_wrapper w r) ≡ x
  in_wrapper before g x after e h a b =
      beside_block r long w sixteen g h ∙ ap (λ (ws : List Write). get g (store_all ws r)) (sym e) ∙ get_there field.record_size before g x after r long (ap (are_within field.record_size) e) a b

  block_there : bytes_at field.block (store_wrapper w r) ≡ w.block
  unfolding store_wrapper bytes_at
  block_there =
      let q : List ℕ = store_all (wrapper_writes w) r in
      let whole : length q ≡ field.record_size = length_all field.record_size (wrapper_writes w) r long refl in
      rw sixteen at (part_inside q 36 w.block (omega arith))

  direction_there : get field.direction (store_wrapper w r) ≡ direction_number w.direction
  unfolding is_apart
  direction_there =
      in_wrapper [] field.direction _ (write field.lun w.lun ∷ write field.block_length w.blocklength ∷ write field.tag w.tag ∷ write field.declared w.length ∷ []) refl refl refl
      (a_byte _ 2 (direction_small w.direction) (lit< tt))

-- ---- the status's fields

-- The field stands apart from all three of them.
abbrev BesideStatus : Field → Type 0
BesideStatus g = are_apart g (status_writes (Some (told Passed (record { 0 = 0 })))) ≡ true

module _ (q : List ℕ) (long : length q ≡ field.record_size) where
  length_status : (s : Option Told) → length (store_status s q) ≡ field.record_size
  length_status None = length_all field.record_size (status_writes None) q long refl
  length_status (Some t) = length_all field.record_size (status_writes (Some t)) q long refl

  bytes_beside_status : (s : Option Told) (g : Field) → BesideStatus g → bytes_at g (store_status s q) ≡ bytes_at g q
  bytes_beside_status None g a = bytes_elsewhere field.record_size g (status_writes None) q long refl (rw (and_left (is_apart field.present g) (is_apart field.residue g && (is_apart field.status g && true)) a))
  bytes_beside_status (Some t) g a = bytes_elsewhere field.record_size g (status_writes (Some t)) q long refl a

  status_there : (s : Option Told) → ((t : Told) → s ≡ Some t → t.residue.0 < 2 ^ 32) → status_at (store_status s q) ≡ s
  unfolding status_at status_by is_apart
  status_there None h = rw (get_there field.record_size [] field.present 0 [] q long refl refl (lit< tt))
  status_there (Some t) h =
      let flag = get_there field.record_size [] field.present 1 (write field.residue t.residue.0 ∷ write field.status (status_number t.status) ∷ []) q long refl refl (lit< tt) in
      let residue = get_there field.record_size (write field.present 1 ∷ []) field.residue t.residue.0 (write field.status (status_number t.status) ∷ []) q long refl refl (h t refl) in
      let byte = get_there field.record_size (write field.present 1 ∷ write field.residue t.residue.0 ∷ []) field.status (status_number t.status) [] q long refl refl (a_byte _ 2 (status_small t.status) (lit< tt)) in
      rw (flag, residue, byte, status_back t.status)

  -- A test of the flag and the status byte sees these.
  flag_small : (s : Option Told) → get field.present (store_status s q) ≤ 1
  unfolding is_apart
  flag_small None = rw (get_there field.record_size [] field.present 0 [] q long refl refl (lit< tt)) (leb-true 0 1 refl)
  flag_small (Some t) = rw (get_there field.record_size [] field.present 1 (write field.residue t.residue.0 ∷ write field.status (status_number t.status) ∷ []) q long refl refl (lit< tt)) (leb-true 1 1 refl)

  byte_small : (s : Option Told) → (s ≡ None → get field.status q ≤ 2) → get field.status (store_status s q) ≤ 2
  unfolding is_apart
  byte_small None h = rw (get_elsewhere field.record_size field.status (status_writes None) q long refl refl) (h refl)
  byte_small (Some t) h =
      rw (get_there field.record_size (write field.present 1 ∷ write field.residue t.residue.0 ∷ []) field.status (status_number t.status) [] q long refl refl (a_byte _ 2 (status_small t.status) (lit< tt)))
      (leb-true _ _ (status_small t.status))

-- ---- the whole device

-- These numbers are stored last.
abbrev last_writes : Device → List Write
last_writes d = write field.state (state_number d.state) ∷ write field.read_mark d.marks.read ∷ write field.write_mark d.marks.write ∷ write field.left d.left.0 ∷ []

-- This number is stored first.
abbrev count_writes : Device → List Write
count_writes d = write field.put_in d.putin.0 ∷ []

module _ (d : Device) (r : List ℕ) (long : length r ≡ field.record_size) (sixteen : length d.wrapper.block ≡ 16) where
  -- These are the bytes after the count of what was put in was stored, after the wrapper was stored too, and after the status.
  abbrev zeroth : List ℕ
  zeroth = store_put_in d.putin r

  abbrev first : List ℕ
  first = store_wrapper d.wrapper zeroth

  abbrev second : List ℕ
  second = store_status d.status first

  in_turn : store_device d r ≡ store_all (last_writes d) second
  unfolding store_device store_left store_marks store_state
  in_turn = refl

  length_zeroth : length zeroth ≡ field.record_size
  unfolding store_put_in
  length_zeroth = length_all field.record_size (count_writes d) r long refl

  length_first : length first ≡ field.record_size
  length_first = length_wrapper zeroth length_zeroth d.wrapper sixteen

  length_second : length second ≡ field.record_size
  length_second = length_status first length_first d.status

  pub length_device : length (store_device d r) ≡ field.record_size
  length_device = rw in_turn (length_all field.record_size (last_writes d) second length_second refl)

  -- This is a field among those that are stored last.
  at_last : (before : List Write) (g : Field) (x : ℕ) (after : List Write) → before ++ (write g x ∷ after) ≡ last_writes d → are_apart g after ≡ true → x < 256 ^ g.width → get g (store_device d r) ≡ x
  at_last before g x after e a b =
      ap (get g) in_turn
      ∙ ap (λ (ws : List Write). get g (store_all ws second)) (sym e)
      ∙ get_there field.record_size before g x after second length_second (ap (are_within field.record_size) e) a b

  -- This is a field of the status, or one of the wrapper or of none.
  of_status_lem : (g : Field) → are_apart g (last_writes d) ≡ true → get g (store_device d r) ≡ get g second
  of_status_lem g a = rw in_turn (get_elsewhere field.record_size g (last_writes d) second length_second refl a)

  bytes_first : (g : Field) → are_apart g (last_writes d) ≡ true → BesideStatus g → bytes_at g (store_device d r) ≡ bytes_at g first
  bytes_first g a b = rw in_turn (bytes_elsewhere field.record_size g (last_writes d) second length_second refl a ∙ bytes_beside_status first length_first d.status g b)

  of_first : (g : Field) → are_apart g (last_writes d) ≡ true → BesideStatus g → get g (store_device d r) ≡ get g first
  unfolding get
  of_first g a b = rw (bytes_first g a b)

  -- This is a field of the count, or one of none.
  of_zeroth : (g : Field) → are_apart g (last_writes d) ≡ true → BesideStatus g → is_apart field.block g ≡ true → are_apart g (wrapper_writes d.wrapper) ≡ true → get g (store_device d r) ≡ get g zeroth
  of_zeroth g a b h c = of_first g a b ∙ beside_wrapper zeroth length_zeroth d.wrapper sixteen g h c

  -- The count leaves every other field.
  beside_count : (g : Field) → are_apart g (count_writes d) ≡ true → get g zeroth ≡ get g r
  unfolding store_put_in
  beside_count g e = get_elsewhere field.record_size g (count_writes d) r long refl e

  -- No part of a device stands in this field.
  of_none : (g : Field) → are_apart g (last_writes d) ≡ true → BesideStatus g → is_apart field.block g ≡ true → are_apart g (wrapper_writes d.wrapper) ≡ true → are_apart g (count_writes d) ≡ true → get g (store_device d r) ≡ get g r
  of_none g a b h c e = of_zeroth g a b h c ∙ beside_count g e

  -- What creation wrote stays.
  fixed_kept : fixed_at (store_device d r) ≡ fixed_at r
  unfolding fixed_at is_apart
  fixed_kept = rw (of_none field.packet_size refl refl refl refl refl, of_none field.max_lun refl refl refl refl refl, of_none field.size refl refl refl refl refl)

  state_read : get field.state (store_device d r) ≡ state_number d.state
  unfolding is_apart
  state_read =
      at_last [] field.state _ (write field.read_mark d.marks.read ∷ write field.write_mark d.marks.write ∷ write field.left d.left.0 ∷ []) refl refl
      (a_byte _ 8 (state_small d.state) (lit< tt))

  direction_read : get field.direction (store_device d r) ≡ direction_number d.wrapper.direction
  unfolding is_apart
  direction_read = of_first field.direction refl refl ∙ direction_there zeroth length_zeroth d.wrapper sixteen

  marks_read : d.marks.read < 2 ^ 32 → d.marks.write < 2 ^ 32 → marks_at (store_device d r) ≡ d.marks
  unfolding is_apart
  marks_read h k =
      let read = at_last (write field.state (state_number d.state) ∷ []) field.read_mark d.marks.read (write field.write_mark d.marks.write ∷ write field.left d.left.0 ∷ []) refl refl h in
      let wrote = at_last (write field.state (state_number d.state) ∷ write field.read_mark d.marks.read ∷ []) field.write_mark d.marks.write (write field.left d.left.0 ∷ []) refl refl k in
      sym (reads_marks (store_device d r) (sym read) (sym wrote))

  left_read : d.left.0 < 2 ^ 32 → get field.left (store_device d r) ≡ d.left.0
  unfolding is_apart
  left_read h =
      at_last (write field.state (state_number d.state) ∷ write field.read_mark d.marks.read ∷ write field.write_mark d.marks.write ∷ []) field.left d.left.0 [] refl refl h

  put_in_read : d.putin.0 < 2 ^ 32 → get field.put_in (store_device d r) ≡ d.putin.0
  unfolding store_put_in is_apart
  put_in_read h = of_zeroth field.put_in refl refl refl refl ∙ get_there field.record_size [] field.put_in d.putin.0 [] r long refl refl h

  status_read : ((t : Told) → d.status ≡ Some t → t.residue.0 < 2 ^ 32) → status_at (store_device d r) ≡ d.status
  unfolding status_at is_apart
  status_read h = rw (of_status_lem field.present refl, of_status_lem field.status refl, of_status_lem field.residue refl) (status_there first length_first d.status h)

  wrapper_read : Storable d → wrapper_at (store_device d r) ≡ d.wrapper
  unfolding is_apart
  wrapper_read s =
      let w : Wrapper = d.wrapper in
      let inside = in_wrapper zeroth length_zeroth w sixteen in
      let a : Write = write field.direction (direction_number w.direction) in
      let b : Write = write field.lun w.lun in
      let c : Write = write field.block_length w.blocklength in
      let e : Write = write field.tag w.tag in
      let f : Write = write field.declared w.length in
      let lun = of_first field.lun refl refl ∙ inside (a ∷ []) field.lun w.lun (c ∷ e ∷ f ∷ []) refl refl refl s.lun in
      let blocklength = of_first field.block_length refl refl ∙ inside (a ∷ b ∷ []) field.block_length w.blocklength (e ∷ f ∷ []) refl refl refl s.blocklength in
      let tag = of_first field.tag refl refl ∙ inside (a ∷ b ∷ c ∷ []) field.tag w.tag (f ∷ []) refl refl refl s.tag in
      let declared = of_first field.declared refl refl ∙ inside (a ∷ b ∷ c ∷ e ∷ []) field.declared w.length [] refl refl refl s.declared in
      let block = bytes_first field.block refl refl ∙ block_there zeroth length_zeroth w sixteen in
      sym (reads_wrapper (store_device d r) (sym direction_read) (sym (direction_back w.direction)) (sym block) (sym tag) (sym declared) (sym lun) (sym blocklength))

-- What was stored is read.
pub back : (d : Device) (r : List ℕ) → Storable d → RecordOf d r → device_at (store_device d r) ≡ d
unfolding is_apart
back d r s o =
    sym
    (reads_device (store_device d r)
    (sym (fixed_kept d r o.long s.block ∙ o.fixed))
    (sym (state_read d r o.long s.block))
    (sym (state_back d.state))
    (sym (marks_read d r o.long s.block s.read s.write))
    (sym (wrapper_read d r o.long s.block s))
    (sym (status_read d r o.long s.block s.residue))
    (sym (left_read d r o.long s.block s.left))
    (sym (put_in_read d r o.long s.block s.putin)))

-- The bytes are still a record. If there is no status, the status byte stays, so it must have been known before.
pub back_known : (d : Device) (r : List ℕ) → length r ≡ field.record_size → length d.wrapper.block ≡ 16 → (d.status ≡ None → get field.status r ≤ 2) → is_known (store_device d r) ≡ true
unfolding is_apart
back_known d r long sixteen h =
    let q : List ℕ = first d r long sixteen in
    let whole : length q ≡ field.record_size = length_first d r long sixteen in
    let before : get field.status q ≡ get field.status r = beside_wrapper (zeroth d r long sixteen) (length_zeroth d r long sixteen) d.wrapper sixteen field.status refl refl ∙ beside_count d r long sixteen field.status refl in
    known_is (store_device d r) (record {
      long = length_device d r long sixteen;
      state = rw (state_read d r long sixteen) (leb-true _ _ (state_small d.state));
      flag = rw (of_status_lem d r long sixteen field.present refl) (flag_small q whole d.status);
      status = rw (of_status_lem d r long sixteen field.status refl) (byte_small q whole d.status (λ e. rw before (h e)));
      direction = rw (direction_read d r long sixteen) (leb-true _ _ (direction_small d.wrapper.direction));
    })

pub of_read_lem : (r : List ℕ) → length r ≡ field.record_size → RecordOf (device_at r) r
unfolding device_at
of_read_lem r long = record { long = long; fixed = refl }

-- ---- a new device

abbrev new_writes : Fixed → List Write
new_writes f = write field.packet_size f.packetsize ∷ write field.max_lun f.maxlun ∷ write field.size f.size ∷ []

abbrev zeros : List ℕ
zeros = replicate field.record_size 0

module _ (f : Fixed) where
  new_writes_lem : new_record f ≡ store_all (new_writes f) zeros
  unfolding new_record
  new_writes_lem = refl

  new_length : length (new_record f) ≡ field.record_size
  new_length = rw new_writes_lem (length_all field.record_size (new_writes f) zeros refl refl)

  -- A field apart from the three has its zeros.
  new_bytes : (g : Field) → are_apart g (new_writes f) ≡ true → bytes_at g (new_record f) ≡ bytes_at g zeros
  new_bytes g a = rw new_writes_lem (bytes_elsewhere field.record_size g (new_writes f) zeros refl refl a)

  new_get : (g : Field) → are_apart g (new_writes f) ≡ true → get g (new_record f) ≡ get g zeros
  unfolding get
  new_get g a = rw (new_bytes g a)

  pub new_known : is_known (new_record f) ≡ true
  unfolding is_apart get bytes_at counted ordered
  new_known = known_is (new_record f) (record {
    long = new_length;
    state = rw (new_get field.state refl) (leb-true 0 8 refl);
    flag = rw (new_get field.present refl) (leb-true 0 1 refl);
    status = rw (new_get field.status refl) (leb-true 0 2 refl);
    direction = rw (new_get field.direction refl) (leb-true 0 2 refl);
  })

  new_fixed : StorableFixed f → fixed_at (new_record f) ≡ f
  unfolding fixed_at is_apart
  new_fixed fits =
      let p = ap (get field.packet_size) new_writes_lem ∙ get_there field.record_size [] field.packet_size f.packetsize (write field.max_lun f.maxlun ∷ write field.size f.size ∷ []) zeros refl refl refl fits.packetsize in
      let m = ap (get field.max_lun) new_writes_lem ∙ get_there field.record_size (write field.packet_size f.packetsize ∷ []) field.max_lun f.maxlun (write field.size f.size ∷ []) zeros refl refl refl fits.maxlun in
      let s = ap (get field.size) new_writes_lem ∙ get_there field.record_size (write field.packet_size f.packetsize ∷ write field.max_lun f.maxlun ∷ []) field.size f.size [] zeros refl refl refl fits.size in
      rw (p, m, s)

  new_wrapper : wrapper_at (new_record f) ≡ no_wrapper
  unfolding is_apart get bytes_at counted ordered direction_of_number no_wrapper
  new_wrapper =
      sym
      (reads_wrapper (new_record f)
      (sym (new_get field.direction refl))
      refl
      (sym (new_bytes field.block refl))
      (sym (new_get field.tag refl))
      (sym (new_get field.declared refl))
      (sym (new_get field.lun refl))
      (sym (new_get field.block_length refl)))

  pub new_holds : StorableFixed f → device_at (new_record f) ≡ new_device f
  unfolding is_apart get bytes_at counted ordered state_of_number status_by
  new_holds fits =
      let q : List ℕ = new_record f in
      sym
      (reads_device q
      (sym (new_fixed fits))
      (sym (new_get field.state refl))
      refl
      (reads_marks q (sym (new_get field.read_mark refl)) (sym (new_get field.write_mark refl)))
      (sym new_wrapper)
      (reads_status q (sym (new_get field.present refl)) (sym (new_get field.status refl)) (sym (new_get field.residue refl)) refl)
      (sym (new_get field.left refl))
      (sym (new_get field.put_in refl)))

  pub of_new : StorableFixed f → RecordOf (new_device f) (new_record f)
  of_new fits = record { long = new_length; fixed = new_fixed fits }

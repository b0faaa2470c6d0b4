-- Laws of reading a record: what has to be shown for each way through a function (`ways`). Assumes nothing.
use mathlib.Core.Path.{◌≡◌, sym, ◌∙◌}
use mathlib.Core.Bool.{Bool, false}
use mathlib.Core.Logic.{◌⊎◌, inl, inr}
use mathlib.Core.List.{List}
use Prim.Native.Nat.{ℕ, ◌≤◌, ◌<◌}
use native.Mathlib.Omega.{arith}
use lib.Dec.{leb}
use lib.ListN.{length}
use borrow.Author.Tests.{eq-eqb, ne_eqb, le-leb, lt-leb}
use Rattle.std.specs.Prelude.{Option, None, Some}
use Rattle.fields.specs.Field.{bytes_at, get}
use Rattle.fields.proofs.Seq.{listed, part_listed}
use Rattle.buffer.specs.declared.Marks.{Marks}
use Rattle.ring.specs.declared.State.{State}
use Rattle.ring.specs.States.{state_of_number}
use Rattle.wrapper.specs.declared.DataDirection.{DataDirection}
use Rattle.wrapper.specs.declared.Wrapper.{Wrapper}
use Rattle.wrapper.specs.declared.status.CommandStatus.{CommandStatus}
use Rattle.wrapper.specs.Status.{status_of_number}
use Rattle.wrapper.specs.Wrapper.{direction_of_number}
use Rattle.device.specs.declared.Fixed.{Fixed}
use Rattle.device.specs.declared.Device.{Device}
use Rattle.device.specs.declared.Numbers.{Numbers}
use Rattle.device.specs.declared.Told.{Told}
use Rattle.device.specs.Device.{numbers_of, told}
use Rattle.recordbytes.specs.Layout as field
use Rattle.recordbytes.specs.Record.{is_known, status_by, status_at, marks_at, wrapper_at, fixed_at, device_at}

-- ---- whether bytes are a record

module _ (r : List ℕ) where
  pub not_long : (length r ≡ field.record_size → ⊥) → false ≡ is_known r
  unfolding is_known
  not_long n = rw (ne_eqb _ _ n)

  module _ (h : length r ≡ field.record_size) {s : ℕ} (es : s ≡ get field.state r) where
    no_state : 8 < s → false ≡ is_known r
    unfolding is_known
    no_state n = rw (eq-eqb _ _ h, ← es, lt-leb _ _ n)

    module _ (hs : s ≤ 8) {p : ℕ} (ep : p ≡ get field.present r) where
      no_flag : 1 < p → false ≡ is_known r
      unfolding is_known
      no_flag n = rw (eq-eqb _ _ h, ← es, le-leb _ _ hs, ← ep, lt-leb _ _ n)

      module _ (hp : p ≤ 1) {b : ℕ} (eb : b ≡ get field.status r) where
        no_status : 2 < b → false ≡ is_known r
        unfolding is_known
        no_status n = rw (eq-eqb _ _ h, ← es, le-leb _ _ hs, ← ep, le-leb _ _ hp, ← eb, lt-leb _ _ n)

        pub by_direction_lem : b ≤ 2 → {d : ℕ} → d ≡ get field.direction r → leb d 2 ≡ is_known r
        unfolding is_known
        by_direction_lem hb ed = rw (eq-eqb _ _ h, ← es, le-leb _ _ hs, ← ep, le-leb _ _ hp, ← eb, le-leb _ _ hb, ← ed)

  -- The first test that fails decides.
  module _ (h : length r ≡ field.record_size) {s p b : ℕ} (es : s ≡ get field.state r) (ep : p ≡ get field.present r) (eb : b ≡ get field.status r) where
    pub by_test_lem : {t : Bool} → t ≡ false → ((s ≤ 8) × (p ≤ 1) × (2 < b)) ⊎ (((s ≤ 8) × (1 < p)) ⊎ (8 < s)) → t ≡ is_known r
    by_test_lem e (inl x) = e ∙ no_status h es x.0 ep x.1 eb x.2
    by_test_lem e (inr (inl x)) = e ∙ no_flag h es x.0 ep x.1
    by_test_lem e (inr (inr x)) = e ∙ no_state h es x

-- ---- the status

module _ (flag byte residue : ℕ) where
  pub no_status_there : flag ≡ 0 → None ≡ status_by flag byte residue
  unfolding status_by
  no_status_there e = rw (eq-eqb _ _ e)

  pub status_there : (flag ≡ 0 → ⊥) → {s : CommandStatus} → s ≡ status_of_number byte → Some (told s (record { 0 = residue })) ≡ status_by flag byte residue
  unfolding status_by
  status_there n e = rw (ne_eqb _ _ n, e)

-- ---- parts

module _ (r : List ℕ) where
  pub reads_status : {flag byte residue : ℕ} {s : Option Told} → flag ≡ get field.present r → byte ≡ get field.status r → residue ≡ get field.residue r → s ≡ status_by flag byte residue → s ≡ status_at r
  unfolding status_at
  reads_status ef eb er e = rw (← ef, ← eb, ← er, e)

  pub reads_marks : {x y : ℕ} → x ≡ get field.read_mark r → y ≡ get field.write_mark r → ◌≡◌ {A = Marks} (record { read = x; write = y }) (marks_at r)
  unfolding marks_at
  reads_marks ex ey = rw (ex, ey)

  pub reads_block : length r ≡ field.record_size → listed r 36 16 ≡ bytes_at field.block r
  unfolding bytes_at
  reads_block h = sym (part_listed r 36 16 (omega arith))

  pub reads_wrapper : {n t l u b : ℕ} {d : DataDirection} {k : List ℕ} → n ≡ get field.direction r → d ≡ direction_of_number n → k ≡ bytes_at field.block r
      → t ≡ get field.tag r → l ≡ get field.declared r → u ≡ get field.lun r → b ≡ get field.block_length r
      → ◌≡◌ {A = Wrapper} (record { tag = t; length = l; direction = d; lun = u; blocklength = b; block = k }) (wrapper_at r)
  unfolding wrapper_at
  reads_wrapper en ed ek et el eu eb = rw (ed, en, ek, et, el, eu, eb)

  pub reads_fixed : {p m s : ℕ} → p ≡ get field.packet_size r → m ≡ get field.max_lun r → s ≡ get field.size r → ◌≡◌ {A = Fixed} (record { packetsize = p; maxlun = m; size = s }) (fixed_at r)
  unfolding fixed_at
  reads_fixed ep em es = rw (ep, em, es)

  pub reads_device : {n l c : ℕ} {f : Fixed} {s : State} {marks : Marks} {w : Wrapper} {status : Option Told} → f ≡ fixed_at r → n ≡ get field.state r → s ≡ state_of_number n → marks ≡ marks_at r → w ≡ wrapper_at r → status ≡ status_at r
      → l ≡ get field.left r → c ≡ get field.put_in r → ◌≡◌ {A = Device} (record { fixed = f; state = s; marks = marks; wrapper = w; status = status; left = record { 0 = l }; putin = record { 0 = c } }) (device_at r)
  unfolding device_at
  reads_device ef en es em ew et el ec = rw (ef, es, en, em, ew, et, el, ec)

  pub reads_numbers : {d : Device} {x : Numbers} → d ≡ device_at r → x ≡ numbers_of d → x ≡ numbers_of (device_at r)
  reads_numbers ed ex = rw (← ed, ex)

pub ruleset ways = (not_long, no_status_there, status_there, reads_status, reads_marks, reads_block, reads_wrapper, reads_fixed, reads_device, reads_numbers)

-- What each way through a call owes (`ways`): the call by value was made on the device that the bytes hold, and what it changes was stored:
-- the marks, and with a write the count of what was put in before them. Assumes nothing.
use mathlib.Core.Path.{◌≡◌, refl, sym, ap, ◌∙◌, subst}
use mathlib.Core.Bool.{Bool, true, false, not, cond}
use mathlib.Core.List.{List}
use Prim.Native.Nat.{ℕ, ◌^◌, ◌≤◌, ◌<◌}
use native.Mathlib.Omega.{arith}
use lib.Dec.{eqb}
use lib.ListN.{length}
use borrow.Author.Tests.{eq-eqb, ne_eqb}
use borrow.Table.Steps.{cases}
use Rattle.answers.specs.Answers.{answer, answer_of}
use Rattle.device.specs.declared.Device.{Device}
use Rattle.device.specs.Device.{numbers_of, with_marks, with_put_in}
use Rattle.device.specs.Broken.{Whole}
use Rattle.device.proofs.Wholly.{size_most}
use Rattle.calls.specs.declared.Moved.{Moved}
use Rattle.calls.specs.Data.{Moving, moving, moving_of, read_data_call, write_data_call, write_data_all_call}
use Rattle.calls.proofs.After.{Tells10, read_tells, read_keeps, read_whole, read_within, write_tells, write_keeps, write_storable, write_whole, write_within, write_all_tells, write_all_keeps, write_all_storable, write_all_whole, write_all_within}
use Rattle.recordbytes.specs.Record.{is_known, device_at, store_marks, store_put_in, store_device}
use Rattle.recordbytes.proofs.Stored.{Known, is_known_lem, put_in_kept}
use Rattle.recordbytes.proofs.Parts.{device_kept, marks_alone, counted_marks}
use Rattle.border.specs.Word.{word, upper_half, answer_word}
use Rattle.border.proofs.Lending.{known_then, long_then, unknown, made}
use Rattle.databytes.specs.Data.{data_outcome, data_outcome_of, read_data_on, write_data_on, write_data_all_on}
use Rattle.databytes.specs.Inner.Data.{StorableMove, is10}

-- ---- what is stored

-- The marks of a whole device fit into 32 bits, and so does a count that is not above its write mark.
fits : (m : Moved) (len : ℕ) → Whole (numbers_of m.device) len → m.report.count ≤ m.device.marks.write → StorableMove m
fits m len w h =
    let most = size_most (numbers_of m.device) len w in
    record { read = omega (arith, w.order, w.within, most); write = omega (arith, w.within, most); count = omega (arith, h, w.within, most) }

module _ (m : Moved) {n : ℕ} (en : n ≡ (answer_of m.report.answer).number) where
  refused_is : n ≡ 10 → is10 m ≡ true
  refused_is q = eq-eqb _ _ (sym en ∙ q)

  done_is : (n ≡ 10 → ⊥) → is10 m ≡ false
  done_is q = ne_eqb _ _ (λ e. q (en ∙ e))

  module _ (q : n ≡ 10 → ⊥) (f : is10 m ≡ false → StorableMove m) where
    pub read_small : m.device.marks.read < 2 ^ 32
    read_small = (f (done_is q)).read

    pub write_small : m.device.marks.write < 2 ^ 32
    write_small = (f (done_is q)).write

    pub count_small : m.report.count < 2 ^ 32
    count_small = (f (done_is q)).count

  -- The result, and the record's bytes.
  pub tells_10 : n ≡ 10 → 10 ≡ cond (is10 m) (answer_word 10) (word (answer_of m.report.answer).number 0 0 0 (upper_half (answer_of m.report.answer) m.report.count))
  unfolding word
  tells_10 q = rw (refused_is q)

  pub counts : (n ≡ 10 → ⊥) → {k u x : ℕ} → k ≡ m.report.count → u ≡ upper_half (answer_of m.report.answer) k → x ≡ word n 0 0 0 u → x ≡ cond (is10 m) (answer_word 10) (word (answer_of m.report.answer).number 0 0 0 (upper_half (answer_of m.report.answer) m.report.count))
  counts q ek eu ex = rw (done_is q, ← en, ← ek, ← eu) ex

  pub stays : (r : List ℕ) → n ≡ 10 → r ≡ cond (is10 m) r (store_marks m.device.marks r)
  stays r q = rw (refused_is q)

  pub marks_stored : (r : List ℕ) → (n ≡ 10 → ⊥) → {l : List ℕ} → l ≡ store_marks m.device.marks r → l ≡ cond (is10 m) r (store_marks m.device.marks r)
  marks_stored r q el = rw (done_is q) el

-- A write stores the count of what was put in first.
pub counted_then : (m : Moved) (r : List ℕ) {q l : List ℕ} → q ≡ store_put_in m.device.putin r → l ≡ cond (is10 m) q (store_marks m.device.marks q)
    → l ≡ cond (is10 m) (store_put_in m.device.putin r) (store_marks m.device.marks (store_put_in m.device.putin r))
counted_then m r e h = rw e at h

-- ---- a call

-- What the call by value returned is 10 just where its definition says 10.
same_10 : (m : Moved) (b : List ℕ) {o : Moving} → moving_of m b ≡ o → eqb o.answer.number 10 ≡ is10 m
same_10 m b to = sym (ap (λ (x : Moving). eqb x.answer.number 10) to)

-- The bytes are `q` when the marks are stored. Where the call refused a broken record these are the bytes `r` as they were. Otherwise the
-- marks are all that is then missing for the device that the call left.
module _ (r bytes io : List ℕ) (known : Known r) (o : Moving) (tells : Tells10 (device_at r) io bytes o)
    (m : Moved) (b : List ℕ) (to : moving_of m b ≡ o) (q : List ℕ) (stays : m.device ≡ device_at r → q ≡ r) (kept : store_marks m.device.marks q ≡ store_device m.device r) {x : ℕ} {l : List ℕ}
    (ex : x ≡ cond (is10 m) (answer_word 10) (word (answer_of m.report.answer).number 0 0 0 (upper_half (answer_of m.report.answer) m.report.count))) (el : l ≡ cond (is10 m) q (store_marks m.device.marks q)) where
  refused_comes : is10 m ≡ true → data_outcome x l b ≡ data_outcome_of r o
  unfolding upper_half
  refused_comes ten =
      let is : o ≡ moving (answer 10) 0 (device_at r) bytes = tells.broken (same_10 m b to ∙ ten) in
      let same : b ≡ bytes = ap (λ (y : Moving). y.bytes) (to ∙ is) in
      let before : q ≡ r = stays (ap (λ (y : Moving). y.device) (to ∙ is)) in
      rw (ex, el, ten, same, before) (ap (λ (z : List ℕ). data_outcome (answer_word 10) z bytes) (sym (device_kept r known)) ∙ ap (data_outcome_of r) (sym is))

  done_comes : is10 m ≡ false → data_outcome x l b ≡ data_outcome_of r o
  done_comes other = rw (ex, el, other, kept) (ap (data_outcome_of r) to)

  comes : data_outcome x l b ≡ data_outcome_of r o
  comes = cases (is10 m) refused_comes done_comes

-- A read changes only the marks.
module _ (r : List ℕ) (known : Known r) (o : Moving) (m : Moved) (b : List ℕ) (to : moving_of m b ≡ o) where
  marks_kept : with_marks (device_at r).marks o.device ≡ device_at r → store_marks m.device.marks r ≡ store_device m.device r
  marks_kept keeps =
      let alone : m.device ≡ with_marks m.device.marks (device_at r) =
      ap (λ (y : Moving). with_marks m.device.marks (with_marks (device_at r).marks y.device)) to ∙ ap (with_marks m.device.marks) keeps in
      sym (marks_alone r known m.device.marks) ∙ ap (λ (d : Device). store_device d r) (sym alone)

  -- A write also changes the count.
  counted_stays : m.device ≡ device_at r → store_put_in m.device.putin r ≡ r
  unfolding device_at
  counted_stays e = rw e (put_in_kept r)

  counted_kept : with_put_in (device_at r).putin (with_marks (device_at r).marks o.device) ≡ device_at r → (((device_at r).putin.0 ≡ o.device.putin.0 → ⊥) → o.device.putin.0 < 2 ^ 32)
      → store_marks m.device.marks (store_put_in m.device.putin r) ≡ store_device m.device r
  unfolding device_at
  counted_kept keeps small =
      let with : Device → Device = λ (d : Device). with_marks m.device.marks (with_put_in m.device.putin d) in
      let alone : m.device ≡ with (device_at r) = ap (λ (y : Moving). with (with_put_in (device_at r).putin (with_marks (device_at r).marks y.device))) to ∙ ap with keeps in
      sym (counted_marks r known m.device.putin (rw (← to) at small) m.device.marks) ∙ ap (λ (d : Device). store_device d r) (sym alone)

module _ (r io dst : List ℕ) {k : Bool} (ek : k ≡ is_known r) where
  pub read_unknown : not k ≡ true → data_outcome 10 r dst ≡ read_data_on r io dst
  unfolding read_data_on word
  read_unknown q = unknown r ek (data_outcome (answer_word 10) r dst) (λ (d : Device). data_outcome_of r (read_data_call d io dst)) q

  module _ (q : not k ≡ false) (m : Moved) (dst' : List ℕ) {d : Device} (ed : d ≡ device_at r) (em : moving_of m dst' ≡ read_data_call d io dst) where
    read_is : moving_of m dst' ≡ read_data_call (device_at r) io dst
    read_is = rw ed at em

    pub read_made : {x : ℕ} {l : List ℕ} → (x ≡ cond (is10 m) (answer_word 10) (word (answer_of m.report.answer).number 0 0 0 (upper_half (answer_of m.report.answer) m.report.count))) × (l ≡ cond (is10 m) r (store_marks m.device.marks r)) → data_outcome x l dst' ≡ read_data_on r io dst
    unfolding read_data_on
    read_made e =
        let test = known_then r ek q in
        comes r dst io (is_known_lem r test) (read_data_call (device_at r) io dst) (read_tells (device_at r) io dst) m dst' read_is r (λ _. refl) (marks_kept r (is_known_lem r test) _ m dst' read_is (read_keeps (device_at r) io dst)) e.0 e.1
        ∙ made r (data_outcome (answer_word 10) r dst) (λ (d : Device). data_outcome_of r (read_data_call d io dst)) test

    pub read_fits : is10 m ≡ false → StorableMove m
    read_fits other =
        let whole = (read_tells (device_at r) io dst).whole (same_10 m dst' read_is ∙ other) in
        fits m (length io)
        (subst (λ (o : Moving). Whole (numbers_of o.device) (length io)) (sym read_is) (read_whole (device_at r) io whole dst))
        (subst (λ (o : Moving). o.count ≤ o.device.marks.write) (sym read_is) (read_within (device_at r) io dst whole))

module _ (r io src : List ℕ) {k : Bool} (ek : k ≡ is_known r) where
  pub write_unknown : not k ≡ true → data_outcome 10 r io ≡ write_data_on r io src
  unfolding write_data_on word
  write_unknown q = unknown r ek (data_outcome (answer_word 10) r io) (λ (d : Device). data_outcome_of r (write_data_call d io src)) q

  module _ (q : not k ≡ false) (m : Moved) (io' : List ℕ) {d : Device} (ed : d ≡ device_at r) (em : moving_of m io' ≡ write_data_call d io src) where
    write_is : moving_of m io' ≡ write_data_call (device_at r) io src
    write_is = rw ed at em

    pub write_made : {x : ℕ} {l : List ℕ} → (x ≡ cond (is10 m) (answer_word 10) (word (answer_of m.report.answer).number 0 0 0 (upper_half (answer_of m.report.answer) m.report.count))) × (l ≡ cond (is10 m) (store_put_in m.device.putin r) (store_marks m.device.marks (store_put_in m.device.putin r))) → data_outcome x l io' ≡ write_data_on r io src
    unfolding write_data_on
    write_made e =
        let test = known_then r ek q in
        comes r io io (is_known_lem r test) (write_data_call (device_at r) io src) (write_tells (device_at r) io src) m io' write_is (store_put_in m.device.putin r) (counted_stays r (is_known_lem r test) _ m io' write_is) (counted_kept r (is_known_lem r test) _ m io' write_is (write_keeps (device_at r) io src) (write_storable (device_at r) io src)) e.0 e.1
        ∙ made r (data_outcome (answer_word 10) r io) (λ (d : Device). data_outcome_of r (write_data_call d io src)) test

    pub write_fits : is10 m ≡ false → StorableMove m
    write_fits other =
        let whole = (write_tells (device_at r) io src).whole (same_10 m io' write_is ∙ other) in
        fits m (length io')
        (subst (λ (o : Moving). Whole (numbers_of o.device) (length o.bytes)) (sym write_is) (write_whole (device_at r) io whole src))
        (subst (λ (o : Moving). o.count ≤ o.device.marks.write) (sym write_is) (write_within (device_at r) io src))

module _ (r io src : List ℕ) {k : Bool} (ek : k ≡ is_known r) where
  pub write_all_unknown : not k ≡ true → data_outcome 10 r io ≡ write_data_all_on r io src
  unfolding write_data_all_on word
  write_all_unknown q = unknown r ek (data_outcome (answer_word 10) r io) (λ (d : Device). data_outcome_of r (write_data_all_call d io src)) q

  module _ (q : not k ≡ false) (m : Moved) (io' : List ℕ) {d : Device} (ed : d ≡ device_at r) (em : moving_of m io' ≡ write_data_all_call d io src) where
    write_all_is : moving_of m io' ≡ write_data_all_call (device_at r) io src
    write_all_is = rw ed at em

    pub write_all_made : {x : ℕ} {l : List ℕ} → (x ≡ cond (is10 m) (answer_word 10) (word (answer_of m.report.answer).number 0 0 0 (upper_half (answer_of m.report.answer) m.report.count))) × (l ≡ cond (is10 m) (store_put_in m.device.putin r) (store_marks m.device.marks (store_put_in m.device.putin r))) → data_outcome x l io' ≡ write_data_all_on r io src
    unfolding write_data_all_on
    write_all_made e =
        let test = known_then r ek q in
        comes r io io (is_known_lem r test) (write_data_all_call (device_at r) io src) (write_all_tells (device_at r) io src) m io' write_all_is (store_put_in m.device.putin r) (counted_stays r (is_known_lem r test) _ m io' write_all_is) (counted_kept r (is_known_lem r test) _ m io' write_all_is (write_all_keeps (device_at r) io src) (write_all_storable (device_at r) io src)) e.0 e.1
        ∙ made r (data_outcome (answer_word 10) r io) (λ (d : Device). data_outcome_of r (write_data_all_call d io src)) test

    pub write_all_fits : is10 m ≡ false → StorableMove m
    write_all_fits other =
        let whole = (write_all_tells (device_at r) io src).whole (same_10 m io' write_all_is ∙ other) in
        fits m (length io')
        (subst (λ (o : Moving). Whole (numbers_of o.device) (length o.bytes)) (sym write_all_is) (write_all_whole (device_at r) io whole src))
        (subst (λ (o : Moving). o.count ≤ o.device.marks.write) (sym write_all_is) (write_all_within (device_at r) io src))

pub ruleset ways = (long_then, read_small, write_small, count_small, tells_10, counts, stays, marks_stored, read_unknown, read_made, read_fits, write_unknown, write_made, write_fits, write_all_unknown, write_all_made, write_all_fits)

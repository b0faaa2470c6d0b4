-- A poll through the whole ring: what the functions of a round owe (`ways`), the round itself, and the call, which tests first. Assumes
-- nothing.
use mathlib.Core.Path.{◌≡◌, refl, sym, ap, ◌∙◌, subst}
use mathlib.Core.Bool.{Bool, true, false, not, cond}
use mathlib.Core.List.{List}
use Prim.Native.Nat.{ℕ, ◌-◌, ◌≤◌}
use native.Mathlib.Omega.{arith}
use lib.Dec.{eqb, lit<}
use lib.ListN.{length, take, drop}
use borrow.Author.Tests.{le-leb}
use Rattle.std.specs.Prelude.{None}
use Rattle.fields.specs.Field.{bytes_at}
use Rattle.fields.proofs.Bools.{not_true, not_false}
use Rattle.fields.proofs.Seq.{length_part}
use Rattle.buffer.specs.declared.Marks.{Marks}
use Rattle.ring.specs.declared.State.{State}
use Rattle.wrapper.specs.declared.counters.Left.{Left}
use Rattle.wrapper.specs.declared.counters.PutIn.{PutIn}
use Rattle.answers.specs.declared.Answer.{Answer}
use Rattle.answers.specs.declared.Stalls.{Stalls}
use Rattle.answers.specs.Answers.{answer, answer_of, endpoint_of}
use Rattle.wrapper.specs.declared.Head.{Head}
use Rattle.wrapper.specs.declared.Wrapper.{Wrapper}
use Rattle.wrapper.specs.Wrapper.{wrapper_of}
use Rattle.wrapper.specs.Inner.Wrapper.{head_of}
use Rattle.device.specs.declared.Device.{Device}
use Rattle.device.specs.declared.Numbers.{Numbers}
use Rattle.device.specs.Device.{numbers_of, rebuilt, with_put_in}
use Rattle.device.specs.Broken.{Whole, is_whole, unless_broken}
use Rattle.device.proofs.Wholly.{tested, whole_is, size_most, packet_known, packet_bounds}
use Rattle.bbb.specs.declared.Change.{Change}
use Rattle.bbb.specs.declared.open.Opened.{Opened}
use Rattle.bbb.specs.Poll.{Given, Polling, Fits, is_fitting, refusing, polling_of, poll_call}
use Rattle.bbb.specs.Inner.Phases.{opening_of, is_valid_found, InFront, Opens, opened, opened_io, just_read, wrapper_then, is_counted_anew, put_in_then, ended_of, gone_on, changed_by}
use Rattle.bbb.proofs.Polling as bbb
use Rattle.bbb.proofs.Keeping.{call_whole, call_sizes}
use Rattle.recordbytes.specs.Record.{is_known, device_at, store_state, store_marks, store_left, store_put_in, store_status, store_wrapper, store_device}
use Rattle.recordbytes.specs.Inner.Record.{wrapper_of_head}
use Rattle.recordbytes.proofs.Stored.{Known, is_known_lem}
use Rattle.recordbytes.proofs.Parts.{device_kept, polled, moved_to, parsed, renewed, counted_known, counted_holds, count_first}
use Rattle.border.specs.Word.{word, upper_half, answer_word, stalls_number}
use Rattle.border.specs.Record.{on_device}
use Rattle.ringbytes.specs.Poll.{poll_outcome, poll_on}
use Rattle.ringbytes.specs.Inner.Poll.{StorableChange, store_change}
use Rattle.ringbytes.specs.Poll as spec
use Rattle.border.proofs.Lending.{known_then, made}
use Rattle.border.proofs.Upper.{upper_other}

-- ---- the functions of a round

pub tells : (o : Answer) (stalls : Stalls) (taken sent : ℕ) {a n s k u x : ℕ} → a ≡ (answer_of o).number → n ≡ (answer_of o).carried → s ≡ stalls_number stalls → k ≡ sent → u ≡ upper_half (answer_of o) k → x ≡ word a n s taken u
    → x ≡ word (answer_of o).number (answer_of o).carried (stalls_number stalls) taken (upper_half (answer_of o) sent)
tells o stalls taken sent ea en es ek eu ex = rw (← ea, ← en, ← es, ← ek, ← eu, ex)

module _ (r : List ℕ) (b : Bool) where
  pub clears : b ≡ true → {l : List ℕ} → l ≡ store_status None r → l ≡ cond b (store_status None r) r
  clears q e = rw q e

  pub clears_not : b ≡ false → r ≡ cond b (store_status None r) r
  clears_not q = rw q

pub keeps : (c : Change) (r : List ℕ) {a b d l : List ℕ} → a ≡ cond c.cleared (store_status None r) r → b ≡ store_state c.state a → d ≡ store_marks c.marks b → l ≡ store_left c.left d → l ≡ store_change c r
unfolding store_change
keeps c r ea eb ed el = rw (← ea, ← eb, ← ed, el)

module _ (r : List ℕ) (o : Opened) {b : Bool} (eb : b ≡ is_counted_anew o.found o.cleared) where
  pub counts_anew : b ≡ true → {l : List ℕ} → l ≡ store_put_in (record { 0 = 0 }) r → l ≡ cond (is_counted_anew o.found o.cleared) (store_put_in (record { 0 = 0 }) r) r
  counts_anew q e = rw (← eb, q) e

  pub counts_on : b ≡ false → r ≡ cond (is_counted_anew o.found o.cleared) (store_put_in (record { 0 = 0 }) r) r
  counts_on q = rw (← eb, q)

-- A wrapper that is stored in two parts, head and block.
halves : (m : List ℕ) {h : Head} → h ≡ head_of (wrapper_of m) → wrapper_of_head h (take 16 (drop 15 m)) ≡ wrapper_of m
unfolding wrapper_of bytes_at
halves m e = rw e

module _ (r : List ℕ) (o : Opened) (io : List ℕ) {v : Bool} (ev : v ≡ is_valid_found o.found) where
  pub keeps_found : InFront o → v ≡ true → {h : Head} {l : List ℕ} → h ≡ head_of (wrapper_of (take (o.marks.read - (o.marks.read - 31)) (drop (o.marks.read - 31) io)))
      → l ≡ store_wrapper (wrapper_of_head h (take (31 - 15) (drop 15 (take (o.marks.read - (o.marks.read - 31)) (drop (o.marks.read - 31) io))))) r
      → l ≡ cond (is_valid_found o.found) (store_wrapper (wrapper_of (just_read io o.marks)) r) r
  keeps_found front q eh el =
      rw (← ev, q) (el ∙ ap (λ (w : Wrapper). store_wrapper w r) (halves _ eh) ∙ ap (λ (m : List ℕ). store_wrapper (wrapper_of m) r) (bbb.in_front_lem io o.marks (front (sym ev ∙ q))))

  pub keeps_none : v ≡ false → r ≡ cond (is_valid_found o.found) (store_wrapper (wrapper_of (just_read io o.marks)) r) r
  keeps_none q = rw (← ev, q)

-- ---- a round

-- Where its parts are stored one by one, the device is stored: the wrapper, if `v` is true, and a cleared status, if `b` is.
module _ (x : Wrapper) (s : State) (m : Marks) (l : Left) where
  parts_stored : (r : List ℕ) → Known r → (v b : Bool) → (v ≡ true → length x.block ≡ 16)
      → store_left l (store_marks m (store_state s (cond b (store_status None (cond v (store_wrapper x r) r)) (cond v (store_wrapper x r) r))))
      ≡ store_device (rebuilt (device_at r) s m (cond v x (device_at r).wrapper) (cond b None (device_at r).status) l) r
  parts_stored r k false false h = sym (moved_to r k s m l)
  parts_stored r k false true h = sym (polled r k None s m l)
  parts_stored r k true false h = sym (parsed r k x (h refl) s m l)
  parts_stored r k true true h = sym (renewed r k x None s m l)

  -- Before them the count of what was put in was stored as 0, if `a` is true.
  all_stored : (r : List ℕ) → Known r → (a v b : Bool) → (v ≡ true → length x.block ≡ 16) → {q : List ℕ} → q ≡ cond a (store_put_in (record { 0 = 0 }) r) r
      → store_left l (store_marks m (store_state s (cond b (store_status None (cond v (store_wrapper x q) q)) (cond v (store_wrapper x q) q))))
      ≡ store_device (with_put_in (cond a (record { 0 = 0 }) (device_at r).putin) (rebuilt (device_at r) s m (cond v x (device_at r).wrapper) (cond b None (device_at r).status) l)) r
  all_stored r k false v b h e = rw e (parts_stored r k v b h)
  all_stored r k true v b h e =
      let none : PutIn = record { 0 = 0 } in
      let stored = parts_stored (store_put_in none r) (counted_known r k none (λ _. lit< tt)) v b h in
      rw e (rw (counted_holds r k none (λ _. lit< tt)) at stored
      ∙ sym (count_first r k none (λ _. lit< tt) (rebuilt (device_at r) s m (cond v x (device_at r).wrapper) (cond b None (device_at r).status) l)))

module _ (r io : List ℕ) (g : Given) (known : is_known r ≡ true) {n : Numbers} (en : n ≡ numbers_of (device_at r)) (w : Whole n (length io)) (f : Fits n.fixed.packetsize g.packet g.one g.two) where
  abbrev d : Device
  d = device_at r

  k : Known r
  k = is_known_lem r known

  fitting : is_fitting n.fixed.packetsize (length g.packet) (length g.one) (length g.two) ≡ true
  fitting = sym (bbb.fits_all n.fixed.packetsize (length g.packet) (length g.one) (length g.two) f.first f.second) ∙ le-leb _ _ f.into

  whole : Whole (numbers_of d) (length io)
  whole = rw en at w

  module _ (o : Opened) (io' : List ℕ) (x : Opens (opened n io g.one (endpoint_of g.turn.first)) (opened_io n io g.one (endpoint_of g.turn.first)) o io')
      (c : Change) {io'' packet' : List ℕ} (y : ended_of c io'' packet' ≡ gone_on n (opening_of o) io' g) where
    -- The wrapper and the count that are then in the record.
    abbrev w' : Wrapper
    w' = wrapper_then (opening_of o) io' d.wrapper

    abbrev p' : PutIn
    p' = put_in_then (opening_of o) d.putin

    is_poll_lem : polling_of (record { device = changed_by d c w' p'; report = c.report }) io'' packet' ≡ poll_call d io g
    is_poll_lem = bbb.polls d io g en {v = is_whole n (length io)} refl (whole_is n (length io) w) {w = is_fitting n.fixed.packetsize (length g.packet) (length g.one) (length g.two)} refl fitting c x y refl refl refl

    pub keepable : StorableChange c
    keepable =
        let after : Whole (numbers_of (changed_by d c w' p')) (length io'') = subst (λ (p : Polling). Whole (numbers_of p.device) (length p.io)) (sym is_poll_lem) (call_whole d io g whole) in
        let most = size_most (numbers_of (changed_by d c w' p')) (length io'') after in
        let sent : c.report.sent ≤ d.fixed.packetsize = subst (λ (p : Polling). p.sent ≤ d.fixed.packetsize) (sym is_poll_lem) (call_sizes d io g).sent in
        record {
          read = omega (arith, after.order, after.within, most);
          write = omega (arith, after.within, most);
          sent = omega (arith, sent, (packet_bounds d.fixed.packetsize (packet_known (numbers_of d) (length io) whole)).1);
        }

    -- The wrapper that was found has a block of 16 bytes.
    sixteen : is_valid_found o.found ≡ true → length (wrapper_of (just_read io' o.marks)).block ≡ 16
    unfolding wrapper_of bytes_at just_read
    sixteen q =
        let whole_one : length (take 31 (drop (o.marks.read - 31) io')) ≡ 31 = length_part (o.marks.read - 31) 31 io' (omega (arith, x.front q, x.sound.order, x.sound.within)) in
        length_part 15 16 (take 31 (drop (o.marks.read - 31) io')) (omega arith)

    pub rounds : {r₀ r₁ r₂ : List ℕ} {result : ℕ} → r₀ ≡ cond (is_counted_anew o.found o.cleared) (store_put_in (record { 0 = 0 }) r) r
        → r₁ ≡ cond (is_valid_found o.found) (store_wrapper (wrapper_of (just_read io' o.marks)) r₀) r₀ → r₂ ≡ store_change c r₁
        → result ≡ word (answer_of c.report.answer).number (answer_of c.report.answer).carried (stalls_number c.report.stalls) c.report.taken (upper_half (answer_of c.report.answer) c.report.sent)
        → poll_outcome result r₂ io'' packet' ≡ poll_on r io g
    unfolding poll_on store_change wrapper_then
    rounds {r₀} {r₁} {r₂} e₀ e₁ e₂ e =
        let stored : r₂ ≡ store_device (changed_by d c w' p') r =
        rw e₁ at e₂ ∙ all_stored (wrapper_of (just_read io' o.marks)) c.state c.marks c.left r k (is_counted_anew o.found o.cleared) (is_valid_found o.found) c.cleared sixteen e₀ in
        rw (stored, e) (ap (spec.poll_outcome_of r) is_poll_lem ∙ made r (poll_outcome (answer_word 10) r io g.packet) (λ (d : Device). spec.poll_outcome_of r (poll_call d io g)) known)

-- ---- the call

pub whole_there : (n : Numbers) (len : ℕ) {v : Bool} → v ≡ is_whole n len → not v ≡ false → Whole n len
whole_there n len {v} ev q = tested n len ev (not_false v q)

pub fits_there : (p : ℕ) (packet one two : List ℕ) {u : Bool} → u ≡ is_fitting p (length packet) (length one) (length two) → not u ≡ false → Fits p packet one two
fits_there p packet one two {u} eu q = bbb.is_fitting_lem p packet one two eu (not_false u q)

module _ (r io : List ℕ) (g : Given) (is : is_known r ≡ true) where
  pub on : (o : Polling) → poll_call (device_at r) io g ≡ o → spec.poll_outcome_of r o ≡ poll_on r io g
  unfolding poll_on
  on o e = ap (spec.poll_outcome_of r) (sym e) ∙ made r (poll_outcome (answer_word 10) r io g.packet) (λ (d : Device). spec.poll_outcome_of r (poll_call d io g)) is

  same : (n : ℕ) → eqb n 1 ≡ false → spec.poll_outcome_of r (refusing (device_at r) io g n) ≡ poll_outcome (answer_word n) r io g.packet
  same n other = rw (upper_other (answer n) 0 other, device_kept r (is_known_lem r is))

module _ (r io : List ℕ) (g : Given) {b : Bool} (eb : b ≡ is_known r) where
  pub poll_unknown : not b ≡ true → poll_outcome 10 r io g.packet ≡ poll_on r io g
  unfolding poll_on on_device word
  poll_unknown q = rw (← eb, not_true b q)

  module _ (qb : not b ≡ false) {n : Numbers} (en : n ≡ numbers_of (device_at r)) {v : Bool} (ev : v ≡ is_whole n (length io)) where
    pub poll_broken : not v ≡ true → poll_outcome 10 r io g.packet ≡ poll_on r io g
    unfolding poll_call unless_broken word
    poll_broken q = let is = known_then r eb qb in sym (same r io g is 10 refl) ∙ on r io g is (refusing (device_at r) io g 10) (rw (← en, ← ev, not_true v q))

    pub poll_refused : not v ≡ false → {u : Bool} → u ≡ is_fitting n.fixed.packetsize (length g.packet) (length g.one) (length g.two) → not u ≡ true → poll_outcome 11 r io g.packet ≡ poll_on r io g
    unfolding poll_call unless_broken word
    poll_refused qv {u} eu q =
        let is = known_then r eb qb in
        let unfit : is_fitting (device_at r).fixed.packetsize (length g.packet) (length g.one) (length g.two) ≡ false = sym (rw en at eu) ∙ not_true u q in
        sym (same r io g is 11 refl) ∙ on r io g is (refusing (device_at r) io g 11) (rw (← en, ← ev, not_false v qv, unfit))

pub ruleset ways = (tells, clears, clears_not, counts_anew, counts_on, keeps, keeps_found, keeps_none)

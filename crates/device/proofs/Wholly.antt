-- What follows for a whole record.
--     is_whole_lem, whole_is    the test says whether a record is whole
--     passes, stops, either what a call gives that checks 10 first
--     whole_sound           its marks are sound over the lent buffer
--     absent_in_0           in 0 no status is present
--     packet_below, lun_below, size_below   the numbers that creation accepts are small
--     wrapper_fits, packet_fits, packet_bounds   the buffer holds a wrapper and a packet, and P is 8 to 64
-- Assumes nothing.
use mathlib.Core.Path.{◌≡◌, refl, sym, ◌∙◌}
use mathlib.Core.Bool.{Bool, true, false, cond, ◌&&◌, ◌||◌}
use mathlib.Core.List.{List}
use Prim.Native.Nat.{ℕ, ◌^◌, ◌≤◌, ◌<◌}
use native.Mathlib.Omega.{arith}
use lib.Dec.{eqb, ltb, leb}
use lib.ListN.{length}
use borrow.Author.Tests.{eq-eqb, eqb-true, leb-true, le-leb, ltb-false}
use Rattle.fields.proofs.Bools.{and_left, and_right, not_true, of_picked}
use Rattle.buffer.specs.Buffer.{is_sound, buffer}
use Rattle.buffer.specs.Inner.Buffer.{Sound}
use Rattle.ring.specs.declared.State.TheVariants.{CommandTransfer}
use Rattle.device.specs.declared.Fixed.{Fixed}
use Rattle.device.specs.declared.Device.{Device}
use Rattle.device.specs.declared.Numbers.{Numbers}
use Rattle.device.specs.Device.{is_present, numbers_of}
use Rattle.device.specs.Create.{is_packet_size, creation_checks}
use Rattle.device.specs.Broken.{command_fits, status_fits, Whole, is_whole, unless_broken}

-- The tests give the rules as facts.
whole_by : (n : Numbers) (len : ℕ) → eqb n.fixed.size len ≡ true → eqb (creation_checks n.fixed) 0 ≡ true → is_sound n.fixed.size n.marks ≡ true
    → command_fits n.lun n.blocklength ≡ true → status_fits n.state (is_present n.status) ≡ true → Whole n len
unfolding is_sound command_fits
whole_by n len a b c d f = record {
  lent = eqb-true _ _ a;
  created = eqb-true _ _ b;
  order = leb-true _ _ (and_left (leb n.marks.read n.marks.write) (leb n.marks.write n.fixed.size) c);
  within = leb-true _ _ (and_right (leb n.marks.read n.marks.write) (leb n.marks.write n.fixed.size) c);
  block = leb-true _ _ (and_left (leb n.blocklength 16) (leb n.lun 15) d);
  lun = leb-true _ _ (and_right (leb n.blocklength 16) (leb n.lun 15) d);
  status = f;
}

-- This takes a conjunction of five tests apart.
five : {A : Type 0} (a b c d f : Bool) → (a ≡ true → b ≡ true → c ≡ true → d ≡ true → f ≡ true → A) → a && (b && (c && (d && f))) ≡ true → A
five a b c d f k e =
    let bcdf = and_right a (b && (c && (d && f))) e in
    let cdf = and_right b (c && (d && f)) bcdf in
    let df = and_right c (d && f) cdf in
    k (and_left a (b && (c && (d && f))) e) (and_left b (c && (d && f)) bcdf) (and_left c (d && f) cdf) (and_left d f df) (and_right d f df)

pub is_whole_lem : (n : Numbers) (len : ℕ) → is_whole n len ≡ true → Whole n len
unfolding is_whole
is_whole_lem n len e = five _ _ _ _ _ (whole_by n len) e

pub whole_is : (n : Numbers) (len : ℕ) → Whole n len → is_whole n len ≡ true
unfolding is_whole is_sound command_fits
whole_is n len w = rw (eq-eqb _ _ w.lent, eq-eqb _ _ w.created, le-leb _ _ w.order, le-leb _ _ w.within, le-leb _ _ w.block, le-leb _ _ w.lun) w.status

-- The test at the start of a call gives this to what follows it.
pub tested : (n : Numbers) (len : ℕ) {r : Bool} → r ≡ is_whole n len → r ≡ true → Whole n len
tested n len h e = is_whole_lem n len (sym h ∙ e)

pub whole_sound : (n : Numbers) (io : List ℕ) → Whole n (length io) → Sound (buffer io n.marks)
whole_sound n io w = record { order = w.order; within = omega (arith, w.within, w.lent) }

pub absent_in_0 : (n : Numbers) (len : ℕ) → Whole n len → n.state ≡ CommandTransfer → is_present n.status ≡ false
absent_in_0 n len w e = not_true (is_present n.status) (rw e at w.status)

-- ---- 10 comes first

module _ {A : Type 0} (d : Device) (io : List ℕ) where
  pub passes : Whole (numbers_of d) (length io) → (refused done : A) → unless_broken d io refused done ≡ done
  unfolding unless_broken
  passes w refused done = rw (whole_is (numbers_of d) (length io) w)

  pub stops : is_whole (numbers_of d) (length io) ≡ false → (refused done : A) → unless_broken d io refused done ≡ refused
  unfolding unless_broken
  stops h refused done = rw h

  -- If `P` holds of the refusal and of what is done with a whole record, it holds of the call.
  pub either : (P : A → Type 0) {refused done : A} → P refused → (Whole (numbers_of d) (length io) → P done) → P (unless_broken d io refused done)
  unfolding unless_broken
  either P p q = of_picked P (is_whole (numbers_of d) (length io)) (λ e. q (is_whole_lem (numbers_of d) (length io) e)) (λ _. p)

-- ---- the packet size and the buffer

-- No creation rule is violated, so each test is known.
unviolated : (a b c d e : Bool) → ◌≡◌ {A = ℕ} (cond a 2 (cond (b || c) 5 (cond d (cond e 9 0) 8))) 0 → (b ≡ false) × (c ≡ false) × (d ≡ true) × (e ≡ false) × (a ≡ false)
unviolated true b c d e h = absurd (omega (arith, h))
unviolated false true c d e h = absurd (omega (arith, h))
unviolated false false true d e h = absurd (omega (arith, h))
unviolated false false false true true h = absurd (omega (arith, h))
unviolated false false false true false h = (refl, refl, refl, refl, refl)
unviolated false false false false e h = absurd (omega (arith, h))

rules : (f : Fixed) → creation_checks f ≡ 0 → (ltb f.size 31 ≡ false) × (ltb f.size f.packetsize ≡ false) × (is_packet_size f.packetsize ≡ true) × (ltb 65536 f.size ≡ false) × (ltb 15 f.maxlun ≡ false)
unfolding creation_checks
rules f e = unviolated (ltb 15 f.maxlun) (ltb f.size 31) (ltb f.size f.packetsize) (is_packet_size f.packetsize) (ltb 65536 f.size) e

module _ (n : Numbers) (len : ℕ) (w : Whole n len) where
  -- A wrapper fits into the buffer, and so does a packet.
  pub wrapper_fits : 31 ≤ len
  wrapper_fits = omega (arith, ltb-false n.fixed.size 31 (rules n.fixed w.created).0, w.lent)

  pub packet_fits : n.fixed.packetsize ≤ len
  packet_fits = omega (arith, ltb-false n.fixed.size n.fixed.packetsize (rules n.fixed w.created).1, w.lent)

  -- "IO buffer 31 to 65,536 bytes"
  pub size_most : n.fixed.size ≤ 65536
  size_most = ltb-false 65536 n.fixed.size (rules n.fixed w.created).3

  pub packet_known : is_packet_size n.fixed.packetsize ≡ true
  packet_known = (rules n.fixed w.created).2

-- If one of two tests is true, what follows from each of them follows.
or_true : (a b : Bool) {A : Type 0} → (a ≡ true → A) → (b ≡ true → A) → (a || b) ≡ true → A
or_true true b f g h = f refl
or_true false b f g h = g h

within : (p k : ℕ) → 8 ≤ k → k ≤ 64 → eqb p k ≡ true → (8 ≤ p) × (p ≤ 64)
within p k a b h = let e = eqb-true p k h in (omega arith, omega arith)

pub packet_bounds : (p : ℕ) → is_packet_size p ≡ true → (8 ≤ p) × (p ≤ 64)
unfolding is_packet_size
packet_bounds p h =
    or_true (eqb p 8) _ (within p 8 (omega arith) (omega arith))
    (or_true (eqb p 16) _ (within p 16 (omega arith) (omega arith))
    (or_true (eqb p 32) _ (within p 32 (omega arith) (omega arith)) (within p 64 (omega arith) (omega arith)))) h

-- The numbers that creation accepts are small: P and max LUN fit into a byte, and the size into 32 bits.
pub packet_below : (f : Fixed) → creation_checks f ≡ 0 → f.packetsize < 256
packet_below f e = omega (arith, (packet_bounds f.packetsize (rules f e).2).1)

pub lun_below : (f : Fixed) → creation_checks f ≡ 0 → f.maxlun < 256
lun_below f e = omega (arith, ltb-false 15 f.maxlun (rules f e).4)

pub size_below : (f : Fixed) → creation_checks f ≡ 0 → f.size < 2 ^ 32
size_below f e = omega (arith, ltb-false 65536 f.size (rules f e).3)

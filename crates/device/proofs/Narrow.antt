-- The numbers of a device that its record has four bytes for, beside those that `Whole` bounds.
--     Narrow            each of them is below 2^32, and the command block has its 16 bytes
--     residue_absent, residue_present    what it says of a status that is absent, or present
--     narrow_left       a narrow device stays narrow with no more left
--     narrow_status     with a status whose residue has its place
--     narrow_put_in     with another count of what was put in
--     narrow_entered    with 0 entered
--     narrow_started    with a wrapper whose numbers have their place, and its length left
-- Assumes nothing.
use mathlib.Core.Path.{◌≡◌, sym, ap}
use Prim.Native.Nat.{ℕ, ◌^◌, ◌≤◌, ◌<◌}
use native.Mathlib.Omega.{arith}
use lib.Dec.{lit<}
use lib.ListN.{length}
use Rattle.std.specs.Prelude.{Option, None, Some}
use Rattle.fields.proofs.Bools.{clash}
use Rattle.wrapper.specs.declared.Wrapper.{Wrapper}
use Rattle.wrapper.specs.declared.counters.Left.{Left}
use Rattle.wrapper.specs.declared.counters.PutIn.{PutIn}
use Rattle.device.specs.declared.Told.{Told}
use Rattle.device.specs.declared.Device.{Device}
use Rattle.device.specs.Device.{is_present, with_wrapper, with_status, with_left, with_put_in, entering0}

-- It speaks of the parts that have such numbers, so that a device with another state or other marks is narrow without a law.
pub record NarrowParts (w : Wrapper) (l : Left) (s : Option Told) (c : PutIn) : Type 0 where
  pub tag : w.tag < 2 ^ 32
  pub declared : w.length < 2 ^ 32
  pub block : length w.block ≡ 16
  pub left : l.0 < 2 ^ 32
  pub residue : (t : Told) → s ≡ Some t → t.residue.0 < 2 ^ 32
  pub putin : c.0 < 2 ^ 32

abbrev pub Narrow : Device → Type 0
Narrow d = NarrowParts d.wrapper d.left d.status d.putin

-- This is the residue of a status, 0 if it is absent.
abbrev residue_in : Option Told → ℕ
residue_in None = 0
residue_in (Some t) = t.residue.0

pub residue_absent : (t : Told) → None ≡ Some t → t.residue.0 < 2 ^ 32
residue_absent t e = absurd (clash (sym (ap is_present e)))

pub residue_present : (u : Told) → u.residue.0 < 2 ^ 32 → (t : Told) → Some u ≡ Some t → t.residue.0 < 2 ^ 32
residue_present u h t e = omega (arith, h, ap residue_in e)

module _ (d : Device) (n : Narrow d) where
  pub narrow_left : (l : Left) → l.0 ≤ d.left.0 → Narrow (with_left l d)
  narrow_left l h = record { tag = n.tag; declared = n.declared; block = n.block; left = omega (arith, n.left, h); residue = n.residue; putin = n.putin }

  pub narrow_status : (t : Told) → t.residue.0 < 2 ^ 32 → Narrow (with_status (Some t) d)
  narrow_status t h = record { tag = n.tag; declared = n.declared; block = n.block; left = n.left; residue = residue_present t h; putin = n.putin }

  pub narrow_put_in : (c : PutIn) → c.0 < 2 ^ 32 → Narrow (with_put_in c d)
  narrow_put_in c h = record { tag = n.tag; declared = n.declared; block = n.block; left = n.left; residue = n.residue; putin = h }

  pub narrow_entered : Narrow (entering0 d)
  narrow_entered = record { tag = n.tag; declared = n.declared; block = n.block; left = lit< tt; residue = residue_absent; putin = lit< tt }

  pub narrow_started : (w : Wrapper) → w.tag < 2 ^ 32 → w.length < 2 ^ 32 → length w.block ≡ 16 → Narrow (with_left (record { 0 = w.length }) (with_wrapper w d))
  narrow_started w tag declared block = record { tag = tag; declared = declared; block = block; left = declared; residue = n.residue; putin = n.putin }

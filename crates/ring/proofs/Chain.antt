-- A chain calls at most 4 handlers after its first, from any state: no handler's measure (proofs/+handlers/Invariants.antt) is above 4, and
-- each call lowers it. Five of the ten measures are numbers of at most 3; these laws are of the others. Assumes nothing.
--     present_enough    the handlers of 2, 4 and 7, with k = 1
--     await_enough      the handler of 5
--     status_enough     the handler of 3
use mathlib.Core.Bool.{Bool, true, false}
use Prim.Native.Nat.{ℕ, ◌+◌, ◌≤◌}
use native.Mathlib.Omega.{arith}
use Rattle.ring.specs.Inner.Ring.{extra, whole_ring}

extra_most : (present : Bool) → extra present ≤ 2
extra_most true = omega arith
extra_most false = omega arith

pub present_enough : (k : ℕ) (present : Bool) → k ≤ 2 → k + extra present ≤ 4
present_enough k present h = omega (arith, extra_most present)

pub await_enough : (present : Bool) → extra present ≤ 4
await_enough present = omega (arith, extra_most present)

pub status_enough : (empty : Bool) → whole_ring empty ≤ 4
status_enough true = omega arith
status_enough false = omega arith

-- These laws lead from a direction to its number and back, and from a status to its number and back.
--     direction_back, direction_number_lem, status_back, status_number_lem    there and back, both ways
--     direction_small, status_small                                   the number is at most 2
--     the_last_direction, the_last_status                             what the last way from a number owes
-- Assumes nothing.
use mathlib.Core.Path.{◌≡◌, refl}
use mathlib.Core.Bool.{true}
use Prim.Native.Nat.{ℕ, ◌≤◌}
use lib.Dec.{leb}
use borrow.Author.Tests.{ne_eqb}
use Rattle.fields.proofs.UpTo.{up_to}
use Rattle.wrapper.specs.declared.DataDirection.{DataDirection}
use Rattle.wrapper.specs.declared.DataDirection.TheVariants.{Out, In, NotExpected}
use Rattle.wrapper.specs.declared.status.CommandStatus.{CommandStatus}
use Rattle.wrapper.specs.declared.status.CommandStatus.TheVariants.{Passed, Failed, PhaseError}
use Rattle.wrapper.specs.Wrapper.{direction_number, direction_of_number}
use Rattle.wrapper.specs.Status.{status_number, status_of_number}

-- ---- the direction

pub direction_back : (d : DataDirection) → direction_of_number (direction_number d) ≡ d
unfolding direction_of_number
direction_back Out = refl
direction_back In = refl
direction_back NotExpected = refl

pub direction_number_lem : (n : ℕ) → n ≤ 2 → direction_number (direction_of_number n) ≡ n
unfolding direction_of_number
direction_number_lem n h = up_to (λ (n : ℕ). direction_number (direction_of_number n) ≡ n) 2 n h ((refl, refl), refl)

pub direction_small : (d : DataDirection) → leb (direction_number d) 2 ≡ true
direction_small Out = refl
direction_small In = refl
direction_small NotExpected = refl

-- A number that is neither 0 nor 1 gives the last direction.
pub the_last_direction : (n : ℕ) → (n ≡ 0 → ⊥) → (n ≡ 1 → ⊥) → Out ≡ direction_of_number n
unfolding direction_of_number
the_last_direction n m k = rw (ne_eqb _ 0 m, ne_eqb _ 1 k)

-- ---- the status

pub status_back : (s : CommandStatus) → status_of_number (status_number s) ≡ s
unfolding status_of_number
status_back Passed = refl
status_back Failed = refl
status_back PhaseError = refl

pub status_number_lem : (n : ℕ) → n ≤ 2 → status_number (status_of_number n) ≡ n
unfolding status_of_number
status_number_lem n h = up_to (λ (n : ℕ). status_number (status_of_number n) ≡ n) 2 n h ((refl, refl), refl)

pub status_small : (s : CommandStatus) → leb (status_number s) 2 ≡ true
status_small Passed = refl
status_small Failed = refl
status_small PhaseError = refl

-- A number that is neither 0 nor 1 gives the last status.
pub the_last_status : (n : ℕ) → (n ≡ 0 → ⊥) → (n ≡ 1 → ⊥) → PhaseError ≡ status_of_number n
unfolding status_of_number
the_last_status n m k = rw (ne_eqb _ 0 m, ne_eqb _ 1 k)

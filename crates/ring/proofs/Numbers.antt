-- A state and its number.
--     state_back, state_number_lem    there and back, both ways
--     state_small                 a state's number is at most 8
-- Assumes nothing.
use mathlib.Core.Path.{◌≡◌, refl}
use mathlib.Core.Bool.{true}
use Prim.Native.Nat.{ℕ, ◌≤◌}
use lib.Dec.{leb}
use Rattle.fields.proofs.UpTo.{up_to}
use Rattle.ring.specs.declared.State.{State}
use Rattle.ring.specs.declared.State.TheVariants.{CommandTransfer, CommandTransferInvalid, DataTransferNoData, StatusTransfer, DataTransferToHost, DataTransferToHostStatusAwait, DataTransferToHostEnding, DataTransferFromHost, DataTransferFromHostEnding}
use Rattle.ring.specs.States.{state_number, state_of_number}

pub state_back : (s : State) → state_of_number (state_number s) ≡ s
unfolding state_of_number
state_back CommandTransfer = refl
state_back CommandTransferInvalid = refl
state_back DataTransferNoData = refl
state_back StatusTransfer = refl
state_back DataTransferToHost = refl
state_back DataTransferToHostStatusAwait = refl
state_back DataTransferToHostEnding = refl
state_back DataTransferFromHost = refl
state_back DataTransferFromHostEnding = refl

pub state_number_lem : (n : ℕ) → n ≤ 8 → state_number (state_of_number n) ≡ n
unfolding state_of_number
state_number_lem n h = up_to (λ (n : ℕ). state_number (state_of_number n) ≡ n) 8 n h ((((((((refl, refl), refl), refl), refl), refl), refl), refl), refl)

pub state_small : (s : State) → leb (state_number s) 8 ≡ true
state_small CommandTransfer = refl
state_small CommandTransferInvalid = refl
state_small DataTransferNoData = refl
state_small StatusTransfer = refl
state_small DataTransferToHost = refl
state_small DataTransferToHostStatusAwait = refl
state_small DataTransferToHostEnding = refl
state_small DataTransferFromHost = refl
state_small DataTransferFromHostEnding = refl

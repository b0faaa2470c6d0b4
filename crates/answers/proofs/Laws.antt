-- These laws say what is missing with an answer. Assumes nothing.
use mathlib.Core.Path.{◌≡◌, refl}
use mathlib.Core.Bool.{false}
use Prim.Native.Nat.{ℕ, ◌≤◌}
use native.Mathlib.Omega.{arith}
use lib.Dec.{eqb}
use borrow.Author.Tests.{eqb-true, eqb-false}
use borrow.Table.Steps.{cases}
use Rattle.answers.specs.declared.Endpoint.{Endpoint}
use Rattle.answers.specs.declared.Endpoint.TheVariants.{Served, Busy, Failed}
use Rattle.answers.specs.declared.Answer.{Answer}
use Rattle.answers.specs.declared.Answer.TheVariants.{Done, IoBufferOverflow, InvalidMaxLun, InvalidState, FullPacketExpected, BufferTooSmall, WouldBlock, EndpointError, PacketSizeRefused, BufferTooLarge, BrokenRecord, PacketRefused, StatusRefused, EmptyBlock}
use Rattle.answers.specs.Answers.{Answering, answer, failing, answer_of, Lacks, answered_by}

-- "0 with every other": nothing is missing with another answer than 1.
pub none_missing : (a : Answer) → ((answer_of a).number ≡ 1 → ⊥) → (answer_of a).missing ≡ 0
none_missing Done n = refl
none_missing (IoBufferOverflow k) n = absurd (n refl)
none_missing InvalidMaxLun n = refl
none_missing InvalidState n = refl
none_missing FullPacketExpected n = refl
none_missing BufferTooSmall n = refl
none_missing WouldBlock n = refl
none_missing (EndpointError k) n = refl
none_missing PacketSizeRefused n = refl
none_missing BufferTooLarge n = refl
none_missing BrokenRecord n = refl
none_missing PacketRefused n = refl
none_missing StatusRefused n = refl
none_missing EmptyBlock n = refl

-- Nothing is missing with an answer that is not 1, whatever was wanted.
pub lacks_else : {wanted room : ℕ} (a : Answering) → eqb a.number 1 ≡ false → a.missing ≡ 0 → Lacks wanted room a
lacks_else a other none =
    let not_1 : a.number ≡ 1 → ⊥ = eqb-false a.number 1 other in
    record { less = λ e. absurd (not_1 e); some = λ e. absurd (not_1 e); none = λ _. none }

pub lacks_asked : {wanted room : ℕ} (e : Endpoint) → Lacks wanted room (answered_by e)
lacks_asked Served = lacks_else (answer 0) refl refl
lacks_asked Busy = lacks_else (answer 6) refl refl
lacks_asked (Failed n) = lacks_else (failing n) refl refl

-- No more is missing than was wanted.
pub lacks_most : {wanted room : ℕ} (a : Answering) → Lacks wanted room a → a.missing ≤ wanted
lacks_most {wanted} {room} a h =
    cases (eqb a.number 1)
    (λ e. omega (arith, h.less (eqb-true a.number 1 e)))
    (λ e. omega (arith, h.none (eqb-false a.number 1 e)))

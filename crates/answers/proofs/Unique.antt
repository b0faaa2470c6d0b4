-- No second answer satisfies a promise. `Post` is the contract itself, as the check reads it. For this, document 01's number, the number
-- carried and the bytes missing determine the answer (`named_answer`). Assumes nothing.
use mathlib.Core.Path.{◌≡◌, refl, sym, ◌∙◌}
use mathlib.Core.Bool.{cond}
use lib.Dec.{eqb}
use Rattle.fields.proofs.Only.{Only, once}
use Rattle.answers.specs.declared.Answer.{Answer}
use Rattle.answers.specs.declared.Answer.TheVariants.{Done, IoBufferOverflow, InvalidMaxLun, InvalidState, FullPacketExpected, BufferTooSmall, WouldBlock, EndpointError, PacketSizeRefused, BufferTooLarge, BrokenRecord, PacketRefused, StatusRefused, EmptyBlock}
use Rattle.answers.specs.Answers.{Answering, answer_of}
use Rattle.answers.proofs.answer_number.Kinds as answer-number-kinds
use Rattle.answers.proofs.answer_number.Reads as answer-number
use Rattle.answers.proofs.endpoint_of.Kinds as endpoint-of-kinds
use Rattle.answers.proofs.endpoint_of.Reads as endpoint-of
use Rattle.answers.proofs.served.Kinds as served-kinds
use Rattle.answers.proofs.served.Reads as served
use Rattle.answers.proofs.carried.Kinds as carried-kinds
use Rattle.answers.proofs.carried.Reads as carried
use Rattle.answers.proofs.missing.Kinds as missing-kinds
use Rattle.answers.proofs.missing.Reads as missing
use Rattle.answers.proofs.answered.Kinds as answered-kinds
use Rattle.answers.proofs.answered.Reads as answered
use Rattle.answers.proofs.asked.Kinds as asked-kinds
use Rattle.answers.proofs.asked.Reads as asked

pub named : Answering → Answer
named a =
    cond (eqb a.number 0) Done
    (cond (eqb a.number 1) (IoBufferOverflow a.missing)
    (cond (eqb a.number 2) InvalidMaxLun
    (cond (eqb a.number 3) InvalidState
    (cond (eqb a.number 4) FullPacketExpected
    (cond (eqb a.number 5) BufferTooSmall
    (cond (eqb a.number 6) WouldBlock
    (cond (eqb a.number 7) (EndpointError a.carried)
    (cond (eqb a.number 8) PacketSizeRefused
    (cond (eqb a.number 9) BufferTooLarge
    (cond (eqb a.number 10) BrokenRecord
    (cond (eqb a.number 11) PacketRefused
    (cond (eqb a.number 12) StatusRefused EmptyBlock))))))))))))

pub named_answer : (a : Answer) → named (answer_of a) ≡ a
unfolding named
named_answer Done = refl
named_answer (IoBufferOverflow n) = refl
named_answer InvalidMaxLun = refl
named_answer InvalidState = refl
named_answer FullPacketExpected = refl
named_answer BufferTooSmall = refl
named_answer WouldBlock = refl
named_answer (EndpointError n) = refl
named_answer PacketSizeRefused = refl
named_answer BufferTooLarge = refl
named_answer BrokenRecord = refl
named_answer PacketRefused = refl
named_answer StatusRefused = refl
named_answer EmptyBlock = refl

pub answer_once : (x y : Answer) {t : Answering} → answer_of x ≡ t → answer_of y ≡ t → x ≡ y
answer_once x y p q = once answer_of named named_answer x y p q

pub answer_number_only : Only 0 answer-number-kinds.ps answer-number-kinds.r answer-number.Post (λ κs s. tt {0})
answer_number_only κs a x y s t p q = (p ∙ sym q, refl)

pub endpoint_of_only : Only 0 endpoint-of-kinds.ps endpoint-of-kinds.r endpoint-of.Post (λ κs s. tt {0})
endpoint_of_only κs a x y s t p q = (p ∙ sym q, refl)

pub served_only : Only 0 served-kinds.ps served-kinds.r served.Post (λ κs s. tt {0})
served_only κs a x y s t p q = (p ∙ sym q, refl)

pub carried_only : Only 0 carried-kinds.ps carried-kinds.r carried.Post (λ κs s. tt {0})
carried_only κs a x y s t p q = (p ∙ sym q, refl)

pub missing_only : Only 0 missing-kinds.ps missing-kinds.r missing.Post (λ κs s. tt {0})
missing_only κs a x y s t p q = (p ∙ sym q, refl)

pub answered_only : Only 0 answered-kinds.ps answered-kinds.r answered.Post (λ κs s. tt {0})
answered_only κs a x y s t p q = (answer_once x y p q, refl)

pub asked_only : Only 0 asked-kinds.ps asked-kinds.r asked.Post (λ κs s. tt {0})
asked_only κs a x y s t p q = (p ∙ sym q, refl)

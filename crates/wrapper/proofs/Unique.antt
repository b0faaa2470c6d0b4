-- No second answer satisfies a promise: what the `ensures` of a public call says is true of one answer only. `Post` is the contract itself,
-- as the check reads it. Assumes nothing.
use mathlib.Core.Path.{◌≡◌, refl, sym, ap, ◌∙◌}
use mathlib.Core.Bool.{cond}
use lib.Dec.{eqb}
use Rattle.std.specs.Prelude.{Option, Some, None}
use Rattle.fields.proofs.Only.{Only}
use Rattle.wrapper.specs.declared.status.CommandStatus.TheVariants.{Passed, Failed, PhaseError}
use Rattle.wrapper.specs.declared.status.CommandStatus.{CommandStatus}
use Rattle.wrapper.specs.Status.{status_of_number, StatusAnswering, answer_of}
use Rattle.wrapper.proofs.counters.left_after.Kinds as left-after-kinds
use Rattle.wrapper.proofs.counters.left_after.Reads as left_After
use Rattle.wrapper.proofs.counters.residue_of.Kinds as residue-of-kinds
use Rattle.wrapper.proofs.counters.residue_of.Reads as residue-of
use Rattle.wrapper.proofs.counters.put_in_after.Kinds as put-in-after-kinds
use Rattle.wrapper.proofs.counters.put_in_after.Reads as put-in-after
use Rattle.wrapper.proofs.status.status_of.Kinds as status-of-kinds
use Rattle.wrapper.proofs.status.status_of.Reads as status-of
use Rattle.wrapper.proofs.status.status_number.Kinds as status-number-kinds
use Rattle.wrapper.proofs.status.status_number.Reads as status_number_lem
use Rattle.wrapper.proofs.status.status_of_number.Kinds as status-of-number-kinds
use Rattle.wrapper.proofs.status.status_of_number.Reads as status-of-number
use Rattle.wrapper.proofs.status.put_status.Kinds as put-status-kinds
use Rattle.wrapper.proofs.status.put_status.Reads as put-status
use Rattle.wrapper.proofs.status.status_bytes.Kinds as status-bytes-kinds
use Rattle.wrapper.proofs.status.status_bytes.Reads as status-bytes
use Rattle.wrapper.proofs.valid.Kinds as valid-kinds
use Rattle.wrapper.proofs.valid.Reads as valid
use Rattle.wrapper.proofs.direction_number.Kinds as direction-number-kinds
use Rattle.wrapper.proofs.direction_number.Reads as direction_number_lem
use Rattle.wrapper.proofs.direction_of_number.Kinds as direction-of-number-kinds
use Rattle.wrapper.proofs.direction_of_number.Reads as direction-of-number
use Rattle.wrapper.proofs.head_of.Kinds as head-of-kinds
use Rattle.wrapper.proofs.head_of.Reads as head_of
use Rattle.wrapper.proofs.read_wrapper.Kinds as read-wrapper-kinds
use Rattle.wrapper.proofs.read_wrapper.Reads as read-wrapper
use Rattle.wrapper.proofs.no_wrapper.Kinds as no-wrapper-kinds
use Rattle.wrapper.proofs.no_wrapper.Reads as no-wrapper
use Rattle.wrapper.proofs.parse.Kinds as parse-kinds
use Rattle.wrapper.proofs.parse.Reads as parse
use Rattle.wrapper.proofs.verdict.verdict_on.Kinds as verdict-on-kinds
use Rattle.wrapper.proofs.verdict.verdict_on.Reads as verdict-on
use Rattle.wrapper.proofs.verdict.verdict_number.Kinds as verdict-number-kinds
use Rattle.wrapper.proofs.verdict.verdict_number.Reads as verdict-number

-- Document 01's number and the number of the status determine the answer.
named : StatusAnswering → Option CommandStatus
named t = cond (eqb t.answer 12) None (Some (status_of_number t.status))

named_answer : (x : Option CommandStatus) → named (answer_of x) ≡ x
unfolding named status_of_number
named_answer (Some Passed) = refl
named_answer (Some Failed) = refl
named_answer (Some PhaseError) = refl
named_answer None = refl

pub left_after_only : Only 0 left-after-kinds.ps left-after-kinds.r left_After.Post (λ κs s. tt {0})
left_after_only κs a x y s t p q = (p ∙ sym q, refl)

pub residue_of_only : Only 0 residue-of-kinds.ps residue-of-kinds.r residue-of.Post (λ κs s. tt {0})
residue_of_only κs a x y s t p q = (p ∙ sym q, refl)

pub put_in_after_only : Only 0 put-in-after-kinds.ps put-in-after-kinds.r put-in-after.Post (λ κs s. tt {0})
put_in_after_only κs a x y s t p q = (p ∙ sym q, refl)

pub status_of_only : Only 0 status-of-kinds.ps status-of-kinds.r status-of.Post (λ κs s. tt {0})
status_of_only κs a x y s t p q = (sym (named_answer x) ∙ ap named (p ∙ sym q) ∙ named_answer y, refl)

pub status_number_only : Only 0 status-number-kinds.ps status-number-kinds.r status_number_lem.Post (λ κs s. tt {0})
status_number_only κs a x y s t p q = (p ∙ sym q, refl)

pub status_of_number_only : Only 0 status-of-number-kinds.ps status-of-number-kinds.r status-of-number.Post (λ κs s. tt {0})
status_of_number_only κs a x y s t p q = (p ∙ sym q, refl)

pub put_status_only : Only 1 put-status-kinds.ps put-status-kinds.r put-status.Post (λ κs s. s.0.now)
put_status_only κs a x y s t p q = (refl, p ∙ sym q)

pub status_bytes_only : Only 0 status-bytes-kinds.ps status-bytes-kinds.r status-bytes.Post (λ κs s. tt {0})
status_bytes_only κs a x y s t p q = (p ∙ sym q, refl)

pub direction_number_only : Only 0 direction-number-kinds.ps direction-number-kinds.r direction_number_lem.Post (λ κs s. tt {0})
direction_number_only κs a x y s t p q = (p ∙ sym q, refl)

pub direction_of_number_only : Only 0 direction-of-number-kinds.ps direction-of-number-kinds.r direction-of-number.Post (λ κs s. tt {0})
direction_of_number_only κs a x y s t p q = (p ∙ sym q, refl)

pub valid_only : Only 1 valid-kinds.ps valid-kinds.r valid.Post (λ κs s. tt {0})
valid_only κs a x y s t p q = (p ∙ sym q, refl)

pub head_of_only : Only 1 head-of-kinds.ps head-of-kinds.r head_of.Post (λ κs s. tt {0})
head_of_only κs a x y s t p q = (p ∙ sym q, refl)

pub read_wrapper_only : Only 1 read-wrapper-kinds.ps read-wrapper-kinds.r read-wrapper.Post (λ κs s. tt {0})
read_wrapper_only κs a x y s t p q = (p ∙ sym q, refl)

pub no_wrapper_only : Only 0 no-wrapper-kinds.ps no-wrapper-kinds.r no-wrapper.Post (λ κs s. tt {0})
no_wrapper_only κs a x y s t p q = (p ∙ sym q, refl)

pub parse_only : Only 1 parse-kinds.ps parse-kinds.r parse.Post (λ κs s. tt {0})
parse_only κs a x y s t p q = (p ∙ sym q, refl)

pub verdict_on_only : Only 1 verdict-on-kinds.ps verdict-on-kinds.r verdict-on.Post (λ κs s. tt {0})
verdict_on_only κs a x y s t p q = (p ∙ sym q, refl)

pub verdict_number_only : Only 1 verdict-number-kinds.ps verdict-number-kinds.r verdict-number.Post (λ κs s. tt {0})
verdict_number_only κs a x y s t p q = (p ∙ sym q, refl)

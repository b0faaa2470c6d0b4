-- No second answer satisfies a promise: what the `ensures` of a public call says is true of one answer only. `Post` is the contract itself,
-- as the check reads it. Assumes nothing.
use mathlib.Core.Path.{◌≡◌, refl, sym, ap, ◌∙◌}
use mathlib.Core.List.{List, [], ◌∷◌}
use Prim.Native.Nat.{ℕ}
use Rattle.std.specs.Prelude.{Option, Some, None, Result, Ok, Err}
use native.Mathlib.Omega.{arith}
use Rattle.fields.proofs.Only.{Only}
use Rattle.scsi.specs.declared.ScsiCommand.{ScsiCommand}
use Rattle.scsi.specs.declared.numbers.Refusal.{Refusal}
use Rattle.scsi.specs.declared.numbers.Refusal.TheVariants.{BrokenRecord, EmptyBlock}
use Rattle.scsi.specs.Decoding.{Decoding, answer_of}
use Rattle.scsi.specs.Numbers.{DecodeOutcome, decode_outcome}
use Rattle.scsi.specs.Inner.Numbers.{outcome_number}
use Rattle.scsi.proofs.decode_told.Kinds as decode-told-kinds
use Rattle.scsi.proofs.decode_told.Reads as decode-told
use Rattle.scsi.proofs.decode.Kinds as decode-kinds
use Rattle.scsi.proofs.decode.Reads as decode
use Rattle.scsi.proofs.numbers.Refusal.number.Kinds as number-kinds
use Rattle.scsi.proofs.numbers.Refusal.number.Reads as number
use Rattle.scsi.proofs.numbers.put_command.Kinds as put-command-kinds
use Rattle.scsi.proofs.numbers.put_command.Reads as put-command
use Rattle.scsi.proofs.numbers.put_decoded.Kinds as put-decoded-kinds
use Rattle.scsi.proofs.numbers.put_decoded.Reads as put-decoded
use Rattle.scsi.proofs.numbers.decode_into.Kinds as decode-into-kinds
use Rattle.scsi.proofs.numbers.decode_into.Reads as decode-into
use Rattle.scsi.proofs.numbers.decode_told_into.Kinds as decode-told-into-kinds
use Rattle.scsi.proofs.numbers.decode_told_into.Reads as decode-told-into

-- The command that an answer carries, or that it carries none, determines the answer.
named : List ScsiCommand → Option ScsiCommand
named [] = None
named (c ∷ cs) = Some c

named_answer : (x : Option ScsiCommand) → named (answer_of x).commands ≡ x
unfolding named
named_answer (Some c) = refl
named_answer None = refl

answer_once : (x y : Option ScsiCommand) → answer_of x ≡ answer_of y → x ≡ y
answer_once x y e = sym (named_answer x) ∙ ap (λ (o : Decoding). named o.commands) e ∙ named_answer y

pub decode_told_only : Only 1 decode-told-kinds.ps decode-told-kinds.r decode-told.Post (λ κs s. tt {0})
decode_told_only κs a x y s t p q = (answer_once x y (p ∙ sym q), refl)

pub decode_only : Only 1 decode-kinds.ps decode-kinds.r decode.Post (λ κs s. tt {0})
decode_only κs a x y s t p q = (answer_once x y (p ∙ sym q), refl)

-- ---- the numbers that are lent

-- If the same is shown, the results and the lent numbers are the same. Crates that pass these calls on use this too.
pub shown_once : {n k : ℕ} {l m : List ℕ} → decode_outcome n l ≡ decode_outcome k m → (n ≡ k) × (l ≡ m)
shown_once e = (ap (λ (s : DecodeOutcome). s.number) e, ap (λ (s : DecodeOutcome). s.lent) e)

pub put_command_only : Only 1 put-command-kinds.ps put-command-kinds.r put-command.Post (λ κs s. s.0.now)
put_command_only κs a x y s t p q = (refl, p ∙ sym q)

pub number_only : Only 0 number-kinds.ps number-kinds.r number.Post (λ κs s. tt {0})
number_only κs a x y s t p q = (p ∙ sym q, refl)

-- The number of an outcome determines it.
outcome_once : (x y : Result (Unit {0}) Refusal) → outcome_number x ≡ outcome_number y → x ≡ y
outcome_once (Ok a) (Ok b) e = refl
outcome_once (Ok a) (Err BrokenRecord) e = absurd (omega (arith, e))
outcome_once (Ok a) (Err EmptyBlock) e = absurd (omega (arith, e))
outcome_once (Err BrokenRecord) (Ok b) e = absurd (omega (arith, e))
outcome_once (Err BrokenRecord) (Err BrokenRecord) e = refl
outcome_once (Err BrokenRecord) (Err EmptyBlock) e = absurd (omega (arith, e))
outcome_once (Err EmptyBlock) (Ok b) e = absurd (omega (arith, e))
outcome_once (Err EmptyBlock) (Err BrokenRecord) e = absurd (omega (arith, e))
outcome_once (Err EmptyBlock) (Err EmptyBlock) e = refl

pub put_decoded_only : Only 2 put-decoded-kinds.ps put-decoded-kinds.r put-decoded.Post (λ κs s. s.1.1.0.now)
put_decoded_only κs a x y s t p q =
    let e = shown_once (p ∙ sym q) in
    (outcome_once x y e.0, e.1)

pub decode_into_only : Only 2 decode-into-kinds.ps decode-into-kinds.r decode-into.Post (λ κs s. s.1.0.now)
decode_into_only κs a x y s t p q = shown_once (p ∙ sym q)

pub decode_told_into_only : Only 2 decode-told-into-kinds.ps decode-told-into-kinds.r decode-told-into.Post (λ κs s. s.1.1.0.now)
decode_told_into_only κs a x y s t p q = shown_once (p ∙ sym q)

-- No second answer satisfies a promise: only one answer makes the `ensures` of a public call true, and only one content of the slice that
-- it may write to. `Post` is the contract itself, as the check reads it. Assumes nothing.
use mathlib.Core.Path.{◌≡◌, refl, sym, ap, ◌∙◌}
use mathlib.Core.List.{List, [], ◌∷◌}
use Prim.Native.Nat.{ℕ}
use Rattle.std.specs.Prelude.{Bool, true, false, Option, Some, None}
use Rattle.fields.proofs.Only.{Only, once}
use Rattle.answers.specs.Answers.{answer_of}
use Rattle.answers.proofs.Unique.{named, named_answer}
use Rattle.calls.specs.declared.Stated.{Stated}
use Rattle.calls.specs.declared.Moved.{Moved}
use Rattle.calls.specs.declared.Handled.{Handled}
use Rattle.calls.specs.declared.command.Shown.{Shown}
use Rattle.calls.specs.declared.command.Looked.{Looked}
use Rattle.calls.specs.declared.command.Offer.{Offer}
use Rattle.calls.specs.declared.command.Step.{Step}
use Rattle.calls.specs.Status.{Stating, stating_of}
use Rattle.calls.specs.Data.{Moving, moving_of}
use Rattle.calls.specs.Bus.{Handling, replied, handling_of}
use Rattle.calls.specs.Command.{Showing, showing_with, showing_of, Offered, offered_of, Stepping, stepping_of}
use Rattle.calls.proofs.is_in.Kinds as is-in-kinds
use Rattle.calls.proofs.is_in.Reads as is-in
use Rattle.calls.proofs.set_status.Kinds as set-status-kinds
use Rattle.calls.proofs.set_status.Reads as set-status
use Rattle.calls.proofs.read_data.Kinds as read-data-kinds
use Rattle.calls.proofs.read_data.Reads as read-data
use Rattle.calls.proofs.write_data.Kinds as write-data-kinds
use Rattle.calls.proofs.write_data.Reads as write-data
use Rattle.calls.proofs.try_write_data_all.Kinds as try-write-data-all-kinds
use Rattle.calls.proofs.try_write_data_all.Reads as try-write-data-all
use Rattle.calls.proofs.reset.Kinds as reset-kinds
use Rattle.calls.proofs.reset.Reads as reset
use Rattle.calls.proofs.control.Kinds as control-kinds
use Rattle.calls.proofs.control.Reads as control
use Rattle.calls.proofs.command.command.Kinds as command-kinds
use Rattle.calls.proofs.command.command.Reads as command
use Rattle.calls.proofs.command.offers.Kinds as offers-kinds
use Rattle.calls.proofs.command.offers.Reads as offers
use Rattle.calls.proofs.command.command_step_told.Kinds as command-step-told-kinds
use Rattle.calls.proofs.command.command_step_told.Reads as command-step-told
use Rattle.calls.proofs.command.command_step.Kinds as command-step-kinds
use Rattle.calls.proofs.command.command_step.Reads as command-step

-- ---- what the definitions read of a result determines the result

-- This is the result of `set_status`.
abbrev unstated : Stating → Stated
unstated o = record { device = o.device; answer = named o.answer }

unstated_stated : (x : Stated) → unstated (stating_of x) ≡ x
unstated_stated x = rw (named_answer x.answer)

-- This is the result of a read or write, without the bytes.
abbrev unmoved : Moving → Moved
unmoved o = record { device = o.device; report = record { answer = named o.answer; count = o.count } }

unmoved_moved : (x : Moved) (b : List ℕ) → unmoved (moving_of x b) ≡ x
unmoved_moved x b = rw (named_answer x.report.answer)

moved_once : (x y : Moved) (b c : List ℕ) {o : Moving} → moving_of x b ≡ o → moving_of y c ≡ o → (x ≡ y) × (b ≡ c)
moved_once x y b c p q =
    let e = p ∙ sym q in
    (sym (unmoved_moved x b) ∙ ap unmoved e ∙ unmoved_moved y c, ap (λ (o : Moving). o.bytes) e)

-- In the result of a reset or a control request, the bytes determine the reply.
unreplied : List ℕ → Option ℕ
unreplied [] = None
unreplied (n ∷ ns) = Some n

unreplied_replied : (r : Option ℕ) → unreplied (replied r) ≡ r
unfolding unreplied
unreplied_replied None = refl
unreplied_replied (Some n) = refl

abbrev unhandled : Handling → Handled
unhandled o = record { device = o.device; report = record { answer = named o.answer; stalls = o.stalls; reply = unreplied o.bytes } }

unhandled_handled : (x : Handled) → unhandled (handling_of x) ≡ x
unhandled_handled x = rw (named_answer x.report.answer, unreplied_replied x.report.reply)

-- This is the result of the call that shows the command.
seen : Bool → Showing → Option Shown
seen true o = Some (record { lun = o.lun; blocklength = o.blocklength; block = o.block })
seen false o = None

abbrev unshown : Showing → Looked
unshown o = record { answer = named o.answer; shown = seen o.shown o }

unshown_shown : (x : Looked) → unshown (showing_of x) ≡ x
unfolding seen
unshown_shown x = by x.shown
  where
    by : (s : Option Shown) → unshown (showing_with (answer_of x.answer) s) ≡ record { answer = x.answer; shown = s }
    by (Some s) = rw (named_answer x.answer)
    by None = rw (named_answer x.answer)

-- In the result of a step, the list determines the offer. Crates that pass an offer on use this too.
pub unoffered : List Offered → Option Offer
unoffered [] = None
unoffered (o ∷ os) = Some (record { lun = o.lun; command = o.command })

pub unoffered_offered : (x : Option Offer) → unoffered (offered_of x) ≡ x
unfolding unoffered
unoffered_offered None = refl
unoffered_offered (Some o) = refl

abbrev unstepped : Stepping → Step
unstepped o = record { answer = named o.answer; offer = unoffered o.offers }

unstepped_stepped : (x : Step) → unstepped (stepping_of x) ≡ x
unstepped_stepped x = rw (named_answer x.answer, unoffered_offered x.offer)

-- ---- the calls

pub set_status_only : Only 1 set-status-kinds.ps set-status-kinds.r set-status.Post (λ κs s. tt {0})
set_status_only κs a x y s t p q = (once stating_of unstated unstated_stated x y p q, refl)

pub read_data_only : Only 2 read-data-kinds.ps read-data-kinds.r read-data.Post (λ κs s. s.1.0.now)
read_data_only κs a x y s t p q = moved_once x y _ _ p q

pub write_data_only : Only 2 write-data-kinds.ps write-data-kinds.r write-data.Post (λ κs s. s.1.0.now)
write_data_only κs a x y s t p q = moved_once x y _ _ p q

pub try_write_data_all_only : Only 2 try-write-data-all-kinds.ps try-write-data-all-kinds.r try-write-data-all.Post (λ κs s. s.1.0.now)
try_write_data_all_only κs a x y s t p q = moved_once x y _ _ p q

pub reset_only : Only 1 reset-kinds.ps reset-kinds.r reset.Post (λ κs s. tt {0})
reset_only κs a x y s t p q = (once handling_of unhandled unhandled_handled x y p q, refl)

pub control_only : Only 1 control-kinds.ps control-kinds.r control.Post (λ κs s. tt {0})
control_only κs a x y s t p q = (once handling_of unhandled unhandled_handled x y p q, refl)

pub command_only : Only 1 command-kinds.ps command-kinds.r command.Post (λ κs s. tt {0})
command_only κs a x y s t p q = (once showing_of unshown unshown_shown x y p q, refl)

pub is_in_only : Only 0 is-in-kinds.ps is-in-kinds.r is-in.Post (λ κs s. tt {0})
is_in_only κs a x y s t p q = (p ∙ sym q, refl)

pub offers_only : Only 0 offers-kinds.ps offers-kinds.r offers.Post (λ κs s. tt {0})
offers_only κs a x y s t p q = (p ∙ sym q, refl)

pub command_step_told_only : Only 1 command-step-told-kinds.ps command-step-told-kinds.r command-step-told.Post (λ κs s. tt {0})
command_step_told_only κs a x y s t p q = (once stepping_of unstepped unstepped_stepped x y p q, refl)

pub command_step_only : Only 1 command-step-kinds.ps command-step-kinds.r command-step.Post (λ κs s. tt {0})
command_step_only κs a x y s t p q = (once stepping_of unstepped unstepped_stepped x y p q, refl)

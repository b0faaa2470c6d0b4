-- No second answer satisfies a promise, and no second content of IO buffer and packet buffer. `Post` is the contract itself, as the check
-- reads it. Assumes nothing.
use mathlib.Core.Path.{◌≡◌, refl, sym, ap, ◌∙◌}
use mathlib.Core.List.{List}
use Prim.Native.Nat.{ℕ}
use Rattle.fields.proofs.Only.{Only, once}
use Rattle.answers.proofs.Unique.{named, named_answer}
use Rattle.bbb.specs.declared.Polled.{Polled}
use Rattle.bbb.specs.declared.open.Opened.{Opened}
use Rattle.bbb.specs.declared.Change.{Change}
use Rattle.bbb.specs.Poll.{Polling, polling_of}
use Rattle.bbb.specs.Inner.Phases.{Opening, opening_of, Ended, ended_of}
use Rattle.bbb.proofs.fits.Kinds as fits-kinds
use Rattle.bbb.proofs.fits.Reads as fits
use Rattle.bbb.proofs.is_valid.Kinds as is-valid-kinds
use Rattle.bbb.proofs.is_valid.Reads as is_valid_lem
use Rattle.bbb.proofs.counted_anew.Kinds as counted-anew-kinds
use Rattle.bbb.proofs.counted_anew.Reads as counted-anew
use Rattle.bbb.proofs.open.open.Kinds as open-kinds
use Rattle.bbb.proofs.open.open.Reads as open-call
use Rattle.bbb.proofs.go_on.Kinds as go-on-kinds
use Rattle.bbb.proofs.go_on.Reads as go_on
use Rattle.bbb.proofs.poll.Kinds as poll-kinds
use Rattle.bbb.proofs.poll.Reads as poll

-- 01's number determines the answer, so what is known of a poll determines its result.
abbrev unpolled : Polling → Polled
unpolled o = record { device = o.device; report = record { answer = named o.answer; taken = o.taken; sent = o.sent; stalls = o.stalls } }

unpolled_polled : (x : Polled) (io packet : List ℕ) → unpolled (polling_of x io packet) ≡ x
unpolled_polled x io packet = rw (named_answer x.report.answer)

poll_once : (x y : Polled) (io io' packet packet' : List ℕ) {p : Polling} → polling_of x io packet ≡ p → polling_of y io' packet' ≡ p → (x ≡ y) × ◌≡◌ {A = List ℕ × List ℕ} (io, packet) (io', packet')
poll_once x y io io' packet packet' h k =
    let e = h ∙ sym k in
    (sym (unpolled_polled x io packet) ∙ ap unpolled e ∙ unpolled_polled y io' packet', ap {B = List ℕ × List ℕ} (λ (z : Polling). (z.io, z.packet)) e)

abbrev unopened : Opening → Opened
unopened o = record { found = o.found; marks = o.marks; left = o.left; answer = named o.answer; taken = o.taken; cleared = o.cleared }

unopened_opened : (x : Opened) → unopened (opening_of x) ≡ x
unopened_opened x = rw (named_answer x.answer)

open_once : (x y : Opened) {o : Opening} → opening_of x ≡ o → opening_of y ≡ o → x ≡ y
open_once = once opening_of unopened unopened_opened

abbrev unended : Ended → Change
unended o = record { state = o.state; marks = o.marks; left = o.left; cleared = o.cleared; report = record { answer = named o.answer; taken = o.taken; sent = o.sent; stalls = o.stalls } }

unended_ended : (x : Change) (io packet : List ℕ) → unended (ended_of x io packet) ≡ x
unended_ended x io packet = rw (named_answer x.report.answer)

go_on_once : (x y : Change) (io io' packet packet' : List ℕ) {p : Ended} → ended_of x io packet ≡ p → ended_of y io' packet' ≡ p → (x ≡ y) × ◌≡◌ {A = List ℕ × List ℕ} (io, packet) (io', packet')
go_on_once x y io io' packet packet' h k =
    let e = h ∙ sym k in
    (sym (unended_ended x io packet) ∙ ap unended e ∙ unended_ended y io' packet', ap {B = List ℕ × List ℕ} (λ (z : Ended). (z.io, z.packet)) e)

pub fits_only : Only 0 fits-kinds.ps fits-kinds.r fits.Post (λ κs s. tt {0})
fits_only κs a x y s t p q = (p ∙ sym q, refl)

pub is_valid_only : Only 0 is-valid-kinds.ps is-valid-kinds.r is_valid_lem.Post (λ κs s. tt {0})
is_valid_only κs a x y s t p q = (p ∙ sym q, refl)

pub counted_anew_only : Only 0 counted-anew-kinds.ps counted-anew-kinds.r counted-anew.Post (λ κs s. tt {0})
counted_anew_only κs a x y s t p q = (p ∙ sym q, refl)

pub open_only : Only 2 open-kinds.ps open-kinds.r open-call.Post (λ κs s. s.1.0.now)
open_only κs a x y s t p q = (open_once x y p.leaves q.leaves, p.bytes ∙ sym q.bytes)

pub go_on_only : Only {B = List ℕ × List ℕ} 4 go-on-kinds.ps go-on-kinds.r go_on.Post (λ κs s. (s.1.1.0.now, s.1.1.1.0.now))
go_on_only κs a x y s t p q = go_on_once x y _ _ _ _ p q

pub poll_only : Only {B = List ℕ × List ℕ} 4 poll-kinds.ps poll-kinds.r poll.Post (λ κs s. (s.1.0.now, s.1.1.0.now))
poll_only κs a x y s t p q = poll_once x y _ _ _ _ p q

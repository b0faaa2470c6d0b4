-- No second answer satisfies a promise: what the `ensures` of an exported call says is true of one answer only, and of one content of each
-- lent slice at exit. `Post` is the contract itself, as the check reads it. Assumes nothing.
use mathlib.Core.Path.{◌≡◌, refl, sym, ap, ◌∙◌}
use mathlib.Core.List.{List}
use Prim.Native.Nat.{ℕ}
use Rattle.fields.proofs.Only.{Only}
use Rattle.scsi.proofs.Unique.{shown_once}
use Rattle.leafhost.specs.Buffer.{BufferOutcome, buffer_outcome}
use Rattle.leafhost.specs.Codecs.{ParseOutcome, parse_outcome, StatusOutcome}
use Rattle.leafhost.proofs.linear.buffer_available.Kinds as available-kinds
use Rattle.leafhost.proofs.linear.buffer_available.Reads as available
use Rattle.leafhost.proofs.linear.buffer_clean.Kinds as clean-kinds
use Rattle.leafhost.proofs.linear.buffer_clean.Reads as clean
use Rattle.leafhost.proofs.linear.buffer_shift.Kinds as shift_kinds
use Rattle.leafhost.proofs.linear.buffer_shift.Reads as shift
use Rattle.leafhost.proofs.linear.buffer_write.Kinds as write-kinds
use Rattle.leafhost.proofs.linear.buffer_write.Reads as write
use Rattle.leafhost.proofs.linear.buffer_write_all.Kinds as write-all-kinds
use Rattle.leafhost.proofs.linear.buffer_write_all.Reads as write-all
use Rattle.leafhost.proofs.linear.buffer_fill_up_to.Kinds as fill-kinds
use Rattle.leafhost.proofs.linear.buffer_fill_up_to.Reads as fill
use Rattle.leafhost.proofs.linear.buffer_read.Kinds as read-kinds
use Rattle.leafhost.proofs.linear.buffer_read.Reads as read
use Rattle.leafhost.proofs.codecs.scsi_decode.Kinds as scsi-decode-kinds
use Rattle.leafhost.proofs.codecs.scsi_decode.Reads as scsi-decode
use Rattle.leafhost.proofs.codecs.scsi_decode_told.Kinds as scsi-decode-told-kinds
use Rattle.leafhost.proofs.codecs.scsi_decode_told.Reads as scsi-decode-told
use Rattle.leafhost.proofs.codecs.wrapper_parse.Kinds as wrapper-parse-kinds
use Rattle.leafhost.proofs.codecs.wrapper_parse.Reads as wrapper-parse
use Rattle.leafhost.proofs.codecs.wrapper_status.Kinds as wrapper-status-kinds
use Rattle.leafhost.proofs.codecs.wrapper_status.Reads as wrapper-status
use Rattle.leafhost.proofs.codecs.wrapper_verdict.Kinds as wrapper-verdict-kinds
use Rattle.leafhost.proofs.codecs.wrapper_verdict.Reads as wrapper-verdict

-- ---- the buffer

-- These are two lent slices at exit.
pub record Lent : Type 0 where
  pub first : List ℕ
  pub second : List ℕ

abbrev lent : List ℕ → List ℕ → Lent
lent b m = record { first = b; second = m }

-- What a call leaves determines its number, the bytes and the three numbers. For a call that
-- only reads the bytes, `seen_marks` leaves them out.
seen : {x y : ℕ} {b c m l : List ℕ} {h : BufferOutcome} → buffer_outcome x b m ≡ h → buffer_outcome y c l ≡ h → (x ≡ y) × (lent b m ≡ lent c l)
seen p q =
    let e = p ∙ sym q in
    (ap (λ (h : BufferOutcome). h.number) e, ap (λ (h : BufferOutcome). lent h.bytes h.marks) e)

seen_marks : {x y : ℕ} {b c m l : List ℕ} {h : BufferOutcome} → buffer_outcome x b m ≡ h → buffer_outcome y c l ≡ h → (x ≡ y) × (m ≡ l)
seen_marks p q =
    let e = seen p q in
    (e.0, ap (λ (l : Lent). l.second) e.1)

pub available_only : Only 2 available-kinds.ps available-kinds.r available.Post (λ κs s. s.1.0.now)
available_only κs a x y s t p q = seen_marks p q

pub clean_only : Only 2 clean-kinds.ps clean-kinds.r clean.Post (λ κs s. s.1.0.now)
clean_only κs a x y s t p q = seen_marks p q

pub shift_only : Only 2 shift_kinds.ps shift_kinds.r shift.Post (λ κs s. lent s.0.now s.1.0.now)
shift_only κs a x y s t p q = seen p q

pub write_only : Only 3 write-kinds.ps write-kinds.r write.Post (λ κs s. lent s.0.now s.1.0.now)
write_only κs a x y s t p q = seen p q

pub write_all_only : Only 3 write-all-kinds.ps write-all-kinds.r write-all.Post (λ κs s. lent s.0.now s.1.0.now)
write_all_only κs a x y s t p q = seen p q

pub fill_only : Only 2 fill-kinds.ps fill-kinds.r fill.Post (λ κs s. lent s.0.now s.1.0.now)
fill_only κs a x y s t p q = seen p q

pub read_only : Only 3 read-kinds.ps read-kinds.r read.Post (λ κs s. lent s.1.0.now s.1.1.0.now)
read_only κs a x y s t p q =
    let e = seen_marks p.0 q.0 in
    (e.0, rw (e.1, p.1, q.1))

-- ---- the codecs

pub scsi_decode_only : Only 2 scsi-decode-kinds.ps scsi-decode-kinds.r scsi-decode.Post (λ κs s. s.1.0.now)
scsi_decode_only κs a x y s t p q = shown_once (p ∙ sym q)

pub scsi_decode_told_only : Only 2 scsi-decode-told-kinds.ps scsi-decode-told-kinds.r scsi-decode-told.Post (λ κs s. s.1.1.0.now)
scsi_decode_told_only κs a x y s t p q = shown_once (p ∙ sym q)

-- This looks at both lent slices; the number 0 only fills the record.
pub wrapper_parse_only : Only 3 wrapper-parse-kinds.ps wrapper-parse-kinds.r wrapper-parse.Post (λ κs s. parse_outcome 0 s.1.0.now s.1.1.0.now)
wrapper_parse_only κs a x y s t p q =
    let e = p ∙ sym q in
    (ap (λ (r : ParseOutcome). r.number) e, ap (λ (r : ParseOutcome). parse_outcome 0 r.fields r.block) e)

pub wrapper_status_only : Only 1 wrapper-status-kinds.ps wrapper-status-kinds.r wrapper-status.Post (λ κs s. s.1.1.1.1.0.now)
wrapper_status_only κs a x y s t p q = (ap (λ (r : StatusOutcome). r.number) (p ∙ sym q), ap (λ (r : StatusOutcome). r.bytes) (p ∙ sym q))

pub wrapper_verdict_only : Only 1 wrapper-verdict-kinds.ps wrapper-verdict-kinds.r wrapper-verdict.Post (λ κs s. tt {0})
wrapper_verdict_only κs a x y s t p q = (p ∙ sym q, refl)

-- "Broken means: ..", rule by rule. A record that is not broken is whole. Assumes nothing: these are definitions.
use Rattle.std.specs.Prelude.{◌≡◌, ℕ, ◌≤◌, Bool, true, cond, not, ◌&&◌, List, eqb, leb, length}
use Rattle.buffer.specs.Buffer.{is_sound}
use Rattle.ring.specs.declared.State.{State}
use Rattle.ring.specs.declared.State.TheVariants.{CommandTransfer, CommandTransferInvalid, DataTransferNoData, StatusTransfer, DataTransferToHost, DataTransferToHostStatusAwait, DataTransferToHostEnding, DataTransferFromHost, DataTransferFromHostEnding}
use Rattle.device.specs.declared.Device.{Device}
use Rattle.device.specs.declared.Numbers.{Numbers}
use Rattle.device.specs.Device.{is_present, numbers_of}
use Rattle.device.specs.Create.{creation_checks}

-- `lun` and `blocklength` are in their bounds. A record is broken by "block length above 16; LUN above 15".
unfoldable pub command_fits : ℕ → ℕ → Bool
command_fits lun blocklength = leb blocklength 16 && leb lun 15

-- This says whether it fits the state that a status is `present`, or that none is. A record is broken by "a status present in
-- CommandTransfer or CommandTransferInvalid; none present in StatusTransfer or either Ending state".
abbrev pub status_fits : State → Bool → Bool
status_fits CommandTransfer present = not present
status_fits CommandTransferInvalid present = not present
status_fits DataTransferNoData present = true
status_fits StatusTransfer present = present
status_fits DataTransferToHost present = true
status_fits DataTransferToHostStatusAwait present = true
status_fits DataTransferToHostEnding present = present
status_fits DataTransferFromHost present = true
status_fits DataTransferFromHostEnding present = present

-- A record with the numbers `n` is whole over a lent IO buffer of `len` bytes. This is a fact, rule by rule; the quotes say what would
-- break the record.
pub record Whole (n : Numbers) (len : ℕ) : Type 0 where
  -- "the lent IO buffer's length differs from the recorded one"
  pub lent : n.fixed.size ≡ len
  -- "a creation rule is violated"
  pub created : creation_checks n.fixed ≡ 0
  -- "read mark above write mark or write mark above the length"
  pub order : n.marks.read ≤ n.marks.write
  pub within : n.marks.write ≤ n.fixed.size
  pub block : n.blocklength ≤ 16
  pub lun : n.lun ≤ 15
  pub status : status_fits n.state (is_present n.status) ≡ true

-- This is the same as a test.
unfoldable pub is_whole : Numbers → ℕ → Bool
is_whole n len =
    eqb n.fixed.size len
    && (eqb (creation_checks n.fixed) 0
    && (is_sound n.fixed.size n.marks
    && (command_fits n.lun n.blocklength
    && status_fits n.state (is_present n.status))))

-- "Every other device call checks 10 first": over the IO buffer `io`, a call gives `refused` if the record `d` is broken, and `done` if
-- it is whole.
unfoldable pub unless_broken : {A : Type 0} → Device → List ℕ → A → A → A
unless_broken d io refused done = cond (is_whole (numbers_of d) (length io)) done refused

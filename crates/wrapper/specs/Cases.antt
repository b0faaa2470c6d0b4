-- One table has the cases of the wrapper, the status, the residue and the verdict. proofs/Cases.antt states that each case holds.
-- Assumes nothing.
use Rattle.std.specs.Prelude.{true, false, List, [], ◌∷◌, ◌++◌, ℕ, replicate, Some, None, is_some, option_map}
use Rattle.fields.specs.Field.{tile, digits}
use Rattle.fields.specs.Case.{Case, case}
use Rattle.wrapper.specs.declared.DataDirection.TheVariants.{Out, In, NotExpected}
use Rattle.wrapper.specs.declared.Wrapper.{Wrapper}
use Rattle.wrapper.specs.declared.status.CommandStatus.TheVariants.{Failed}
use Rattle.wrapper.specs.declared.verdict.Verdict.TheVariants.{Invalid, ValidOnly, Meaningful}
use Rattle.wrapper.specs.Counters.{fallen, residue_of, risen}
use Rattle.wrapper.specs.Status.{status_table, status_signature, status_number, status_bytes, status_call}
use Rattle.wrapper.specs.Wrapper.{wrapper_table, wrapper_signature, direction_of_flags, wrapper_of, parsed}
use Rattle.wrapper.specs.Verdict.{verdict_of, cleared}

-- This is a wrapper with tag 01020304 and L = 512, in which `flags`, `lun` and `blocklength` are the bytes 12, 13 and 14.
abbrev pub message : ℕ → ℕ → ℕ → List ℕ
message flags lun blocklength =
    0x55 ∷ 0x53 ∷ 0x42 ∷ 0x43 ∷ 4 ∷ 3 ∷ 2 ∷ 1 ∷ 0 ∷ 2 ∷ 0 ∷ 0 ∷ flags ∷ lun ∷ blocklength ∷ 0x28 ∷ replicate 15 0

-- "(starred ones are proved)": these are the starred cases of 01 that concern this crate.
unfoldable pub starred : List Case
starred =
    -- "Block length 0 and 17 invalid*"
    case (is_some (parsed (message 0x80 0 0))) false
    ∷ case (is_some (parsed (message 0x80 0 17))) false
    -- "LUN F3 is 3*"
    ∷ case (option_map (λ (w : Wrapper). w.lun) (parsed (message 0x80 0xF3 10))) (Some 3)
    -- "L 512, figure 500: residue 12; 600: 0*"
    ∷ case (residue_of 512 500).0 12
    ∷ case (residue_of 512 600).0 0
    ∷ []

-- These cases are ours. Most of them lie at a bound of a rule.
unfoldable pub ours : List Case
ours =
    -- "1 and 16 valid"
    case (is_some (parsed (message 0x80 0 1))) true
    ∷ case (is_some (parsed (message 0x80 0 16))) true
    -- A whole wrapper to the host; the direction from the host, and without data; a message of 30 bytes, which is invalid.
    ∷ case (parsed (message 0x80 0 10)) (Some (record { tag = 0x01020304; length = 512; direction = In; lun = 0; blocklength = 10; block = 0x28 ∷ replicate 15 0 }))
    ∷ case (wrapper_of (message 0x7F 0 10)).direction Out
    ∷ case (direction_of_flags 0 1) NotExpected
    ∷ case (parsed (0x55 ∷ 0x53 ∷ 0x42 ∷ 0x43 ∷ replicate 26 1)) None
    -- The bytes of a status with tag 01020304 and residue 12, failed.
    ∷ case (status_bytes 0x01020304 (residue_of 512 500) (status_number Failed)) (0x55 ∷ 0x53 ∷ 0x42 ∷ 0x53 ∷ 4 ∷ 3 ∷ 2 ∷ 1 ∷ 12 ∷ 0 ∷ 0 ∷ 0 ∷ 1 ∷ [])
    -- Status byte 2 is taken, and 3 is refused.
    ∷ case (status_call 2) (record { answer = 0; status = 2 })
    ∷ case (status_call 3) (record { answer = 12; status = 0 })
    -- More bytes move than are left.
    ∷ case (fallen (record { 0 = 5 }) 7).0 0
    -- 02, request 7: what was put in rises to the largest number, and stops there.
    ∷ case (risen (record { 0 = 5 }) 7).0 12
    ∷ case (risen (record { 0 = 4294967293 }) 2).0 4294967295
    ∷ case (risen (record { 0 = 4294967294 }) 2).0 4294967295
    ∷ case (risen (record { 0 = 4294967295 }) 0).0 4294967295
    -- The verdict: the LUN is at max LUN, and then above it.
    ∷ case (verdict_of 3 (message 0 3 10)) Meaningful
    ∷ case (verdict_of 2 (message 0 3 10)) ValidOnly
    -- No device has this max LUN, and every LUN is below it.
    ∷ case (verdict_of 16 (message 0 0x0F 10)) Meaningful
    -- "A laptop driver set flag bit 3"; then obsolete bit 6 is set, a bit beside the LUN is set, and four are.
    ∷ case (verdict_of 15 (message 0x88 0 10)) ValidOnly
    ∷ case (verdict_of 15 (message 0xC0 0 10)) ValidOnly
    ∷ case (verdict_of 255 (message 0x80 0x10 10)) ValidOnly
    ∷ case (verdict_of 3 (message 0x80 0xF3 10)) ValidOnly
    -- Where the reserved bits are cleared, direction and LUN stay.
    ∷ case (cleared (message 0xFF 0xF3 10)) (message 0x80 3 10)
    -- The direction bit is free, with data and without, and so are the bytes behind a block of one byte.
    ∷ case (verdict_of 0 (message 0x80 0 10)) Meaningful
    ∷ case (verdict_of 0 ((0x55 ∷ 0x53 ∷ 0x42 ∷ 0x43 ∷ replicate 8 0) ++ (0x80 ∷ 0 ∷ 1 ∷ replicate 16 0xFF))) Meaningful
    -- The block length is 17; then there is a byte too many; then the signature is wrong.
    ∷ case (verdict_of 15 (message 0 0 17)) ValidOnly
    ∷ case (verdict_of 15 (message 0 0 10 ++ (0 ∷ []))) Invalid
    ∷ case (verdict_of 15 (0x54 ∷ replicate 30 1)) Invalid
    -- BOT's tables have no gap, and end where the messages end.
    ∷ case (tile 0 wrapper_table 31) true
    ∷ case (tile 0 status_table 13) true
    -- These are the two signatures, byte by byte.
    ∷ case (digits 4 wrapper_signature) (0x55 ∷ 0x53 ∷ 0x42 ∷ 0x43 ∷ [])
    ∷ case (digits 4 status_signature) (0x55 ∷ 0x53 ∷ 0x42 ∷ 0x53 ∷ [])
    ∷ []

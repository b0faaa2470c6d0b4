-- Cases of what a caller reads off a result. proofs/Cases.antt has the statement that each case holds. Assumes nothing: these are definitions.
use Rattle.std.specs.Prelude.{List, [], ◌∷◌, ℕ}
use Rattle.fields.specs.Case.{Case, case}
use Rattle.answers.specs.declared.Stalls.{Stalls}
use Rattle.answers.specs.declared.Stalls.TheVariants.{Kept, Stalled, Unstalled}
use Rattle.border.specs.Word.{Reading, reading_of}

-- The six things that are read, in the order of their bits.
abbrev reading : ℕ → ℕ → Stalls → ℕ → ℕ → ℕ → Reading
reading number carried stalls flag count missing = record { number = number; carried = carried; stalls = stalls; flag = flag; count = count; missing = missing }

unfoldable pub readings : List Case
readings =
    -- A poll took a packet that made the wrapper whole, and a full packet is expected: answer 4, one packet.
    case (reading_of 0x0000000001000004) (reading 4 0 Kept 1 0 0)
    -- A poll sent 64 bytes.
    ∷ case (reading_of 0x0000004000000000) (reading 0 0 Kept 0 64 0)
    -- A poll entered 0, which unstalls both endpoints, and took a packet.
    ∷ case (reading_of 0x0000000001020000) (reading 0 0 Unstalled 1 0 0)
    -- A poll took the last packet of an invalid message, and stalls both endpoints.
    ∷ case (reading_of 0x0000000001010000) (reading 0 0 Stalled 1 0 0)
    -- The IN endpoint failed with error 9.
    ∷ case (reading_of 0x0000000000000907) (reading 7 9 Kept 0 0 0)
    -- `souk_try_write_data_all` lacks 5 bytes of room: nothing is counted.
    ∷ case (reading_of 0x0000000500000001) (reading 1 0 Kept 0 0 5)
    -- `souk_command` shows a command for unit 3, with a block of 10 bytes.
    ∷ case (reading_of 0x0000000A01000300) (reading 0 3 Kept 1 10 0)
    -- The record was broken.
    ∷ case (reading_of 10) (reading 10 0 Kept 0 0 0)
    ∷ []

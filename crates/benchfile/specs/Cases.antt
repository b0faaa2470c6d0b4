-- Cases of the bench file: the rules for events in one table, and the parts of 01's listing as a file. proofs/Cases.antt has the
-- statement that each case holds, and that the listing and a file of no event are good. Assumes nothing: these are definitions.
use Rattle.std.specs.Prelude.{true, false, Some, List, [], ◌∷◌, ◌++◌, ℕ, replicate}
use Rattle.fields.specs.Field.{get}
use Rattle.fields.specs.Case.{Case, case}
use Rattle.benchfile.specs.declared.event.Kind.TheVariants.{Status, WriteData}
use Rattle.benchfile.specs.Event.{is_poll_body, is_status_body, suits, is_event, event_head_of, event_at, no_event}
use Rattle.benchfile.specs.File.{joined, are_events, last_offset, count_field, last_field}

-- ---- the events of 01's listing

-- "create (64, 0, 64)"
abbrev create : List ℕ
create = 0x00 ∷ 0x07 ∷ 0x00 ∷ 0x40 ∷ 0x00 ∷ 0x00 ∷ 0x40 ∷ 0x00 ∷ 0x00 ∷ 0x00 ∷ []

-- "poll with a tag 1, L = 0, block length 6 all-zero command, IN 0, second OUT busy"
abbrev wrapper_poll : List ℕ
wrapper_poll = (0x01 ∷ 0x24 ∷ 0x00 ∷ 0x00 ∷ 0x00 ∷ 0x01 ∷ 0x1F ∷ 0x00 ∷ 0x55 ∷ 0x53 ∷ 0x42 ∷ 0x43 ∷ 0x01 ∷ 0x00 ∷ 0x00 ∷ 0x00 ∷ 0x00 ∷ 0x00 ∷ 0x00 ∷ 0x00 ∷ 0x00 ∷ 0x00 ∷ 0x06 ∷ []) ++ replicate 16 0x00

-- "status 0, figure 0"
abbrev status : List ℕ
status = 0x02 ∷ 0x05 ∷ 0x00 ∷ 0x00 ∷ 0x00 ∷ 0x00 ∷ 0x00 ∷ 0x00 ∷ []

-- "poll with IN 0 and both OUT busy"
abbrev busy_poll : List ℕ
busy_poll = 0x01 ∷ 0x05 ∷ 0x00 ∷ 0x00 ∷ 0x01 ∷ 0x01 ∷ 0x00 ∷ 0x00 ∷ []

-- The five events of the listing.
unfoldable pub listing : List (List ℕ)
listing = create ∷ wrapper_poll ∷ status ∷ busy_poll ∷ busy_poll ∷ []

-- The trailer of the listing: 5 events, the last at 65, `BOT1`.
unfoldable pub listing_trailer : List ℕ
listing_trailer = 0x05 ∷ 0x00 ∷ 0x00 ∷ 0x00 ∷ 0x41 ∷ 0x00 ∷ 0x00 ∷ 0x00 ∷ 0x42 ∷ 0x4F ∷ 0x54 ∷ 0x31 ∷ []

-- The cases of the rules.
unfoldable pub table : List Case
table =
    case (are_events true listing) true
    ∷ case (last_offset listing) 65
    ∷ case (event_at (joined listing) 49) (Some (record { kind = Status; length = 5 }))
    -- No event stands at an offset within another one.
    ∷ case (event_at (joined listing) 50) no_event
    -- "first and only first"
    ∷ case (is_event false create) false
    ∷ case (is_event true status) false
    -- The first length says more than is there, and the second does not.
    ∷ case (event_head_of false (0x03 ∷ 0x02 ∷ 0x00 ∷ 0x55 ∷ [])) no_event
    ∷ case (event_head_of false (0x03 ∷ 0x01 ∷ 0x00 ∷ 0x55 ∷ [])) (Some (record { kind = WriteData; length = 1 }))
    -- "a length is 0 unless its answer is 0"
    ∷ case (is_poll_body (0x00 ∷ 0x01 ∷ 0x01 ∷ 0x01 ∷ 0x00 ∷ 0x55 ∷ [])) false
    ∷ case (is_poll_body (0x00 ∷ 0x00 ∷ 0x01 ∷ 0x01 ∷ 0x00 ∷ 0x55 ∷ [])) true
    ∷ case (is_poll_body (0x00 ∷ 0x01 ∷ 0x02 ∷ 0x00 ∷ 0x01 ∷ 0x55 ∷ [])) false
    -- "status (byte 0 to 2, ..)"
    ∷ case (is_status_body (0x03 ∷ 0x00 ∷ 0x00 ∷ 0x00 ∷ 0x00 ∷ [])) false
    ∷ case (is_status_body (0x04 ∷ 0x00 ∷ 0x00 ∷ 0x00 ∷ 0x00 ∷ [])) false
    -- "A command step of length 1 .. carries 0 or 1; length 0 means off"; "14 also for a carried byte above 1"
    ∷ case (suits 8 []) true
    ∷ case (suits 8 (0x00 ∷ [])) true
    ∷ case (suits 8 (0x01 ∷ [])) true
    ∷ case (suits 8 (0x02 ∷ [])) false
    ∷ case (suits 8 (0x00 ∷ 0x00 ∷ [])) false
    -- "event count, offset of the last event (0 if none), 4 bytes each"
    ∷ case (get count_field (0x01 ∷ 0x02 ∷ 0x03 ∷ 0x04 ∷ 0x05 ∷ 0x06 ∷ 0x07 ∷ 0x08 ∷ [])) 0x04030201
    ∷ case (get last_field (0x01 ∷ 0x02 ∷ 0x03 ∷ 0x04 ∷ 0x05 ∷ 0x06 ∷ 0x07 ∷ 0x08 ∷ [])) 0x08070605
    -- There is no kind 9.
    ∷ case (suits 9 []) false
    ∷ []

-- "a file of none is good": its trailer has no events, 0 and 0, `BOT1`.
unfoldable pub none_trailer : List ℕ
none_trailer = 0x00 ∷ 0x00 ∷ 0x00 ∷ 0x00 ∷ 0x00 ∷ 0x00 ∷ 0x00 ∷ 0x00 ∷ 0x42 ∷ 0x4F ∷ 0x54 ∷ 0x31 ∷ []

-- Document 01, 'Bench file', on the whole: "At most 65,536 bytes: events, then 12 bytes: event count, offset of the last event (0 if none),
-- 4 bytes each, then `BOT1`. .. The events end exactly at the trailer; a file of none is good." Assumes nothing: these are definitions.
use Rattle.std.specs.Prelude.{ℕ, ◌+◌, ◌≤◌, ◌≡◌, Bool, true, false, ◌&&◌, List, [], ◌∷◌, ◌++◌, length, drop}
use Rattle.fields.specs.Field.{Field, little_endian, get}
use Rattle.benchfile.specs.Event.{is_event}

-- The bytes of events that follow each other.
unfoldable pub joined : List (List ℕ) → List ℕ
joined [] = []
joined (e ∷ es) = e ++ joined es

-- Whether each list is an event by the rules. `first` says whether `e` is the first event of the file; those after it never are.
unfoldable pub are_events : Bool → List (List ℕ) → Bool
are_events first [] = true
are_events first (e ∷ es) = is_event first e && are_events false es

-- "offset of the last event (0 if none)": where the last of the events stands if they follow each other.
unfoldable pub last_offset : List (List ℕ) → ℕ
last_offset [] = 0
last_offset (e ∷ []) = 0
last_offset (e ∷ f ∷ es) = length e + last_offset (f ∷ es)

-- The event count and the offset of the last event, in the bytes of the trailer.
abbrev pub count_field : Field
count_field = little_endian 0 4

abbrev pub last_field : Field
last_field = little_endian 4 4

-- The four bytes of `BOT1`.
abbrev pub magic : List ℕ
magic = 0x42 ∷ 0x4F ∷ 0x54 ∷ 0x31 ∷ []

-- "then 12 bytes: event count, offset of the last event .., then `BOT1`": `trailer` is the trailer for the events `events`.
pub record Closes (trailer : List ℕ) (events : List (List ℕ)) : Type 0 where
  pub twelve : length trailer ≡ 12
  pub count : get count_field trailer ≡ length events
  pub last : get last_field trailer ≡ last_offset events
  pub bot1 : drop 8 trailer ≡ magic

-- `file` is a good file, and `events` are its events.
pub record Good (file : List ℕ) (events : List (List ℕ)) : Type 0 where
  pub most : length file ≤ 65536
  pub are : are_events true events ≡ true
  pub trailer : List ℕ
  pub parts : file ≡ joined events ++ trailer
  pub closes : Closes trailer events

-- `verdict` is the verdict on `file`, in both directions: a file that is accepted is a good file, and every good file is accepted.
pub record Judges (verdict : Bool) (file : List ℕ) : Type 0 where
  pub accepted : verdict ≡ true → (events : List (List ℕ)) × Good file events
  pub accepts : (events : List (List ℕ)) → Good file events → verdict ≡ true

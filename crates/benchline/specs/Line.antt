-- Document 01 on the lines of `bench`: "Fields per event, decimal: index, answer, state, left, unread, count .., stalls (`-`, `S`, `U`,
-- `US`), bytes in lower-case hex .. or `-`." Document 02, request 5, adds a ninth field, the bytes missing. Assumes nothing: these are
-- definitions.
use Rattle.std.specs.Prelude.{ℕ, zero, suc, ◌+◌, ◌/◌, ◌%◌, cond, List, [], ◌∷◌, ◌++◌, ltb}
use Rattle.answers.specs.declared.Stalls.{Stalls}
use Rattle.answers.specs.declared.Stalls.TheVariants.{Kept, Stalled, Unstalled, UnstalledStalled}
use Rattle.benchline.specs.declared.Line.{Line}

-- Text is ASCII: a space, `-`, and the end of a line.
abbrev pub space : ℕ
space = 0x20

abbrev pub dash : ℕ
dash = 0x2D

abbrev pub newline : ℕ
newline = 0x0A

-- The digit for `n`, which is below 16: `0` to `9`, then `a` to `f`.
unfoldable pub digit : ℕ → ℕ
digit n = cond (ltb n 10) (0x30 + n) (0x57 + n)

-- The number `n` in decimal, with at most as many digits as the first argument says.
unfoldable pub decimal_up_to : ℕ → ℕ → List ℕ
decimal_up_to zero n = []
decimal_up_to (suc most) n = cond (ltb n 10) (digit n ∷ []) (decimal_up_to most (n / 10) ++ (digit (n % 10) ∷ []))

-- The number `n` in decimal. A number of 64 bits has at most 20 digits.
unfoldable pub decimal : ℕ → List ℕ
decimal n = decimal_up_to 20 n

-- The number `n` in decimal, and a space after it.
unfoldable pub number_text : ℕ → List ℕ
number_text n = decimal n ++ (space ∷ [])

-- "decimal: index, answer, state, left, unread, count": the six numbers of the line `l`.
unfoldable pub numbers_text : Line → List ℕ
numbers_text l =
    number_text l.index
    ++ number_text l.answer
    ++ number_text l.state
    ++ number_text l.left
    ++ number_text l.unread
    ++ number_text l.count

-- "stalls (`-`, `S`, `U`, `US`)": the text for what is asked of both endpoints.
abbrev pub stalls_text : Stalls → List ℕ
stalls_text Kept = dash ∷ []
stalls_text Stalled = 0x53 ∷ []
stalls_text Unstalled = 0x55 ∷ []
stalls_text UnstalledStalled = 0x55 ∷ 0x53 ∷ []

-- Two digits for each byte.
unfoldable pub hex : List ℕ → List ℕ
hex [] = []
hex (b ∷ bs) = digit (b / 16) ∷ digit (b % 16) ∷ hex bs

-- "bytes in lower-case hex .. or `-`": the text for a list of bytes; `-` is that of an empty one.
unfoldable pub bytes_text : List ℕ → List ℕ
bytes_text [] = dash ∷ []
bytes_text (b ∷ bs) = hex (b ∷ bs)

-- Everything that the line `l` has before its bytes.
unfoldable pub fields_text : Line → List ℕ
fields_text l = numbers_text l ++ stalls_text l.stalls ++ (space ∷ [])

-- "`bench` shows it as a ninth field": the end of a line, after its bytes, where `missing` bytes of room are missing.
unfoldable pub end_text : ℕ → List ℕ
end_text missing = (space ∷ []) ++ decimal missing ++ (newline ∷ [])

-- The whole text of the line `l` with the bytes `bytes`.
unfoldable pub line_of : Line → List ℕ → List ℕ
line_of l bytes = fields_text l ++ bytes_text bytes ++ end_text l.missing

-- The room that a line takes, and what a function promises that puts text into a list. Assumes nothing: these are definitions.
use Rattle.std.specs.Prelude.{ℕ, ◌+◌, ◌*◌, ◌≡◌, List, length}
use Rattle.fields.specs.Overlay.{overlay}
use Rattle.benchline.specs.declared.Line.{Line}
use Rattle.benchline.specs.Line.{number_text}

-- How long the numbers of the line `l` are, with their spaces.
abbrev pub numbers_length : Line → ℕ
numbers_length l =
    length (number_text l.index)
    + length (number_text l.answer)
    + length (number_text l.state)
    + length (number_text l.left)
    + length (number_text l.unread)
    + length (number_text l.count)

-- Enough room for any line with `n` bytes: six numbers of 20 digits, a space after each, two letters for the stalls, a space, a dash or
-- two digits for each byte, a space, one more number and the end of the line.
unfoldable pub room_for : ℕ → ℕ
room_for n = 152 + 2 * n

-- The text `ys` was put into the list `before` at the index `at`, and the list is `after` then: everything else stayed. The text ends at
-- the index `end`.
pub record Puts (at : ℕ) (ys before after : List ℕ) (end : ℕ) : Type 0 where
  pub ends : end ≡ at + length ys
  pub text : after ≡ overlay before at ys

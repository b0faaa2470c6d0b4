-- Sound marks are a fact here; `is_sound` is the test. The inner forms of the calls require and promise the fact.
-- Assumes nothing: these are definitions.
use Rattle.std.specs.Prelude.{◌≡◌, ◌≤◌, true, false, ℕ, max, List, length, Result, Ok, Err}
use Rattle.buffer.specs.declared.Marks.{Marks}
use Rattle.buffer.specs.declared.marked.Overflow.{Overflow}
use Rattle.buffer.specs.Buffer.{Buffer, buffer, lacks_room, missing, written_all}

-- The marks of the buffer `s` are sound: the read mark is at most the write mark, and the write mark is at most the number of bytes.
pub record Sound (s : Buffer) : Type 0 where
  pub order : s.marks.read ≤ s.marks.write
  pub within : s.marks.write ≤ length s.bytes

-- A call on sound marks promises this of the buffer `s` that it leaves: `s` is `t`, and the marks of `s` are sound again.
pub record Leaves (s t : Buffer) : Type 0 where
  pub same : s ≡ t
  pub sound : Sound s

-- `write_all` of the bytes `ys` promises this of its result and of the bytes `io` that it leaves of the sound buffer `s`: it is refused where
-- room is lacking, and says then how much is missing. Either way it gives the marks after it.
abbrev pub WritesAll : ℕ → List ℕ → Buffer → Result Marks Overflow → List ℕ → Type 0
WritesAll want ys s (Ok m) io = (lacks_room (max want (length ys)) s ≡ false) × Leaves (buffer io m) (written_all want ys s)
WritesAll want ys s (Err o) io =
    (lacks_room (max want (length ys)) s ≡ true) × (o.missing ≡ missing (max want (length ys)) s) × Leaves (buffer io o.marks) (written_all want ys s)

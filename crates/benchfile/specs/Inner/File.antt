-- What the walk knows of one event: it stands whole at an offset. Assumes nothing: these are definitions.
use Rattle.std.specs.Prelude.{ℕ, ◌+◌, ◌≡◌, Some, List, length, take, drop}
use Rattle.fields.specs.Field.{get}
use Rattle.benchfile.specs.declared.event.Kind.{Kind}
use Rattle.benchfile.specs.Event.{kind_byte, kind_number, body_of, event_at}

-- The event `e` stands at the offset `at` of the events `xs`: its head and its body are read there, and the next event starts right after
-- it.
pub record ReadAt (xs : List ℕ) (at : ℕ) (e : List ℕ) : Type 0 where
  pub kind : Kind
  pub number : kind_number kind ≡ get kind_byte e
  pub head : event_at xs at ≡ Some (record { kind = kind; length = length (body_of e) })
  pub body : take (length (body_of e)) (drop (at + 3) xs) ≡ body_of e
  pub next : at + 3 + length (body_of e) ≡ at + length e

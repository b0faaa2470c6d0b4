-- Laws of lists of events: what one more event at the end changes. Assumes nothing.
use mathlib.Core.Path.{◌≡◌, refl, sym}
use mathlib.Core.Bool.{Bool, true, false}
use mathlib.Core.List.{List, [], ◌∷◌, ◌++◌, append-nil, append_assoc}
use Prim.Native.Nat.{ℕ, ◌<◌}
use native.Mathlib.Omega.{arith}
use native.Mathlib.Nat.{add-zero}
use lib.Dec.{eqb}
use lib.ListN.{length, length-append}
use borrow.Author.Tests.{ne_eqb}
use Rattle.fields.proofs.Bools.{and_left, and_right}
use Rattle.benchfile.specs.Event.{is_event}
use Rattle.benchfile.specs.File.{joined, are_events, last_offset}
use Rattle.benchfile.proofs.Front.{event_long}

-- Whether an event that follows these events is the first one of the file.
unfoldable pub is_first : Bool → List (List ℕ) → Bool
is_first first [] = first
is_first first (e ∷ es) = false

pub joined_snoc : (es : List (List ℕ)) (e : List ℕ) → joined (es ++ e ∷ []) ≡ joined es ++ e
unfolding joined
joined_snoc [] e = append-nil e
joined_snoc (x ∷ es) e = rw (joined_snoc es e) (sym (append_assoc x (joined es) e))

pub are_snoc : (first : Bool) (es : List (List ℕ)) (e : List ℕ) → are_events first es ≡ true → is_event (is_first first es) e ≡ true → are_events first (es ++ e ∷ []) ≡ true
unfolding are_events is_first
are_snoc first [] e h k = rw k
are_snoc first (x ∷ es) e h k =
    rw (and_left (is_event first x) (are_events false es) h) (are_snoc false es e (and_right (is_event first x) (are_events false es) h) (later es k))
  where
    later : (es : List (List ℕ)) → is_event false e ≡ true → is_event (is_first false es) e ≡ true
    later [] k = k
    later (y ∷ ys) k = k

pub last_snoc : (es : List (List ℕ)) (e : List ℕ) → last_offset (es ++ e ∷ []) ≡ length (joined es)
unfolding last_offset joined
last_snoc [] e = refl
last_snoc (x ∷ []) e = rw (append-nil x) (add-zero (length x))
last_snoc (x ∷ y ∷ es) e = rw (last_snoc (y ∷ es) e, length-append x (y ++ joined es))

-- An event has bytes, so the first one stands at 0 and no other does.
pub first_at_0 : (es : List (List ℕ)) → are_events true es ≡ true → is_first true es ≡ eqb (length (joined es)) 0
unfolding are_events is_first joined
first_at_0 [] h = refl
first_at_0 (x ∷ es) h =
    sym (ne_eqb (length (x ++ joined es)) 0 (λ q. absurd (omega (arith, q, length-append x (joined es), event_long true x (and_left (is_event true x) (are_events false es) h)))))

-- ---- events that bytes are made of

-- Where there are no bytes there are no events.
pub none_joined : (first : Bool) (es : List (List ℕ)) → are_events first es ≡ true → length (joined es) ≡ 0 → es ≡ []
unfolding are_events joined
none_joined first [] h q = refl
none_joined first (x ∷ es) h q =
    absurd (omega (arith, q, length-append x (joined es), event_long first x (and_left (is_event first x) (are_events false es) h)))

-- Otherwise there is an event at the front.
pub record Leads (first : Bool) (es : List (List ℕ)) : Type 0 where
  pub event : List ℕ
  pub others : List (List ℕ)
  pub split : es ≡ event ∷ others
  pub is : is_event first event ≡ true
  pub are : are_events false others ≡ true

pub leads : (first : Bool) (es : List (List ℕ)) → are_events first es ≡ true → 0 < length (joined es) → Leads first es
unfolding are_events joined
leads first [] h q = absurd (omega (arith, q))
leads first (x ∷ es) h q = record {
  event = x;
  others = es;
  split = refl;
  is = and_left (is_event first x) (are_events false es) h;
  are = and_right (is_event first x) (are_events false es) h;
}

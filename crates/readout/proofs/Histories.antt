-- Histories: one that goes on, and one of which each happening is what its event does. Assumes nothing.
--     reached_append, all_append    what a history that goes on leaves and shows
--     throughout_parts, throughout_joined    what holds of a history that goes on holds of its parts, and the other way round
--     throughout_map                what follows of each happening follows of a history
--     computed_happened             a history that is computed from its events happened by value
--     events, replayed              the events of a history; a history by value is that of its events
use mathlib.Core.Path.{◌≡◌, refl, sym, ap, ap₂, ◌∙◌, subst}
use mathlib.Core.List.{List, [], ◌∷◌, ◌++◌, append_assoc}
use Prim.Native.Nat.{ℕ}
use Rattle.readout.specs.History.{Socket, Event, Shows, next, Happening, did, history_of, reached, all, Throughout, ByValue}

pub reached_append : (xs ys : List Happening) (s : Socket) → reached (xs ++ ys) s ≡ reached ys (reached xs s)
reached_append [] ys s = refl
reached_append (x ∷ xs) ys s = reached_append xs ys x.shown.socket

pub all_append : (what : Shows → List ℕ) (xs ys : List Happening) → all what (xs ++ ys) ≡ all what xs ++ all what ys
unfolding all
all_append what [] ys = refl
all_append what (x ∷ xs) ys = ap (λ (l : List ℕ). what x.shown ++ l) (all_append what xs ys) ∙ sym (append_assoc (what x.shown) (all what xs) (all what ys))

module _ (Holds : Event → Socket → Shows → Type 0) where
  pub throughout_parts : (xs ys : List Happening) (s : Socket) → Throughout Holds (xs ++ ys) s → Throughout Holds xs s × Throughout Holds ys (reached xs s)
  throughout_parts [] ys s h = (tt, h)
  throughout_parts (x ∷ xs) ys s (h, hs) =
      let (front, back) = throughout_parts xs ys x.shown.socket hs in
      ((h, front), back)

  pub throughout_joined : (xs ys : List Happening) (s : Socket) → Throughout Holds xs s → Throughout Holds ys (reached xs s) → Throughout Holds (xs ++ ys) s
  throughout_joined [] ys s _ back = back
  throughout_joined (x ∷ xs) ys s (h, hs) back = (h, throughout_joined xs ys x.shown.socket hs back)

  pub throughout_map : (Gives : Event → Socket → Shows → Type 0) → ((e : Event) (s : Socket) (o : Shows) → Holds e s o → Gives e s o) → (xs : List Happening) (s : Socket) → Throughout Holds xs s → Throughout Gives xs s
  throughout_map Gives f [] s h = tt
  throughout_map Gives f (x ∷ xs) s (h, hs) = (f x.event s x.shown h, throughout_map Gives f xs x.shown.socket hs)

pub computed_happened : (h : List Event) (s : Socket) → Throughout ByValue (history_of h s) s
computed_happened [] s = tt
computed_happened (e ∷ h) s = (refl, computed_happened h (next e s))

pub events : List Happening → List Event
events [] = []
events (x ∷ xs) = x.event ∷ events xs

pub replayed : (xs : List Happening) (s : Socket) → Throughout ByValue xs s → xs ≡ history_of (events xs) s
unfolding events
replayed [] s h = refl
replayed (x ∷ xs) s (h, hs) =
    ap₂ {C = List Happening} (λ (o : Shows) (ys : List Happening). did x.event o ∷ ys) h
    (subst (λ (o : Shows). xs ≡ history_of (events xs) o.socket) h (replayed xs x.shown.socket hs))

-- These laws say what is unread after each call: the move changes no unread byte, a write appends bytes to the unread ones, and a read
-- takes bytes off their front. Assumes nothing.
use mathlib.Core.Path.{◌≡◌, refl, sym, ap, ◌∙◌}
use mathlib.Core.Bool.{Bool, true, false, cond}
use mathlib.Core.List.{List, [], ◌++◌}
use Prim.Native.Nat.{ℕ, ◌+◌, ◌-◌, ◌≤◌, max, zero-le}
use native.Mathlib.Nat.{add-zero, min-zero}
use native.Mathlib.Omega.{arith}
use lib.Dec.{ltb}
use borrow.Author.Tests.{le-ltb}
use lib.ListN.{length, take, drop, replicate, length-drop}
use lib.Seq.{drop-drop, drop-append-le, length-take-le}
use Rattle.fields.specs.Overlay.{overlay}
use Rattle.buffer.specs.Buffer.{Buffer, unread, unread_bytes, room, moved, with_room, appended, fitting, written, filled, lacks_room, written_all, ready, read_off, emptied}
use Rattle.buffer.specs.Inner.Buffer.{Sound}
use Rattle.fields.proofs.Seq.{drop_take}
use Rattle.fields.proofs.Overlay.{overlay_nothing, take_overlay, length_overlay}
use Rattle.fields.proofs.Bools.{of_picked}
use Rattle.buffer.proofs.Kept.{length_unread, sound_with_room, written_fits, filled_fits, all_fits, ready_most}

pub unread_moved : (s : Buffer) → Sound s → unread_bytes (moved s) ≡ unread_bytes s
unfolding moved unread_bytes
unread_moved s g =
    let ys : List ℕ = unread_bytes s in
    let n : unread s - 0 ≡ 0 + length ys = omega (arith, length_unread s g) in
    ap (λ (k : ℕ). take k (overlay s.bytes 0 ys)) n ∙ take_overlay s.bytes 0 ys zero-le

-- "(both marks go to 0 if none)": if nothing is unread, the move empties the buffer.
pub moved_emptied : (s : Buffer) → unread s ≡ 0 → moved s ≡ emptied s
unfolding moved emptied unread_bytes
moved_emptied s e = rw (e, overlay_nothing)

pub unread_with_room : (n : ℕ) (s : Buffer) → Sound s → unread_bytes (with_room n s) ≡ unread_bytes s
unfolding with_room
unread_with_room n s g = of_picked (λ (t : Buffer). unread_bytes t ≡ unread_bytes s) (ltb (room s) n) (λ _. unread_moved s g) (λ _. refl)

pub unread_appended : (ys : List ℕ) (s : Buffer) → Sound s → length ys ≤ room s → unread_bytes (appended ys s) ≡ unread_bytes s ++ ys
unfolding appended unread_bytes
unread_appended ys s g fits =
    let b : List ℕ = s.bytes in
    let r : ℕ = s.marks.read in
    let w : ℕ = s.marks.write in
    let order : r ≤ w = g.order in
    let within : w ≤ length b = g.within in
    let long : length (overlay b w ys) ≡ length b = length_overlay b w ys (omega arith) in
    let before : length (take w b) ≡ w = length-take-le w b within in
    sym (drop_take r (w + length ys) (overlay b w ys) (omega arith) (omega arith))
    ∙ ap (drop r) (take_overlay b w ys within)
    ∙ drop-append-le r (take w b) ys (omega arith)
    ∙ ap (λ (l : List ℕ). l ++ ys) (drop_take r w b order (omega arith))

-- A write after room was made appends its bytes to the unread ones.
behind : (n : ℕ) (ys : List ℕ) (s : Buffer) → Sound s → length ys ≤ room (with_room n s) → unread_bytes (appended ys (with_room n s)) ≡ unread_bytes s ++ ys
behind n ys s g fits = unread_appended ys (with_room n s) (sound_with_room n s g) fits ∙ ap (λ (l : List ℕ). l ++ ys) (unread_with_room n s g)

pub unread_written : (ys : List ℕ) (s : Buffer) → Sound s → unread_bytes (written ys s) ≡ unread_bytes s ++ take (fitting (length ys) s) ys
unfolding written
unread_written ys s g = behind (length ys) (take (fitting (length ys) s) ys) s g (written_fits ys s)

pub unread_filled : (v n : ℕ) (s : Buffer) → Sound s → unread_bytes (filled v n s) ≡ unread_bytes s ++ replicate (fitting n s) v
unfolding filled
unread_filled v n s g = behind n (replicate (fitting n s) v) s g (filled_fits v n s)

-- A fill with no bytes changes nothing.
pub filled_none : (v : ℕ) (s : Buffer) → filled v 0 s ≡ s
unfolding filled fitting with_room appended
filled_none v s = rw (le-ltb (room s) 0 zero-le, min-zero (room s), overlay_nothing, add-zero)

picked : (b : Bool) (s t : Buffer) {x y : List ℕ} → unread_bytes s ≡ x → (b ≡ false → unread_bytes t ≡ y) → unread_bytes (cond b s t) ≡ cond b x y
picked true s t p q = p
picked false s t p q = q refl

pub unread_written_all : (want : ℕ) (ys : List ℕ) (s : Buffer) → Sound s → unread_bytes (written_all want ys s) ≡ cond (lacks_room (max want (length ys)) s) (unread_bytes s) (unread_bytes s ++ ys)
unfolding written_all
unread_written_all want ys s g =
    picked (lacks_room (max want (length ys)) s) _ _ (unread_with_room (max want (length ys)) s g) (λ e. behind (max want (length ys)) ys s g (all_fits want ys s e))

pub unread_read_off : (n : ℕ) (s : Buffer) → Sound s → unread_bytes (read_off n s) ≡ drop (ready n s) (unread_bytes s)
unfolding read_off unread_bytes
unread_read_off n s g =
    let b : List ℕ = s.bytes in
    let r : ℕ = s.marks.read in
    let w : ℕ = s.marks.write in
    let k : ℕ = ready n s in
    let few : k ≤ w - r = ready_most n s in
    let there : k ≤ length (drop r b) = omega (arith, length-drop r b, g.within) in
    let left : w - (r + k) ≡ w - r - k = omega arith in
    ap (λ (m : ℕ). take m (drop (r + k) b)) left
    ∙ ap (take (w - r - k)) (sym (drop-drop k r b))
    ∙ sym (drop_take k (w - r) (drop r b) few there)

pub unread_emptied : (s : Buffer) → unread_bytes (emptied s) ≡ []
unfolding emptied unread_bytes
unread_emptied s = refl

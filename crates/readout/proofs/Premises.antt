-- What demand 3 supposes, as tests. It can be met: document 01's three cases and two of ours are such stories, and one more served poll
-- ends each of them.
--     broken     the premises that a story breaks
--     met-..     everything that is supposed of the story
--     ends-..    what the demand says of the poll that ends it
-- Assumes nothing.
use mathlib.Core.Path.{◌≡◌, refl, sym}
use mathlib.Core.Bool.{Bool, true, false, cond, not, ◌&&◌}
use mathlib.Core.List.{List, [], ◌∷◌, nil≢cons}
use Prim.Native.Nat.{ℕ, ◌+◌, min}
use lib.Dec.{eqb, ltb, leb}
use lib.ListN.{length}
use borrow.Author.Tests.{eqb-true, ltb-true, leb-true}
use borrow.Table.Steps.{cases}
use Rattle.fields.proofs.Bools.{and_left, and_right, not_true}
use Rattle.buffer.specs.Buffer.{unread}
use Rattle.ring.specs.States.{state_number}
use Rattle.wrapper.specs.Wrapper.{is_valid}
use Rattle.wrapper.proofs.Cbw.{is_valid_lem}
use Rattle.device.specs.Device.{numbers_of}
use Rattle.device.specs.Broken.{is_whole}
use Rattle.device.proofs.Wholly.{is_whole_lem}
use Rattle.bbb.specs.Poll.{Given}
use Rattle.calls.specs.Checks.{buffer_of}
use Rattle.calls.specs.Status.{takes_status}
use Rattle.readout.specs.History.{Socket, Event, poll, status, Shows, shows, Happening, did, arrived_in, Throughout, ByValue, is_served, is_reset, is_status, accepts}
use Rattle.readout.specs.Demand.{Story, to_status, Happened, after_wrapper, after_status, ended, message, L, firmware, served_since, waits_in, Earlier, Full, Later, Supposed, polls_due, Ends, Script, played}
use Rattle.readout.specs.Cases.{sending, read64, bare8, short8, write8, full8}
use Rattle.readout.proofs.Computing.{computing}
use Rattle.readout.proofs.Histories.{reached_append, throughout_joined, computed_happened}
use Rattle.readout.proofs.Demand.{demand}

-- ---- what is supposed of events, as tests that can be computed

-- The event is no reset.
keeps : Event → Socket → Shows → Bool
keeps e s o = not (is_reset e)

-- The event leaves the device in a state in which a status is taken.
stays : Event → Socket → Shows → Bool
stays e s o = takes_status (state_number o.socket.device.state)

-- The event is no accepted status.
leaves : Event → Socket → Shows → Bool
leaves e s o = not (accepts e o)

-- Each packet has `n` bytes.
is_full : ℕ → List (List ℕ) → Bool
is_full n [] = true
is_full n (packet ∷ packets) = eqb (length packet) n && is_full n packets

is_full_lem : (n : ℕ) (packets : List (List ℕ)) → is_full n packets ≡ true → Full n packets
unfolding is_full
is_full_lem n [] h = tt
is_full_lem n (packet ∷ packets) h = (eqb-true _ _ (and_left (eqb (length packet) n) (is_full n packets) h), is_full_lem n packets (and_right (eqb (length packet) n) (is_full n packets) h))

pub fills : Event → Socket → Shows → Bool
fills e s o = is_full (min s.device.fixed.packetsize s.device.left.0) o.taken

-- A test holds at each happening of a history.
throughout : (Event → Socket → Shows → Bool) → List Happening → Socket → Bool
throughout test [] s = true
throughout test (x ∷ xs) s = test x.event s x.shown && throughout test xs x.shown.socket

is_throughout : (test : Event → Socket → Shows → Bool) (xs : List Happening) (s : Socket) → throughout test xs s ≡ true → Throughout (λ e s o. test e s o ≡ true) xs s
unfolding throughout
is_throughout test [] s q = tt
is_throughout test (x ∷ xs) s q =
    let rest = throughout test xs x.shown.socket in
    (and_left (test x.event s x.shown) rest q, is_throughout test xs x.shown.socket (and_right (test x.event s x.shown) rest q))

both : {A B C : Event → Socket → Shows → Type 0} → ((e : Event) (s : Socket) (o : Shows) → A e s o → B e s o → C e s o) → (xs : List Happening) (s : Socket) → Throughout A xs s → Throughout B xs s → Throughout C xs s
both join [] s _ _ = tt
both join (x ∷ xs) s (a, more) (b, rest) = (join x.event s x.shown a b, both join xs x.shown.socket more rest)

is_earlier : (xs : List Happening) (s : Socket) → throughout keeps xs s ≡ true → throughout stays xs s ≡ true → Throughout Earlier xs s
unfolding keeps stays
is_earlier xs s kept same = both (λ e s o a b. record { no_reset = not_true _ a; same_command = b }) xs s (is_throughout keeps xs s kept) (is_throughout stays xs s same)

is_later : (xs : List Happening) (s : Socket) → throughout keeps xs s ≡ true → throughout leaves xs s ≡ true → throughout fills xs s ≡ true → Throughout Later xs s
unfolding keeps leaves fills
is_later xs s kept left filled =
    let quiet : Throughout (λ e s o. (is_reset e ≡ false) × (accepts e o ≡ false)) xs s = both (λ e s o a b. (not_true _ a, not_true _ b)) xs s (is_throughout keeps xs s kept) (is_throughout leaves xs s left) in
    both (λ e s o a b. record { no_reset = a.0; no_status = a.1; full = is_full_lem _ _ b }) xs s quiet (is_throughout fills xs s filled)

-- A poll is no reset and no status.
pub poll_later : (g : Given) (s : Socket) (o : Shows) → fills (poll g) s o ≡ true → Later (poll g) s o
unfolding fills is_reset is_status accepts
poll_later g s o filled = record { no_reset = refl; no_status = refl; full = is_full_lem _ _ filled }

-- ---- the premises

-- The premises have their names in `Supposed`. Two are called `no_reset` there: `no_reset_before` is the one up to the status, and
-- `no_reset` is the one after it.
pub data Premise : Type 0 where
  whole : Premise
  waits : Premise
  nothing : Premise
  unfinished : Premise
  valid : Premise
  no_reset_before : Premise
  same_command : Premise
  accepted : Premise
  no_reset : Premise
  no_status : Premise
  full : Premise
  few : Premise

abbrev premises : List Premise
premises = whole ∷ waits ∷ nothing ∷ unfinished ∷ valid ∷ no_reset_before ∷ same_command ∷ accepted ∷ no_reset ∷ no_status ∷ full ∷ few ∷ []

test : Story → Premise → Bool
test t whole = is_whole (numbers_of t.start.device) (length t.start.io)
test t waits = waits_in t.start.device.state
test t nothing = eqb (unread (buffer_of t.start.device t.start.io)) 0
test t unfinished = ltb (length (arrived_in t.arrival)) 31
test t valid = is_valid (message t)
test t no_reset_before = throughout keeps t.before (after_wrapper t)
test t same_command = throughout stays t.before (after_wrapper t)
test t accepted = accepts (status t.last_status) t.stated
test t no_reset = throughout keeps t.after (after_status t)
test t no_status = throughout leaves t.after (after_status t)
test t full = throughout fills t.after (after_status t)
test t few = leb (length (firmware t)) (L t)

-- Of a list of premises, those that a story breaks; and that a story meets them all.
failing : Story → List Premise → List Premise
failing t [] = []
failing t (p ∷ ps) = cond (test t p) (failing t ps) (p ∷ failing t ps)

abbrev Meets : Story → List Premise → Type 0
Meets t [] = Unit {0}
Meets t (p ∷ ps) = (test t p ≡ true) × Meets t ps

meets : (t : Story) (ps : List Premise) → failing t ps ≡ [] → Meets t ps
unfolding failing
meets t [] none = tt
meets t (p ∷ ps) none = cases (test t p) (λ h. (h, meets t ps (rw h at none))) (λ h. absurd (nil≢cons (sym (rw h at none))))

supposed_of : (t : Story) → Meets t premises → Supposed t
unfolding test
supposed_of t (sound, (ready, (clear, (under, (parses, (kept, (same, (taken, (kept', (left, (filled, (most, _)))))))))))) = record {
  between = record { whole = is_whole_lem _ _ sound; waits = ready; nothing = eqb-true _ _ clear };
  unfinished = ltb-true _ _ under;
  valid = is_valid_lem _ parses;
  earlier = is_earlier t.before (after_wrapper t) kept same;
  accepted = taken;
  later = is_later t.after (after_status t) kept' left filled;
  few = leb-true _ _ most;
}

pub broken : Story → List Premise
broken t = failing t premises

supposed_by : (t : Story) → broken t ≡ [] → Supposed t
unfolding broken
supposed_by t none = supposed_of t (meets t premises none)

-- The poll that is given `g` at the end of the story of the script `p`.
abbrev pub last_poll : Script → Given → Shows
last_poll p g = shows (poll g) (ended (played p))

-- Each happening of such a story is what its event does.
pub happened_by : (p : Script) → Happened ByValue (played p)
happened_by p =
    let t : Story = played p in
    let start : Throughout ByValue (to_status t) t.start = throughout_joined ByValue t.arrival _ t.start (computed_happened p.arrival p.start) (refl, computed_happened p.before (after_wrapper t)) in
    throughout_joined ByValue (to_status t) _ t.start start
    (rw (reached_append t.arrival (did (poll t.completing) t.completed ∷ t.before) t.start), computed_happened p.after (after_status t))

ends_by : (p : Script) → Supposed (played p) → (g : Given) → served_since (played p) + 1 ≡ polls_due (played p) → fills (poll g) (ended (played p)) (last_poll p g) ≡ true → is_served (last_poll p g).answer ≡ true → Ends (played p) (last_poll p g)
ends_by p met g last filled does = (demand ByValue (λ e s o same. same) (played p) (happened_by p) met).exactly last g (last_poll p g) refl (poll_later g (ended (played p)) (last_poll p g) filled) does

-- To unfold this is to unfold all the tests.
unfoldable pub testing : Unit {0}
unfolding computing is_reset is_status accepts keeps stays leaves is_full fills throughout test failing broken
testing = tt

-- ---- the stories

pub met_read64 : Supposed (played read64)
unfolding testing read64
met_read64 = supposed_by (played read64) refl

pub ends_read64 : Ends (played read64) (last_poll read64 (sending 64))
unfolding testing read64
ends_read64 = ends_by read64 met_read64 (sending 64) refl refl refl

pub met_bare8 : Supposed (played bare8)
unfolding testing bare8
met_bare8 = supposed_by (played bare8) refl

pub ends_bare8 : Ends (played bare8) (last_poll bare8 (sending 8))
unfolding testing bare8
ends_bare8 = ends_by bare8 met_bare8 (sending 8) refl refl refl

pub met_short8 : Supposed (played short8)
unfolding testing short8
met_short8 = supposed_by (played short8) refl

pub ends_short8 : Ends (played short8) (last_poll short8 (sending 8))
unfolding testing short8
ends_short8 = ends_by short8 met_short8 (sending 8) refl refl refl

pub met_write8 : Supposed (played write8)
unfolding testing short8 write8
met_write8 = supposed_by (played write8) refl

pub ends_write8 : Ends (played write8) (last_poll write8 (sending 8))
unfolding testing short8 write8
ends_write8 = ends_by write8 met_write8 (sending 8) refl refl refl

pub met_full8 : Supposed (played full8)
unfolding testing full8
met_full8 = supposed_by (played full8) refl

pub ends_full8 : Ends (played full8) (last_poll full8 (sending 8))
unfolding testing full8
ends_full8 = ends_by full8 met_full8 (sending 8) refl refl refl

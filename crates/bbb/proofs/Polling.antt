-- Laws of a poll: what has to be shown for each way through its functions (`ways`). Assumes nothing.
use mathlib.Core.Path.{◌≡◌, sym, ◌∙◌}
use mathlib.Core.Bool.{Bool, true, false, ◌&&◌}
use mathlib.Core.List.{List}
use Prim.Native.Nat.{ℕ, ◌-◌, ◌≤◌}
use lib.Dec.{eqb, leb}
use native.Mathlib.Omega.{arith}
use lib.ListN.{length, take, drop}
use borrow.Author.Tests.{le-leb, leb-true}
use Rattle.fields.proofs.Bools.{and_left, and_right}
use Rattle.fields.proofs.Seq.{length_part}
use Rattle.buffer.specs.declared.Marks.{Marks}
use Rattle.buffer.specs.Buffer.{buffer}
use Rattle.buffer.specs.Inner.Buffer.{Sound}
use Rattle.answers.specs.declared.Answer.TheVariants.{BrokenRecord, PacketRefused}
use Rattle.answers.specs.declared.Stalls.{Stalls}
use Rattle.answers.specs.Answers.{endpoint_of, stalls_of}
use Rattle.ring.specs.declared.Act.{Act}
use Rattle.ring.specs.declared.Row.{Row}
use Rattle.ring.specs.Inner.Ring.{row_of, settled}
use Rattle.wrapper.specs.declared.Wrapper.{Wrapper}
use Rattle.wrapper.specs.declared.counters.PutIn.{PutIn}
use Rattle.wrapper.specs.Wrapper.{wrapper_of}
use Rattle.device.specs.declared.Device.{Device}
use Rattle.device.specs.declared.Numbers.{Numbers}
use Rattle.device.specs.Device.{is_present, numbers_of}
use Rattle.device.specs.Broken.{is_whole, unless_broken}
use Rattle.device.proofs.Wholly.{tested, absent_in_0}
use Rattle.bbb.specs.declared.Change.{Change}
use Rattle.bbb.specs.declared.Polled.{Polled}
use Rattle.bbb.specs.declared.open.Opened.{Opened}
use Rattle.bbb.specs.declared.act.Did.{Did}
use Rattle.bbb.specs.Poll.{Given, Fits, is_fitting, polling_of, poll_rule, poll_call}
use Rattle.bbb.specs.Inner.Phases.{refused_by, opening_of, is_valid_found, InFront, Opens, opened, opened_io, just_read, wrapper_then, put_in_then, Acts, acted, acted_packet, ended_of, ends_with, gone_on, changed_by}
use Rattle.bbb.proofs.Same.{finish, follows, same}

-- ---- the wrapper that opening found

cut : (end : ℕ) → 31 ≤ end → end - (end - 31) ≡ 31
cut end h = omega arith

-- This part of the IO buffer ends at the read mark.
pub in_front_lem : (io : List ℕ) (m : Marks) → 31 ≤ m.read → take (m.read - (m.read - 31)) (drop (m.read - 31) io) ≡ just_read io m
unfolding just_read
in_front_lem io m h = rw (cut m.read h)

module _ (o : Opened) {v : Bool} (hv : v ≡ is_valid_found o.found) where
  pub found_31 : InFront o → v ≡ true → 31 ≤ o.marks.read
  found_31 front q = front (sym hv ∙ q)

  module _ (io : List ℕ) where
    pub found_part : Sound (buffer io o.marks) → InFront o → v ≡ true
        → length (take (o.marks.read - (o.marks.read - 31)) (drop (o.marks.read - 31) io)) ≡ 31
    found_part g front q =
        let h = found_31 front q in
        rw (cut o.marks.read h) (length_part (o.marks.read - 31) 31 io (omega (arith, g.order, g.within)))

    pub found_wrapper : (w : Wrapper) → InFront o → v ≡ true → {r : Wrapper}
        → r ≡ wrapper_of (take (o.marks.read - (o.marks.read - 31)) (drop (o.marks.read - 31) io)) → r ≡ wrapper_then (opening_of o) io w
    unfolding wrapper_then
    found_wrapper w front q h = rw (← hv, q, ← in_front_lem io o.marks (found_31 front q)) h

    pub kept_wrapper : (w : Wrapper) → v ≡ false → w ≡ wrapper_then (opening_of o) io w
    unfolding wrapper_then
    kept_wrapper w q = rw (← hv, q)

-- ---- 11

pub fits_all : (p packet one two : ℕ) → one ≤ p → two ≤ p → leb p packet ≡ is_fitting p packet one two
unfolding is_fitting
fits_all p packet one two a b = rw (le-leb _ _ a, le-leb _ _ b)

pub first_fits : (p packet one two : ℕ) {r : Bool} → r ≡ is_fitting p packet one two → r ≡ true → one ≤ p
unfolding is_fitting
first_fits p packet one two h e = leb-true _ _ (and_left (leb one p) (leb two p && leb p packet) (sym h ∙ e))

pub is_fitting_lem : (p : ℕ) (packet one two : List ℕ) {r : Bool} → r ≡ is_fitting p (length packet) (length one) (length two) → r ≡ true → Fits p packet one two
unfolding is_fitting
is_fitting_lem p packet one two h e =
    let a : Bool = leb (length one) p in
    let b : Bool = leb (length two) p in
    let c : Bool = leb p (length packet) in
    let k : a && (b && c) ≡ true = sym h ∙ e in
    record { first = first_fits _ _ _ _ h e; second = leb-true _ _ (and_left b c (and_right a (b && c) k)); into = leb-true _ _ (and_right b c (and_right a (b && c) k)) }

-- ---- decide and act

pub goes_on : (n : Numbers) (o : Opened) (io : List ℕ) (g : Given) {p : Bool} {a : Act} {row : Row} {r : Did} {io' packet' : List ℕ} {s : Stalls}
    → p ≡ is_present n.status → a ≡ settled n.state n.left.0 p (eqb (n.marks.write - n.marks.read) 0) o.found o.left.0 → row ≡ row_of a
    → Acts (acted row n (opening_of o) io g) (acted_packet row n (opening_of o) io g) r io' packet' → s ≡ stalls_of o.cleared r.stalled
    → ended_of (record { state = row.0; marks = r.marks; left = r.left; cleared = o.cleared; report = record { answer = r.answer; taken = r.taken; sent = r.sent; stalls = s } }) io' packet' ≡ gone_on n (opening_of o) io g
unfolding gone_on ends_with
goes_on n o io g hp ha hr x hs = rw (← hp, ← ha, ← hr, ← x.leaves, x.into, hs)

-- ---- the call

module _ (d : Device) (io : List ℕ) (g : Given) {n : Numbers} (hn : n ≡ numbers_of d) {v : Bool} (hv : v ≡ is_whole n (length io)) where
  pub broken_10 : v ≡ false → {r : Polled} → r ≡ refused_by d BrokenRecord → polling_of r io g.packet ≡ poll_call d io g
  unfolding poll_call unless_broken
  broken_10 q h = rw (← hn, ← hv, q, h)

  module _ (q : v ≡ true) {w : Bool} (hw : w ≡ is_fitting n.fixed.packetsize (length g.packet) (length g.one) (length g.two)) where
    fit : w ≡ is_fitting d.fixed.packetsize (length g.packet) (length g.one) (length g.two)
    fit = rw hn at hw

    pub refused_11 : w ≡ false → {r : Polled} → r ≡ refused_by d PacketRefused → polling_of r io g.packet ≡ poll_call d io g
    unfolding poll_call unless_broken
    refused_11 p h = rw (← hn, ← hv, q, ← fit, p, h)

    -- What `open` and `go_on` promise, with the wrapper and the count that are taken between them, makes 01's poll.
    pub polls : w ≡ true → {o : Opened} {io' io'' packet' : List ℕ} (c : Change) {w' : Wrapper} {n' : PutIn} {d' : Device}
        → Opens (opened n io g.one (endpoint_of g.turn.first)) (opened_io n io g.one (endpoint_of g.turn.first)) o io'
        → ended_of c io'' packet' ≡ gone_on n (opening_of o) io' g → w' ≡ wrapper_then (opening_of o) io' d.wrapper → n' ≡ put_in_then (opening_of o) d.putin → d' ≡ changed_by d c w' n'
        → polling_of (record { device = d'; report = c.report }) io'' packet' ≡ poll_call d io g
    unfolding poll_call unless_broken poll_rule
    polls p {o} {io'} {io''} {packet'} c x y z m h =
        let k : finish d (ended_of c io'' packet') (wrapper_then (opening_of o) io' d.wrapper) (put_in_then (opening_of o) d.putin) ≡ follows d (opened (numbers_of d) io g.one (endpoint_of g.turn.first)) (opened_io (numbers_of d) io g.one (endpoint_of g.turn.first)) g =
        rw (← hn, ← x.leaves, ← x.bytes, ← y) in
        rw (← hn, ← hv, q, ← fit, p, h, z, m) (k ∙ same d.state d io g (absent_in_0 (numbers_of d) (length io) (rw hn at (tested n (length io) hv q))))

pub ruleset ways = (found_31, found_part, found_wrapper, kept_wrapper, first_fits, is_fitting_lem, goes_on, tested)

-- A device that waits for a wrapper, and a poll of it: from which point it reads, and what happens with the packet. Assumes nothing.
use mathlib.Core.Path.{◌≡◌, refl, sym, ap, ◌∙◌, subst}
use mathlib.Core.Bool.{Bool, true, false}
use mathlib.Core.List.{List, [], ◌∷◌}
use Prim.Native.Nat.{ℕ, zero, suc, ◌+◌, ◌≤◌, ◌<◌}
use native.Mathlib.Omega.{arith}
use lib.Dec.{eqb, ltb}
use borrow.Author.Tests.{eq-eqb, ltb-true, ltb-false}
use borrow.Table.Steps.{cases}
use lib.ListN.{length, take}
use Rattle.fields.proofs.Bools.{clash}
use Rattle.buffer.specs.Buffer.{unread, unread_bytes, lacks_room}
use Rattle.buffer.specs.Inner.Buffer.{Sound}
use Rattle.buffer.proofs.Kept.{length_unread}
use Rattle.answers.specs.Answers.{answer, serves}
use Rattle.ring.specs.declared.State.{State}
use Rattle.ring.specs.declared.State.TheVariants.{CommandTransfer, CommandTransferInvalid, DataTransferNoData, StatusTransfer, DataTransferToHost, DataTransferToHostStatusAwait, DataTransferToHostEnding, DataTransferFromHost, DataTransferFromHostEnding}
use Rattle.ring.specs.States.{state_number}
use Rattle.device.specs.declared.Device.{Device}
use Rattle.device.specs.Device.{numbers_of, is_present, entering0}
use Rattle.device.specs.Broken.{Whole}
use Rattle.device.proofs.Wholly.{whole_sound, absent_in_0, wrapper_fits, packet_fits, packet_known, packet_bounds}
use Rattle.bbb.specs.Poll.{Given, Polling, Point, point, buffer_of_point, ends, parse_rule, read_cbw_rule, entering, status_transfer_rule, rule_in, poll_rule, Fits}
use Rattle.bbb.proofs.After.{P, first_for, Idle, arrived, read_short, read_ripe, read_full, read_unserved, parse_taken}
use Rattle.calls.specs.Checks.{buffer_of}
use Rattle.readout.specs.History.{Socket, first_packet_of}
use Rattle.readout.specs.Demand.{waits_in}
use Rattle.readout.proofs.Transfer.{unread_in}
use Rattle.readout.proofs.Rules.{packets_of}

-- The bytes `m` of a wrapper have come so far. In 0 they are the unread bytes; in 3, where the whole status is out, none have come.
pub record Arriving (p : ℕ) (m : List ℕ) (s : Socket) : Type 0 where
  pub whole : Whole (numbers_of s.device) (length s.io)
  pub packetsize : s.device.fixed.packetsize ≡ p
  pub waits : waits_in s.device.state ≡ true
  pub unread : unread_in s ≡ m
  pub none_in_3 : s.device.state ≡ StatusTransfer → m ≡ []

-- The device waits in 0 or in 3.
pub waits_by : {A : Type 0} (σ : State) → waits_in σ ≡ true → (σ ≡ CommandTransfer → A) → (σ ≡ StatusTransfer → A) → A
waits_by CommandTransfer h a b = a refl
waits_by CommandTransferInvalid h a b = absurd (clash (sym h))
waits_by DataTransferNoData h a b = absurd (clash (sym h))
waits_by StatusTransfer h a b = b refl
waits_by DataTransferToHost h a b = absurd (clash (sym h))
waits_by DataTransferToHostStatusAwait h a b = absurd (clash (sym h))
waits_by DataTransferToHostEnding h a b = absurd (clash (sym h))
waits_by DataTransferFromHost h a b = absurd (clash (sym h))
waits_by DataTransferFromHostEnding h a b = absurd (clash (sym h))

-- 0 is not 3.
pub apart : {σ : State} → σ ≡ CommandTransfer → σ ≡ StatusTransfer → ⊥
apart e f = clash (ap (λ (σ : State). eqb (state_number σ) 0) (sym e ∙ f))

-- ---- a packet that is read

-- A point `x` from which a poll reads in 0, with the bytes `m` unread.
pub record From (m : List ℕ) (g : Given) (x : Point) : Type 0 where
  pub sound : Sound (buffer_of_point x)
  pub small : length g.one ≤ P x
  pub some : 0 < P x
  pub packet : P x ≤ length x.io
  pub wide : 31 ≤ length x.io
  pub unread : unread_bytes (buffer_of_point x) ≡ m
  pub state : x.device.state ≡ CommandTransfer
  pub absent : is_present x.device.status ≡ false
  pub taken : x.taken ≡ 0

pub from_count : {m : List ℕ} {g : Given} {x : Point} → From m g x → unread (buffer_of_point x) ≡ length m
from_count {x = x} f = sym (length_unread (buffer_of_point x) f.sound) ∙ ap length f.unread

-- What the read does: it takes nothing; it takes a packet, and fewer than 31 bytes are unread; or it takes a packet, 31 or more bytes are
-- unread, and they are parsed.
pub data Reads (g : Given) (x : Point) (o : Polling) : Type 0 where
  idle : Idle g x o → Reads g x o
  short : lacks_room (P x) (buffer_of_point x) ≡ false → serves (first_for g) ≡ true → o ≡ ends g (arrived g x) (answer 0) → unread (buffer_of_point x) + length g.one < 31 → Reads g x o
  ripe : lacks_room (P x) (buffer_of_point x) ≡ false → serves (first_for g) ≡ true → o ≡ parse_rule g (arrived g x) → 31 ≤ unread (buffer_of_point x) + length g.one → Reads g x o

reads : (g : Given) (x : Point) → Sound (buffer_of_point x) → length g.one ≤ P x → Reads g x (read_cbw_rule g x)
reads g x sound small =
    let n : ℕ = unread (buffer_of_point x) + length g.one in
    cases (lacks_room (P x) (buffer_of_point x))
    (λ full. idle (read_full g x sound small full).1)
    (λ room. cases (serves (first_for g))
    (λ serving. cases (ltb n 31)
    (λ h. short room serving (read_short g x sound small room serving (ltb-true n 31 h)) (ltb-true n 31 h))
    (λ h. ripe room serving (read_ripe g x sound small room serving (ltb-false n 31 h)) (ltb-false n 31 h)))
    (λ unserved. idle (read_unserved g x sound small room unserved).1))

first_of_lem : (n : ℕ) (one two : List ℕ) → 1 ≤ n → first_packet_of (take n (one ∷ two ∷ [])) ≡ one
first_of_lem zero one two h = absurd (omega arith)
first_of_lem (suc n) one two h = refl

-- A packet that completes 31 bytes is the first one that the poll took.
pub ripe_first : (g : Given) (x : Point) (o : Polling) → o ≡ parse_rule g (arrived g x) → first_packet_of (packets_of g o) ≡ g.one
ripe_first g x o e = first_of_lem o.taken g.one g.two (rw e (parse_taken g 1 (arrived g x) (omega arith)))

-- ---- a poll of a device that waits

module _ (p : ℕ) (m : List ℕ) (s : Socket) (a : Arriving p m s) (g : Given) (fits : Fits s.device.fixed.packetsize g.packet g.one g.two) where
  abbrev start : Point
  start = point s.device s.io 0 false

  abbrev polled : Polling
  polled = poll_rule s.device s.io g

  marks_sound : Sound (buffer_of s.device s.io)
  marks_sound = whole_sound (numbers_of s.device) s.io a.whole

  -- A point with the marks of the record reads what is unread.
  from : (d : Device) (unstalled : Bool) → d.fixed.packetsize ≡ s.device.fixed.packetsize → d.marks ≡ s.device.marks → d.state ≡ CommandTransfer → is_present d.status ≡ false → From m g (point d s.io 0 unstalled)
  from d unstalled size marks state absent =
      let n = numbers_of s.device in
      let len = length s.io in
      record {
        sound = rw marks marks_sound;
        small = rw size fits.first;
        some = rw size (omega (arith, (packet_bounds s.device.fixed.packetsize (packet_known n len a.whole)).0));
        packet = rw size (packet_fits n len a.whole);
        wide = wrapper_fits n len a.whole;
        unread = rw marks a.unread;
        state = state;
        absent = absent;
        taken = refl;
      }

  -- In 0 the poll reads where it starts.
  rule_0 : s.device.state ≡ CommandTransfer → polled ≡ read_cbw_rule g start
  unfolding poll_rule rule_in
  rule_0 e = subst (λ (σ : State). rule_in σ g start ≡ read_cbw_rule g start) (sym e) refl

  -- In 3 it reads after entering 0.
  rule_3 : s.device.state ≡ StatusTransfer → polled ≡ read_cbw_rule g (entering start)
  unfolding poll_rule rule_in status_transfer_rule
  rule_3 e =
      let none : unread (buffer_of_point start) ≡ 0 = sym (length_unread (buffer_of_point start) marks_sound) ∙ ap length (a.unread ∙ a.none_in_3 e) in
      subst (λ (σ : State). rule_in σ g start ≡ read_cbw_rule g (entering start)) (sym e) (rw (eq-eqb (unread (buffer_of_point start)) 0 none))

  pub by_reading : {A : Type 0} → ((x : Point) → From m g x → Reads g x polled → A) → A
  by_reading {A} go =
      let reading : (x : Point) → From m g x → polled ≡ read_cbw_rule g x → A = λ x f e. go x f (subst (Reads g x) (sym e) (reads g x f.sound f.small)) in
      waits_by s.device.state a.waits
      (λ e. reading start (from s.device false refl refl e (absent_in_0 (numbers_of s.device) (length s.io) a.whole e)) (rule_0 e))
      (λ e. reading (entering start) (from (entering0 s.device) true refl refl refl refl) (rule_3 e))

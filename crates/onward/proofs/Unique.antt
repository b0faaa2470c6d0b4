-- No second answer satisfies a promise: what the `ensures` of a function that makes such a poll says is true of only one result, and of
-- only one content of each lent slice at exit. `Post` is the contract itself, as the check reads it. The three functions that look for
-- such a poll promise only what a yes means: after a no the poll goes the other way. Assumes nothing.
use mathlib.Core.Path.{◌≡◌, sym, ◌∙◌}
use mathlib.Core.List.{List}
use Prim.Native.Nat.{ℕ}
use Rattle.std.specs.Prelude.{Option}
use borrow.Table.Steps.{cases}
use Rattle.fields.proofs.Only.{Only}
use Rattle.device.specs.declared.Numbers.{Numbers}
use Rattle.device.specs.Create.{is_packet_size}
use Rattle.onward.specs.Inner.Onward.{Stays, SendsOrStays, TakesOrStays}
use Rattle.onward.proofs.send_on.Kinds as send-on-kinds
use Rattle.onward.proofs.send_on.Reads as send-on
use Rattle.onward.proofs.take_on.Kinds as take-on-kinds
use Rattle.onward.proofs.take_on.Reads as take_on
use Rattle.onward.proofs.ending.end_on.Kinds as end-on-kinds
use Rattle.onward.proofs.ending.end_on.Reads as end_on

-- The record, and the buffer into which the packet goes, are looked at together.
both : {r l b c : List ℕ} → r ≡ l → b ≡ c → ◌≡◌ {A = List ℕ × List ℕ} (r, b) (l, c)
both e f = rw (e, f)

all_three : {r l b c p q : List ℕ} → r ≡ l → b ≡ c → p ≡ q → ◌≡◌ {A = List ℕ × List ℕ × List ℕ} (r, b, p) (l, c, q)
all_three e f h = rw (e, f, h)

-- A result and what it leaves are those of another.
abbrev Same : (x y : Option ℕ) (r l b c : List ℕ) → Type 0
Same x y r l b c = (x ≡ y) × (◌≡◌ {A = List ℕ × List ℕ} (r, b) (l, c))

stays_once : {x y : Option ℕ} {r b r' l b' c : List ℕ} → Stays x r r' b b' → Stays y r l b c → Same x y r' l b' c
stays_once p q = (p.answer ∙ sym q.answer, both (p.bytes ∙ sym q.bytes) (p.buffer ∙ sym q.buffer))

module _ (n : Numbers) (io r b : List ℕ) {x y : Option ℕ} {r' l b' c : List ℕ} where
  sends_once : SendsOrStays n io r b x r' b' → SendsOrStays n io r b y l c → Same x y r' l b' c
  sends_once p q =
      cases (is_packet_size n.fixed.packetsize)
      (λ e. ((p.sends e).answer ∙ sym (q.sends e).answer, both ((p.sends e).bytes ∙ sym (q.sends e).bytes) ((p.sends e).packet ∙ sym (q.sends e).packet)))
      (λ e. stays_once (p.stays e) (q.stays e))

  takes_once : TakesOrStays n io r b x r' b' → TakesOrStays n io r b y l c → Same x y r' l b' c
  takes_once p q =
      cases (is_packet_size n.fixed.packetsize)
      (λ e. ((p.takes e).answer ∙ sym (q.takes e).answer, both ((p.takes e).bytes ∙ sym (q.takes e).bytes) ((p.takes e).io ∙ sym (q.takes e).io)))
      (λ e. stays_once (p.stays e) (q.stays e))

pub send_on_only : Only {B = List ℕ × List ℕ} 3 send-on-kinds.ps send-on-kinds.r send-on.Post (λ κs s. (s.0.now, s.1.1.1.0.now))
send_on_only κs a x y s t p q = sends_once _ _ _ _ p q

pub take_on_only : Only {B = List ℕ × List ℕ} 3 take-on-kinds.ps take-on-kinds.r take_on.Post (λ κs s. (s.0.now, s.1.1.0.now))
take_on_only κs a x y s t p q = takes_once _ _ _ _ p q

pub end_on_only : Only {B = List ℕ × List ℕ × List ℕ} 3 end-on-kinds.ps end-on-kinds.r end_on.Post (λ κs s. (s.0.now, s.1.0.now, s.1.1.0.now))
end_on_only κs a x y s t p q = (p.answer ∙ sym q.answer, all_three (p.bytes ∙ sym q.bytes) (p.io ∙ sym q.io) (p.packet ∙ sym q.packet))

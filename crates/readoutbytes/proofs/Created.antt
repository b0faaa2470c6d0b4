-- Where a history starts: with answer 0 `souk_create` leaves bytes that hold a new device, which is between two commands; with any other
-- answer it leaves the bytes as they were. Assumes nothing.
--     created             of the definition that its contract cites
--     create_refused      the same, where it is refused
--     created_called      of the call itself
use mathlib.Core.Path.{◌≡◌, refl, sym, ap, ◌∙◌, subst}
use mathlib.Core.List.{List}
use Prim.Native.Nat.{ℕ, zero-le}
use native.Mathlib.Omega.{arith}
use lib.Dec.{eqb}
use lib.ListN.{length}
use contract.Lifetimes.{Lfts}
use denote.Triple.Clauses.{AtExit}
use borrow.Fn.Kinds.{Dens, res_t, ended_of}
use borrow.Author.Tests.{eqb-true, eqb-false}
use Rattle.fields.proofs.Bools.{of_picked}
use Rattle.wrapper.specs.Wrapper.{no_wrapper}
use Rattle.device.specs.declared.Fixed.{Fixed}
use Rattle.device.specs.Create.{fixed, creation_checks, new_device}
use Rattle.device.specs.Device.{numbers_of}
use Rattle.device.specs.Broken.{Whole}
use Rattle.recordbytes.specs.Layout.{record_size}
use Rattle.recordbytes.specs.Record.{new_record}
use Rattle.recordbytes.proofs.RoundTrip.{new_known}
use Rattle.recordbytes.proofs.Held.{created_holds}
use Rattle.callbytes.specs.Calls.{CallOutcome, create_on}
use Rattle.exported.proofs.souk_create.Kinds as create-kinds
use Rattle.exported.proofs.souk_create.Reads as create-reads
use Rattle.readout.specs.History.{socket}
use Rattle.readout.specs.Demand.{Between}
use Rattle.readoutbytes.specs.Calls.{memory, socket_in}
use Rattle.readoutbytes.specs.Created.{StartsNew}
use Rattle.readoutbytes.proofs.Held.{held_known}

-- ---- a new device

new_whole : (f : Fixed) (n : ℕ) → creation_checks f ≡ 0 → f.size ≡ n → Whole (numbers_of (new_device f)) n
unfolding no_wrapper
new_whole f n accepted lent = record { lent = lent; created = accepted; order = zero-le; within = zero-le; block = zero-le; lun = zero-le; status = refl }

new_starts : (f : Fixed) (io : List ℕ) → creation_checks f ≡ 0 → length io ≡ f.size → StartsNew f (new_record f) io
new_starts f io accepted long =
    let held : socket_in (memory (new_record f) io) ≡ socket (new_device f) io = held_known (memory (new_record f) io) (new_known f) ∙ ap (λ d. socket d io) (created_holds f accepted) in
    let whole : Whole (numbers_of (new_device f)) (length io) = new_whole f (length io) accepted (sym long) in
    let between : Between (socket (new_device f) io) = record { whole = whole; waits = refl; nothing = refl } in
    record { device = held; between = subst Between (sym held) between }

-- ---- `souk_create`

module _ (r : List ℕ) (f : Fixed) where
  abbrev Left : CallOutcome → Type 0
  Left o = o.result ≡ 0 → (creation_checks f ≡ 0) × (o.bytes ≡ new_record f)

  left_new : Left (create_on r f)
  unfolding create_on
  left_new =
      of_picked Left (eqb (creation_checks f) 0)
      (λ e. of_picked Left (eqb (length r) record_size) (λ _ _. (eqb-true _ _ e, refl)) (λ _ ten. absurd (omega (arith, ten))))
      (λ e zero. absurd (eqb-false (creation_checks f) 0 e zero))

pub created : (r : List ℕ) (f : Fixed) (io : List ℕ) → length io ≡ f.size → (create_on r f).result ≡ 0 → StartsNew f (create_on r f).bytes io
created r f io long done =
    let (accepted, bytes) = left_new r f done in
    rw bytes (new_starts f io accepted long)

pub create_refused : (r : List ℕ) (f : Fixed) → ((create_on r f).result ≡ 0 → ⊥) → (create_on r f).bytes ≡ r
unfolding create_on
create_refused r f =
    let Stays : CallOutcome → Type 0 = λ (o : CallOutcome). (o.result ≡ 0 → ⊥) → o.bytes ≡ r in
    of_picked Stays (eqb (creation_checks f) 0)
    (λ _. of_picked Stays (eqb (length r) record_size) (λ _ not. absurd (not refl)) (λ _ _. refl))
    (λ _ _. refl)

-- The call itself: `a` are its arguments, `x` is its result, and `z` is the record as it left it.
pub created_called : (κs : Lfts 1) (a : Dens κs create-kinds.ps) (x : (res_t create-kinds.r κs).Denot) (z : AtExit (ended_of 1 create-kinds.ps create-kinds.r) κs) → create-reads.Post κs a x z
    → (io : List ℕ) → length io ≡ a.1.1.1.0 → x ≡ 0 → StartsNew (fixed a.1.0 a.1.1.0 a.1.1.1.0) z.0.now io
created_called κs a x z p io long done =
    let f : Fixed = fixed a.1.0 a.1.1.0 a.1.1.1.0 in
    subst (λ (bytes : List ℕ). StartsNew f bytes io) (sym (ap (λ (o : CallOutcome). o.bytes) p)) (created a.0.now f io long (sym (ap (λ (o : CallOutcome). o.result) p) ∙ done))

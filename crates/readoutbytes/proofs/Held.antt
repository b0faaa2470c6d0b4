-- What a memory holds, and goes on holding. Assumes nothing.
--     held_known, held_none    the socket in a memory whose bytes are a record, and in one whose bytes are none
--     no_record                bytes that are no record count as a broken one
--     event_stores             the device that an event leaves is read back from the bytes in which it is stored
--     whole_held, held_whole   a memory holds a record just if the socket in it is whole
use mathlib.Core.Path.{◌≡◌, sym, ap, ◌∙◌, subst}
use mathlib.Core.Bool.{true, false}
use mathlib.Core.List.{List}
use Prim.Native.Nat.{ℕ}
use lib.Dec.{eqb}
use lib.ListN.{length}
use borrow.Table.Steps.{cases}
use Rattle.fields.proofs.Bools.{clash}
use Rattle.device.specs.declared.Device.{Device}
use Rattle.device.specs.Create.{is_packet_size, creation_checks, no_device}
use Rattle.device.specs.Device.{numbers_of}
use Rattle.device.specs.Broken.{is_whole}
use Rattle.device.proofs.Wholly.{is_whole_lem, whole_is}
use Rattle.recordbytes.specs.Record.{is_known, device_at, store_device}
use Rattle.recordbytes.proofs.Stored.{is_known_lem}
use Rattle.recordbytes.proofs.Parts.{device_kept}
use Rattle.recordbytes.proofs.Held.{narrow_read, stored_back}
use Rattle.border.specs.Record.{on_device}
use Rattle.readout.specs.History.{Socket, socket, Event, next}
use Rattle.readout.proofs.Keeping.{WholeIn, refused, stays_whole, stays_fixed, stays_narrow}
use Rattle.readoutbytes.specs.Calls.{Memory, memory, socket_in, HoldsRecord}

-- ---- the socket in a memory

pub held_known : (m : Memory) → is_known m.bytes ≡ true → socket_in m ≡ socket (device_at m.bytes) m.io
unfolding on_device
held_known m known = rw known

pub held_none : (m : Memory) → is_known m.bytes ≡ false → socket_in m ≡ socket no_device m.io
unfolding on_device
held_none m none = rw none

pub no_record : (n : ℕ) → is_whole (numbers_of no_device) n ≡ false
unfolding is_whole creation_checks is_packet_size
no_record n = cases (eqb 0 n) (λ e. rw e) (λ e. rw e)

-- ---- a record that is held

pub held_whole : (m : Memory) → HoldsRecord m → WholeIn (socket_in m)
held_whole m h = subst WholeIn (sym (held_known m h.known)) h.whole

pub whole_held : (m : Memory) → WholeIn (socket_in m) → HoldsRecord m
whole_held m w =
    cases (is_known m.bytes)
    (λ known. record { known = known; whole = subst WholeIn (held_known m known) w })
    (λ none. absurd (clash (sym (whole_is _ _ (subst WholeIn (held_none m none) w)) ∙ no_record (length m.io))))

-- ---- the device that an event leaves

-- The device `d`, stored in the bytes `r`, is read back from them.
pub record Stores (r : List ℕ) (d : Device) : Type 0 where
  pub back : device_at (store_device d r) ≡ d
  pub known : is_known (store_device d r) ≡ true

-- A memory in which a device is stored like that holds it.
pub stores_held : (r io : List ℕ) (d : Device) → Stores r d → socket_in (memory (store_device d r) io) ≡ socket d io
stores_held r io d s = held_known (memory (store_device d r) io) s.known ∙ rw s.back

module _ (r io : List ℕ) (known : is_known r ≡ true) where
  abbrev here : Socket
  here = socket (device_at r) io

  -- Storing what was read changes nothing.
  same_stores : Stores r (device_at r)
  same_stores = record { back = ap device_at (device_kept r (is_known_lem r known)); known = rw (device_kept r (is_known_lem r known)) known }

  pub event_stores : (e : Event) → Stores r (next e here).device
  event_stores e =
      cases (is_whole (numbers_of (device_at r)) (length io))
      (λ whole.
      let (back, again) =
      stored_back (next e here).device r (length (next e here).io) known (stays_whole e here (is_whole_lem _ _ whole)) (stays_narrow e here (narrow_read r (is_known_lem r known).long)) (stays_fixed e here) in
      record { back = back; known = again })
      (λ broken. subst (λ (s : Socket). Stores r s.device) (sym (refused e here broken).0) same_stores)

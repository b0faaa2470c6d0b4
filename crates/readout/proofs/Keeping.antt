-- What every event keeps, whatever the endpoints answer.
--     refused         an event at a broken record leaves it as it is, and takes no packet
--     stays_whole     a whole record stays whole; run_whole: through a history
--     stays_fixed     what creation fixed stays
--     stays_narrow    the numbers of a device keep their place in a record
-- Assumes nothing.
use mathlib.Core.Path.{◌≡◌, refl, ap}
use mathlib.Core.Bool.{false}
use mathlib.Core.List.{List, [], ◌∷◌}
use lib.ListN.{length}
use Rattle.device.specs.declared.Device.{Device}
use Rattle.device.specs.Device.{numbers_of}
use Rattle.device.specs.Broken.{Whole, is_whole, unless_broken}
use Rattle.device.proofs.Narrow.{Narrow}
use Rattle.device.proofs.Wholly.{either}
use Rattle.bbb.specs.Poll.{poll_call}
use Rattle.bbb.proofs.Keeping.{call_whole, call_sizes, call_narrow}
use Rattle.calls.specs.Status.{set_status_call}
use Rattle.calls.specs.Data.{works_in}
use Rattle.calls.specs.Bus.{Handling, handling_of_reset, reset_call, control_call}
use Rattle.calls.proofs.After.{status_keeps, status_whole, read_keeps, read_whole, write_keeps, write_whole, write_all_keeps, write_all_whole, reset_whole, by_request, control_whole}
use Rattle.calls.proofs.Bounds.{status_narrow, read_narrow, write_narrow, write_all_narrow, reset_narrow, control_narrow}
use Rattle.readout.specs.History.{Socket, Event, poll, status, write, write_all, read, reset, control, command, command_step, mislent, shows, next, Happening, reached, Throughout, ByValue}

abbrev pub WholeIn : Socket → Type 0
WholeIn s = Whole (numbers_of s.device) (length s.io)

-- ---- a broken record

-- An event at a broken record leaves it as it is, and takes no packet.
pub refused : (e : Event) (s : Socket) → is_whole (numbers_of s.device) (length s.io) ≡ false → (next e s ≡ s) × ((shows e s).taken ≡ [])
unfolding shows poll_call set_status_call works_in reset_call control_call unless_broken
refused (poll g) s h = (rw h, rw h)
refused (status f) s h = (rw h, refl)
refused (write src) s h = (rw h, refl)
refused (write_all src) s h = (rw h, refl)
refused (read dst) s h = (rw h, refl)
refused reset s h = (rw h, refl)
refused (control q) s h = (rw h, refl)
refused command s h = (refl, refl)
refused (command_step extended) s h = (refl, refl)
refused mislent s h = (refl, refl)

-- ---- a whole record

-- A whole record stays whole.
pub stays_whole : (e : Event) (s : Socket) → WholeIn s → WholeIn (next e s)
unfolding shows
stays_whole (poll g) s w = call_whole s.device s.io g w
stays_whole (status f) s w = status_whole s.device s.io f w
stays_whole (write src) s w = write_whole s.device s.io w src
stays_whole (write_all src) s w = write_all_whole s.device s.io w src
stays_whole (read dst) s w = read_whole s.device s.io w dst
stays_whole reset s w = reset_whole s.device s.io w
stays_whole (control q) s w = control_whole s.device s.io q w
stays_whole command s w = w
stays_whole (command_step extended) s w = w
stays_whole mislent s w = w

pub run_whole : (xs : List Happening) (s : Socket) → WholeIn s → Throughout ByValue xs s → WholeIn (reached xs s)
run_whole [] s w _ = w
run_whole (x ∷ xs) s w (does, rest) = run_whole xs x.shown.socket (rw does (stays_whole x.event s w)) rest

-- ---- what creation fixed

fixed_is : {d e : Device} → d ≡ e → d.fixed ≡ e.fixed
fixed_is = ap (λ (d : Device). d.fixed)

pub stays_fixed : (e : Event) (s : Socket) → (next e s).device.fixed ≡ s.device.fixed
unfolding shows reset_call handling_of_reset
stays_fixed (poll g) s = (call_sizes s.device s.io g).fixed
stays_fixed (status f) s = fixed_is (status_keeps s.device s.io f)
stays_fixed (write src) s = fixed_is (write_keeps s.device s.io src)
stays_fixed (write_all src) s = fixed_is (write_all_keeps s.device s.io src)
stays_fixed (read dst) s = fixed_is (read_keeps s.device s.io dst)
stays_fixed reset s = either s.device s.io (λ (o : Handling). o.device.fixed ≡ s.device.fixed) refl (λ _. refl)
stays_fixed (control q) s = by_request s.device s.io q (λ (o : Handling). o.device.fixed ≡ s.device.fixed) (λ _ _. refl) (λ _ _. refl)
stays_fixed command s = refl
stays_fixed (command_step extended) s = refl
stays_fixed mislent s = refl

-- ---- the place of numbers

pub stays_narrow : (e : Event) (s : Socket) → Narrow s.device → Narrow (next e s).device
unfolding shows
stays_narrow (poll g) s n = call_narrow s.device s.io g n
stays_narrow (status f) s n = status_narrow s.device s.io f n
stays_narrow (write src) s n = write_narrow s.device s.io src n
stays_narrow (write_all src) s n = write_all_narrow s.device s.io src n
stays_narrow (read dst) s n = read_narrow s.device s.io dst n
stays_narrow reset s n = reset_narrow s.device s.io n
stays_narrow (control q) s n = control_narrow s.device s.io q n
stays_narrow command s n = n
stays_narrow (command_step extended) s n = n
stays_narrow mislent s n = n

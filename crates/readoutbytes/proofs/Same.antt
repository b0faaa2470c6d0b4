-- The simulation: of every call, in every memory, the firmware reads what the event shows at the socket that the memory holds. Nothing is
-- supposed: bytes that are no record, broken records and things of a wrong length are among them. Assumes nothing.
--     same      what the firmware reads
--     leaves    the socket that is held after the call is the one that the event leaves; seen_socket: it is the one that is seen
use mathlib.Core.Path.{◌≡◌, refl, sym, ap, ◌∙◌}
use mathlib.Core.Bool.{Bool, true, false, cond}
use mathlib.Core.List.{List, [], ◌∷◌}
use Prim.Native.Nat.{ℕ, ◌≤◌, ◌<◌}
use native.Mathlib.Omega.{arith}
use lib.Dec.{eqb, leb, lit<}
use lib.ListN.{length, get_or}
use borrow.Table.Steps.{cases}
use Rattle.answers.specs.declared.Stalls.TheVariants.{Kept}
use Rattle.answers.specs.Answers.{Answering, answer}
use Rattle.scsi.specs.declared.ScsiCommand.{ScsiCommand}
use Rattle.answers.proofs.Legible.{Legible, Plain, plain_legible}
use Rattle.scsi.specs.Decoding.{plain_is_extended}
use Rattle.scsi.specs.Numbers.{flag_number}
use Rattle.device.specs.declared.Device.{Device}
use Rattle.device.specs.Create.{no_device}
use Rattle.device.specs.Device.{numbers_of}
use Rattle.device.specs.Broken.{is_whole, unless_broken}
use Rattle.bbb.specs.Poll.{Given, Polling, poll_call}
use Rattle.bbb.proofs.Keeping.{call_sizes, call_lacks, call_legible}
use Rattle.calls.specs.declared.FirmwareStatus.{FirmwareStatus}
use Rattle.calls.specs.declared.Request.{Request}
use Rattle.calls.specs.Status.{Stating, set_status_call}
use Rattle.calls.specs.Data.{Moving, works_in, read_data_call, write_data_call, write_data_all_call}
use Rattle.calls.specs.Bus.{Handling, reset_call, control_call}
use Rattle.calls.specs.Command.{Showing, command_call, offered, Stepping, stepping, command_step_told_call}
use Rattle.calls.proofs.Bounds.{status_plain, read_plain, write_plain, write_all_legible, write_all_carries, Replies, reset_plain, reset_replies, control_plain, control_replies, command_plain, command_lun, by_step}
use Rattle.calls.proofs.Room.{write_all_lacks}
use Rattle.recordbytes.specs.Record.{is_known, device_at}
use Rattle.border.specs.Record.{on_device}
use Rattle.border.specs.Word.{word, upper_half, answer_word, stalls_of_number, reading_of}
use Rattle.border.proofs.Reading.{reading_is, reading_plain}
use Rattle.border.proofs.Upper.{upper_other}
use Rattle.ringbytes.specs.Poll.{poll_outcome_of, poll_on}
use Rattle.databytes.specs.Data.{data_outcome_of, read_data_on, write_data_on, write_data_all_on}
use Rattle.callbytes.specs.Calls.{call_outcome_of_status, call_outcome_of_bus, set_status_on, reset_on, control_on}
use Rattle.commandbytes.specs.Command.{command_outcome, command_outcome_of, command_outcome_of_step, command_on, command_step_by, command_step_on, command_step_told_on}
use Rattle.readout.specs.History.{socket, Event, poll, status, write, write_all, read, reset, control, command_step, mislent, Shows, of_poll, of_status, of_write, of_read, of_bus, of_command, of_step, shows, next}
use Rattle.readoutbytes.specs.Calls.{Memory, socket_in, Call, souk_poll, souk_set_status, souk_write_data, souk_try_write_data_all, souk_read_data, souk_reset, souk_control, souk_command, souk_command_step, souk_command_step_told, Outcome, of_polled, of_called, of_written, of_read_off, of_looked, call_on, event_of, read_of_poll, read_of_write, read_of_read, read_of_status, read_of_bus, read_of_command, read_of_step, seen}
use Rattle.readoutbytes.proofs.Held.{no_record, Stores, stores_held, event_stores}

-- ---- what is read of an outcome

-- The bytes `r` are a record, and the device that the call by value leaves can be stored in them.
module _ (r : List ℕ) where
  poll_read : (g : Given) (o : Polling) → Stores r o.device → Legible o.answer o.sent → ((o.answer.number ≡ 1 → ⊥) → o.answer.missing ≡ 0) → o.taken ≤ 2
      → read_of_poll g (reading_of (poll_outcome_of r o).result) (of_polled (poll_outcome_of r o)) ≡ of_poll g o
  poll_read g o s l none two = rw (reading_is o.answer o.stalls o.taken o.sent l (omega (arith, two)) none, stores_held r o.io o.device s)

  write_read : (src : List ℕ) (o : Moving) → Stores r o.device → Legible o.answer o.count → o.answer.carried ≡ 0 → ((o.answer.number ≡ 1 → ⊥) → o.answer.missing ≡ 0)
      → read_of_write src (reading_of (data_outcome_of r o).result) (of_written (data_outcome_of r o)) ≡ of_write src o
  unfolding upper_half
  write_read src o s l nothing none =
      let bare : Answering = record { number = o.answer.number; carried = 0; missing = o.answer.missing } in
      rw (reading_is bare Kept 0 o.count (record { number = l.number; carried = lit< tt; none = l.none }) (lit< tt) none, stores_held r o.bytes o.device s, nothing)

  module _ (io : List ℕ) where
    read_read : (o : Moving) → Stores r o.device → Plain o.answer → read_of_read (reading_of (data_outcome_of r o).result) (of_read_off io (data_outcome_of r o)) ≡ of_read io o
    read_read o s p = rw (upper_other o.answer o.count p.other, reading_plain o.answer.number 0 Kept 0 o.count p.number p.other (lit< tt) (lit< tt), stores_held r io o.device s, ← p.alone)

    status_read : (o : Stating) → Stores r o.device → Plain o.answer → read_of_status (of_called io (call_outcome_of_status r o)) ≡ of_status io o
    status_read o s p = rw (stores_held r io o.device s, ← p.alone)

    bus_read : (o : Handling) → Stores r o.device → Plain o.answer → Replies o → read_of_bus (reading_of (call_outcome_of_bus r o).result) (of_called io (call_outcome_of_bus r o)) ≡ of_bus io o
    bus_read o s p replies = rw (reading_plain o.answer.number 0 o.stalls (length o.bytes) (get_or o.bytes 0 0) p.number p.other (lit< tt) (omega (arith, replies.most)), stores_held r io o.device s, ← p.alone, ← replies.one)

-- Neither call for the command changes the memory.
command_read : (m : Memory) (was : List ℕ) (o : Showing) → Plain o.answer → o.lun ≤ 15 → read_of_command (reading_of (command_outcome_of was o).result) (of_looked m (command_outcome_of was o)) ≡ of_command (socket_in m) o
command_read m was o p lun =
    rw (reading_plain o.answer.number o.lun Kept (flag_number o.shown) o.blocklength p.number p.other (omega (arith, lun)) (flag_small o.shown), ← p.alone)
    (cases o.shown (λ e. rw e) (λ e. rw e))
  where
    flag_small : (b : Bool) → flag_number b < 256
    flag_small true = lit< tt
    flag_small false = lit< tt

-- What is read of a step that gives `o` is what it shows.
abbrev StepRead : Memory → List ℕ → Stepping → Type 0
StepRead m was o = read_of_step (reading_of (command_outcome_of_step o.answer.number was o.offers).result) (of_looked m (command_outcome_of_step o.answer.number was o.offers)) ≡ of_step (socket_in m) o

none_read : (m : Memory) (was : List ℕ) → StepRead m was (stepping (answer 10) []) × StepRead m was (stepping (answer 0) []) × StepRead m was (stepping (answer 13) [])
unfolding reading_of word stalls_of_number
none_read m was = (refl, refl, refl)

offer_read : (m : Memory) (was : List ℕ) (lun : ℕ) (c : ScsiCommand) → lun ≤ 15 → StepRead m was (stepping (answer 0) (offered lun c ∷ []))
offer_read m was lun c most = rw (reading_plain 0 lun Kept 1 0 (lit< tt) refl (omega (arith, most)) (lit< tt))

step_read : (m : Memory) (was : List ℕ) (extended : Bool) (d : Device) (io : List ℕ) → StepRead m was (command_step_told_call extended d io)
step_read m was extended d io = by_step extended d io (StepRead m was) (none_read m was).0 (none_read m was).1 (none_read m was).2 (λ w c. offer_read m was d.wrapper.lun c w.lun)

-- Of a call in the memory `m` the firmware reads what its event shows at the socket that is held there.
abbrev Same : Memory → Call → Type 0
Same m c = seen c (call_on c m) ≡ shows (event_of c) (socket_in m)

-- ---- a memory whose bytes are a record

module _ (m : Memory) (known : is_known m.bytes ≡ true) where
  abbrev r : List ℕ
  r = m.bytes

  abbrev d : Device
  d = device_at m.bytes

  abbrev stores : (e : Event) → Stores r (next e (socket d m.io)).device
  stores = event_stores r m.io known

  poll_same : (g : Given) → Same m (souk_poll g)
  unfolding call_on seen shows poll_on on_device
  poll_same g = rw known (poll_read r g (poll_call d m.io g) (stores (poll g)) (call_legible d m.io g) (call_lacks d m.io g).none (call_sizes d m.io g).taken)

  status_same : (f : FirmwareStatus) → Same m (souk_set_status f)
  unfolding call_on seen shows set_status_on on_device
  status_same f = rw known (status_read r m.io (set_status_call d m.io f) (stores (status f)) (status_plain d m.io f))

  write_same : (src : List ℕ) → Same m (souk_write_data src)
  unfolding call_on seen shows write_data_on on_device
  write_same src =
      let p : Plain (write_data_call d m.io src).answer = write_plain d m.io src in
      rw known (write_read r src (write_data_call d m.io src) (stores (write src)) (plain_legible _ _ p) (ap (λ (a : Answering). a.carried) p.alone) (λ _. ap (λ (a : Answering). a.missing) p.alone))

  write_all_same : (src : List ℕ) → Same m (souk_try_write_data_all src)
  unfolding call_on seen shows write_data_all_on on_device
  write_all_same src =
      rw known (write_read r src (write_data_all_call d m.io src) (stores (write_all src)) (write_all_legible d m.io src) (write_all_carries d m.io src) (write_all_lacks d m.io src).none)

  read_same : (dst : List ℕ) → Same m (souk_read_data dst)
  unfolding call_on seen shows read_data_on on_device
  read_same dst = rw known (read_read r m.io (read_data_call d m.io dst) (stores (read dst)) (read_plain d m.io dst))

  reset_same : Same m souk_reset
  unfolding call_on seen shows reset_on on_device
  reset_same = rw known (bus_read r m.io (reset_call d m.io) (stores reset) (reset_plain d m.io) (reset_replies d m.io))

  control_same : (q : Request) → Same m (souk_control q)
  unfolding call_on seen shows control_on on_device
  control_same q = rw known (bus_read r m.io (control_call d m.io q) (stores (control q)) (control_plain d m.io q) (control_replies d m.io q))

-- ---- a memory whose bytes are none: every call is refused with 10

module _ (m : Memory) (none : is_known m.bytes ≡ false) where
  broken : is_whole (numbers_of no_device) (length m.io) ≡ false
  broken = no_record (length m.io)

  poll_none : (g : Given) → Same m (souk_poll g)
  unfolding call_on seen shows poll_on on_device poll_call unless_broken reading_of word stalls_of_number
  poll_none g = rw (none, broken, none)

  status_none : (f : FirmwareStatus) → Same m (souk_set_status f)
  unfolding call_on seen shows set_status_on on_device set_status_call unless_broken
  status_none f = rw (none, broken, none)

  write_none : (src : List ℕ) → Same m (souk_write_data src)
  unfolding call_on seen shows write_data_on on_device works_in unless_broken reading_of word stalls_of_number
  write_none src = rw (none, broken, none)

  write_all_none : (src : List ℕ) → Same m (souk_try_write_data_all src)
  unfolding call_on seen shows write_data_all_on on_device works_in unless_broken reading_of word stalls_of_number
  write_all_none src = rw (none, broken, none)

  read_none : (dst : List ℕ) → Same m (souk_read_data dst)
  unfolding call_on seen shows read_data_on on_device works_in unless_broken reading_of word stalls_of_number
  read_none dst = rw (none, broken, none)

  reset_none : Same m souk_reset
  unfolding call_on seen shows reset_on on_device reset_call unless_broken reading_of word stalls_of_number
  reset_none = rw (none, broken, none)

  control_none : (q : Request) → Same m (souk_control q)
  unfolding call_on seen shows control_on on_device control_call unless_broken reading_of word stalls_of_number
  control_none q = rw (none, broken, none)

  shown_none : (block : List ℕ) → read_of_command (reading_of (answer_word 10)) (of_looked m (command_outcome (answer_word 10) block)) ≡ of_command (socket_in m) (command_call (socket_in m).device m.io)
  unfolding on_device command_call unless_broken reading_of word stalls_of_number
  shown_none block = rw (none, broken)

  stepped_none : (extended : Bool) (numbers : List ℕ) → read_of_step (reading_of (answer_word 10)) (of_looked m (command_outcome (answer_word 10) numbers)) ≡ of_step (socket_in m) (command_step_told_call extended (socket_in m).device m.io)
  unfolding on_device command_step_told_call unless_broken reading_of word stalls_of_number
  stepped_none extended numbers = rw (none, broken)

-- ---- the command

command_same : (m : Memory) (block : List ℕ) → Same m (souk_command block)
unfolding call_on seen shows command_on on_device reading_of word stalls_of_number
command_same m block =
    cases (eqb (length block) 16)
    (λ fits. rw fits (cases (is_known m.bytes)
    (λ known. rw known (rw known at (command_read m block (command_call (device_at m.bytes) m.io) (command_plain (device_at m.bytes) m.io) (command_lun (device_at m.bytes) m.io))))
    (λ none. rw none (rw none at (shown_none m none block)))))
    (λ other. rw other)

step_same : (m : Memory) (extended : Bool) (numbers : List ℕ) → read_of_step (reading_of (command_step_by extended m.bytes m.io numbers).result) (of_looked m (command_step_by extended m.bytes m.io numbers))
    ≡ shows (cond (eqb (length numbers) 6) (command_step extended) mislent) (socket_in m)
unfolding shows command_step_by on_device reading_of word stalls_of_number
step_same m extended numbers =
    cases (eqb (length numbers) 6)
    (λ fits. rw fits (cases (is_known m.bytes)
    (λ known. rw known (rw known at (step_read m numbers extended (device_at m.bytes) m.io)))
    (λ none. rw none (rw none at (stepped_none m none extended numbers)))))
    (λ other. rw other)

told_same : (m : Memory) (extended : ℕ) (numbers : List ℕ) → Same m (souk_command_step_told extended numbers)
unfolding call_on seen shows command_step_told_on reading_of word stalls_of_number
told_same m extended numbers =
    cases (leb extended 1)
    (λ flag. rw flag (step_same m (eqb extended 1) numbers))
    (λ other. rw other)

-- ---- every call

pub same : (c : Call) (m : Memory) → seen c (call_on c m) ≡ shows (event_of c) (socket_in m)
unfolding call_on seen command_step_on
same (souk_poll g) m = cases (is_known m.bytes) (λ k. poll_same m k g) (λ k. poll_none m k g)
same (souk_set_status f) m = cases (is_known m.bytes) (λ k. status_same m k f) (λ k. status_none m k f)
same (souk_write_data src) m = cases (is_known m.bytes) (λ k. write_same m k src) (λ k. write_none m k src)
same (souk_try_write_data_all src) m = cases (is_known m.bytes) (λ k. write_all_same m k src) (λ k. write_all_none m k src)
same (souk_read_data dst) m = cases (is_known m.bytes) (λ k. read_same m k dst) (λ k. read_none m k dst)
same souk_reset m = cases (is_known m.bytes) (reset_same m) (reset_none m)
same (souk_control q) m = cases (is_known m.bytes) (λ k. control_same m k q) (λ k. control_none m k q)
same (souk_command block) m = command_same m block
same (souk_command_step numbers) m = step_same m plain_is_extended numbers
same (souk_command_step_told extended numbers) m = told_same m extended numbers

-- Whatever the firmware reads of a call, the socket of it is the one in the memory that the call left.
pub seen_socket : (c : Call) (o : Outcome) → (seen c o).socket ≡ socket_in o.memory
unfolding seen
seen_socket (souk_poll g) o = refl
seen_socket (souk_set_status f) o = refl
seen_socket (souk_write_data src) o = refl
seen_socket (souk_try_write_data_all src) o = refl
seen_socket (souk_read_data dst) o = refl
seen_socket souk_reset o = refl
seen_socket (souk_control q) o = refl
seen_socket (souk_command block) o = refl
seen_socket (souk_command_step numbers) o = refl
seen_socket (souk_command_step_told extended numbers) o = refl

pub leaves : (c : Call) (m : Memory) → socket_in (call_on c m).memory ≡ next (event_of c) (socket_in m)
leaves c m = sym (seen_socket c (call_on c m)) ∙ ap (λ (o : Shows). o.socket) (same c m)

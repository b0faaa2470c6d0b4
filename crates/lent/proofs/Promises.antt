-- The law of a thin call (`Law.antt`) is given these for each call: its parameters after the record, and its promise. In a promise the
-- record d and the arguments a are those at entry; the record d', the answer r and the arguments z are those at exit. Each promise is the
-- call's `ensures`, as `Unique.antt` shows. Assumes nothing.
use mathlib.Core.Path.{◌≡◌}
use mathlib.Core.List.{List, [], ◌∷◌}
use Rattle.bbb.specs.Poll as Poll
use Rattle.bbb.specs.Poll.{poll_call}
use Rattle.calls.specs.Status.{set_status_call}
use Rattle.calls.specs.Data.{read_data_call, write_data_call, write_data_all_call}
use Rattle.calls.specs.Bus.{reset_call, control_call}
use Rattle.lent.specs.Lent.{polling_with, stating_with, moving_with, handling_with}
use Rattle.lent.proofs.Types.{device, turn, report, polled, firmware_status, answer, stated, count, moved, request, controlled, handled}
use Rattle.thin.proofs.Law.{Kind, mutable, shared, given, Promise}

-- io, packet, one, two, turn
abbrev pub poll_others : List (Kind 4)
poll_others = mutable 0 tt ∷ mutable 1 tt ∷ shared 2 tt ∷ shared 3 tt ∷ given turn ∷ []

abbrev pub poll_promise : Promise device report polled poll_others
poll_promise κs d a d' r z =
    polling_with d' r z.0.now z.1.0.now ≡ poll_call d a.0.now (Poll.given a.1.0.now a.1.1.0.now a.1.1.1.0.now a.1.1.1.1.0)

-- io, the firmware's status
abbrev pub set_status_others : List (Kind 1)
set_status_others = shared 0 tt ∷ given firmware_status ∷ []

abbrev pub set_status_promise : Promise device answer stated set_status_others
set_status_promise κs d a d' r z = stating_with d' r ≡ set_status_call d a.0.now a.1.0

-- dst, io
abbrev pub read_data_others : List (Kind 2)
read_data_others = mutable 0 tt ∷ shared 1 tt ∷ []

abbrev pub read_data_promise : Promise device count moved read_data_others
read_data_promise κs d a d' r z = moving_with d' r z.0.now ≡ read_data_call d a.1.0.now a.0.now

-- io, src
abbrev pub write_data_others : List (Kind 2)
write_data_others = mutable 0 tt ∷ shared 1 tt ∷ []

abbrev pub write_data_promise : Promise device count moved write_data_others
write_data_promise κs d a d' r z = moving_with d' r z.0.now ≡ write_data_call d a.0.now a.1.0.now

-- io, src
abbrev pub try_write_data_all_others : List (Kind 2)
try_write_data_all_others = mutable 0 tt ∷ shared 1 tt ∷ []

abbrev pub try_write_data_all_promise : Promise device count moved try_write_data_all_others
try_write_data_all_promise κs d a d' r z = moving_with d' r z.0.now ≡ write_data_all_call d a.0.now a.1.0.now

-- io
abbrev pub reset_others : List (Kind 1)
reset_others = shared 0 tt ∷ []

abbrev pub reset_promise : Promise device controlled handled reset_others
reset_promise κs d a d' r z = handling_with d' r ≡ reset_call d a.0.now

-- io, request
abbrev pub control_others : List (Kind 1)
control_others = shared 0 tt ∷ given request ∷ []

abbrev pub control_promise : Promise device controlled handled control_others
control_promise κs d a d' r z = handling_with d' r ≡ control_call d a.0.now a.1.0

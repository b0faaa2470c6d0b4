-- The plain types that the calls name, as `Data.antt` asks for them, made from the modules that a check makes of each type. Assumes
-- nothing.
use mathlib.Core.Path.{refl}
use Rattle.thin.proofs.Data.{Data, Pair, struct_data, enum_data, struct_pair}
use Rattle.answers.specs.contracts.Answer as Answer
use Rattle.answers.proofs.Answer.TheLaws as Answer'
use Rattle.device.specs.contracts.Device as Device
use Rattle.device.proofs.Device.TheLaws as Device'
use Rattle.bbb.specs.contracts.Turn as Turn
use Rattle.bbb.proofs.Turn.TheLaws as Turn'
use Rattle.bbb.specs.contracts.Report as Report
use Rattle.bbb.proofs.Report.TheLaws as Report'
use Rattle.bbb.specs.contracts.Polled as Polled
use Rattle.bbb.proofs.Polled.TheLaws as Polled'
use Rattle.calls.specs.contracts.FirmwareStatus as FirmwareStatus
use Rattle.calls.proofs.FirmwareStatus.TheLaws as FirmwareStatus'
use Rattle.calls.specs.contracts.Stated as Stated
use Rattle.calls.proofs.Stated.TheLaws as Stated'
use Rattle.calls.specs.contracts.Count as Count
use Rattle.calls.proofs.Count.TheLaws as Count'
use Rattle.calls.specs.contracts.Moved as Moved
use Rattle.calls.proofs.Moved.TheLaws as Moved'
use Rattle.calls.specs.contracts.Request as Request
use Rattle.calls.proofs.Request.TheLaws as Request'
use Rattle.calls.specs.contracts.Controlled as Controlled
use Rattle.calls.proofs.Controlled.TheLaws as Controlled'
use Rattle.calls.specs.contracts.Handled as Handled
use Rattle.calls.proofs.Handled.TheLaws as Handled'

-- ---- by value

abbrev pub device : Data
device = struct_data Device.the_type Device'.the_laws Device'.the_plain Device'.mir refl

abbrev pub turn : Data
turn = struct_data Turn.the_type Turn'.the_laws Turn'.the_plain Turn'.mir refl

abbrev pub report : Data
report = struct_data Report.the_type Report'.the_laws Report'.the_plain Report'.mir refl

abbrev pub firmware_status : Data
firmware_status = struct_data FirmwareStatus.the_type FirmwareStatus'.the_laws FirmwareStatus'.the_plain FirmwareStatus'.mir refl

abbrev pub count : Data
count = struct_data Count.the_type Count'.the_laws Count'.the_plain Count'.mir refl

abbrev pub request : Data
request = struct_data Request.the_type Request'.the_laws Request'.the_plain Request'.mir refl

abbrev pub controlled : Data
controlled = struct_data Controlled.the_type Controlled'.the_laws Controlled'.the_plain Controlled'.mir refl

abbrev pub answer : Data
answer = enum_data Answer.the_type Answer'.the_laws tt Answer'.the_plain Answer'.mir refl

-- ---- what each core returns: the record, and what it reports

abbrev pub polled : Pair device report
polled =
    struct_pair device report Polled.the_type Polled'.the_laws (Polled.struct).name (λ r. r.device) (λ r. r.report)
    (λ r. refl) refl (λ r is. is.0) (λ r is. is.1.0)

abbrev pub stated : Pair device answer
stated =
    struct_pair device answer Stated.the_type Stated'.the_laws (Stated.struct).name (λ r. r.device) (λ r. r.answer)
    (λ r. refl) refl (λ r is. is.0) (λ r is. is.1.0)

abbrev pub moved : Pair device count
moved =
    struct_pair device count Moved.the_type Moved'.the_laws (Moved.struct).name (λ r. r.device) (λ r. r.report)
    (λ r. refl) refl (λ r is. is.0) (λ r is. is.1.0)

abbrev pub handled : Pair device controlled
handled =
    struct_pair device controlled Handled.the_type Handled'.the_laws (Handled.struct).name (λ r. r.device) (λ r. r.report)
    (λ r. refl) refl (λ r is. is.0) (λ r is. is.1.0)

-- What is asked for, of the files that the words name.
use Rattle.std.specs.Prelude.{◌≡◌, ◌<◌, ◌⊎◌, ℕ, Bool, List, [], length, Option, Some, None}
use Rattle.boot_plan.specs.FirstPages.{plan_of}
use Rattle.boot_plan.specs.ImageFault.{IsImageFault}
use Rattle.boot_plan.specs.declared.plans.BootPlan.{BootPlan}
use Rattle.host_io.specs.Reading.{IsFile}
use Rattle.kernel_args.specs.declared.args.Args.{Args}
use Rattle.kernel_args.specs.declared.faults.ArgFault.{ArgFault}
use Rattle.order_search.specs.declared.subject.Subject.{Subject}
use Rattle.xk_base.specs.declared.events.Event.{Event}
use Rattle.xk_base.specs.declared.limits.TheConstants.{EVENT_FILE_LIMIT}
use Rattle.program_status.specs.Plans.{IsSoundImage}
use Rattle.program_status.specs.declared.status.Status.{Status}
use Rattle.xousorders.specs.Searched.{IsStopped}
use Rattle.program_status.specs.declared.status.Status.TheVariants.{EventFault, ImageFault, NoMemory, ReadFault, StepLimit, WriteFault}

-- the files of the host by their names, where they are told
abbrev pub HostFiles : Type 0
HostFiles = Option (List ℕ → Option (List ℕ))

-- The names of the image and of the event file that is played before, how many steps a slice has at most, the events that may come, each
-- once, and whether orders differ by what processes end with. Names are bytes of UTF-8.
pub record Asking : Type 0 where
  pub image : List ℕ
  pub before : Option (List ℕ)
  pub quantum : ℕ
  pub once : List Event
  pub exits : Bool

abbrev pub asking_of : List ℕ → Option (List ℕ) → ℕ → List Event → Bool → Asking
asking_of image before quantum once exits = record { image = image; before = before; quantum = quantum; once = once; exits = exits }

-- ---- files that are read

-- the image has no fault, and this is its plan
pub record IsPlanOf (image : List ℕ) (plan : BootPlan) : Type 0 where
  pub args : Args
  pub sound : IsSoundImage image None args
  pub planned : plan ≡ plan_of args None

-- the bytes of the event file that is played before, or none where there is none
abbrev pub IsBefore : HostFiles → Option (List ℕ) → List ℕ → Type 0
IsBefore files None bytes = bytes ≡ []
IsBefore files (Some name) bytes = IsFile files name bytes

-- what is searched is what is asked for, without preemptions and without a bound of steps
pub record IsAsked (files : HostFiles) (asking : Asking) (s : Subject) : Type 0 where
  pub image : IsFile files asking.image s.file.items
  pub planned : IsPlanOf s.file.items s.plan
  pub before : IsBefore files asking.before s.before.items
  pub quantum : s.orders.quantum ≡ asking.quantum
  pub bound : s.orders.bound ≡ None
  pub once : s.orders.once.items ≡ asking.once
  pub exits : s.orders.exits ≡ asking.exits
  pub preemptions : s.orders.preemptions ≡ 0

-- ---- files that aren't

-- the image of that name has this first fault
abbrev pub HasFault : HostFiles → List ℕ → ArgFault → Type 0
HasFault files name fault = (image : List ℕ) × IsFile files name image × IsImageFault image None (Some fault)

-- there is an event file that is played before, and it is too long for its events
abbrev pub IsTooLong : HostFiles → Option (List ℕ) → Type 0
IsTooLong files None = ⊥
IsTooLong files (Some name) = (bytes : List ℕ) × (EVENT_FILE_LIMIT < length bytes) × IsFile files name bytes

-- the image isn't read: it is too long for one, the host failed, or there is no memory
abbrev pub RefusesImage : HostFiles → List ℕ → Type 0 → Status → Type 0
RefusesImage files name host_rose (ImageFault fault) = HasFault files name fault
RefusesImage files name host_rose ReadFault = host_rose
RefusesImage files name host_rose NoMemory = Unit {0}
RefusesImage files name host_rose status = ⊥

-- the events before aren't read: the host failed, they are too long, or there is no memory
abbrev pub RefusesEvents : HostFiles → Option (List ℕ) → Type 0 → Status → Type 0
RefusesEvents files name host_rose ReadFault = host_rose ⊎ IsTooLong files name
RefusesEvents files name host_rose NoMemory = Unit {0}
RefusesEvents files name host_rose status = ⊥

-- the events before aren't played whole, for this reason
pub record IsUnplayedBefore (files : HostFiles) (asking : Asking) (status : Status) : Type 0 where
  pub asked : Subject
  pub is_asked : IsAsked files asking asked
  pub why : IsStopped asked status

-- Why no search begins, by the status: the image has this first fault; a file wasn't read, as the host failed or the events before are too
-- long; these have a first bad line, or meet the step limit; the folder for event files can't be opened; there is no memory.
abbrev pub Stops : HostFiles → Asking → Type 0 → Type 0 → Status → Type 0
Stops files asking host_rose unopened (ImageFault fault) = HasFault files asking.image fault
Stops files asking host_rose unopened ReadFault = host_rose ⊎ IsTooLong files asking.before
Stops files asking host_rose unopened (EventFault line) = IsUnplayedBefore files asking (EventFault line)
Stops files asking host_rose unopened (StepLimit limit) = IsUnplayedBefore files asking (StepLimit limit)
Stops files asking host_rose unopened WriteFault = unopened
Stops files asking host_rose unopened NoMemory = Unit {0}
Stops files asking host_rose unopened status = ⊥

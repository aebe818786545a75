-- Files that are told give a command one task at most, and one first fault at most, and never both.
use Rattle.std.proofs.Common.{◌≡◌, inl, inr, ℕ, List, Option, Some, sym, ap, ◌∙◌, subst}
use Rattle.boot_plan.specs.FirstPages.{plan_of}
use Rattle.boot_plan.specs.declared.plans.BootPlan.{BootPlan}
use Rattle.event_text.specs.EventFile.{Input, input_of}
use Rattle.kernel_args.proofs.ImageLemmas.{spelled_once}
use Rattle.kernel_args.specs.Image.{Spells}
use Rattle.kernel_args.specs.declared.args.Args.{Args}
use Rattle.kernel_args.specs.declared.faults.ArgFault.{ArgFault}
use Rattle.machine_model.specs.State.Machine.{Machine}
use Rattle.xk_base.specs.declared.limits.TheConstants.{SLOT_LIMIT}
use Rattle.xous_program.specs.Outcome.Images.{Image, IsPlanned, plan_in}
use Rattle.xous_program.specs.Outcome.Resumes.{limit_from, resumed_on}
use Rattle.xous_program.specs.Outcome.Said.{AreEventsOf, Converting, Gives, GivesBytes, GivesPlan, GivesRun, HasEvents, HasFault, Planning, Run, Running}
use Rattle.xous_program.specs.Outcome.Said.{Starts, StartsOnImage, StartsOnState, Task}
use Rattle.xous_program.specs.Outcome.Starts.{Booted, booted_of}
use Rattle.xous_program.specs.Words.{Check, Command, Plays, Checks, Converts, Demo, Suspends, Resumes, Play, Resume}
use Rattle.program_laws.proofs.Files.FileLemmas.{boots_no_fault, conversion_no_fault, conversions_agree, faults_agree, images_agree}
use Rattle.program_laws.proofs.Files.FileLemmas.{planned_no_fault, same_bytes, short_or_long}
use Rattle.program_laws.proofs.Files.StateLemmas as of_state

abbrev Files : Type 0
Files = List ℕ → Option (List ℕ)

-- ---- runs

-- they start on the same, with one limit
record StartAlike (one other : Run) : Type 0 where
  booted : one.booted ≡ other.booted
  limit : one.limit ≡ other.limit

-- an image has one plan
image_plans : (file : Files) (name : List ℕ) (slots : Option ℕ) (one other : Machine) (a : Image (Some file) name slots one) (b : Image (Some file) name slots other)
    → plan_in a ≡ plan_in b
image_plans file name slots one other a b =
    let same : b.bytes ≡ a.bytes = same_bytes file name b.bytes a.bytes b.read a.read in
    let P : List ℕ → Type 0 = λ bytes. Spells bytes b.boots.args in
    let args : a.boots.args ≡ b.boots.args = spelled_once a.bytes a.boots.args b.boots.args a.boots.sound.spelled (subst P same b.boots.sound.spelled) in
    ap (λ (args : Args). plan_of args slots) args

images_alike : (file : Files) (play : Play) (one other : Run) → StartsOnImage (Some file) play one → StartsOnImage (Some file) play other → StartAlike one other
images_alike file play one other a b =
    let plans : plan_in a.image ≡ plan_in b.image = image_plans file play.image play.slots a.machine b.machine a.image b.image in
    let machines : a.machine ≡ b.machine = images_agree file play.image play.slots a.machine b.machine a.image b.image in
    record {
      booted =
          a.booted
          ∙ (ap (λ (plan : BootPlan). booted_of plan a.machine) plans
          ∙ (ap (λ (m : Machine). booted_of (plan_in b.image) m) machines ∙ sym b.booted));
      limit = a.limit ∙ sym b.limit;
    }

states_alike : (file : Files) (resume : Resume) (one other : Run) → StartsOnState (Some file) resume one → StartsOnState (Some file) resume other → StartAlike one other
states_alike file resume one other a b =
    let same : a.machine ≡ b.machine = of_state.states_agree file resume.state resume.slots a.machine b.machine a.state b.state in
    record {
      booted = a.booted ∙ (ap (λ (m : Machine). resumed_on m resume.slots) same ∙ sym b.booted);
      limit = a.limit ∙ (ap (limit_from resume.limit) same ∙ sym b.limit);
    }

starts_alike : (file : Files) (command : Command) (one other : Run) → Starts (Some file) command one → Starts (Some file) command other → StartAlike one other
starts_alike file (Plays play) one other a b = images_alike file play one other a b
starts_alike file (Suspends suspend) one other a b = images_alike file _ one other a b
starts_alike file (Resumes resume) one other a b = states_alike file resume one other a b
starts_alike file (Demo clients) one other a b = record { booted = a.booted ∙ sym b.booted; limit = a.limit ∙ sym b.limit }
starts_alike file (Checks check) one other a b = absurd a
starts_alike file (Converts image) one other a b = absurd a

events_alike : (file : Files) (name : List ℕ) (one other : Input) → AreEventsOf (Some file) name one → AreEventsOf (Some file) name other → one ≡ other
events_alike file name one other a b = a.2 ∙ (ap input_of (same_bytes file name a.0 b.0 a.1 b.1) ∙ sym b.2)

inputs_alike : (file : Files) (command : Command) (one other : Input) → HasEvents (Some file) command one → HasEvents (Some file) command other → one ≡ other
inputs_alike file (Plays play) one other a b = events_alike file play.events one other a b
inputs_alike file (Suspends suspend) one other a b = events_alike file suspend.events one other a b
inputs_alike file (Resumes resume) one other a b = events_alike file resume.events one other a b
inputs_alike file (Demo clients) one other a b = a ∙ sym b
inputs_alike file (Checks check) one other a b = absurd a
inputs_alike file (Converts image) one other a b = absurd a

-- a run is what it starts on, its limit and its events
run_is : (one other : Run) → StartAlike one other → one.input ≡ other.input → one ≡ other
run_is one other alike plays =
    ap (λ (b : Booted). record { booted = b; limit = one.limit; input = one.input }) alike.booted
    ∙ (ap (λ (l : ℕ). record { booted = other.booted; limit = l; input = one.input }) alike.limit
    ∙ ap (λ (i : Input). record { booted = other.booted; limit = other.limit; input = i }) plays)

runs_same : (file : Files) (command : Command) (one other : Run) → GivesRun (Some file) command one → GivesRun (Some file) command other → one ≡ other
runs_same file command one other a b =
    run_is one other (starts_alike file command one other a.starts b.starts) (inputs_alike file command one.input other.input a.events b.events)

-- ---- plans and conversions

plans_agree : (file : Files) (check : Check) (one other : BootPlan) → IsPlanned (Some file) check.image check.slots one
    → IsPlanned (Some file) check.image check.slots other → one ≡ other
plans_agree file check one other a b =
    let same : b.image ≡ a.image = same_bytes file check.image b.image a.image b.read a.read in
    let P : List ℕ → Type 0 = λ bytes. Spells bytes b.args in
    let args : a.args ≡ b.args = spelled_once a.image a.args b.args a.sound.spelled (subst P same b.sound.spelled) in
    a.planned ∙ (ap (λ (args : Args). plan_of args check.slots) args ∙ sym b.planned)

plans_same : (file : Files) (command : Command) (one other : BootPlan) → GivesPlan (Some file) command one → GivesPlan (Some file) command other → one ≡ other
plans_same file (Checks check) one other a b = plans_agree file check one other a b
plans_same file (Plays play) one other a b = absurd a
plans_same file (Suspends suspend) one other a b = absurd a
plans_same file (Resumes resume) one other a b = absurd a
plans_same file (Demo clients) one other a b = absurd a
plans_same file (Converts image) one other a b = absurd a

bytes_same : (file : Files) (command : Command) (one other : List ℕ) → GivesBytes (Some file) command one → GivesBytes (Some file) command other → one ≡ other
bytes_same file (Converts image) one other a b = conversions_agree file image one other a.0 b.0
bytes_same file (Plays play) one other a b = absurd a
bytes_same file (Suspends suspend) one other a b = absurd a
bytes_same file (Resumes resume) one other a b = absurd a
bytes_same file (Demo clients) one other a b = absurd a
bytes_same file (Checks check) one other a b = absurd a

-- ---- tasks

-- a command has tasks of one kind
run_or_plan : (file : Files) (command : Command) (run : Run) (plan : BootPlan) → GivesRun (Some file) command run → GivesPlan (Some file) command plan → ⊥
run_or_plan file (Plays play) run plan a b = b
run_or_plan file (Suspends suspend) run plan a b = b
run_or_plan file (Resumes resume) run plan a b = b
run_or_plan file (Demo clients) run plan a b = b
run_or_plan file (Checks check) run plan a b = a.starts
run_or_plan file (Converts image) run plan a b = b

run_or_bytes : (file : Files) (command : Command) (run : Run) (bytes : List ℕ) → GivesRun (Some file) command run → GivesBytes (Some file) command bytes → ⊥
run_or_bytes file (Plays play) run bytes a b = b
run_or_bytes file (Suspends suspend) run bytes a b = b
run_or_bytes file (Resumes resume) run bytes a b = b
run_or_bytes file (Demo clients) run bytes a b = b
run_or_bytes file (Checks check) run bytes a b = b
run_or_bytes file (Converts image) run bytes a b = a.starts

plan_or_bytes : (file : Files) (command : Command) (plan : BootPlan) (bytes : List ℕ) → GivesPlan (Some file) command plan → GivesBytes (Some file) command bytes → ⊥
plan_or_bytes file (Plays play) plan bytes a b = a
plan_or_bytes file (Suspends suspend) plan bytes a b = a
plan_or_bytes file (Resumes resume) plan bytes a b = a
plan_or_bytes file (Demo clients) plan bytes a b = a
plan_or_bytes file (Checks check) plan bytes a b = b
plan_or_bytes file (Converts image) plan bytes a b = a

pub given_once : (file : Files) (command : Command) (one other : Task) → Gives (Some file) command one → Gives (Some file) command other → one ≡ other
given_once file command (Running one) (Running other) a b = ap (λ (run : Run). Running run) (runs_same file command one other a b)
given_once file command (Planning one) (Planning other) a b = ap (λ (plan : BootPlan). Planning plan) (plans_same file command one other a b)
given_once file command (Converting one) (Converting other) a b = ap (λ (bytes : List ℕ). Converting bytes) (bytes_same file command one other a b)
given_once file command (Running one) (Planning other) a b = absurd (run_or_plan file command one other a b)
given_once file command (Running one) (Converting other) a b = absurd (run_or_bytes file command one other a b)
given_once file command (Planning one) (Running other) a b = absurd (run_or_plan file command other one b a)
given_once file command (Planning one) (Converting other) a b = absurd (plan_or_bytes file command one other a b)
given_once file command (Converting one) (Running other) a b = absurd (run_or_bytes file command other one b a)
given_once file command (Converting one) (Planning other) a b = absurd (plan_or_bytes file command other one b a)

-- ---- faults

-- a command's file has one first fault
pub faults_same : (file : Files) (command : Command) (one other : ArgFault) → HasFault (Some file) command one → HasFault (Some file) command other → one ≡ other
faults_same file (Plays play) one other a b = faults_agree file play.image play.slots a.0 b.0 one other a.1 a.2 b.1 b.2
faults_same file (Suspends suspend) one other a b = faults_agree file suspend.image suspend.slots a.0 b.0 one other a.1 a.2 b.1 b.2
faults_same file (Checks check) one other a b = faults_agree file check.image check.slots a.0 b.0 one other a.1 a.2 b.1 b.2
faults_same file (Resumes resume) one other a b = of_state.faults_agree file resume.state resume.slots a.0 b.0 one other a.1 a.2 b.1 b.2
faults_same file (Demo clients) one other a b = absurd a
faults_same file (Converts image) one other (inl a) (inl b) = faults_agree file image (Some SLOT_LIMIT) a.0 b.0 one other a.1 a.2 b.1 b.2
faults_same file (Converts image) one other (inl a) (inr b) = absurd (conversion_no_fault file image b.0 a.0 one b.1 a.1 a.2)
faults_same file (Converts image) one other (inr a) (inl b) = absurd (conversion_no_fault file image a.0 b.0 other a.1 b.1 b.2)
faults_same file (Converts image) one other (inr a) (inr b) = a.3 ∙ sym b.3

-- files of which a command has a run have none
run_no_fault : (file : Files) (command : Command) (fault : ArgFault) (run : Run) → HasFault (Some file) command fault → GivesRun (Some file) command run → ⊥
run_no_fault file (Plays play) fault run a b = boots_no_fault file play.image play.slots b.starts.machine a.0 fault b.starts.image a.1 a.2
run_no_fault file (Suspends suspend) fault run a b = boots_no_fault file suspend.image suspend.slots b.starts.machine a.0 fault b.starts.image a.1 a.2
run_no_fault file (Resumes resume) fault run a b = of_state.file_no_fault file resume.state resume.slots b.starts.machine a.0 fault b.starts.state a.1 a.2
run_no_fault file (Demo clients) fault run a b = a
run_no_fault file (Checks check) fault run a b = b.starts
run_no_fault file (Converts image) fault run a b = b.starts

plan_no_fault : (file : Files) (command : Command) (fault : ArgFault) (plan : BootPlan) → HasFault (Some file) command fault → GivesPlan (Some file) command plan → ⊥
plan_no_fault file (Checks check) fault plan a b = planned_no_fault file check plan a.0 fault b a.1 a.2
plan_no_fault file (Plays play) fault plan a b = b
plan_no_fault file (Suspends suspend) fault plan a b = b
plan_no_fault file (Resumes resume) fault plan a b = b
plan_no_fault file (Demo clients) fault plan a b = b
plan_no_fault file (Converts image) fault plan a b = b

bytes_no_fault : (file : Files) (command : Command) (fault : ArgFault) (bytes : List ℕ) → HasFault (Some file) command fault → GivesBytes (Some file) command bytes → ⊥
bytes_no_fault file (Converts image) fault bytes (inl a) b = conversion_no_fault file image bytes a.0 fault b.0 a.1 a.2
bytes_no_fault file (Converts image) fault bytes (inr a) b = short_or_long file image bytes a.0 b.0 a.1 b.1 a.2
bytes_no_fault file (Plays play) fault bytes a b = b
bytes_no_fault file (Suspends suspend) fault bytes a b = b
bytes_no_fault file (Resumes resume) fault bytes a b = b
bytes_no_fault file (Demo clients) fault bytes a b = b
bytes_no_fault file (Checks check) fault bytes a b = b

pub never_both : (file : Files) (command : Command) (fault : ArgFault) (task : Task) → HasFault (Some file) command fault → Gives (Some file) command task → ⊥
never_both file command fault (Running run) a b = run_no_fault file command fault run a b
never_both file command fault (Planning plan) a b = plan_no_fault file command fault plan a b
never_both file command fault (Converting bytes) a b = bytes_no_fault file command fault bytes a b

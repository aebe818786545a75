-- The kernels of a call's run, from the parts of the call to its headline.
use Rattle.std.proofs.Common.{◌≡◌, ◌==◌, ◌||◌, ◌⊎◌, inl, inr, ℕ, Bool, List, Option, None, Some, IsTrue, refl, sym, subst}
use Rattle.boot_plan.specs.declared.plans.BootPlan.{BootPlan}
use Rattle.event_text.specs.EventFile.{Input, input_of}
use Rattle.event_player.specs.declared.ending.Ending.{Ending}
use Rattle.event_player.specs.declared.ending.Ending.TheVariants.{Played, LimitMet, BadLine}
use Rattle.host_io.specs.Reading.{IsFile}
use Rattle.machine_model.specs.State.Machine.{Machine}
use Rattle.vm_memory.proofs.Changing.SoundMemoryLemmas.{sound-tied}
use Rattle.vm_memory.specs.Memory.{store_of}
use Rattle.xk_kernel.specs.Moments.{Stood, Throughout}
use Rattle.xk_kernel.specs.Sound.{IsSound, IsUsable, Keeps}
use Rattle.xk_kernel.specs.State.{machine_of}
use Rattle.xk_kernel.specs.declared.kernel.Kernel.{Kernel}
use Rattle.xk_ports.specs.declared.store.SwapStore.{Ghosts as SwapStore}
use Rattle.program_status.specs.Notes.{SinkSide}
use Rattle.program_status.specs.declared.status.Status.{Status}
use Rattle.program_status.specs.declared.status.Status.TheVariants.{Done, Usage, ReadFault, WriteFault, ImageFault, EventFault, StepLimit, SwapFault, NoMemory}
use Rattle.event_player.specs.Rooms.{Room}
use Rattle.xous_program.specs.Finish.{Continues, Starts}
use Rattle.xous_program.specs.Headline.{IsInRam}
use Rattle.xous_program.specs.Outcome.Demo.{Demonstrates}
use Rattle.xous_program.specs.Outcome.Ends.{Ends}
use Rattle.xous_program.specs.Outcome.Images.{Refuses, plan_in}
use Rattle.xous_program.specs.Outcome.InRam.{EndsInRam, EndsRun, HadKernels, PlaysInRam, RunsInRam, WasInRam}
use Rattle.xous_program.specs.Outcome.Plays.{EndsRefused, EndsUnstarted}
use Rattle.xous_program.specs.Outcome.Prefixes.{IsKnown}
use Rattle.xous_program.specs.Outcome.Resumes.{EndsUnread, EndsUnresumed, traced}
use Rattle.xous_program.specs.Outcome.Said.{Gives, GivesBytes, GivesPlan, Run, Running, Planning, Converting, Task, history_in, load_run, moments_in, said, status_of}
use Rattle.xous_program.specs.Outcome.Sides.{Call, HostRose, StoreSide, Told}
use Rattle.xous_program.specs.Outcome.Starts.{Booted, KnowsPages, StopsIn, room_of}
use Rattle.xous_program.specs.Outcome.States.{RefusesState, room_from}
use Rattle.xous_program.specs.Outcome.Suspends.{silent}
use Rattle.xous_program.specs.Words.{Command, Plays, Checks, Converts, Demo, Suspends, Resumes, Check, Play, Resume, Suspend}
use Rattle.xous_program.proofs.Headline.CommandLemmas.{load_given, resumes_so, starts_so, suspends_so}
use Rattle.xous_program.proofs.Headline.RunLemmas.{PlaysSo, given_over, known_over, run_over}
use Rattle.xous_program.proofs.Outcome.TopLemmas.{booted_is}

-- ---- a run that was played

-- the kernel that is closed is the last
pub had_kernels : {W : Type 0} (S : SwapStore W) (first last : Kernel W) (run : Run) → Throughout (Stood S first) run.booted.machine (moments_in run)
    → Keeps S first last → IsSound S last → IsUsable last → machine_of S.held last ≡ (history_in run).machine → HadKernels S run (store_of last.mem)
had_kernels S first last run stood keeps sound usable there = record {
  first = first;
  stood = stood;
  last = record { kernel = last; keeps = keeps; sound = sound; usable = usable; is = there; tied = sound-tied S last.mem sound.whole.mem };
  holds = refl;
}

-- what the pages hold is known, also where the store was asked for more before
same_store : (one other : StoreSide) (booted : Booted) (limit : ℕ) (input : Input) → other.tells_truly ≡ one.tells_truly
    → KnowsPages other booted limit input.events → KnowsPages one booted limit input.events
same_store one other booted limit input same (inl trusted) = inl (subst (λ (b : Bool). IsTrue (b || booted.slots == 0)) same trusted)
same_store one other booted limit input same (inr never) = inr never

-- it is one that the files of the call give
pub runs_in_ram : {W : Type 0} (S : SwapStore W) (command : Command) (call : Call) (play : Play) (booted : Booted) (files : Told) (side : StoreSide) (store : W)
    → PlaysSo command call play booted → files ≡ call.host.files → call.store.tells_truly ≡ side.tells_truly
    → PlaysInRam S play booted files side store call.status → RunsInRam S command call store
runs_in_ram S command call play booted files side store so same trust plays ends known =
    let played = plays ends in
    let F : Told → Type 0 = λ f. IsFile f play.events played.0 in
    let is_file : IsFile call.host.files play.events played.0 = subst F same played.1 in (
      run_over booted play.limit (input_of played.0),
      given_over command call play booted played.0 so is_file,
      played.2 (same_store side call.store booted play.limit (input_of played.0) trust (known_over command call play booted played.0 so known is_file)),
    )

-- what was booted is what the command plays on
pub plays_begun : (play : Play) (call : Call) (booted : Booted) (side : StoreSide) → Starts play call.host.files booted side → PlaysSo (Plays play) call play booted
plays_begun play call booted side starts =
    let P : Booted → Type 0 = λ b. PlaysSo (Plays play) call play b in
    subst P (sym (booted_is booted (room_of (plan_in starts.image)) (plan_in starts.image).slots starts.room starts.slots))
    (starts_so play call booted.machine starts.image)

pub suspends_begun : (suspend : Suspend) (call : Call) (booted : Booted) (side : StoreSide) → Starts (silent suspend) call.host.files booted side
    → PlaysSo (Suspends suspend) call (silent suspend) booted
suspends_begun suspend call booted side starts =
    let P : Booted → Type 0 = λ b. PlaysSo (Suspends suspend) call (silent suspend) b in
    subst P (sym (booted_is booted (room_of (plan_in starts.image)) (plan_in starts.image).slots starts.room starts.slots))
    (suspends_so suspend call booted.machine starts.image)

pub resumes_begun : (resume : Resume) (call : Call) (booted : Booted) (side : StoreSide) → Continues resume call.host.files booted side
    → PlaysSo (Resumes resume) call (traced resume booted.machine) booted
resumes_begun resume call booted side continues =
    let P : Booted → Type 0 = λ b. PlaysSo (Resumes resume) call (traced resume booted.machine) b in
    subst P (sym (booted_is booted (room_from booted.machine resume.slots) resume.slots continues.room continues.slots))
    (resumes_so resume call booted.machine continues.state)

-- ---- calls without a run

refused_runs_not : (file : Told) (name : List ℕ) (slots : Option ℕ) (rose : Type 0) (status : Status) → Refuses file name slots rose status → EndsRun status → ⊥
refused_runs_not file name slots rose Done refused ends = absurd refused
refused_runs_not file name slots rose (EventFault line) refused ends = absurd refused
refused_runs_not file name slots rose (StepLimit limit) refused ends = absurd refused
refused_runs_not file name slots rose Usage refused ends = ends
refused_runs_not file name slots rose ReadFault refused ends = ends
refused_runs_not file name slots rose WriteFault refused ends = ends
refused_runs_not file name slots rose SwapFault refused ends = ends
refused_runs_not file name slots rose NoMemory refused ends = ends
refused_runs_not file name slots rose (ImageFault fault) refused ends = ends

pub stopped_runs_not : (room : Room) (slots : ℕ) (name : Option (List ℕ)) (machine : Machine) (store : StoreSide) (status : Status)
    → StopsIn room slots name machine store status → EndsRun status → ⊥
stopped_runs_not room slots name machine store Done stopped ends = absurd stopped
stopped_runs_not room slots name machine store (EventFault line) stopped ends = absurd stopped
stopped_runs_not room slots name machine store (StepLimit limit) stopped ends = absurd stopped
stopped_runs_not room slots name machine store Usage stopped ends = ends
stopped_runs_not room slots name machine store ReadFault stopped ends = ends
stopped_runs_not room slots name machine store WriteFault stopped ends = ends
stopped_runs_not room slots name machine store SwapFault stopped ends = ends
stopped_runs_not room slots name machine store NoMemory stopped ends = ends
stopped_runs_not room slots name machine store (ImageFault fault) stopped ends = ends

unread_runs_not : (file : Told) (name : List ℕ) (slots : ℕ) (rose : Type 0) (status : Status) → RefusesState file name slots rose status → EndsRun status → ⊥
unread_runs_not file name slots rose Done refused ends = absurd refused
unread_runs_not file name slots rose (EventFault line) refused ends = absurd refused
unread_runs_not file name slots rose (StepLimit limit) refused ends = absurd refused
unread_runs_not file name slots rose Usage refused ends = ends
unread_runs_not file name slots rose ReadFault refused ends = ends
unread_runs_not file name slots rose WriteFault refused ends = ends
unread_runs_not file name slots rose SwapFault refused ends = ends
unread_runs_not file name slots rose NoMemory refused ends = ends
unread_runs_not file name slots rose (ImageFault fault) refused ends = ends

pub unbooted_runs_not : (play : Play) (call : Call) → EndsRefused play call ⊎ EndsUnstarted play call → EndsRun call.status → ⊥
unbooted_runs_not play call (inl refused) ends =
    refused_runs_not call.host.files play.image play.slots (HostRose call) call.status refused.image.refused ends
unbooted_runs_not play call (inr unstarted) ends =
    let plan : BootPlan = plan_in unstarted.image in
    stopped_runs_not (room_of plan) plan.slots play.store unstarted.machine call.store call.status unstarted.stopped ends

pub unresumed_runs_not : (resume : Resume) (call : Call) → EndsUnread resume call ⊎ EndsUnresumed resume call → EndsRun call.status → ⊥
unresumed_runs_not resume call (inl unread) ends =
    unread_runs_not call.host.files resume.state resume.slots (HostRose call) call.status unread.refused ends
unresumed_runs_not resume call (inr unresumed) ends =
    stopped_runs_not (room_from unresumed.machine resume.slots) resume.slots None unresumed.machine call.store call.status unresumed.stopped ends

-- ---- the headline

run_ends : (limit : ℕ) (ending : Ending) → EndsRun (status_of limit ending)
run_ends limit Played = tt
run_ends limit LimitMet = tt
run_ends limit (BadLine line) = tt

-- what a complete call is to do is a run, unless it plans or converts
task_in_ram : {W : Type 0} (S : SwapStore W) (command : Command) (call : Call) (store : W) → RunsInRam S command call store → IsKnown command call
    → ((plan : BootPlan) → GivesPlan call.host.files command plan → ⊥) → ((bytes : List ℕ) → GivesBytes call.host.files command bytes → ⊥)
    → (task : Task) → Gives call.host.files command task → call.status ≡ (said command task).status
    → (task : Task) × Gives call.host.files command task × WasInRam S task store
task_in_ram S command call store runs known none no_bytes (Running run) given is =
    let all = runs (subst EndsRun (sym is) (run_ends run.limit (history_in run).ending)) known in (Running all.0, all.1, all.2)
task_in_ram S command call store runs known none no_bytes (Planning plan) given is = absurd (none plan given)
task_in_ram S command call store runs known none no_bytes (Converting bytes) given is = absurd (no_bytes bytes given)

-- `check` and `convert` play none
check_in_ram : {W : Type 0} (S : SwapStore W) (check : Check) (call : Call) (store : W) (task : Task) → Gives call.host.files (Checks check) task → WasInRam S task store
check_in_ram S check call store (Running run) given = absurd given.starts
check_in_ram S check call store (Planning plan) given = tt
check_in_ram S check call store (Converting bytes) given = tt

convert_in_ram : {W : Type 0} (S : SwapStore W) (image : List ℕ) (call : Call) (store : W) (task : Task) → Gives call.host.files (Converts image) task → WasInRam S task store
convert_in_ram S image call store (Running run) given = absurd given.starts
convert_in_ram S image call store (Planning plan) given = tt
convert_in_ram S image call store (Converting bytes) given = tt

-- a call of `demo` that ended a run did all of it
demo_done : (clients : ℕ) (out : SinkSide) (store : StoreSide) (status : Status) → Demonstrates clients out store status → EndsRun status → status ≡ Done
demo_done clients out store Done all ends = refl
demo_done clients out store (EventFault line) (inl unstarted) ends = absurd unstarted.stopped
demo_done clients out store (EventFault line) (inr played) ends = absurd played.content
demo_done clients out store (StepLimit limit) (inl unstarted) ends = absurd unstarted.stopped
demo_done clients out store (StepLimit limit) (inr played) ends = absurd played.content
demo_done clients out store Usage all ends = absurd ends
demo_done clients out store ReadFault all ends = absurd ends
demo_done clients out store WriteFault all ends = absurd ends
demo_done clients out store SwapFault all ends = absurd ends
demo_done clients out store NoMemory all ends = absurd ends
demo_done clients out store (ImageFault fault) all ends = absurd ends

demo_in_ram : {W : Type 0} (S : SwapStore W) (clients : ℕ) (call : Call) (store : W) → Demonstrates clients call.out call.store call.status
    → (call.status ≡ Done → HadKernels S (load_run clients) store) → (task : Task) → Gives call.host.files (Demo clients) task
    → call.status ≡ (said (Demo clients) task).status → (task : Task) × Gives call.host.files (Demo clients) task × WasInRam S task store
demo_in_ram S clients call store content kernels (Running run) given is =
    let ends : EndsRun call.status = subst EndsRun (sym is) (run_ends run.limit (history_in run).ending) in
    (Running (load_run clients), load_given clients call, kernels (demo_done clients call.out call.store call.status content ends))
demo_in_ram S clients call store content kernels (Planning plan) given is = absurd given
demo_in_ram S clients call store content kernels (Converting bytes) given is = absurd given

pub ends_in_ram : {W : Type 0} (S : SwapStore W) (command : Command) (call : Call) (store : W) → Ends (Some command) call → EndsInRam S (Some command) call store
    → IsInRam S command call store
ends_in_ram S (Plays play) call store ends runs known complete =
    task_in_ram S (Plays play) call store runs known (λ plan given. given) (λ bytes given. given) complete.task complete.given complete.status
ends_in_ram S (Suspends suspend) call store ends runs known complete =
    task_in_ram S (Suspends suspend) call store runs known (λ plan given. given) (λ bytes given. given) complete.task complete.given complete.status
ends_in_ram S (Resumes resume) call store ends runs known complete =
    task_in_ram S (Resumes resume) call store runs known (λ plan given. given) (λ bytes given. given) complete.task complete.given complete.status
ends_in_ram S (Demo clients) call store ends kernels known complete =
    demo_in_ram S clients call store ends.content kernels complete.task complete.given complete.status
ends_in_ram S (Checks check) call store ends none known complete = (complete.task, complete.given, check_in_ram S check call store complete.task complete.given)
ends_in_ram S (Converts image) call store ends none known complete =
    (complete.task, complete.given, convert_in_ram S image call store complete.task complete.given)

-- The kernels of a run: that for each of its states there was one, with its pages in the bytes of RAM and in the slots of its store.
use Rattle.std.specs.Prelude.{◌≡◌, ℕ, List, Option, Some, None}
use Rattle.event_text.specs.EventFile.{input_of}
use Rattle.host_io.specs.Reading.{IsFile}
use Rattle.vm_memory.specs.Memory.{store_of}
use Rattle.xk_kernel.specs.Moments.{Stood, Throughout}
use Rattle.xk_kernel.specs.declared.kernel.Kernel.{Kernel}
use Rattle.xk_ports.specs.declared.store.SwapStore.{Ghosts as SwapStore}
use Rattle.program_status.specs.declared.status.Status.{Status}
use Rattle.program_status.specs.declared.status.Status.TheVariants.{Done, EventFault, StepLimit}
use Rattle.xous_program.specs.Outcome.Prefixes.{IsKnown}
use Rattle.xous_program.specs.Outcome.Said.{GivesRun, Run, Running, Planning, Converting, Task, history_in, load_run, moments_in}
use Rattle.xous_program.specs.Outcome.Sides.{Call, StoreSide, Told}
use Rattle.xous_program.specs.Outcome.Starts.{Booted, KnowsPages}
use Rattle.xous_program.specs.Words.{Command, Play, Plays, Checks, Converts, Demo, Suspends, Resumes}

-- For each state of the run there was a kernel, come from the one on which the run started; the last of them holds this store.
pub record HadKernels {W : Type 0} (S : SwapStore W) (run : Run) (store : W) : Type 0 where
  pub first : Kernel W
  pub stood : Throughout (Stood S first) run.booted.machine (moments_in run)
  pub last : Stood S first (history_in run).machine
  pub holds : store_of last.kernel.mem ≡ store

-- so it is of a task that is a run; the others have no kernel
abbrev pub WasInRam : {W : Type 0} → SwapStore W → Task → W → Type 0
WasInRam S (Running run) store = HadKernels S run store
WasInRam S (Planning plan) store = Unit {0}
WasInRam S (Converting bytes) store = Unit {0}

-- ---- the parts of a call

-- the status of a run that was played to the end of its history
abbrev pub EndsRun : Status → Type 0
EndsRun Done = Unit {0}
EndsRun (EventFault line) = Unit {0}
EndsRun (StepLimit limit) = Unit {0}
EndsRun _ = ⊥

-- The events of the command were played to the end on what was booted, this being the status. Where what the pages hold is known, for each
-- state of that run there was a kernel, and the last of them holds this store.
abbrev pub PlaysInRam : {W : Type 0} → SwapStore W → Play → Booted → Told → StoreSide → W → Status → Type 0
PlaysInRam S play booted files side store status =
    EndsRun status → (events : List ℕ) × IsFile files play.events events
    × (KnowsPages side booted play.limit (input_of events).events
    → HadKernels S (record { booted = booted; limit = play.limit; input = input_of events }) store)

-- .. in a whole call: on the run that its files give
abbrev pub RunsInRam : {W : Type 0} → SwapStore W → Command → Call → W → Type 0
RunsInRam S command call store =
    EndsRun call.status → IsKnown command call → (run : Run) × GivesRun call.host.files command run × HadKernels S run store

-- .. by its command; `demo` plays its load, and `check` and `convert` play nothing
abbrev pub EndsInRam : {W : Type 0} → SwapStore W → Option Command → Call → W → Type 0
EndsInRam S None call store = Unit {0}
EndsInRam S (Some (Plays play)) call store = RunsInRam S (Plays play) call store
EndsInRam S (Some (Suspends suspend)) call store = RunsInRam S (Suspends suspend) call store
EndsInRam S (Some (Resumes resume)) call store = RunsInRam S (Resumes resume) call store
EndsInRam S (Some (Demo clients)) call store = call.status ≡ Done → HadKernels S (load_run clients) store
EndsInRam S (Some (Checks check)) call store = Unit {0}
EndsInRam S (Some (Converts image)) call store = Unit {0}

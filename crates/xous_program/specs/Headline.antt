-- THE HEADLINE: what became of a call of the program, whatever its words and files are and whatever fails outside. It is a clause of
-- `xous_main` in `xousim`.
use Rattle.std.specs.Prelude.{◌≡◌, ◌⊎◌, ℕ, length, Option, Some, None, false}
use Rattle.machine_laws.specs.Records.{records_of}
use Rattle.machine_model.specs.Runs.LoanSpan.{LoanSpan}
use Rattle.machine_model.specs.Runs.Matched.{Matched}
use Rattle.machine_model.specs.Runs.Moments.{state_at}
use Rattle.xk_base.specs.declared.ids.Number.{Number}
use Rattle.xk_ports.specs.Told.{Grows}
use Rattle.xk_ports.specs.declared.store.SwapStore.{Ghosts as SwapStore}
use Rattle.xous_program.specs.Outcome.InRam.{WasInRam}
use Rattle.xous_program.specs.Outcome.Prefixes.{IsKnown, IsReadOut, Opened, ReadsNoEvents, TellsNoEvents, WritesLines, WritesProperPrefix, WritesSteps}
use Rattle.xous_program.specs.Outcome.Said.{Gives, HasFault, IsSaved, Run, Running, Task, history_in, moments_in, said}
use Rattle.xous_program.specs.Outcome.Sides.{Call, HostRose, IsUnwritten, OutRose, StoreRose}
use Rattle.xous_program.specs.Outcome.SplitCalls.{EndAlike, IsOneCapacity, TwoSplits}
use Rattle.xous_program.specs.Outcome.SuspendedCalls.{EndAsOne, IsOneRun, TwoPartRun}
use Rattle.xous_program.specs.Words.{Command, Plays, Suspends, Resumes}
use Rattle.program_status.specs.declared.status.Status.{Status}
use Rattle.program_status.specs.declared.status.Status.TheVariants.{Done, Usage, ReadFault, WriteFault, SwapFault, ImageFault, NoMemory}

-- COMPLETE: status and text are those of the task that the files give, and all of the text was written.
pub record IsComplete (command : Command) (call : Call) : Type 0 where
  pub task : Task
  pub given : Gives call.host.files command task
  pub status : call.status ≡ (said command task).status
  pub written : Grows call.out.written call.out.written_after (said command task).text
  pub read : call.status ≡ Done → IsReadOut command call
  pub saved : IsSaved command task

-- INTERRUPTED: by an object outside, whose count of faults rose in the call.
abbrev pub IsInterrupted : Command → Call → Status → Type 0
IsInterrupted command call ReadFault = HostRose call × (ReadsNoEvents command call ⊎ WritesLines command call)
IsInterrupted command call WriteFault = OutRose call × WritesProperPrefix command call
IsInterrupted command call SwapFault = StoreRose call.store × (TellsNoEvents command call ⊎ WritesSteps command call)
IsInterrupted command call _ = ⊥

-- REJECTED: for the first fault of a file, or for want of memory.
abbrev pub IsRejected : Command → Call → Status → Type 0
IsRejected command call (ImageFault fault) = HasFault call.host.files command fault × IsUnwritten call
IsRejected command call NoMemory = Opened call false × IsUnwritten call
IsRejected command call _ = ⊥

-- LAWFUL: in each state each page has one owner and at most one loan, and a loan ends with a living lender's former right.
pub record IsLawful (run : Run) : Type 0 where
  pub matched : (i : ℕ) → Matched (state_at run.booted.machine (moments_in run) i)
  pub spans : (number : Number) → LoanSpan run.booted.machine (moments_in run) number
  pub records : (history_in run).records ≡ records_of run.booted.machine (moments_in run)
  pub last : (history_in run).machine ≡ state_at run.booted.machine (moments_in run) (length (moments_in run))

-- IN RAM: for each state of the run there was a kernel, its entries in the bytes of RAM stand for the ledger of that state, and the last of
-- these kernels holds the store that is handed back.
abbrev pub IsInRam : {W : Type 0} → SwapStore W → Command → Call → W → Type 0
IsInRam S command call store =
    IsKnown command call → IsComplete command call → (task : Task) × Gives call.host.files command task × WasInRam S task store

abbrev pub IsAnswered : Command → Call → Type 0
IsAnswered command call =
    IsKnown command call → IsComplete command call ⊎ IsInterrupted command call call.status ⊎ IsRejected command call call.status

abbrev pub Headline : {W : Type 0} → SwapStore W → Option Command → Call → W → Type 0
Headline S None call store = (call.status ≡ Usage) × IsUnwritten call
Headline S (Some command) call store =
    IsAnswered command call × ((run : Run) → Gives call.host.files command (Running run) → IsLawful run) × IsInRam S command call store

abbrev pub SwappingIsInvisible : Type 0
SwappingIsInvisible = (two : TwoSplits) → IsOneCapacity two → IsComplete (Plays two.play) two.call → IsComplete (Plays two.twin) two.answer
    → EndAlike two.call two.answer

abbrev pub SuspendingIsInvisible : Type 0
SuspendingIsInvisible = (run : TwoPartRun) → IsOneRun run → IsComplete (Suspends run.suspend) run.first
    → IsComplete (Resumes run.resume) run.second → IsComplete (Plays run.play) run.whole → EndAsOne run

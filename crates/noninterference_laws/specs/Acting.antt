-- What a step is to others than its own process, and when the steps and the death of a group of processes are alike in two states.
use Rattle.std.specs.Prelude.{◌≡◌, ◌⊎◌, ◌==◌, ◌%◌, ℕ, true, List, Option, Some, if◌then◌else◌}
use Rattle.std.specs.Bool.{⊤}
use Rattle.std.specs.Option.{option_map}
use Rattle.xk_base.specs.declared.ids.ThreadId.{ThreadId}
use Rattle.xk_base.specs.Calls.Registers.{arguments_of, reg_at}
use Rattle.xk_base.specs.UserMemory.{compare_stored}
use Rattle.ledger_model.specs.Ledger.{PageName, contents_of}
use Rattle.machine_model.specs.Hart.Instructions.{CallsKernel, Executed, Next, Stores, StoresToConsole, StoresToTimer, Traps}
use Rattle.machine_model.specs.Runs.Moments.{ByIrq, ByKill, ByPick, ByStep, ByTurn, Cause, caused}
use Rattle.machine_model.specs.State.Machine.{Machine, Thread}
use Rattle.machine_model.specs.State.Order.{actor}
use Rattle.machine_model.specs.Stepping.Step.{ends_handler, ends_thread, performed}
use Rattle.noninterference_laws.specs.Inside.{Group, IsSeenByOther}

-- ---- acts

-- what a step is to others
pub data Act : Type 0 where
  -- an instruction that writes no byte to the console and doesn't store to the timer; which one it is doesn't matter
  Silent : Act
  -- this byte goes to the console
  Prints : ℕ → Act
  -- the timer's compare value is this afterwards
  Arms : Option ℕ → Act
  -- a system call with these eight words
  Calls : List ℕ → Act
  -- a fault of this cause, with this value, which is told
  Faults : (cause value : ℕ) → Act
  -- the thread ends with this in a0, which who joined it is told
  EndsThread : ℕ → Act
  -- the interrupt handler ends
  EndsHandler : Act

abbrev pub act_of_executed : Machine → Thread → Executed → Act
act_of_executed m thread (Next regs pc) = Silent
act_of_executed m thread (Stores address width value regs pc) = Silent
act_of_executed m thread (StoresToConsole offset value regs pc) = if offset == 0 then Prints (value % 256) else Silent
act_of_executed m thread (StoresToTimer offset width value regs pc) = Arms (compare_stored offset width value m.compare)
act_of_executed m thread CallsKernel = Calls (arguments_of thread.regs)
act_of_executed m thread (Traps cause value) = Faults cause value

abbrev pub act_of_thread : Machine → ThreadId → Thread → Act
act_of_thread m who thread =
    if ends_thread who thread.pc then EndsThread (reg_at thread.regs 10) else (
    if ends_handler who thread.pc then EndsHandler else
    act_of_executed m thread (performed m who thread).executed)

-- what the step of the thread is to others
abbrev pub act_of : Machine → ThreadId → Option Act
act_of m who = option_map (act_of_thread m who) (m.threads who)

-- ---- alike in two states

-- Each page that another can load afterwards could be loaded by another just before, or holds the same in both afterwards. So the
-- pages that are handed over hold the same.
abbrev pub HandsAlike : Group → Cause → Machine → Machine → Type 0
HandsAlike group cause m n =
    (page : PageName) → IsSeenByOther group (caused cause m) page
    → IsSeenByOther group m page ⊎ (contents_of (caused cause m).ledger page ≡ contents_of (caused cause n).ledger page)

-- a step of the group is one act in both, and hands over alike
pub record DoesAlike (group : Group) (who : ThreadId) (m n : Machine) : Type 0 where
  pub act : act_of m who ≡ act_of n who
  pub hands : HandsAlike group ByStep m n

-- What is asked of the two states at what comes next: that the group acts alike, where the step is one of its threads', and hands
-- over alike, where one of its processes is killed. Of steps and deaths of others, and of all other events, nothing is asked.
abbrev pub ActsAlike : Group → Cause → Machine → Machine → Type 0
ActsAlike group ByStep m n = (who : ThreadId) → actor m ≡ Some who → group who.pid.0 ≡ true → DoesAlike group who m n
ActsAlike group (ByPick who) m n = ⊤
ActsAlike group (ByIrq k) m n = ⊤
ActsAlike group (ByKill pid) m n = group pid.0 ≡ true → HandsAlike group (ByKill pid) m n
ActsAlike group ByTurn m n = ⊤

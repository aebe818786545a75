-- An instruction of a thread that is in hand, over the memory of its process, is the quiet step of the machine, or isn't done.
use Rattle.xk_ports.specs.declared.store.SwapStore.{Ghosts as SwapStore}
use Rattle.std.proofs.Common.{◌≡◌, ℕ, ◌+◌, Bool, true, false, ◌&&◌, ◌||◌, Option, None, refl, sym, ap, subst, ◌∙◌, ◌⊎◌, inl, inr}
use Rattle.std.specs.Prelude.{is_some}
use Rattle.std.proofs.lemmas.Bool.{false≢true}
use Rattle.machine_model.specs.Hart.Atomics.{Performed, execute_at}
use Rattle.machine_model.specs.Hart.Instructions.{Executed, Next, Stores, StoresToConsole, StoresToTimer, CallsKernel, Traps}
use Rattle.machine_model.specs.Runs.Matched.{Matched}
use Rattle.machine_model.specs.State.Machine.{Machine, Ready}
use Rattle.machine_model.specs.State.Views.{memory_of}
use Rattle.machine_model.specs.Stepping.Step.{ends_handler, ends_thread}
use Rattle.machine_model.specs.Stepping.Timer.{is_due}
use Rattle.rv32_atomics.specs.Performing.{Core, Performs}
use Rattle.rv32_hart.specs.Running.{UnlessFailed, View}
use Rattle.rv32_hart.specs.declared.ran.Ran.{Ran}
use Rattle.rv32_hart.specs.declared.ran.Ran.TheVariants.{Device, Ecall, Failed, Trap}
use Rattle.rv32_hart.specs.declared.ran.Ran.TheVariants as ran
use Rattle.xk_parts.specs.Shown.{state_of, thread_of}
use Rattle.thread_table.specs.States.{is_ready_state}
use Rattle.thread_table.specs.declared.thread.Thread.{Thread as TableThread}
use Rattle.thread_table.specs.declared.thread.ThreadState.{ThreadState as TableState}
use Rattle.thread_table.specs.declared.thread.ThreadState.TheVariants as table
use Rattle.vm_memory.specs.Bytes.{MeansBytes, MeansBytesOver, is_known, none_out}
use Rattle.vm_memory.specs.Memory.{IsUsable, has_failed}
use Rattle.vm_memory.specs.Sound.{IsSound}
use Rattle.vm_memory.specs.Using.UserView.{KeepsRest, user_content, user_view}
use Rattle.vm_memory.specs.declared.memory.Memory.{Memory}
use Rattle.xk_base.specs.UserMemory.{Memory as SeenMemory, Timer}
use Rattle.xk_base.specs.declared.ids.Pid.{Pid}
use Rattle.xk_kernel.specs.Quiet.{StepsIfQuiet, goes_on, in_hand, without_timer}
use Rattle.xk_kernel.specs.Sound.{IsWhole}
use Rattle.xk_kernel.specs.State.{machine_of}
use Rattle.xk_kernel.specs.declared.kernel.Kernel.{Kernel}
use Rattle.xk_kernel.proofs.Memory.MemoryPartLemmas.{with_memory}
use Rattle.xk_kernel.proofs.Memory.StoreLemmas.{StoresLawfully, stores_lawfully}
use Rattle.xk_kernel.proofs.Memory.TimerViewLemmas.{pages_seen}
use Rattle.xk_kernel.proofs.Quieting.EndLemmas.{ends_no_handler, ends_nowhere}
use Rattle.xk_kernel.proofs.Quieting.HandLemmas.{LeavesTimer, goes_by, hand_is_quiet, hand_steps, is_next, memory_stays, stops_loudly}
use Rattle.xk_kernel.proofs.Running.RunLemmas.{HasRun, has_run}

-- ---- what is known of it

-- bytes that mean something do so over what puts no page out
pub means_over : (known before after : Bool) → (before ≡ true → after ≡ true) → (known || before) ≡ true → (known || (before && after)) ≡ true
means_over true before after stays h = refl
means_over false before after stays h = λ i. h i && stays h i

-- the state of a thread that may do the next step
pub is_ready_there : (s : TableState) → is_ready_state s ≡ true → state_of s ≡ Ready
is_ready_there table.Ready e = refl
is_ready_there (table.Receiving serial) e = absurd (false≢true e)
is_ready_there (table.Waiting number) e = absurd (false≢true e)
is_ready_there (table.Joining tid) e = absurd (false≢true e)
is_ready_there table.Idle e = absurd (false≢true e)

-- the answer of an instruction by which the thread doesn't go on
abbrev pub IsOther : Ran → Type 0
IsOther answer = (answer ≡ Ecall) ⊎ (((cause : ℕ) × (value : ℕ) × (answer ≡ Trap cause value))
    ⊎ ((offset : ℕ) × (value : ℕ) × (next : ℕ) × (answer ≡ Device offset value next)))

pub next_done : (answer : Ran) (next : ℕ) → answer ≡ ran.Next next → answer ≡ Failed → ⊥
next_done answer next is failed = cc

pub other_done : (answer : Ran) → IsOther answer → answer ≡ Failed → ⊥
other_done answer (inl e) failed = cc
other_done answer (inr (inl e)) failed = let f : answer ≡ Trap e.0 e.1 = e.2 in cc
other_done answer (inr (inr e)) failed = let f : answer ≡ Device e.0 e.1 e.2 = e.3 in cc

other_stops : (answer : Ran) → IsOther answer → is_next answer ≡ false
other_stops answer (inl e) = ap is_next e
other_stops answer (inr (inl e)) = ap is_next e.2
other_stops answer (inr (inr e)) = ap is_next e.3

pub of_other : (answer : Ran) (Fact : Type 0) → IsOther answer → UnlessFailed answer Fact → Fact
of_other answer Fact (inl e) h = subst (λ a. UnlessFailed a Fact) e h
of_other answer Fact (inr (inl e)) h = subst (λ a. UnlessFailed a Fact) e.2 h
of_other answer Fact (inr (inr e)) h = subst (λ a. UnlessFailed a Fact) e.3 h

failed_of : (b : Bool) → (b ≡ false → ⊥) → b ≡ true
failed_of true h = refl
failed_of false h = absurd (h refl)

-- a memory that isn't fit, though it is sound and what is known of its pages is so, has failed
pub has_failed_by : {W : Type 0} (slot_count : W → ℕ) (mem : Memory W) (known : Type 0) → IsSound slot_count mem → known
    → (IsSound slot_count mem × IsUsable mem × known → ⊥) → has_failed mem ≡ true
has_failed_by slot_count mem known sound remembers unfit = failed_of mem.failed (λ e. unfit (sound, e, remembers))

-- .. and a page was out before, since without one it stays usable
pub was_out_by : {W : Type 0} (slot_count : W → ℕ) (old mem : Memory W) (known : Type 0) → IsSound slot_count mem → known
    → (none_out old ≡ true → IsUsable mem) → (IsSound slot_count mem × IsUsable mem × known → ⊥) → none_out old ≡ false
was_out_by slot_count old mem known sound remembers usable unfit = go (none_out old) refl
  where
    go : (b : Bool) → none_out old ≡ b → b ≡ false
    go true e = absurd (unfit (sound, usable e, remembers))
    go false e = refl

-- where the timer isn't there, none is stored to
leaves_timer : (mem : SeenMemory) (x : Executed) → mem.timer ≡ None → StoresLawfully mem x → LeavesTimer x
leaves_timer mem (Next regs pc) none so = tt
leaves_timer mem (Stores address width value regs pc) none so = tt
leaves_timer mem (StoresToConsole offset value regs pc) none so = tt
leaves_timer mem (StoresToTimer offset width value regs pc) none so = absurd (false≢true (sym (ap (λ (o : Option Timer). is_some o) none) ∙ so))
leaves_timer mem CallsKernel none so = tt
leaves_timer mem (Traps cause value) none so = tt

-- what is told of the memory of a process
abbrev pub view_of : {W : Type 0} → SwapStore W → Memory W → Pid → View
view_of S mem pid = record {
  may = (user_view S.held mem pid).may;
  console = (user_view S.held mem pid).console;
  content = user_content S mem pid;
  timer = None;
}

module _ {W : Type 0} (S : SwapStore W)
    (k : Kernel W) (mem : Memory W) (other : Pid) (same : other ≡ k.cursor.pid) (whole : IsWhole S k) (matched : Matched (machine_of S.held k))
    (rest : KeepsRest S k.cursor.pid k.mem mem) where
  abbrev m : Machine
  m = machine_of S.held k

  -- the machine with the memory as it is then
  abbrev left : Machine
  left = machine_of S.held (with_memory mem k)

  pub means_now : MeansBytes S k.mem → MeansBytesOver S k.mem mem
  means_now = means_over (is_known S k.mem) (none_out k.mem) (none_out mem) rest.none

  -- what the process sees without the timer's page
  abbrev pages : SeenMemory
  pages = without_timer (memory_of m k.cursor.pid)

  -- what running it over that comes to
  abbrev pub HasDone : Core → Core → ℕ → Ran → Type 0
  HasDone old new pc answer = HasRun S.held k mem k.timer k.cursor.pid pages old new pc answer

  pub has_done : (old new : Core) (pc : ℕ) (answer : Ran) → Performs (view_of S k.mem k.cursor.pid) (view_of S mem other) old new pc answer
      → (answer ≡ Failed → ⊥) → MeansBytes S k.mem → HasDone old new pc answer
  has_done old new pc answer performs done means =
      has_run S k mem k.cursor.pid other same whole rest (means_now means)
      false k.timer pages (pages_seen S.held k k.cursor.pid matched) (λ _. refl) old new old pc answer refl performs done

  module _ (t : TableThread) (ready : is_ready_state t.state ≡ true) (reserved : Option ℕ) (n : ℕ) where
    -- the machine with the thread in hand
    abbrev pub held_now : Machine
    held_now = in_hand k.cursor (thread_of t) reserved n m

    abbrev core : Core
    core = record { regs = t.regs; reserved = reserved }

    abbrev does : Performed
    does = execute_at t.regs t.pc reserved pages

    leaves : LeavesTimer does.executed
    leaves = leaves_timer pages does.executed refl (stores_lawfully pages t.regs t.pc reserved)

    state : (thread_of t).state ≡ Ready
    state = is_ready_there t.state ready

    module _ (new : Core) (answer : Ran) (run : HasDone core new t.pc answer) where
      -- an instruction by which the thread doesn't go on isn't done
      pub other_is_loud : IsOther answer → StepsIfQuiet false held_now (in_hand k.cursor (thread_of t) reserved n left)
      unfolding machine_of
      other_is_loud is =
          let goes : goes_on does.executed ≡ false = goes_by does.executed leaves ∙ ap is_next (sym run.answered) ∙ other_stops answer is in (
            stops_loudly m (thread_of t) state reserved n goes,
            ap (in_hand k.cursor (thread_of t) reserved n) (run.machine ∙ memory_stays k.cursor.pid m does.executed leaves goes),
          )

      -- any other is the machine's quiet step, where the timer isn't due
      pub next_is_quiet : (next : ℕ) → answer ≡ ran.Next next → is_due k.timer (n + 1) ≡ false
          → StepsIfQuiet true held_now (in_hand k.cursor (thread_of (record { pc = next; regs = new.regs; state = t.state })) new.reserved (n + 1) left)
      unfolding machine_of
      next_is_quiet next is undue =
          let goes : goes_on does.executed ≡ true = goes_by does.executed leaves ∙ ap is_next (sym run.answered ∙ is) in
          let goes_past : ends_thread k.cursor t.pc ≡ false = ends_nowhere m k.cursor.pid matched k.cursor t.regs t.pc reserved goes in
          let stays_in : ends_handler k.cursor t.pc ≡ false = ends_no_handler m k.cursor.pid matched k.cursor t.regs t.pc reserved goes in (
            hand_is_quiet m (thread_of t) state reserved n undue goes_past stays_in goes,
            (λ i. in_hand k.cursor (record (thread_of t) { regs = run.registers i; pc = next }) (run.reserved i) (n + 1) left)
                ∙ hand_steps m (thread_of t) state reserved n undue goes_past stays_in goes next (inl (sym run.answered ∙ is)) left run.machine,
          )

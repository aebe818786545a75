-- Running an instruction over bytes that may not be known: it is some instruction, and all but the bytes of pages is as that leaves it.
use Rattle.xk_ports.specs.declared.store.SwapStore.{Ghosts as SwapStore}
use Rattle.std.proofs.Common.{◌≡◌, ℕ, Bool, true, false, List, Option, Some, None, refl, sym, ap, subst, ◌∙◌, inl, inr}
use Rattle.std.proofs.lemmas.Bool.{cond-true}
use Rattle.std.specs.Prelude.{if◌then◌else◌}
use Rattle.xk_base.specs.UserMemory.{Content, Memory as SeenMemory, number_at}
use Rattle.xk_base.specs.declared.ids.Pid.{Pid}
use Rattle.xk_base.specs.declared.ids.ThreadId.{ThreadId}
use Rattle.xk_base.specs.declared.pages.Access.TheVariants.{Fetch}
use Rattle.xk_base.specs.declared.pages.Width.TheVariants.{Word}
use Rattle.ledger_model.specs.Ledger.{Ledger, PageName}
use Rattle.ledger_model.specs.Loans.{bare}
use Rattle.ledger_model.proofs.Stepping.WritingLemmas.{write_bare}
use Rattle.machine_model.specs.Hart.Atomics.{Performed, atomic_at, execute, execute_at, leaving}
use Rattle.machine_model.specs.Hart.Instructions.{Executed, Next, Stores, StoresToConsole, StoresToTimer, CallsKernel, Traps, execute_base, fetch_page_fault}
use Rattle.machine_model.specs.Runs.Isolation.{without_bytes}
use Rattle.machine_model.specs.Runs.Matched.{Matched}
use Rattle.machine_model.specs.State.Machine.{Machine, Thread}
use Rattle.machine_model.specs.State.Threads.{put_thread}
use Rattle.machine_model.specs.State.Views.{memory_of, write_to}
use Rattle.machine_model.specs.Stepping.Reservations.{reserved_by}
use Rattle.rv32_atomics.specs.Performing.{Core, DoesPerform, IsPerformed, Performs, perform_atomic, perform_fetched}
use Rattle.rv32_hart.specs.Running.{OverBytes, View, ran_of, registers_after, seen}
use Rattle.rv32_hart.specs.declared.ran.Ran.{Ran}
use Rattle.rv32_hart.specs.declared.ran.Ran.TheVariants.{Ecall, Trap, Device, Failed}
use Rattle.rv32_hart.specs.declared.ran.Ran.TheVariants as ran
use Rattle.sv32_space.specs.Tie.{Held}
use Rattle.vm_memory.specs.Memory.{ledger, processes}
use Rattle.vm_memory.specs.Using.UserView.{KeepsRest, seen_memory, user_content, user_view}
use Rattle.vm_memory.specs.declared.memory.Memory.{Memory}
use Rattle.xk_kernel.specs.Running.{RunsSome, Unknown, performed_where, thread_performed_where, timed_view}
use Rattle.xk_kernel.specs.State.{machine_of}
use Rattle.xk_kernel.specs.declared.kernel.Kernel.{Kernel}
use Rattle.xk_kernel.proofs.Memory.LedgerAfterLemmas.{ledger_after}
use Rattle.xk_kernel.proofs.Memory.MemoryPartLemmas.{memory_machine}
use Rattle.xk_kernel.proofs.Memory.StoreLemmas.{stores_lawfully_where}
use Rattle.xk_kernel.proofs.Memory.TimerViewLemmas.{compare_after, compare_left, has_timer, memory_seen, timed_memory, timer_now}
use Rattle.xk_kernel.proofs.Running.RunLemmas.{GoesOn, Stays, goes_on, memory_left, stays, with_both}

-- ---- some instruction is performed

-- what is told of a memory, with this content
abbrev with_content : Content → View → View
with_content content view = record view { content = content }

-- an instruction is performed of what stands in memory, whatever that is
record IsSome (content : Content) (view after : View) (old new : Core) (pc : ℕ) (answer : Ran) : Type 0 where
  stands : Unknown
  is : IsPerformed (performed_where stands old pc (seen view stands.byte)) (with_content content view) after old new answer

-- a memory that didn't fail has performed it over some bytes
does_over : (effect : SeenMemory → Performed) (content : Content) (view after : View) (old new : Core) (answer : Ran)
    → (answer ≡ Failed → ⊥) → DoesPerform effect (with_content content view) after old new answer
    → OverBytes content (λ byte. IsPerformed (effect (seen view byte)) (with_content content view) after old new answer)
does_over effect content view after old new (ran.Next next) done h = h
does_over effect content view after old new Ecall done h = h
does_over effect content view after old new (Trap cause value) done h = h
does_over effect content view after old new (Device offset value next) done h = h
does_over effect content view after old new Failed done h = absurd (done refl)

fetched_apart : (b : Bool) (reserved : Option ℕ) (x y : Executed)
    → leaving reserved (if b then x else y) ≡ (if b then leaving reserved x else leaving reserved y)
fetched_apart true reserved x y = refl
fetched_apart false reserved x y = refl

some_performed : (content : Content) (view after : View) (old new : Core) (pc : ℕ) (answer : Ran)
    → (answer ≡ Failed → ⊥) → Performs (with_content content view) after old new pc answer → IsSome content view after old new pc answer
unfolding execute execute_at
some_performed (Some byte) view after old new pc answer done h = record {
  stands = record { byte = byte; word = number_at byte pc Word; atomic = atomic_at (number_at byte pc Word) };
  is = does_over (execute_at old.regs pc old.reserved) (Some byte) view after old new answer done h;
}
some_performed None view after old new pc answer done (inl h) =
    let over : OverBytes None (λ byte. IsPerformed (perform_atomic old pc h.0 (seen view byte)) (with_content None view) after old new answer) =
    does_over (perform_atomic old pc h.0) None view after old new answer done h.2 in
    record {
      stands = record { byte = over.0; word = 0; atomic = Some h.0 };
      is = subst (λ (p : Performed). IsPerformed p (with_content None view) after old new answer)
          (sym (cond-true (view.may Fetch pc) (perform_atomic old pc h.0 (seen view over.0)) (leaving old.reserved (Traps fetch_page_fault pc)) h.1))
          over.1;
    }
some_performed None view after old new pc answer done (inr h) =
    let over : OverBytes None (λ byte. IsPerformed (perform_fetched old pc h.0 (seen view byte)) (with_content None view) after old new answer) =
    does_over (perform_fetched old pc h.0) None view after old new answer done h.1 in
    record {
      stands = record { byte = over.0; word = h.0; atomic = None };
      is = subst (λ (p : Performed). IsPerformed p (with_content None view) after old new answer)
          (fetched_apart (view.may Fetch pc) old.reserved (execute_base old.regs pc h.0 (seen view over.0)) (Traps fetch_page_fault pc))
          over.1;
    }

-- ---- the machine afterwards, but for bytes

written_bare : (page : Option PageName) (offset : ℕ) (bytes : List ℕ) (l : Ledger) → bare (write_to page offset bytes l) ≡ bare l
written_bare None offset bytes l = refl
written_bare (Some name) offset bytes l = write_bare name offset bytes l

-- an instruction changes bytes alone
after_bare : (procs : ℕ) (pid : Pid) (l : Ledger) (x : Executed) → bare (ledger_after procs pid l x) ≡ bare l
after_bare procs pid l (Next regs pc) = refl
after_bare procs pid l (Stores address width value regs pc) = written_bare _ _ _ l
after_bare procs pid l (StoresToConsole offset value regs pc) = refl
after_bare procs pid l (StoresToTimer offset width value regs pc) = refl
after_bare procs pid l CallsKernel = refl
after_bare procs pid l (Traps cause value) = refl

-- what running the instruction comes to, of what stands in memory, where the thread has reserved this address
pub record HasRunSome {W : Type 0} (held : W → Held) (k : Kernel W) (mem : Memory W) (timer : Option ℕ) (pid : Pid) (old new : Core) (pc : ℕ) (answer : Ran) : Type 0 where
  pub stands : Unknown
  pub answered : answer ≡ ran_of (performed_where stands old pc (memory_of (machine_of held k) pid)).executed
  pub registers : new.regs ≡ registers_after old.regs (performed_where stands old pc (memory_of (machine_of held k) pid)).executed
  pub reserved : new.reserved ≡ (performed_where stands old pc (memory_of (machine_of held k) pid)).reserved
  pub machine : without_bytes (machine_of held (with_both mem timer k))
      ≡ without_bytes (memory_left pid (machine_of held k) (performed_where stands old pc (memory_of (machine_of held k) pid)).executed)

module _ {W : Type 0} (S : SwapStore W) (k : Kernel W) (mem : Memory W) (pid other : Pid) (rest : KeepsRest S pid k.mem mem)
    (on : Bool) (timer : Option ℕ) (claimed : on ≡ has_timer (machine_of S.held k) pid) (unseen : on ≡ false → timer ≡ k.timer)
    (matched : Matched (machine_of S.held k)) where
  -- what is told of the memory before and after, with the timer's page over it
  abbrev before_run : View
  before_run = timed_view on k.steps k.timer
      (record { may = (user_view S.held k.mem pid).may; console = (user_view S.held k.mem pid).console; content = user_content S k.mem pid; timer = None })

  abbrev after_run : View
  after_run = timed_view on k.steps timer
      (record { may = (user_view S.held mem other).may; console = (user_view S.held mem other).console; content = user_content S mem other; timer = None })

  pub some_run : (old new before : Core) (pc : ℕ) (answer : Ran) → old ≡ before → Performs before_run after_run old new pc answer
      → (answer ≡ Failed → ⊥) → HasRunSome S.held k mem timer pid before new pc answer
  unfolding machine_of seen_memory
  some_run old new before pc answer same_core h done =
      let view : SeenMemory = timed_memory on (timer_now k) (user_view S.held k.mem pid) in
      let one : IsSome (user_content S k.mem pid) before_run after_run before new pc answer =
      some_performed (user_content S k.mem pid) before_run after_run before new pc answer done
      (subst (λ (core : Core). Performs before_run after_run core new pc answer) same_core h) in
      let x : Performed = performed_where one.stands before pc view in
      let same_x : performed_where one.stands before pc (memory_of (machine_of S.held k) pid) ≡ x =
      ap (performed_where one.stands before pc)
      (memory_seen S.held k pid matched ∙ ap (λ b. timed_memory b (timer_now k) (user_view S.held k.mem pid)) (sym claimed)) in
      let left : timer ≡ compare_after k.timer x.executed =
      compare_left on k.steps (record (user_view S.held k.mem pid) { byte = one.stands.byte }) k.timer timer x.executed refl
      (stores_lawfully_where one.stands before pc view) one.is.executed.timer unseen in
      record {
        stands = one.stands;
        answered = one.is.executed.answer ∙ ap (λ (p : Performed). ran_of p.executed) (sym same_x);
        registers = one.is.executed.registers ∙ ap (λ (p : Performed). registers_after before.regs p.executed) (sym same_x);
        reserved = one.is.reserved ∙ ap (λ (p : Performed). p.reserved) (sym same_x);
        machine =
            (λ i. without_bytes (record (memory_machine S.held k mem rest.sizes i) { compare = left i }))
            ∙ (λ i. record (machine_of S.held k) {
              ledger = (rest.rights ∙ sym (after_bare (processes k.mem) pid (ledger S.held k.mem) x.executed)) i;
              compare = compare_after k.timer x.executed;
            })
            ∙ ap (λ (p : Performed). without_bytes (memory_left pid (machine_of S.held k) p.executed)) (sym same_x);
      }

-- ---- as the kernel says it

module _ {W : Type 0} (held : W → Held) (k : Kernel W) (mem : Memory W) (timer : Option ℕ) (who : ThreadId) (t : Thread) (new : Core) (answer : Ran)
    (h : HasRunSome held k mem timer who.pid (record { regs = t.regs; reserved = reserved_by who (machine_of held k).reserved }) new t.pc answer) where
  abbrev m : Machine
  m = machine_of held k

  abbrev x : Executed
  x = (thread_performed_where h.stands m who t).executed

  pub some_stays : (last : Machine) → last ≡ machine_of held (with_both mem timer k) → Stays answer → RunsSome m last who t new.reserved answer
  some_stays last same is = record {
    stands = h.stands;
    answered = h.answered;
    machine = ap without_bytes same ∙ h.machine ∙ ap without_bytes (stays m who x (subst (λ a. Stays a) h.answered is));
    reserved = h.reserved;
  }

  pub some_goes_on : (last : Machine) (next : ℕ) → last ≡ put_thread who (Some (record t { regs = new.regs; pc = next })) (machine_of held (with_both mem timer k))
      → m.threads who ≡ Some t → GoesOn answer next → RunsSome m last who t new.reserved answer
  some_goes_on last next same there is = record {
    stands = h.stands;
    answered = h.answered;
    machine = ap without_bytes same
        ∙ (λ i. put_thread who (Some (record t { regs = h.registers i; pc = next })) (h.machine i))
        ∙ ap without_bytes (goes_on m who t x next there (subst (λ a. GoesOn a next) h.answered is));
    reserved = h.reserved;
  }

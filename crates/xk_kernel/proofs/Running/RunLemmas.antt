-- What running an instruction makes of the machine.
use Rattle.xk_ports.specs.declared.store.SwapStore.{Ghosts as SwapStore}
use Rattle.std.proofs.Common.{◌≡◌, ℕ, ◌⊎◌, Bool, true, false, List, Option, Some, None, refl, sym, ap, subst, ◌∙◌, inl, inr}
use Rattle.std.proofs.lemmas.Bool.{cond-true}
use Rattle.std.proofs.lemmas.Option.{same_Some}
use Rattle.std.specs.Prelude.{unwrap_or, if◌then◌else◌}
use Rattle.std.specs.Option.{option_map}
use Rattle.xk_base.specs.declared.ids.Pid.{Pid}
use Rattle.xk_base.specs.declared.ids.ThreadId.{ThreadId}
use Rattle.xk_base.specs.Tables.Circle.{same_thread}
use Rattle.machine_model.specs.Stepping.Reservations.{reserved_by}
use Rattle.xk_base.specs.UserMemory.{Content, Memory as SeenMemory}
use Rattle.machine_model.specs.Hart.Instructions.{Executed, Next, Stores, StoresToConsole, StoresToTimer, CallsKernel, Traps}
use Rattle.machine_model.specs.Hart.Atomics.{Performed, execute_at}
use Rattle.machine_model.specs.State.Machine.{Machine, Thread}
use Rattle.machine_model.specs.State.Threads.{put_thread, with_registers}
use Rattle.machine_model.specs.State.Views.{memory_of, stored, timer_set}
use Rattle.rv32_atomics.specs.Performing.{Core, DoesPerform, IsPerformed, LeavesRegistersUnlessDone, Performs}
use Rattle.rv32_hart.specs.Running.{ran_of, registers_after, View, seen}
use Rattle.rv32_hart.specs.declared.ran.Ran.{Ran}
use Rattle.rv32_hart.specs.declared.ran.Ran.TheVariants.{Ecall, Trap, Device, Failed}
use Rattle.rv32_hart.specs.declared.ran.Ran.TheVariants as ran
use Rattle.sv32_space.specs.Tie.{Held}
use Rattle.thread_table.specs.Shown.{process_count}
use Rattle.thread_table.specs.declared.table.Threads.{Threads}
use Rattle.vm_memory.specs.declared.memory.Memory.{Memory}
use Rattle.vm_memory.specs.Bytes.{MeansBytes, MeansBytesOver, means_bytes}
use Rattle.vm_memory.specs.Using.UserView.{KeepsRest, seen_memory, user_content, user_view}
use Rattle.xk_kernel.specs.Running.{machine_after, timed_view}
use Rattle.xk_kernel.specs.Sound.{IsWhole}
use Rattle.xk_kernel.specs.State.{as_reservation, machine_of}
use Rattle.xk_kernel.specs.declared.kernel.Kernel.{Kernel}
use Rattle.xk_kernel.proofs.Memory.KnownLemmas.{means_ends}
use Rattle.xk_kernel.proofs.Memory.MemoryPartLemmas.{memory_machine, whole_with, with_memory}
use Rattle.xk_kernel.proofs.Memory.LedgerAfterLemmas.{ledger_after, ledger_by_bytes}
use Rattle.xk_kernel.proofs.Memory.StoreLemmas.{StoresLawfully, stores_lawfully}
use Rattle.xk_kernel.proofs.Memory.TimerViewLemmas.{allowed_inside, compare_after, compare_left, timed_memory, timer_now}

-- ---- the machine afterwards

-- the machine with the ledger and the timer that the instruction leaves
abbrev pub memory_left : Pid → Machine → Executed → Machine
memory_left pid m x = record m { ledger = ledger_after m.processes pid m.ledger x; compare = compare_after m.compare x }

pc_left : Ran → ℕ
pc_left (ran.Next next) = next
pc_left (Device offset value next) = next
pc_left Ecall = 0
pc_left (Trap cause value) = 0
pc_left Failed = 0

-- the thread goes on
abbrev pub GoesOn : Ran → ℕ → Type 0
GoesOn answer next = (answer ≡ ran.Next next) ⊎ ((offset : ℕ) × (value : ℕ) × (answer ≡ Device offset value next))

-- .. or stays
abbrev pub Stays : Ran → Type 0
Stays answer = (answer ≡ Ecall) ⊎ (((cause : ℕ) × (value : ℕ) × (answer ≡ Trap cause value)) ⊎ (answer ≡ Failed))

next_left : (next : ℕ) (answer : Ran) → GoesOn answer next → pc_left answer ≡ next
unfolding pc_left
next_left next answer (inl e) = ap pc_left e
next_left next answer (inr e) = ap pc_left e.2

stays_not : (answer : Ran) (next : ℕ) → Stays answer → GoesOn answer next → ⊥
stays_not answer next (inl e) (inl f) = cc
stays_not answer next (inl e) (inr f) = let g : answer ≡ Device f.0 f.1 next = f.2 in cc
stays_not answer next (inr (inl e)) (inl f) = let g : answer ≡ Trap e.0 e.1 = e.2 in cc
stays_not answer next (inr (inl e)) (inr f) = let g : answer ≡ Trap e.0 e.1 = e.2 in let h : answer ≡ Device f.0 f.1 next = f.2 in cc
stays_not answer next (inr (inr e)) (inl f) = cc
stays_not answer next (inr (inr e)) (inr f) = let g : answer ≡ Device f.0 f.1 next = f.2 in cc

pub goes_on : (m : Machine) (who : ThreadId) (t : Thread) (x : Executed) (next : ℕ) → m.threads who ≡ Some t → GoesOn (ran_of x) next
    → put_thread who (Some (record t { regs = registers_after t.regs x; pc = next })) (memory_left who.pid m x) ≡ machine_after who m x
unfolding stored timer_set pc_left
goes_on m who t (Next regs pc) next e is =
    let n : pc ≡ next = next_left next (ran.Next pc) is in λ i. put_thread who (option_map (with_registers regs (sym n i)) (sym e i)) m
goes_on m who t (Stores address width value regs pc) next e is =
    let n : pc ≡ next = next_left next (ran.Next pc) is in
    λ i. put_thread who (option_map (with_registers regs (sym n i)) (sym e i)) (stored who.pid address width value m)
goes_on m who t (StoresToConsole offset value regs pc) next e is =
    let n : pc ≡ next = next_left next (Device offset value pc) is in λ i. put_thread who (option_map (with_registers regs (sym n i)) (sym e i)) m
goes_on m who t (StoresToTimer offset width value regs pc) next e is =
    let n : pc ≡ next = next_left next (ran.Next pc) is in
    λ i. put_thread who (option_map (with_registers regs (sym n i)) (sym e i)) (timer_set offset width value m)
goes_on m who t CallsKernel next e is = absurd (stays_not Ecall next (inl refl) is)
goes_on m who t (Traps cause value) next e is = absurd (stays_not (Trap cause value) next (inr (inl (cause, value, refl))) is)

pub stays : (m : Machine) (who : ThreadId) (x : Executed) → Stays (ran_of x) → memory_left who.pid m x ≡ machine_after who m x
stays m who (Next regs pc) is = absurd (stays_not (ran.Next pc) pc is (inl refl))
stays m who (Stores address width value regs pc) is = absurd (stays_not (ran.Next pc) pc is (inl refl))
stays m who (StoresToConsole offset value regs pc) is = absurd (stays_not (Device offset value pc) pc is (inr (offset, value, refl)))
stays m who (StoresToTimer offset width value regs pc) is = absurd (stays_not (ran.Next pc) pc is (inl refl))
stays m who CallsKernel is = refl
stays m who (Traps cause value) is = refl

-- ---- the answer

told_all : (b : Bool) (byte : ℕ → ℕ) → b ≡ true → (if b then Some byte else None) ≡ Some byte
told_all b byte e = cond-true b (Some byte) None e

-- what is told of memory is these bytes
abbrev telling : View → (ℕ → ℕ) → View
telling view byte = record view { content = Some byte }

-- a memory that didn't fail has executed the instruction
is_performed : (effect : SeenMemory → Performed) (byte : ℕ → ℕ) (view after : View) (old new : Core) (answer : Ran)
    → (answer ≡ Failed → ⊥) → DoesPerform effect (telling view byte) after old new answer
    → IsPerformed (effect (seen view byte)) (telling view byte) after old new answer
is_performed effect byte view after old new (ran.Next next) done h = h
is_performed effect byte view after old new Ecall done h = h
is_performed effect byte view after old new (Trap cause value) done h = h
is_performed effect byte view after old new (Device offset value next) done h = h
is_performed effect byte view after old new Failed done h = absurd (done refl)

-- the kernel with that memory and that compare value
abbrev pub with_both : {W : Type 0} → Memory W → Option ℕ → Kernel W → Kernel W
with_both mem timer k = record k { mem = mem; timer = timer }

-- what running the instruction over this memory comes to, where the thread has reserved this address
pub record HasRun {W : Type 0} (held : W → Held) (k : Kernel W) (mem : Memory W) (timer : Option ℕ) (pid : Pid) (over : SeenMemory) (old new : Core) (pc : ℕ)
    (answer : Ran) : Type 0 where
  pub answered : answer ≡ ran_of (execute_at old.regs pc old.reserved over).executed
  pub registers : new.regs ≡ registers_after old.regs (execute_at old.regs pc old.reserved over).executed
  pub reserved : new.reserved ≡ (execute_at old.regs pc old.reserved over).reserved
  pub machine : machine_of held (with_both mem timer k) ≡ memory_left pid (machine_of held k) (execute_at old.regs pc old.reserved over).executed

module _ {W : Type 0} (S : SwapStore W)
    (k : Kernel W) (mem : Memory W) (pid other : Pid) (same : other ≡ pid) (whole : IsWhole S k)
    (rest : KeepsRest S pid k.mem mem) (over : MeansBytesOver S k.mem mem) where
  means : MeansBytes S k.mem × MeansBytes S mem
  means = means_ends S k.mem mem rest.store over

  abbrev byte : ℕ → ℕ
  byte = (user_view S.held k.mem pid).byte

  known_before : user_content S k.mem pid ≡ Some byte
  known_before = told_all (means_bytes S k.mem) byte means.0

  known_after : user_content S mem other ≡ Some (user_view S.held mem pid).byte
  known_after = told_all (means_bytes S mem) (user_view S.held mem other).byte means.1
      ∙ ap (λ p. Some (user_view S.held mem p).byte) same

  -- where the timer's page is, what the process sees then, and the timer afterwards
  module _ (on : Bool) (timer : Option ℕ) (shown : SeenMemory) (is_shown : shown ≡ timed_memory on (timer_now k) (user_view S.held k.mem pid))
      (unseen : on ≡ false → timer ≡ k.timer) where
    -- what is told of the memory before and after
    abbrev pages_before : View
    pages_before = record { may = (user_view S.held k.mem pid).may; console = (user_view S.held k.mem pid).console; content = user_content S k.mem pid; timer = None }

    abbrev pages_after : View
    pages_after = record { may = (user_view S.held mem other).may; console = (user_view S.held mem other).console; content = user_content S mem other; timer = None }

    -- .. with the timer's page over it
    abbrev view_before : View
    view_before = timed_view on k.steps k.timer pages_before

    abbrev view_after : View
    view_after = timed_view on k.steps timer pages_after

    pub has_run : (old new before : Core) (pc : ℕ) (answer : Ran) → old ≡ before → Performs view_before view_after old new pc answer
        → (answer ≡ Failed → ⊥) → HasRun S.held k mem timer pid shown before new pc answer
    unfolding machine_of seen_memory
    has_run old new before pc answer same_core h done =
        let view : SeenMemory = timed_memory on (timer_now k) (user_view S.held k.mem pid) in
        let x : Performed = execute_at before.regs pc before.reserved view in
        let told : View = telling view_before byte in
        let known : Performs told view_after before new pc answer =
        subst (λ (core : Core). Performs told view_after core new pc answer) same_core
        (subst (λ o. Performs (record view_before { content = o }) view_after old new pc answer) known_before h) in
        let e : IsPerformed x told view_after before new answer =
        is_performed (execute_at before.regs pc before.reserved) byte view_before view_after before new answer done known in
        let same_x : execute_at before.regs pc before.reserved shown ≡ x = ap (execute_at before.regs pc before.reserved) is_shown in
        let lawful : StoresLawfully view x.executed = stores_lawfully view before.regs pc before.reserved in
        let left : timer ≡ compare_after k.timer x.executed =
        compare_left on k.steps (user_view S.held k.mem pid) k.timer timer x.executed refl lawful e.executed.timer unseen in
        record {
          answered = e.executed.answer ∙ ap (λ (p : Performed). ran_of p.executed) (sym same_x);
          registers = e.executed.registers ∙ ap (λ (p : Performed). registers_after before.regs p.executed) (sym same_x);
          reserved = e.reserved ∙ ap (λ (p : Performed). p.reserved) (sym same_x);
          machine =
              (λ i. record (memory_machine S.held k mem rest.sizes i) { compare = left i })
              ∙ ap (λ l. record (machine_of S.held k) { ledger = l; compare = compare_after k.timer x.executed })
              (ledger_by_bytes S pid k.mem mem whole.mem means.0 rest (user_view S.held mem pid).byte refl x.executed
              (allowed_inside on (timer_now k) (user_view S.held k.mem pid) x.executed refl lawful)
              (ap (λ (o : Content). unwrap_or o byte) (sym known_after ∙ e.executed.content)))
              ∙ ap (λ (p : Performed). memory_left pid (machine_of S.held k) p.executed) (sym same_x);
        }

-- ---- as the kernel says it

module _ {W : Type 0} (held : W → Held) (k : Kernel W) (mem : Memory W) (timer : Option ℕ) (who : ThreadId) (old new : Core) (pc : ℕ) (answer : Ran)
    (h : HasRun held k mem timer who.pid (memory_of (machine_of held k) who.pid) old new pc answer) where
  abbrev x : Executed
  x = (execute_at old.regs pc old.reserved (memory_of (machine_of held k) who.pid)).executed

  pub machine_stays : Stays answer → machine_of held (with_both mem timer k) ≡ machine_after who (machine_of held k) x
  machine_stays is = h.machine ∙ stays (machine_of held k) who x (subst (λ a. Stays a) h.answered is)

  pub machine_goes_on : (t : Thread) (next : ℕ) → t.regs ≡ old.regs → (machine_of held k).threads who ≡ Some t → GoesOn answer next
      → put_thread who (Some (record t { regs = new.regs; pc = next })) (machine_of held (with_both mem timer k)) ≡ machine_after who (machine_of held k) x
  machine_goes_on t next same e is =
      (λ i. put_thread who (Some (record t { regs = (h.registers ∙ ap (λ regs. registers_after regs x) (sym same)) i; pc = next })) (h.machine i))
      ∙ goes_on (machine_of held k) who t x next e (subst (λ a. GoesOn a next) h.answered is)

-- the table of threads with one of them changed keeps the kernel whole
pub whole_lent : {W : Type 0} (S : SwapStore W) (k : Kernel W) (threads : Threads) → process_count threads ≡ process_count k.threads
    → IsWhole S k → IsWhole S (record k { threads = threads })
whole_lent S k threads count whole = record {
  mem = whole.mem;
  threads = count ∙ whole.threads;
  procs = whole.procs;
  cursor = whole.cursor;
  room = whole.room;
  servers = whole.servers;
}

-- a memory that was lent is given back as it is behind the reference, where that is the one that was lent
pub given_back : {W : Type 0} (name now_named : ℕ) (now : Memory W) (given : (mem : Memory W) × (name ≡ now_named → mem ≡ now)) → now_named ≡ name → given.0 ≡ now
given_back name now_named now given same = given.1 (sym same)

-- the memory and the timer after an instruction keep the kernel whole
pub whole_ran : {W : Type 0} (S : SwapStore W)
    (k : Kernel W) (mem : Memory W) (timer : Option ℕ) → IsWhole S k → (pid : Pid)
    → KeepsRest S pid k.mem mem → IsWhole S (with_both mem timer k)
whole_ran S k mem timer whole pid rest =
    let with : IsWhole S (with_memory mem k) = whole_with S k mem whole pid rest in
    record {
      mem = with.mem;
      threads = with.threads;
      procs = with.procs;
      cursor = with.cursor;
      room = with.room;
      servers = with.servers;
    }

-- a thread that stays has its registers as before
pub registers_stay : (answer : Ran) (old new : List ℕ) → Stays answer → LeavesRegistersUnlessDone old new answer → new ≡ old
registers_stay answer old new (inl e) leaves = subst (λ a. LeavesRegistersUnlessDone old new a) e leaves
registers_stay answer old new (inr (inl e)) leaves = subst (λ a. LeavesRegistersUnlessDone old new a) e.2 leaves
registers_stay answer old new (inr (inr e)) leaves = subst (λ a. LeavesRegistersUnlessDone old new a) e leaves

-- what holds of the thread that is there
pub of_thread : (o : Option Thread) (t : Thread) → o ≡ Some t → (Holds : Thread → Type 0) → Holds t → (u : Thread) → o ≡ Some u → Holds u
of_thread o t e Holds h u f = subst (λ v. Holds v) (same_Some t u (sym e ∙ f)) h

-- ---- the address that a thread has reserved

abbrev reserved_if : ThreadId → Option (ThreadId × ℕ) → Option ℕ
reserved_if who kept = reserved_by who (option_map as_reservation kept)

abbrev own_or_none : ℕ → Bool → Option ℕ
own_or_none address own = if own then Some address else None

module _ (who holder : ThreadId) (address : ℕ) (kept : Option (ThreadId × ℕ)) (is : kept ≡ Some (holder, address)) where
  pub reserved_own : same_thread holder who ≡ true → Some address ≡ reserved_by who (option_map as_reservation kept)
  reserved_own same = sym (ap (reserved_if who) is ∙ ap (own_or_none address) same)

  pub reserved_by_another : same_thread holder who ≡ false → None ≡ reserved_by who (option_map as_reservation kept)
  reserved_by_another other = sym (ap (reserved_if who) is ∙ ap (own_or_none address) other)

pub nothing_reserved : (who : ThreadId) (kept : Option (ThreadId × ℕ)) → kept ≡ None → None ≡ reserved_by who (option_map as_reservation kept)
nothing_reserved who kept is = sym (ap (reserved_if who) is)

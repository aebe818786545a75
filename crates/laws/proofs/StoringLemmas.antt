-- A step that leaves a reservation is an instruction, and leaves memory unless it is a store; an LR is none.
use Rattle.std.proofs.Common.{◌≡◌, ℕ, Bool, true, false, List, Option, Some, None, refl, sym, ap, ◌∙◌, inl, inr, subst}
use Rattle.std.specs.Prelude.{◌==◌, ◌%◌, not, if◌then◌else◌}
use Rattle.std.specs.Option.{option_and_then, option_map_or}
use Rattle.std.proofs.lemmas.Bool.{false≢true}
use Rattle.std.proofs.lemmas.Option.{none-some, same_Some}
use Rattle.xk_base.specs.declared.ids.Pid.{Pid}
use Rattle.xk_base.specs.declared.ids.ThreadId.{ThreadId}
use Rattle.xk_base.specs.declared.pages.Access.TheVariants.{Fetch, Load}
use Rattle.xk_base.specs.declared.pages.Width.TheVariants.{Word}
use Rattle.xk_base.specs.UserMemory.{Memory, number_at, number_loaded}
use Rattle.xk_base.specs.Numbers.Windows.{page_of}
use Rattle.ledger_model.specs.Ledger.{Ledger, byte_of, contents_of}
use Rattle.ledger_model.specs.Reach.{reach}
use Rattle.machine_model.specs.Hart.Atomics.{Amo, Atomic, LoadReserved, Performed, StoreConditional, atomic_at, execute, execute_at, perform, unless_ended}
use Rattle.machine_model.specs.Hart.Instructions.{Executed, Next, Stores, StoresToConsole, StoresToTimer, CallsKernel, Traps, load_misaligned, load_page_fault, writes, x}
use Rattle.machine_model.specs.Runs.Moments.{Cause, ByStep, ByPick, ByIrq, ByKill, ByTurn, caused}
use Rattle.machine_model.specs.State.Changes.{Told}
use Rattle.machine_model.specs.State.Machine.{Machine, Reservation, Thread}
use Rattle.machine_model.specs.State.Order.{actor, turn}
use Rattle.machine_model.specs.State.Views.{memory_of, timer_set}
use Rattle.machine_model.specs.Stepping.Acts.{atomic_by, atomic_fetched, atomic_there, executes, is_instruction}
use Rattle.machine_model.specs.Stepping.Events.{picked}
use Rattle.machine_model.specs.Stepping.Reservations.{reservation_of, reserved_by}
use Rattle.machine_model.specs.Stepping.Step.{Recorded, acted, counted, ends_handler, ends_thread, executed, performed, step}
use Rattle.machine_model.specs.Stepping.Timer.{timed}
use Rattle.machine_model.proofs.StepLemmas.{no_step}
use Rattle.machine_model.proofs.Runs.TimerLemmas.{timed_raised}
use Rattle.machine_laws.proofs.Stepping.StepKindLemmas.{Executes, HandlerEnds, StepKind, ThreadEnds, acted_as_executed, kind_of}
use Rattle.machine_laws.proofs.Threading.ThreadStepLemmas.{performed_turned, step_of_thread, turned_to}
use Rattle.machine_laws.proofs.Stepping.CauseCaseLemmas.{is_step}
use Rattle.laws.specs.LoadedWord.{StoresNothing, does_store, is_store, word_seen}
use Rattle.laws.proofs.ReservedLemmas.{Leaves, leaves}

-- ---- one instruction

-- what leaves a reservation is an instruction
left_is_instruction : (left : Option ℕ) (e : Executed) (a : ℕ) → unless_ended left e ≡ Some a → is_instruction e ≡ true
left_is_instruction left (Next regs pc) a h = refl
left_is_instruction left (Stores address width value regs pc) a h = refl
left_is_instruction left (StoresToConsole offset value regs pc) a h = refl
left_is_instruction left (StoresToTimer offset width value regs pc) a h = refl
left_is_instruction left CallsKernel a h = absurd (none-some a h)
left_is_instruction left (Traps cause value) a h = absurd (none-some a h)

module _ (mem : Memory) (regs : List ℕ) (pc : ℕ) (reserved : Option ℕ) where
  by_atomic : (word : ℕ) (o : Option Atomic) (a : ℕ) → (perform mem regs pc word reserved o).reserved ≡ Some a
      → is_instruction (perform mem regs pc word reserved o).executed ≡ true
  by_atomic word None a h = left_is_instruction reserved _ a h
  by_atomic word (Some (LoadReserved rd rs1)) a h = left_is_instruction (Some (x regs rs1)) _ a h
  by_atomic word (Some (StoreConditional rd rs1 rs2)) a h = left_is_instruction None _ a h
  by_atomic word (Some (Amo operation rd rs1 rs2)) a h = left_is_instruction reserved _ a h

  -- what is fetched, where it may be
  abbrev fetched : Bool → Performed
  fetched b =
      if b then execute regs pc (number_at mem.byte pc Word) reserved mem
      else record { executed = Traps 12 pc; reserved = None }

  by_fetch : (b : Bool) (a : ℕ) → (fetched b).reserved ≡ Some a → is_instruction (fetched b).executed ≡ true
  unfolding execute
  by_fetch false a h = absurd (none-some a h)
  by_fetch true a h = by_atomic (number_at mem.byte pc Word) (atomic_at (number_at mem.byte pc Word)) a h

  pub reserving_is_instruction : (a : ℕ) → (execute_at regs pc reserved mem).reserved ≡ Some a
      → is_instruction (execute_at regs pc reserved mem).executed ≡ true
  unfolding execute_at
  reserving_is_instruction a h = by_fetch (mem.may Fetch pc) a h

  -- ---- an LR

  loads_no_store : (address : ℕ) (next : Executed) → is_store next ≡ false → (a b : Bool)
      → is_store (if a then Traps load_misaligned address else (if b then Traps load_page_fault address else next)) ≡ false
  loads_no_store address next e true b = refl
  loads_no_store address next e false true = refl
  loads_no_store address next e false false = e

  lr_fetch : (rd rs1 : ℕ) (b : Bool) → (if b then atomic_at (number_at mem.byte pc Word) else None) ≡ Some (LoadReserved rd rs1)
      → is_store (fetched b).executed ≡ false
  unfolding execute
  lr_fetch rd rs1 false e = refl
  lr_fetch rd rs1 true e =
      ap (λ o. is_store (perform mem regs pc (number_at mem.byte pc Word) reserved o).executed) e
      ∙ loads_no_store (x regs rs1) (writes regs pc rd (number_loaded mem (x regs rs1) Word)) refl (not (x regs rs1 % 4 == 0))
      (not (mem.may Load (x regs rs1)))

  pub lr_stores_not : (rd rs1 : ℕ) → atomic_there mem pc ≡ Some (LoadReserved rd rs1) → is_store (execute_at regs pc reserved mem).executed ≡ false
  unfolding execute_at
  lr_stores_not rd rs1 e = lr_fetch rd rs1 (mem.may Fetch pc) e

-- ---- one thread

module _ (m : Machine) (who : ThreadId) (t : Thread) (there : m.threads who ≡ Some t) where
  pub lr_step : (rd rs1 : ℕ) → atomic_by m who ≡ Some (LoadReserved rd rs1) → does_store m who ≡ false
  unfolding atomic_by does_store
  lr_step rd rs1 e =
      ap (λ o. option_map_or is_store (option_and_then (executes m who) o) false) there
      ∙ go (ends_thread who t.pc) (ends_handler who t.pc) (sym (ap (option_and_then (atomic_fetched m who)) there) ∙ e)
    where
      go : (a b : Bool) → (if a then None else (if b then None else atomic_there (memory_of m who.pid) t.pc)) ≡ Some (LoadReserved rd rs1)
          → option_map_or is_store (if a then None else (if b then None else Some (performed m who t).executed)) false ≡ false
      go true b q = refl
      go false true q = refl
      go false false q = lr_stores_not (memory_of m who.pid) t.regs t.pc (reserved_by who m.reserved) rd rs1 q

  stored_as : (e : Executed) → executes m who t ≡ Some e → does_store m who ≡ is_store e
  unfolding does_store
  stored_as e q =
      ap (λ o. option_map_or is_store (option_and_then (executes m who) o) false) there ∙ ap (λ o. option_map_or is_store o false) q

-- ---- one step

-- the same pages with the same bytes, and as many processes
abbrev pub SameMemory : Machine → Machine → Type 0
SameMemory m n = (m.ledger ≡ n.ledger) × (m.processes ≡ n.processes)

executed_same : (m : Machine) (who : ThreadId) (t : Thread) (e : Executed) → is_instruction e ≡ true → is_store e ≡ false
    → SameMemory (executed (turned_to who m) t e).machine m
unfolding timer_set
executed_same m who t (Next regs pc) i s = (refl, refl)
executed_same m who t (Stores address width value regs pc) i s = absurd (false≢true (sym s))
executed_same m who t (StoresToConsole offset value regs pc) i s = (refl, refl)
executed_same m who t (StoresToTimer offset width value regs pc) i s = (refl, refl)
executed_same m who t CallsKernel i s = absurd (false≢true i)
executed_same m who t (Traps cause value) i s = absurd (false≢true i)

module _ (m : Machine) (who : ThreadId) (acts : actor m ≡ Some who) (r : Reservation) (h : (step m).machine.reserved ≡ Some r) where
  module _ (t : Thread) (there : m.threads who ≡ Some t) where
    abbrev done : Told
    done = counted (turned_to who m) (Some t) (acted (turned_to who m) t)

    step_is : (step m).machine ≡ (timed done).machine
    step_is = step_of_thread m who t acts there

    -- what the step leaves of reservations, by whether the thread or its handler ends
    abbrev left_by : Bool → Bool → Option Reservation
    left_by a b = if a then None else (if b then None else reservation_of who (performed (turned_to who m) who t).reserved)

    left : left_by (ends_thread who t.pc) (ends_handler who t.pc) ≡ Some r
    left = sym (ap (λ (y : Machine). y.reserved) step_is ∙ ap (λ (y : Machine). y.reserved) (timed_raised done).is) ∙ h

    by_reserved : (o : Option ℕ) → (performed (turned_to who m) who t).reserved ≡ o → reservation_of who o ≡ Some r
        → is_instruction (performed m who t).executed ≡ true
    by_reserved None e q = absurd (none-some r q)
    by_reserved (Some a) e q =
        reserving_is_instruction (memory_of m who.pid) t.regs t.pc (reserved_by who m.reserved) a
        (ap (λ (p : Performed). p.reserved) (performed_turned m who t) ∙ e)

    is_one : (e : Executed) (a b : Bool) → (if a then None else (if b then None else Some (performed m who t).executed)) ≡ Some e
        → left_by a b ≡ Some r → is_instruction e ≡ true
    is_one e true b p q = absurd (none-some e p)
    is_one e false true p q = absurd (none-some e p)
    is_one e false false p q =
        ap is_instruction (sym (same_Some (performed m who t).executed e p)) ∙ by_reserved (performed (turned_to who m) who t).reserved refl q

    through : SameMemory (acted (turned_to who m) t).machine m → SameMemory (step m).machine m
    through same = (
      ap (λ (y : Machine). y.ledger) step_is ∙ (ap (λ (y : Machine). y.ledger) (timed_raised done).is ∙ same.0),
      ap (λ (y : Machine). y.processes) step_is ∙ (ap (λ (y : Machine). y.processes) (timed_raised done).is ∙ same.1),
    )

    executes_same : (e : Executed) → executes m who t ≡ Some e → does_store m who ≡ false → SameMemory (step m).machine m
    executes_same e q none =
        through (subst (λ (told : Told). SameMemory told.machine m) (sym (acted_as_executed m who t e q))
        (executed_same m who t e (is_one e (ends_thread who t.pc) (ends_handler who t.pc) q left) (sym (stored_as m who t there e q) ∙ none)))

  by_kind : StepKind m who → does_store m who ≡ false → SameMemory (step m).machine m
  by_kind (Executes t e there q) none = executes_same t there e q none
  by_kind (ThreadEnds t there ends) none =
      absurd (none-some r (sym (ap (λ a. left_by t there a (ends_handler who t.pc)) ends) ∙ left t there))
  by_kind (HandlerEnds t there goes ends) none =
      absurd (none-some r (sym (ap (λ a. left_by t there a (ends_handler who t.pc)) goes ∙ ap (left_by t there false) ends) ∙ left t there))

step_same : (m : Machine) (r : Reservation) → (step m).machine.reserved ≡ Some r → StoresNothing m ByStep → SameMemory (step m).machine m
step_same m r h none = go (actor m) refl
  where
    go : (o : Option ThreadId) → actor m ≡ o → SameMemory (step m).machine m
    go None e = (
      ap (λ (s : Recorded). s.machine.ledger) (no_step m e),
      ap (λ (s : Recorded). s.machine.processes) (no_step m e),
    )
    go (Some who) e = by_kind m who e r h (kind_of m who e) (none who e)

-- ---- any moment

-- an interrupt and a kill leave no reservation
irq_leaves_none : (m : Machine) (k : ℕ) (r : Reservation) → Leaves r m (ByIrq k) → ⊥
irq_leaves_none m k r (inl kept) = kept.only
irq_leaves_none m k r (inr reserving) = false≢true (ap is_step reserving.step)

kill_leaves_none : (m : Machine) (pid : Pid) (r : Reservation) → Leaves r m (ByKill pid) → ⊥
kill_leaves_none m pid r (inl kept) = kept.only
kill_leaves_none m pid r (inr reserving) = false≢true (ap is_step reserving.step)

pub cause_same : (m : Machine) (cause : Cause) (r : Reservation) → (caused cause m).reserved ≡ Some r → StoresNothing m cause
    → SameMemory (caused cause m) m
unfolding picked turn
cause_same m ByStep r h none = step_same m r h none
cause_same m (ByPick who) r h none = (refl, refl)
cause_same m (ByIrq k) r h none = absurd (irq_leaves_none m k r (leaves m (ByIrq k) r h))
cause_same m (ByKill pid) r h none = absurd (kill_leaves_none m pid r (leaves m (ByKill pid) r h))
cause_same m ByTurn r h none = (refl, refl)

-- ---- the word

-- the byte at each address, by the pages of the process
abbrev bytes_of : Pid → ℕ → Ledger → ℕ → ℕ
bytes_of pid processes ledger address =
    option_map_or (byte_of (address % 4096)) (option_and_then (contents_of ledger) (reach processes ledger (page_of pid address) Load)) 0

pub same_word : (m n : Machine) (who : ThreadId) (address : ℕ) → SameMemory m n → word_seen m who address ≡ word_seen n who address
unfolding memory_of
same_word m n who address same = λ i. number_at (bytes_of who.pid (same.1 i) (same.0 i)) address Word

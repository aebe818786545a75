-- The machine with a thread in hand, and its quiet steps.
use Rattle.std.proofs.Common.{◌≡◌, ℕ, ◌+◌, if◌then◌else◌, Bool, true, false, not, ◌&&◌, ◌||◌, is_some, [], Option, Some, None, refl, sym, ap, ◌∙◌}
use Rattle.std.specs.Prelude.{◌%◌}
use Rattle.std.specs.Option.{option_map_or}
use Rattle.std.proofs.lemmas.Bool.{false≢true}
use Rattle.ledger_model.specs.Ledger.{Contents, byte_of, has_bytes}
use Rattle.machine_model.specs.Hart.Atomics.{Performed, execute_at}
use Rattle.machine_model.specs.Hart.Instructions.{Executed, Next, Stores, StoresToConsole, StoresToTimer, CallsKernel, Traps}
use Rattle.machine_model.specs.State.Machine.{Machine, Ready, Thread}
use Rattle.machine_model.specs.State.Order.{is_ready, ready_at}
use Rattle.machine_model.specs.State.Views.{contents_seen, is_of_timer_page, memory_of, page_reached, stored}
use Rattle.machine_model.specs.Stepping.Interrupts.{is_claim_of}
use Rattle.machine_model.specs.Stepping.Reservations.{reservation_of, reserved_by}
use Rattle.machine_model.specs.Stepping.Step.{Recorded, ends_handler, ends_thread, performed, step}
use Rattle.machine_model.specs.Stepping.Timer.{is_due}
use Rattle.rv32_hart.specs.Running.{ran_of, registers_after}
use Rattle.rv32_hart.specs.declared.ran.Ran.{Ran}
use Rattle.rv32_hart.specs.declared.ran.Ran.TheVariants.{Device, Ecall, Failed, Trap}
use Rattle.rv32_hart.specs.declared.ran.Ran.TheVariants as ran
use Rattle.thread_table.proofs.PlaceLemmas.{same_thread-self}
use Rattle.xk_base.specs.Tables.Circle.{same_thread}
use Rattle.xk_base.specs.Tables.Counting.{put_at}
use Rattle.xk_base.specs.UserMemory.{Memory as SeenMemory, Timer, in_timer_page, timer_at}
use Rattle.xk_base.specs.declared.ids.Pid.{Pid}
use Rattle.xk_base.specs.declared.ids.ThreadId.{ThreadId}
use Rattle.xk_base.specs.declared.limits.TheConstants.{TIMER_INTERRUPT}
use Rattle.xk_kernel.specs.Quiet.{done_without_timer, goes_on, in_hand, is_quiet, without_timer}
use Rattle.xk_kernel.specs.Running.{machine_after}
use Rattle.xk_kernel.proofs.Acting.ThreadLemmas.{put_there}
use Rattle.xk_kernel.proofs.Quieting.QuietStepLemmas.{IsQuietBy, does_same, goes_with_timer, last_fails, not_quiet, quiet_parts, quiet_step_is, quiet_whole}
use Rattle.xk_kernel.proofs.Running.RunLemmas.{GoesOn, goes_on as thread_moves, memory_left}

-- ---- what the thread has

-- its own reservation is its own
pub own_reserved : (who : ThreadId) (r : Option ℕ) → reserved_by who (reservation_of who r) ≡ r
own_reserved who None = refl
own_reserved who (Some address) = ap (λ b. if b then Some address else None) (same_thread-self who)

abbrev seen_with : Option Timer → Machine → Pid → SeenMemory
seen_with timer m pid = record {
  may = λ access address. (is_some (timer_at timer address) && is_of_timer_page access) || is_some (page_reached m pid access address);
  console = λ address. option_map_or (λ (contents : Contents). not (has_bytes contents)) (contents_seen m pid address) false;
  byte = λ address. option_map_or (byte_of (address % 4096)) (contents_seen m pid address) 0;
  timer = timer;
}

-- the machine's timer after so many steps
abbrev timer_after : Machine → ℕ → Timer
timer_after m steps = record { steps = steps; compare = m.compare }

-- without the timer's page a process sees neither the steps nor the threads
pub memory_in_hand : (m : Machine) (who : ThreadId) (t : Thread) (r : Option ℕ) (n : ℕ) (pid : Pid)
    → without_timer (memory_of (in_hand who t r n m) pid) ≡ without_timer (memory_of m pid)
unfolding memory_of
memory_in_hand m who t r n pid = by (is_claim_of pid (m.claims TIMER_INTERRUPT))
  where
    -- whether the timer is at an address doesn't tell the steps
    there : (inside : Bool) → is_some (if inside then Some (timer_after m n) else None) ≡ is_some (if inside then Some (timer_after m m.steps) else None)
    there true = refl
    there false = refl

    by : (claimed : Bool) → without_timer (seen_with (if claimed then Some (timer_after m n) else None) m pid)
        ≡ without_timer (seen_with (if claimed then Some (timer_after m m.steps) else None) m pid)
    by false = refl
    by true = λ i. record (without_timer (seen_with (Some (timer_after m m.steps)) m pid)) {
      may = λ access address. not (there (in_timer_page address) i)
          && ((there (in_timer_page address) i && is_of_timer_page access) || is_some (page_reached m pid access address));
    }

put_twice : (m : Machine) (id : ThreadId) (t u : Option Thread) → put_at same_thread (put_at same_thread m.threads id t) id u ≡ put_at same_thread m.threads id u
put_twice m id t u = λ i q. at q (same_thread q id) i
  where
    at : (q : ThreadId) (b : Bool) → (if b then u else (if b then t else m.threads q)) ≡ (if b then u else m.threads q)
    at q true = refl
    at q false = refl

-- ---- an instruction that stores nowhere but to memory

-- the timer isn't stored to
abbrev pub LeavesTimer : Executed → Type 0
LeavesTimer (StoresToTimer offset width value regs pc) = ⊥
LeavesTimer _ = Unit {0}

abbrev pub is_next : Ran → Bool
is_next (ran.Next pc) = true
is_next Ecall = false
is_next (Trap cause value) = false
is_next (Device offset value pc) = false
is_next Failed = false

pub goes_by : (x : Executed) → LeavesTimer x → goes_on x ≡ is_next (ran_of x)
goes_by (Next regs pc) h = refl
goes_by (Stores address width value regs pc) h = refl
goes_by (StoresToConsole offset value regs pc) h = refl
goes_by (StoresToTimer offset width value regs pc) h = absurd h
goes_by CallsKernel h = refl
goes_by (Traps cause value) h = refl

-- one by which the thread doesn't go on leaves memory
pub memory_stays : (pid : Pid) (m : Machine) (x : Executed) → LeavesTimer x → goes_on x ≡ false → memory_left pid m x ≡ m
memory_stays pid m (Next regs pc) h e = absurd (false≢true (sym e))
memory_stays pid m (Stores address width value regs pc) h e = absurd (false≢true (sym e))
memory_stays pid m (StoresToConsole offset value regs pc) h e = refl
memory_stays pid m (StoresToTimer offset width value regs pc) h e = absurd h
memory_stays pid m CallsKernel h e = refl
memory_stays pid m (Traps cause value) h e = refl

-- ---- steps with a thread in hand

module _ (m : Machine) (t : Thread) (ready : t.state ≡ Ready) (r : Option ℕ) (n : ℕ) where
  abbrev held_machine : Machine
  held_machine = in_hand m.cursor t r n m

  -- what its instruction does without the timer's page
  abbrev does : Performed
  does = execute_at t.regs t.pc r (without_timer (memory_of m m.cursor.pid))

  there : held_machine.threads held_machine.cursor ≡ Some t
  there = put_there m m.cursor (Some t)

  does_so : done_without_timer held_machine t ≡ does
  does_so =
      ap (λ o. execute_at t.regs t.pc o (without_timer (memory_of held_machine m.cursor.pid))) (own_reserved m.cursor r)
      ∙ ap (execute_at t.regs t.pc r) (memory_in_hand m m.cursor t r n m.cursor.pid)

  ready_now : ready_at held_machine held_machine.cursor ≡ true
  ready_now = ap (λ (o : Option Thread). option_map_or (λ (u : Thread). is_ready u.state) o false) there ∙ ap is_ready ready

  pub stops_loudly : goes_on does.executed ≡ false → is_quiet held_machine ≡ false
  stops_loudly e = not_quiet held_machine t there
      (ap (λ b. not (ends_thread m.cursor t.pc) && (not (ends_handler m.cursor t.pc) && b)) (ap (λ (p : Performed). goes_on p.executed) does_so ∙ e)
      ∙ last_fails (not (ends_thread m.cursor t.pc)) (not (ends_handler m.cursor t.pc)))

  module _ (undue : is_due m.compare (n + 1) ≡ false) (goes_past : ends_thread m.cursor t.pc ≡ false) (stays_in : ends_handler m.cursor t.pc ≡ false)
      (goes : goes_on does.executed ≡ true) where
    quiet_now : IsQuietBy held_machine t
    quiet_now = record {
      ready = ready_now;
      undue = undue;
      goes_past = goes_past;
      stays_in = stays_in;
      goes = ap (λ (p : Performed). goes_on p.executed) does_so ∙ goes;
    }

    pub hand_is_quiet : is_quiet held_machine ≡ true
    hand_is_quiet = quiet_whole held_machine t there quiet_now

    -- the thread as the instruction leaves it
    abbrev moved : ℕ → Thread
    moved next = record t { regs = registers_after t.regs does.executed; pc = next }

    abbrev counted_as : Performed → Machine
    counted_as p = record (machine_after m.cursor held_machine p.executed) { steps = n + 1; reserved = reservation_of m.cursor p.reserved }

    pub hand_steps : (next : ℕ) → GoesOn (ran_of does.executed) next → (new : Machine) → new ≡ memory_left m.cursor.pid m does.executed
        → in_hand m.cursor (moved next) does.reserved (n + 1) new ≡ (step held_machine).machine
    hand_steps next is new left =
        ap (in_hand m.cursor (moved next) does.reserved (n + 1)) left
        ∙ (λ i. record (memory_left m.cursor.pid m does.executed) {
          threads = sym (put_twice m m.cursor (Some t) (Some (moved next))) i;
          steps = n + 1;
          reserved = reservation_of m.cursor does.reserved;
        })
        ∙ ap (λ (x : Machine). record x { steps = n + 1; reserved = reservation_of m.cursor does.reserved })
        (thread_moves held_machine m.cursor t does.executed next there is)
        ∙ ap counted_as (sym (does_same held_machine t there quiet_now ∙ does_so))
        ∙ sym (ap (λ (s : Recorded). s.machine) (quiet_step_is held_machine t there quiet_now))

-- ---- the thread is taken from the table

-- the machine with the reservation of that thread alone
abbrev pub owned : ThreadId → Machine → Machine
owned who m = record m { reserved = reservation_of who (reserved_by who m.reserved) }

module _ (m : Machine) (t : Thread) (at : m.threads m.cursor ≡ Some t) where
  -- its instruction doesn't see what others have reserved
  abbrev quiet_with : Option ℕ → Bool
  quiet_with r = ready_at m m.cursor && (not (is_due m.compare (m.steps + 1))
      && option_map_or (λ (u : Thread). not (ends_thread m.cursor u.pc) && (not (ends_handler m.cursor u.pc)
      && goes_on (execute_at u.regs u.pc r (without_timer (memory_of m m.cursor.pid))).executed)) (m.threads m.cursor) false)

  pub owned_quiet : is_quiet (owned m.cursor m) ≡ is_quiet m
  unfolding is_quiet memory_of
  owned_quiet = ap quiet_with (own_reserved m.cursor (reserved_by m.cursor m.reserved))

  owned_does : performed (owned m.cursor m) m.cursor t ≡ performed m m.cursor t
  unfolding memory_of
  owned_does = ap (λ r. execute_at t.regs t.pc r (memory_of m m.cursor.pid)) (own_reserved m.cursor (reserved_by m.cursor m.reserved))

  after_owned : (x : Executed) (n : ℕ) (r : Option ℕ) → goes_on x ≡ true
      → record (machine_after m.cursor (owned m.cursor m) x) { steps = n; reserved = reservation_of m.cursor r }
      ≡ record (machine_after m.cursor m x) { steps = n; reserved = reservation_of m.cursor r }
  unfolding stored
  after_owned (Next regs pc) n r e = refl
  after_owned (Stores address width value regs pc) n r e = refl
  after_owned (StoresToConsole offset value regs pc) n r e = absurd (false≢true e)
  after_owned (StoresToTimer offset width value regs pc) n r e = absurd (false≢true e)
  after_owned CallsKernel n r e = absurd (false≢true e)
  after_owned (Traps cause value) n r e = absurd (false≢true e)

  -- a quiet step is the same
  pub owned_steps : is_quiet m ≡ true → step (owned m.cursor m) ≡ step m
  owned_steps quiet =
      let h : IsQuietBy m t = quiet_parts m t at quiet in
      let k : IsQuietBy (owned m.cursor m) t = quiet_parts (owned m.cursor m) t at (owned_quiet ∙ quiet) in
      quiet_step_is (owned m.cursor m) t at k
      ∙ ap (λ (p : Performed). record { machine = record (machine_after m.cursor (owned m.cursor m) p.executed) { steps = m.steps + 1; reserved = reservation_of m.cursor p.reserved }; records = [] }) owned_does
      ∙ ap (λ (x : Machine). record { machine = x; records = [] }) (after_owned (performed m m.cursor t).executed (m.steps + 1) (performed m m.cursor t).reserved (goes_with_timer m t at h))
      ∙ sym (quiet_step_is m t at h)

-- What the thread whose step it is does is what the machine makes of it.
use Rattle.std.proofs.Common.{◌≡◌, ℕ, ◌+◌, ◌<◌, Bool, true, false, List, [], ◌++◌, map, Option, Some, None, refl, sym, ap, ◌∙◌, arith, subst}
use Rattle.std.specs.Prelude.{◌==◌, ◌&&◌, nat_lt, if◌then◌else◌}
use Rattle.std.proofs.lemmas.Bool.Decides.{nat_tests}
use Rattle.std.proofs.lemmas.Option.{same_Some}
use Rattle.machine_laws.proofs.Threading.ThreadStepLemmas.{actor_ready}
use Rattle.machine_model.proofs.Runs.KeptLemmas.{matched_at}
use Rattle.machine_model.specs.Calling.Calls.{call}
use Rattle.machine_model.specs.State.Changes.{Told, call_settled, settled}
use Rattle.machine_model.specs.Ending.Ends.{death, handler_ended, thread_ended}
use Rattle.machine_model.specs.Hart.Instructions.{CallsKernel, Executed, Next, Stores, StoresToConsole, StoresToTimer, Traps}
use Rattle.machine_model.specs.State.Machine.{Machine, Reservation, Thread}
use Rattle.machine_model.specs.Runs.Matched.{Matched}
use Rattle.machine_model.specs.State.Order.{actor, ready_at}
use Rattle.machine_model.specs.Stepping.Step.{acted_if_there, after, console_told, ends_handler, ends_thread, executed, performed, record_of, reservation_left_if_there}
use Rattle.machine_model.specs.State.Threads.{handler_return, thread_return}
use Rattle.machine_model.specs.State.Views.{memory_of, stored, timer_set}
use Rattle.machine_model.specs.Stepping.Reservations.{reservation_of}
use Rattle.rv32_hart.specs.Running.{IfFailed, UnlessFailed, ran_of}
use Rattle.rv32_hart.specs.declared.ran.Ran.{Ran}
use Rattle.rv32_hart.specs.declared.ran.Ran.TheVariants.{Device, Ecall, Failed, Trap}
use Rattle.rv32_hart.specs.declared.ran.Ran.TheVariants as ran
use Rattle.sv32_space.specs.Tie.{Held}
use Rattle.xk_ports.specs.declared.store.SwapStore.{Ghosts as SwapStore}
use Rattle.xk_base.specs.Tables.Circle.{is_thread_id}
use Rattle.xk_base.specs.Calls.Registers.{arguments_of, reg_at}
use Rattle.xk_base.specs.declared.ids.ThreadId.{ThreadId}
use Rattle.xk_base.specs.declared.records.What.{What}
use Rattle.xk_base.specs.declared.records.What.TheVariants.{Call, End, Fault}
use Rattle.xk_kernel.specs.Acting.{IsDone, reservation_by, told_by}
use Rattle.xk_kernel.specs.Calling.{IsCaller}
use Rattle.xk_kernel.specs.Running.{machine_after}
use Rattle.xk_kernel.specs.Sound.{IsUsable, IsWhole}
use Rattle.xk_kernel.specs.State.{machine_of}
use Rattle.xk_kernel.specs.Telling.{Tells}
use Rattle.xk_kernel.specs.declared.kernel.Kernel.{Kernel}

-- the machine with its cursor at that thread
abbrev pub at : ThreadId → Machine → Machine
at who m = record m { cursor = who }

-- ---- the answer of the hart tells which effect was executed

module _ (m : Machine) (who : ThreadId) (t : Thread) where
  pub next_executed : (x : Executed) (pc : ℕ) → ran_of x ≡ ran.Next pc
      → executed (at who m) t x ≡ record { machine = at who (machine_after who m x); told = [] }
  unfolding stored timer_set
  next_executed (Next regs pc) p e = refl
  next_executed (Stores address width value regs pc) p e = refl
  next_executed (StoresToConsole offset value regs pc) p e = cc
  next_executed (StoresToTimer offset width value regs pc) p e = refl
  next_executed CallsKernel p e = cc
  next_executed (Traps cause value) p e = cc

  pub device_executed : (x : Executed) (offset value pc : ℕ) → ran_of x ≡ Device offset value pc
      → executed (at who m) t x ≡ record { machine = at who (machine_after who m x); told = console_told who offset value }
  device_executed (Next regs pc) o v p e = cc
  device_executed (Stores address width value regs pc) o v p e = cc
  device_executed (StoresToConsole offset value regs pc) o v p e =
      (λ i. record { machine = at who (machine_after who m (StoresToConsole offset value regs pc)); told = console_told who (offset_of (e i)) (value_of (e i)) })
    where
      offset_of : Ran → ℕ
      offset_of (Device o v p) = o
      offset_of _ = 0

      value_of : Ran → ℕ
      value_of (Device o v p) = v
      value_of _ = 0
  device_executed (StoresToTimer offset width value regs pc) o v p e = cc
  device_executed CallsKernel o v p e = cc
  device_executed (Traps cause value) o v p e = cc

  -- a trap and a call of the kernel leave the machine so far
  pub trap_executed : (x : Executed) (cause value : ℕ) → ran_of x ≡ Trap cause value
      → (executed (at who m) t x ≡ after (Fault who cause value) (settled (death who.pid (at who m)))) × (machine_after who m x ≡ m)
  trap_executed (Next regs pc) a v e = cc
  trap_executed (Stores address width value regs pc) a v e = cc
  trap_executed (StoresToConsole offset value regs pc) a v e = cc
  trap_executed (StoresToTimer offset width value regs pc) a v e = cc
  trap_executed CallsKernel a v e = cc
  trap_executed (Traps cause value) a v e =
      ((λ i. after (Fault who (cause_of (e i)) (value_of (e i))) (settled (death who.pid (at who m)))), refl)
    where
      cause_of : Ran → ℕ
      cause_of (Trap c v) = c
      cause_of _ = 0

      value_of : Ran → ℕ
      value_of (Trap c v) = v
      value_of _ = 0

  pub call_executed : (x : Executed) → ran_of x ≡ Ecall
      → (executed (at who m) t x ≡ after (Call who (arguments_of t.regs)) (call_settled (at who m) (call (at who m) (arguments_of t.regs))))
      × (machine_after who m x ≡ m)
  call_executed (Next regs pc) e = cc
  call_executed (Stores address width value regs pc) e = cc
  call_executed (StoresToConsole offset value regs pc) e = cc
  call_executed (StoresToTimer offset width value regs pc) e = cc
  call_executed CallsKernel e = (refl, refl)
  call_executed (Traps cause value) e = cc

-- a thread of a machine that stays makes its call with the words that it had
pub words_stay : (m n : Machine) (who : ThreadId) (t u : Thread) → n ≡ m → m.threads who ≡ Some t → n.threads who ≡ Some u
    → arguments_of u.regs ≡ arguments_of t.regs
words_stay m n who t u e was is =
    ap (λ (thread : Thread). arguments_of thread.regs) (same_Some u t (sym is ∙ ap (λ (machine : Machine). machine.threads who) e ∙ was))

-- ---- what the thread does

module _ (m : Machine) (who : ThreadId) (t : Thread) (there : m.threads who ≡ Some t) where
  -- what its instruction comes to
  abbrev pub fetched : Executed
  fetched = (performed m who t).executed

  -- by the tests of its pc, and by what is executed
  abbrev acted_by : Bool → Bool → Executed → Told
  acted_by a b x =
      if a then after (End who) (settled (thread_ended who (reg_at t.regs 10) (at who m))) else (
      if b then after (End who) (settled (handler_ended who.pid (at who m))) else
      executed (at who m) t x)

  told_is : told_by who m ≡ acted_by (ends_thread who t.pc) (ends_handler who t.pc) fetched
  unfolding memory_of
  told_is = ap (acted_if_there (at who m)) there

  pub told_end : ends_thread who t.pc ≡ true → told_by who m ≡ after (End who) (settled (thread_ended who (reg_at t.regs 10) (at who m)))
  told_end e = told_is ∙ ap (λ a. acted_by a (ends_handler who t.pc) fetched) e

  pub told_handler : ends_thread who t.pc ≡ false → ends_handler who t.pc ≡ true → told_by who m ≡ after (End who) (settled (handler_ended who.pid (at who m)))
  told_handler a b = told_is ∙ (λ i. acted_by (a i) (b i) fetched)

  pub told_executed : ends_thread who t.pc ≡ false → ends_handler who t.pc ≡ false → told_by who m ≡ executed (at who m) t fetched
  told_executed a b = told_is ∙ (λ i. acted_by (a i) (b i) fetched)

  -- the reservation that the step leaves, by the tests of its pc
  abbrev left_by : Bool → Bool → Option Reservation
  left_by a b = if a then None else (if b then None else reservation_of who (performed m who t).reserved)

  left_is : reservation_by who m ≡ left_by (ends_thread who t.pc) (ends_handler who t.pc)
  unfolding memory_of
  left_is = ap (reservation_left_if_there (at who m)) there

  pub left_at_end : ends_thread who t.pc ≡ true → reservation_of who None ≡ reservation_by who m
  left_at_end e = sym (left_is ∙ ap (λ a. left_by a (ends_handler who t.pc)) e)

  pub left_at_handler : ends_thread who t.pc ≡ false → ends_handler who t.pc ≡ true → reservation_of who None ≡ reservation_by who m
  left_at_handler a b = sym (left_is ∙ (λ i. left_by (a i) (b i)))

  pub left_executed : ends_thread who t.pc ≡ false → ends_handler who t.pc ≡ false → (reserved : Option ℕ) → reserved ≡ (performed m who t).reserved
      → reservation_of who reserved ≡ reservation_by who m
  left_executed a b reserved e = ap (reservation_of who) e ∙ sym (left_is ∙ (λ i. left_by (a i) (b i)))

-- ---- the kernel tells so

module _ {W : Type 0} (held : W → Held) (old mid new : Kernel W) (who : ThreadId) where
  pub begun_cursor : machine_of held mid ≡ at who (machine_of held old) → mid.cursor ≡ who
  unfolding machine_of
  begun_cursor e = ap (λ (m : Machine). m.cursor) e

  -- what a begun step told
  pub begun_done : (done : ThreadId → Machine → Told) → told_by who (machine_of held old) ≡ done who (at who (machine_of held old))
      → machine_of held mid ≡ at who (machine_of held old) → mid.log ≡ record old.log { step = old.steps + 1; records = [] }
      → Tells held mid new (done mid.cursor (machine_of held mid)) → IsDone held old new (told_by who (machine_of held old))
  begun_done done is machine log tells =
      let same : done mid.cursor (machine_of held mid) ≡ told_by who (machine_of held old) = (λ i. done (begun_cursor machine i) (machine i)) ∙ sym is in
      record {
        machine = tells.machine ∙ ap (λ (t : Told). t.machine) same;
        log =
            tells.log
            ∙ (λ i. record (log i) { records = (log i).records ++ map (record_of (log i).step) (same i).told });
      }

  -- the thread of a begun step is still the interrupt thread
  pub begun_handler : machine_of held mid ≡ at who (machine_of held old) → who.tid.0 ≡ 1 → mid.cursor.tid.0 ≡ 1
  begun_handler begun one = ap (λ (id : ThreadId). id.tid.0) (begun_cursor begun) ∙ one

  -- an instruction counts no step
  pub run_steps : (x : Executed) → machine_of held mid ≡ machine_after who (machine_of held old) x → mid.steps ≡ old.steps
  unfolding machine_of stored timer_set
  run_steps x e = ap (λ (m : Machine). m.steps) e ∙ steps_after x
    where
      steps_after : (x : Executed) → (machine_after who (machine_of held old) x).steps ≡ old.steps
      steps_after (Next regs pc) = refl
      steps_after (Stores address width value regs pc) = refl
      steps_after (StoresToConsole offset value regs pc) = refl
      steps_after (StoresToTimer offset width value regs pc) = refl
      steps_after CallsKernel = refl
      steps_after (Traps cause value) = refl

  -- what an instruction did that goes on, between the run and the step's beginning
  pub run_done : (x : Executed) (told : List What) → told_by who (machine_of held old) ≡ record { machine = at who (machine_after who (machine_of held old) x); told = told }
      → machine_of held mid ≡ machine_after who (machine_of held old) x → mid.log ≡ old.log
      → machine_of held new ≡ at who (machine_of held mid)
      → new.log ≡ record mid.log { step = mid.steps + 1; records = map (record_of (mid.steps + 1)) told }
      → IsDone held old new (told_by who (machine_of held old))
  run_done x told is machine log begun told_log = record {
    machine = begun ∙ ap (at who) machine ∙ sym (ap (λ (t : Told). t.machine) is);
    log =
        told_log
        ∙ (λ i. record (log i) { step = run_steps x machine i + 1; records = map (record_of (run_steps x machine i + 1)) told })
        ∙ sym (ap (λ (t : Told). record old.log { step = old.steps + 1; records = map (record_of (old.steps + 1)) t.told }) is);
  }

  -- the thread of a begun step is Ready
  pub begun_ready : actor (machine_of held old) ≡ Some who → machine_of held mid ≡ at who (machine_of held old) → ready_at (machine_of held mid) mid.cursor ≡ true
  begun_ready acts e = (λ i. ready_at (e i) (begun_cursor e i)) ∙ actor_ready (machine_of held old) who acts

  -- the log of a step that begins after the instruction
  pub begun_log : mid.log ≡ old.log → mid.steps ≡ old.steps → new.log ≡ record mid.log { step = mid.steps + 1; records = [] }
      → new.log ≡ record old.log { step = old.steps + 1; records = [] }
  begun_log log steps begins = begins ∙ (λ i. record (log i) { step = steps i + 1; records = [] })

  -- a thread that calls the kernel over known bytes makes the machine's call
  pub call_known : (t : Thread) (there : (machine_of held old).threads who ≡ Some t) → ends_thread who t.pc ≡ false → ends_handler who t.pc ≡ false
      → machine_of held mid ≡ machine_after who (machine_of held old) (fetched (machine_of held old) who t there)
      → ran_of (fetched (machine_of held old) who t there) ≡ Ecall → machine_of held new ≡ at who (machine_of held mid)
      → (u : Thread) → (machine_of held mid).threads who ≡ Some u → (words : List ℕ) → words ≡ arguments_of u.regs
      → (told_by who (machine_of held old)
      ≡ after (Call who words) (call_settled (at who (machine_of held old)) (call (at who (machine_of held old)) words)))
      × (machine_of held new ≡ at who (machine_of held old))
  call_known t there goes_on none machine answered begun u is words said =
      let m : Machine = machine_of held old in
      let x : Executed = fetched m who t there in
      let called : (executed (at who m) t x ≡ after (Call who (arguments_of t.regs)) (call_settled (at who m) (call (at who m) (arguments_of t.regs))))
      × (machine_after who m x ≡ m) =
      call_executed m who t x answered in
      let left : machine_of held mid ≡ m = machine ∙ called.1 in
      let same : words ≡ arguments_of t.regs = said ∙ words_stay m (machine_of held mid) who t u left there is in (
        told_executed m who t there goes_on none ∙ called.0
            ∙ ap (λ w. after (Call who w) (call_settled (at who m) (call (at who m) w))) (sym same),
        begun ∙ ap (at who) left,
      )

-- ---- by the answer of the hart

pub unless_at : (Fact : Type 0) (answer a : Ran) → answer ≡ a → UnlessFailed answer Fact → UnlessFailed a Fact
unless_at Fact answer a e h = subst (λ r. UnlessFailed r Fact) e h

pub if_failed_at : (Fact : Type 0) (answer : Ran) → answer ≡ Failed → IfFailed answer Fact → Fact
if_failed_at Fact answer e h = subst (λ r. IfFailed r Fact) e h

-- a thread that stands where threads end is above tid 1
pub above_one : (tid pc : ℕ) → (nat_lt 1 tid && (pc == thread_return)) ≡ true → 1 < tid
above_one tid pc e = grind (arith, nat_tests)

-- a thread that stands where handlers end is tid 1
pub at_one : (tid pc : ℕ) → ((tid == 1) && (pc == handler_return)) ≡ true → tid ≡ 1
at_one tid pc e = grind (arith, nat_tests)

-- the thread that acts is one of the processes'
pub actor_known : (m : Machine) (who : ThreadId) (t : Thread) → Matched m → m.threads who ≡ Some t → is_thread_id m.processes who ≡ true
actor_known m who t h there = h.body.ids.known who t there

-- .. and can make a call
pub begun_caller : {W : Type 0} (S : SwapStore W) (old mid new : Kernel W) (who : ThreadId) → IsWhole S mid → IsUsable mid
    → Matched (machine_of S.held old) → old.steps < 4000000000 → actor (machine_of S.held old) ≡ Some who
    → machine_of S.held mid ≡ at who (machine_of S.held old) → IsCaller S mid
unfolding machine_of
begun_caller S old mid new who whole usable h few acts begun = record {
  whole = whole;
  usable = usable;
  matched = subst Matched (sym begun) (matched_at who (machine_of S.held old) h);
  few = subst (λ s. s < 4000000000) (sym (ap (λ (m : Machine). m.steps) begun)) few;
  ready = begun_ready S.held old mid new who acts begun;
}

-- .. and so it can where its instruction left the machine matched and the thread as ready
pub begun_calls : {W : Type 0} (S : SwapStore W) (old mid new : Kernel W) (who : ThreadId) → IsWhole S new → IsUsable new
    → Matched (machine_of S.held mid) → ready_at (machine_of S.held mid) who ≡ true → mid.steps ≡ old.steps → old.steps < 4000000000
    → machine_of S.held new ≡ at who (machine_of S.held mid) → IsCaller S new
unfolding machine_of
begun_calls S old mid new who whole usable h ready steps few begun = record {
  whole = whole;
  usable = usable;
  matched = subst Matched (sym begun) (matched_at who (machine_of S.held mid) h);
  few = subst (λ s. s < 4000000000) (sym (ap (λ (m : Machine). m.steps) begun ∙ steps)) few;
  ready = (λ i. ready_at (begun i) ((begun i).cursor)) ∙ ready;
}

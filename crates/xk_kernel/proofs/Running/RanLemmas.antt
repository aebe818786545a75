-- What running an instruction leaves over any bytes: the machine stays matched, and its thread is as ready as before.
use Rattle.xk_ports.specs.declared.store.SwapStore.{Ghosts as SwapStore}
use Rattle.std.proofs.Common.{◌≡◌, ℕ, ◌%◌, Bool, true, false, Option, Some, None, refl, sym, ap, subst, ◌∙◌, arith, inl, inr}
use Rattle.std.specs.Prelude.{IsTrue, is_some}
use Rattle.std.specs.Option.{option_map, option_map_or}
use Rattle.std.proofs.lemmas.Bool.{false≢true}
use Rattle.machine_laws.proofs.Threading.ChangedThreadLemmas.{like_changed}
use Rattle.machine_laws.proofs.Threading.LikeThreadLemmas.{matched_with}
use Rattle.machine_laws.proofs.Threading.ThreadMoveLemmas.{matched_claimed}
use Rattle.machine_model.specs.Runs.Matched.{IsTimerMatched, Matched}
use Rattle.machine_model.specs.State.Machine.{Claim, Machine, Thread}
use Rattle.machine_model.specs.State.Order.{is_ready, ready_at}
use Rattle.machine_model.specs.State.Threads.{put_thread, with_registers}
use Rattle.machine_model.specs.Stepping.Interrupts.{is_claim_of}
use Rattle.rv32_hart.specs.Running.{GoesOnAligned, IfFailed, UnlessFailed}
use Rattle.rv32_hart.specs.declared.ran.Ran.{Ran}
use Rattle.rv32_hart.specs.declared.ran.Ran.TheVariants.{Device, Ecall, Failed, Trap}
use Rattle.rv32_hart.specs.declared.ran.Ran.TheVariants as ran
use Rattle.xk_parts.specs.Shown.{thread_of}
use Rattle.thread_table.specs.Shown.{threads_of}
use Rattle.thread_table.specs.declared.table.Threads.{Threads}
use Rattle.thread_table.specs.declared.thread.Thread.{Thread as TableThread}
use Rattle.vm_memory.specs.Bytes.{none_out}
use Rattle.vm_memory.specs.Memory.{IsUsable, has_failed}
use Rattle.vm_memory.specs.Sound.{IsSound}
use Rattle.vm_memory.specs.Using.UserView.{KeepsRest}
use Rattle.vm_memory.specs.declared.memory.Memory.{Memory}
use Rattle.xk_base.specs.Tables.Circle.{same_thread}
use Rattle.xk_base.specs.Tables.Counting.{put_at}
use Rattle.xk_base.specs.declared.ids.Pid.{Pid}
use Rattle.xk_base.specs.declared.ids.ThreadId.{ThreadId}
use Rattle.xk_base.specs.declared.limits.TheConstants.{TIMER_INTERRUPT}
use Rattle.machine_model.specs.Runs.Isolation.{without_bytes}
use Rattle.xk_kernel.specs.Sound.{IsWhole}
use Rattle.xk_kernel.specs.State.{machine_of}
use Rattle.xk_kernel.specs.declared.kernel.Kernel.{Kernel}
use Rattle.xk_kernel.proofs.Acting.ThreadLemmas.{change_there, machine_put, put_there, thread_found}
use Rattle.xk_kernel.proofs.Memory.KnownLemmas.{matched_alike}
use Rattle.xk_kernel.proofs.Memory.MemoryPartLemmas.{memory_machine, with_memory}
use Rattle.xk_kernel.proofs.Memory.TimerViewLemmas.{has_timer}
use Rattle.xk_kernel.proofs.Running.RunLemmas.{GoesOn, with_both}

-- who has claimed it is there
claim_is_there : (pid : Pid) (o : Option Claim) → is_claim_of pid o ≡ true → is_some o ≡ true
claim_is_there pid None e = absurd (false≢true e)
claim_is_there pid (Some claim) e = refl

abbrev ready_if : Option Thread → Bool
ready_if o = option_map_or (λ (t : Thread). is_ready t.state) o false

module _ {W : Type 0} (S : SwapStore W)
    (k : Kernel W) (mem : Memory W) (who : ThreadId) (matched : Matched (machine_of S.held k))
    (rest : KeepsRest S who.pid k.mem mem) where
  alike_memory : without_bytes (machine_of S.held (with_memory mem k)) ≡ without_bytes (machine_of S.held k)
  unfolding machine_of
  alike_memory = ap without_bytes (memory_machine S.held k mem rest.sizes) ∙ (λ i. record (machine_of S.held k) { ledger = rest.rights i })

  pub matched_memory : Matched (machine_of S.held (with_memory mem k))
  matched_memory = matched_alike (machine_of S.held (with_memory mem k)) (machine_of S.held k) alike_memory matched

  -- with the timer that the instruction leaves
  module _ (on : Bool) (timer : Option ℕ) (claimed : on ≡ has_timer (machine_of S.held k) who.pid) (unseen : on ≡ false → timer ≡ k.timer) where
    timer_claimed : IsTimerMatched timer (machine_of S.held k).claims
    unfolding machine_of
    timer_claimed armed = go on refl
      where
        go : (b : Bool) → on ≡ b → IsTrue (is_some ((machine_of S.held k).claims TIMER_INTERRUPT))
        go true e = claim_is_there who.pid ((machine_of S.held k).claims TIMER_INTERRUPT) (sym claimed ∙ e)
        go false e = matched.rest.timer (sym (ap is_some (unseen e)) ∙ armed)

    matched_left : Matched (machine_of S.held (with_both mem timer k))
    unfolding machine_of
    matched_left =
        matched_claimed (machine_of S.held (with_memory mem k)) matched_memory (machine_of S.held k).claims (machine_of S.held k).pending timer
        (record { handlers = matched.rest.handlers; claims = matched_memory.rest.claims; timer = timer_claimed })

    -- .. and the thread, whose state stays
    module _ (t new : TableThread) (found : threads_of k.threads who ≡ Some t) (table : Threads)
        (is : threads_of table ≡ put_at same_thread (threads_of k.threads) who (Some new)) (state : new.state ≡ t.state) where
      abbrev after_run : Kernel W
      after_run = record (with_both mem timer k) { threads = table }

      there : (machine_of S.held (with_both mem timer k)).threads who ≡ Some (thread_of t)
      there = thread_found S.held (with_both mem timer k) who t found

      pub ran_machine : machine_of S.held after_run ≡ put_thread who (Some (thread_of new)) (machine_of S.held (with_both mem timer k))
      ran_machine = machine_put S.held (with_both mem timer k) table who (Some new) is

      pub ran_matched : new.pc % 4 ≡ 0 → Matched (machine_of S.held after_run)
      ran_matched aligned =
          let m = machine_of S.held (with_both mem timer k) in
          let f = with_registers new.regs new.pc in
          let changed : machine_of S.held after_run ≡ put_thread who (Some (f (thread_of t))) m =
          ran_machine ∙ (λ i. put_thread who (Some (thread_of (record new { state = state i }))) m) in
          subst Matched (sym (changed ∙ change_there m who f (thread_of t) there))
          (matched_with (put_at same_thread m.threads who (option_map f (m.threads who))) m
          (like_changed m who f matched_left (λ u e. record { state = refl; pc = aligned })) matched_left m.cursor m.steps (omega arith))

      pub ran_ready : ready_at (machine_of S.held after_run) who ≡ ready_at (machine_of S.held k) who
      ran_ready =
          ap (λ (m : Machine). ready_at m who) ran_machine
          ∙ ap ready_if (put_there (machine_of S.held (with_both mem timer k)) who (Some (thread_of new)))
          ∙ (λ i. ready_if (Some (thread_of (record new { state = state i }))))
          ∙ sym (ap ready_if (thread_found S.held k who t found))

-- ---- a memory that failed

failed_of : (b : Bool) → (b ≡ false → ⊥) → b ≡ true
failed_of true h = refl
failed_of false h = absurd (h refl)

not_true : (b : Bool) → (b ≡ true → ⊥) → b ≡ false
not_true true h = absurd (h refl)
not_true false h = refl

module _ {W : Type 0} (S : SwapStore W)
    (k : Kernel W) (mem : Memory W) (pid : Pid) (whole : IsWhole S k) (usable : IsUsable k.mem)
    (rest : KeepsRest S pid k.mem mem) where
  pub has_failed_now : (answer : Ran) → IfFailed answer (¬ (IsSound S.slot_count mem × IsUsable mem)) → IfFailed answer (has_failed mem ≡ true)
  has_failed_now (ran.Next next) unfit = tt
  has_failed_now (Device offset value next) unfit = tt
  has_failed_now Ecall unfit = tt
  has_failed_now (Trap cause value) unfit = tt
  has_failed_now Failed unfit = failed_of mem.failed (λ e. unfit (rest.sound whole.mem, e))

  pub was_out : (answer : Ran) → IfFailed answer (¬ (IsSound S.slot_count mem × IsUsable mem)) → IfFailed answer (none_out k.mem ≡ false)
  was_out (ran.Next next) unfit = tt
  was_out (Device offset value next) unfit = tt
  was_out Ecall unfit = tt
  was_out (Trap cause value) unfit = tt
  was_out Failed unfit = not_true (none_out k.mem) (λ none. unfit (rest.sound whole.mem, rest.out none usable))

-- what is fit is usable
pub usable_unless : {W : Type 0} (slot_count : W → ℕ) (mem : Memory W) (answer : Ran) → UnlessFailed answer (IsSound slot_count mem × IsUsable mem)
    → UnlessFailed answer (IsUsable mem)
usable_unless slot_count mem (ran.Next next) fit = fit.1
usable_unless slot_count mem (Device offset value next) fit = fit.1
usable_unless slot_count mem Ecall fit = fit.1
usable_unless slot_count mem (Trap cause value) fit = fit.1
usable_unless slot_count mem Failed fit = tt

-- ---- a fact of each answer but a failure

pub unless_failed : (answer : Ran) (Fact : Type 0) → ((answer ≡ Failed → ⊥) → Fact) → UnlessFailed answer Fact
unless_failed (ran.Next next) Fact h = h (λ e. cc)
unless_failed (Device offset value next) Fact h = h (λ e. cc)
unless_failed Ecall Fact h = h (λ e. cc)
unless_failed (Trap cause value) Fact h = h (λ e. cc)
unless_failed Failed Fact h = tt

-- a thread that goes on has its pc at an instruction
pub goes_aligned : (answer : Ran) (next : ℕ) → GoesOn answer next → GoesOnAligned answer → next % 4 ≡ 0
goes_aligned answer next (inl e) h = subst GoesOnAligned e h
goes_aligned answer next (inr e) h = subst GoesOnAligned e.2 h

-- What running the instruction of a thread leaves: over known bytes what the machine performs, and over any bytes a matched machine.
use Rattle.std.proofs.Common.{◌≡◌, ℕ, ◌%◌, true, false, Option, Some, refl, sym, ap, subst, ◌∙◌}
use Rattle.machine_model.specs.Runs.Matched.{Matched}
use Rattle.machine_model.specs.State.Machine.{Thread as ModelThread}
use Rattle.machine_model.specs.State.Order.{ready_at}
use Rattle.machine_model.specs.Stepping.Reservations.{reserved_by}
use Rattle.machine_model.specs.State.Threads.{put_thread}
use Rattle.machine_model.specs.State.Views.{memory_of}
use Rattle.rv32_atomics.specs.Performing.{Core}
use Rattle.rv32_hart.specs.Running.{IfFailed, UnlessFailed}
use Rattle.thread_table.specs.Lending.{with_thread}
use Rattle.thread_table.specs.declared.thread.Thread.{Thread}
use Rattle.vm_memory.proofs.Using.UserKeepLemmas.{rest_same}
use Rattle.vm_memory.specs.Bytes.{MeansBytesOver, none_out}
use Rattle.vm_memory.specs.Memory.{IsUsable, has_failed, store_of}
use Rattle.xk_base.specs.Outside.{Rose}
use Rattle.xk_kernel.specs.Running.{RunsKnown, RunsSome}
use Rattle.xk_kernel.specs.Sound.{IsWhole, Keeps}
use Rattle.xk_parts.specs.Shown.{thread_of}
use Rattle.xk_kernel.specs.State.{machine_of}
use Rattle.xk_kernel.proofs.Acting.ThreadLemmas.{in_table, machine_put, put_same, thread_found}
use Rattle.xk_kernel.proofs.Memory.MemoryPartLemmas.{keeps_with, with_memory}
use Rattle.xk_kernel.proofs.Memory.TimerViewLemmas.{timed_seen}
use Rattle.xk_kernel.proofs.Running.RanLemmas.{goes_aligned, has_failed_now, ran_matched, ran_ready, unless_failed, usable_unless, was_out}
use Rattle.xk_kernel.proofs.Running.RunLemmas.{HasRun, given_back, has_run, machine_goes_on, machine_stays, of_thread, registers_stay, whole_lent, whole_ran, with_both}
use Rattle.xk_kernel.proofs.Running.SomeLemmas.{HasRunSome, some_goes_on, some_run, some_stays}
use Rattle.xk_kernel.proofs.kernel.Kernel.run.Goals as goal

-- src/kernel/running.rt
pub thread_mut-thread-requires : goal.thread_mut-thread-requires
thread_mut-thread-requires g c = in_table g.W.SwapStore.held c.args.self.now c.args.who c.requires.there

pub run_over-user-requires-clause-aligned : goal.run_over-user-requires-clause-aligned
run_over-user-requires-clause-aligned g c = c.requires.aligned (thread_of c.thread_mut-thread.result.now) (thread_found g.W.SwapStore.held c.args.self.now c.args.who c.thread_mut-thread.result.now c.thread_mut-thread.ensures.value)

pub run_over-user-requires-clause-same : goal.run_over-user-requires-clause-same
run_over-user-requires-clause-same g c = (refl, refl, rest_same g.W.SwapStore c.args.who.pid c.args.self.now.mem)

pub returns-in-Ecall-clause-leaves : goal.returns-in-Ecall-clause-leaves
returns-in-Ecall-clause-leaves g c =
    let back : c.self-1.given.0 ≡ c.run_over-user.result.mem.now = given_back _ _ _ c.self-1.given c.run_over-user.ensures.rest.0 in
    let kept : Keeps g.W.SwapStore c.args.self.now (with_memory c.self-1.given.0 c.args.self.now) =
    subst (λ mem. Keeps g.W.SwapStore c.args.self.now (with_memory mem c.args.self.now)) (sym back) (keeps_with g.W.SwapStore c.args.self.now c.run_over-user.result.mem.now c.requires.whole c.args.who.pid c.run_over-user.ensures.rest.2) in
    record {
      whole = subst (λ mem. IsWhole g.W.SwapStore (record (with_both mem c.run_over-user.new.timer c.args.self.now) { threads = with_thread c.args.self.now.threads c.args.who c.run_over-user.new.thread })) (sym back)
          (whole_lent g.W.SwapStore (with_both c.run_over-user.result.mem.now c.run_over-user.new.timer c.args.self.now)
          (with_thread c.args.self.now.threads c.args.who c.run_over-user.new.thread) (c.thread_mut-thread.ensures.count _)
          (whole_ran g.W.SwapStore c.args.self.now c.run_over-user.result.mem.now c.run_over-user.new.timer c.requires.whole c.args.who.pid c.run_over-user.ensures.rest.2));
      usable = subst (λ mem. UnlessFailed c.run_over-user.new.ran (IsUsable mem)) (sym back)
          (usable_unless g.W.SwapStore.slot_count c.run_over-user.result.mem.now c.run_over-user.new.ran c.run_over-user.ensures.fit);
      keeps = record { size = kept.size; store = kept.store; room = kept.room };
      failed = subst (λ mem. IfFailed c.run_over-user.new.ran (has_failed mem ≡ true)) (sym back)
          (has_failed_now g.W.SwapStore c.args.self.now c.run_over-user.result.mem.now c.args.who.pid c.requires.whole c.requires.usable c.run_over-user.ensures.rest.2 c.run_over-user.new.ran c.run_over-user.ensures.unfit);
      cause = subst (λ mem. IfFailed c.run_over-user.new.ran (Rose (g.W.SwapStore.faults (store_of c.args.self.now.mem)) (g.W.SwapStore.faults (store_of mem)))) (sym back)
          (c.run_over-user.ensures.cause);
      out = was_out g.W.SwapStore c.args.self.now c.run_over-user.result.mem.now c.args.who.pid c.requires.whole c.requires.usable c.run_over-user.ensures.rest.2 c.run_over-user.new.ran c.run_over-user.ensures.unfit;
      none = λ none. subst (λ mem. none_out mem ≡ true) (sym back) (c.run_over-user.ensures.rest.2.none none);
      matched = subst (λ mem. Matched (machine_of g.W.SwapStore.held (record (with_both mem c.run_over-user.new.timer c.args.self.now) { threads = with_thread c.args.self.now.threads c.args.who c.run_over-user.new.thread }))) (sym back)
          (ran_matched g.W.SwapStore c.args.self.now c.run_over-user.result.mem.now c.args.who c.requires.matched c.run_over-user.ensures.rest.2 c.has_timer-on.result c.run_over-user.new.timer c.has_timer-on.ensures c.run_over-user.ensures.timer c.thread_mut-thread.result.now
          c.run_over-user.new.thread c.thread_mut-thread.ensures.value _ (c.thread_mut-thread.ensures.writes _) (ap (λ (thread : Thread). thread.state) c.run_over-user.ensures.thread)
          (subst (λ (thread : Thread). thread.pc % 4 ≡ 0) (sym c.run_over-user.ensures.thread) (c.requires.aligned (thread_of c.thread_mut-thread.result.now) (thread_found g.W.SwapStore.held c.args.self.now c.args.who c.thread_mut-thread.result.now c.thread_mut-thread.ensures.value))));
      ready = subst (λ mem. ready_at (machine_of g.W.SwapStore.held (record (with_both mem c.run_over-user.new.timer c.args.self.now) { threads = with_thread c.args.self.now.threads c.args.who c.run_over-user.new.thread })) c.args.who ≡ ready_at (machine_of g.W.SwapStore.held c.args.self.now) c.args.who) (sym back)
          (ran_ready g.W.SwapStore c.args.self.now c.run_over-user.result.mem.now c.args.who c.requires.matched c.run_over-user.ensures.rest.2 c.has_timer-on.result c.run_over-user.new.timer c.has_timer-on.ensures c.run_over-user.ensures.timer c.thread_mut-thread.result.now
          c.run_over-user.new.thread c.thread_mut-thread.ensures.value _ (c.thread_mut-thread.ensures.writes _) (ap (λ (thread : Thread). thread.state) c.run_over-user.ensures.thread));
      steps = refl;
      log = refl;
    }

pub returns-in-Ecall-clause-performs : goal.returns-in-Ecall-clause-performs
returns-in-Ecall-clause-performs g c =
    let back : c.self-1.given.0 ≡ c.run_over-user.result.mem.now = given_back _ _ _ c.self-1.given c.run_over-user.ensures.rest.0 in
    λ known.
    unless_failed c.run_over-user.new.ran _ (λ done.
    let over : MeansBytesOver g.W.SwapStore c.args.self.now.mem c.run_over-user.result.mem.now = subst (λ mem. MeansBytesOver g.W.SwapStore c.args.self.now.mem mem) back known in
    let run : HasRun g.W.SwapStore.held c.args.self.now c.run_over-user.result.mem.now c.run_over-user.new.timer c.args.who.pid
    (memory_of (machine_of g.W.SwapStore.held c.args.self.now) c.args.who.pid)
    (record {
      regs = c.thread_mut-thread.result.now.regs;
      reserved = reserved_by c.args.who
          (machine_of g.W.SwapStore.held c.args.self.now).reserved;
    })
    (record {
      regs = c.run_over-user.new.thread.regs;
      reserved = c.run_over-user.new.reserved;
    }) c.thread_mut-thread.result.now.pc c.run_over-user.new.ran =
    has_run g.W.SwapStore
    c.args.self.now c.run_over-user.result.mem.now c.args.who.pid c.run_over-user.result.pid c.run_over-user.ensures.rest.1 c.requires.whole c.run_over-user.ensures.rest.2 over
    c.has_timer-on.result c.run_over-user.new.timer (memory_of (machine_of g.W.SwapStore.held c.args.self.now) c.args.who.pid)
    (timed_seen g.W.SwapStore.held c.args.self.now c.args.who.pid c.has_timer-on.result c.has_timer-on.ensures c.requires.matched) c.run_over-user.ensures.timer
    (record { regs = c.thread_mut-thread.result.now.regs; reserved = c.args.reserved.now }) (record { regs = c.run_over-user.new.thread.regs; reserved = c.run_over-user.new.reserved })
    (record { regs = c.thread_mut-thread.result.now.regs; reserved = reserved_by c.args.who (machine_of g.W.SwapStore.held c.args.self.now).reserved }) c.thread_mut-thread.result.now.pc c.run_over-user.new.ran
    (ap (λ (reserved : Option ℕ). record { regs = c.thread_mut-thread.result.now.regs; reserved = reserved }) c.requires.reserved) c.run_over-user.ensures.performs done in
    of_thread ((machine_of g.W.SwapStore.held c.args.self.now).threads c.args.who) (thread_of c.thread_mut-thread.result.now) (thread_found g.W.SwapStore.held c.args.self.now c.args.who c.thread_mut-thread.result.now c.thread_mut-thread.ensures.value)
    (λ t. RunsKnown (machine_of g.W.SwapStore.held c.args.self.now)
    (machine_of g.W.SwapStore.held (record (with_both c.self-1.given.0 c.run_over-user.new.timer c.args.self.now) { threads = with_thread c.args.self.now.threads c.args.who c.run_over-user.new.thread }))
    c.args.who t c.run_over-user.new.reserved c.run_over-user.new.ran)
    (record {
      answered = run.answered;
      machine = ((λ i. machine_of g.W.SwapStore.held (record (with_both (back i) c.run_over-user.new.timer c.args.self.now) { threads = with_thread c.args.self.now.threads c.args.who (c.run_over-user.ensures.thread i) }))
          ∙ machine_put g.W.SwapStore.held (with_both c.run_over-user.result.mem.now c.run_over-user.new.timer c.args.self.now) _ c.args.who _ (c.thread_mut-thread.ensures.writes _)
          ∙ ap (λ regs. put_thread c.args.who (Some (record (thread_of c.thread_mut-thread.result.now) { regs = regs })) (machine_of g.W.SwapStore.held (with_both c.run_over-user.result.mem.now c.run_over-user.new.timer c.args.self.now)))
          (registers_stay c.run_over-user.new.ran c.thread_mut-thread.result.now.regs c.run_over-user.new.thread.regs c.in-Ecall.is c.run_over-user.ensures.leaves)
          ∙ put_same (machine_of g.W.SwapStore.held (with_both c.run_over-user.result.mem.now c.run_over-user.new.timer c.args.self.now)) c.args.who (thread_of c.thread_mut-thread.result.now) (thread_found g.W.SwapStore.held (with_both c.run_over-user.result.mem.now c.run_over-user.new.timer c.args.self.now) c.args.who c.thread_mut-thread.result.now c.thread_mut-thread.ensures.value)
          ∙ machine_stays g.W.SwapStore.held c.args.self.now c.run_over-user.result.mem.now c.run_over-user.new.timer c.args.who
          (record {
            regs = c.thread_mut-thread.result.now.regs;
            reserved = reserved_by c.args.who
                (machine_of g.W.SwapStore.held c.args.self.now).reserved;
          })
          (record {
            regs = c.run_over-user.new.thread.regs;
            reserved = c.run_over-user.new.reserved;
          }) c.thread_mut-thread.result.now.pc c.run_over-user.new.ran run c.in-Ecall.is);
      reserved = run.reserved;
    }))

pub returns-in-Ecall-clause-some : goal.returns-in-Ecall-clause-some
returns-in-Ecall-clause-some g c =
    let held = g.W.SwapStore.held in
    let old = c.args.self.now in
    let who = c.args.who in
    let mem = c.run_over-user.result.mem.now in
    let timer = c.run_over-user.new.timer in
    let t : ModelThread = thread_of c.thread_mut-thread.result.now in
    let found = thread_found held old who c.thread_mut-thread.result.now c.thread_mut-thread.ensures.value in
    let new : Core = record { regs = c.run_over-user.new.thread.regs; reserved = c.run_over-user.new.reserved } in
    let back : c.self-1.given.0 ≡ mem = given_back _ _ _ c.self-1.given c.run_over-user.ensures.rest.0 in
    unless_failed c.run_over-user.new.ran _ (λ done.
    let run : HasRunSome held old mem timer who.pid (record { regs = t.regs; reserved = reserved_by who (machine_of held old).reserved }) new t.pc c.run_over-user.new.ran =
    some_run g.W.SwapStore old mem who.pid c.run_over-user.result.pid c.run_over-user.ensures.rest.2 c.has_timer-on.result timer c.has_timer-on.ensures c.run_over-user.ensures.timer c.requires.matched
    (record { regs = t.regs; reserved = c.args.reserved.now }) new (record { regs = t.regs; reserved = reserved_by who (machine_of held old).reserved }) t.pc c.run_over-user.new.ran
    (ap (λ (reserved : Option ℕ). record { regs = t.regs; reserved = reserved }) c.requires.reserved) c.run_over-user.ensures.performs done in
    of_thread ((machine_of held old).threads who) t found
    (λ u. RunsSome (machine_of held old) (machine_of held (record (with_both c.self-1.given.0 timer old) { threads = with_thread old.threads who c.run_over-user.new.thread })) who u new.reserved c.run_over-user.new.ran)
    (some_stays held old mem timer who t new c.run_over-user.new.ran run
    (machine_of held (record (with_both c.self-1.given.0 timer old) { threads = with_thread old.threads who c.run_over-user.new.thread }))
    ((λ i. machine_of held (record (with_both (back i) timer old) { threads = with_thread old.threads who (c.run_over-user.ensures.thread i) }))
    ∙ machine_put held (with_both mem timer old) _ who _ (c.thread_mut-thread.ensures.writes _)
    ∙ ap (λ regs. put_thread who (Some (record t { regs = regs })) (machine_of held (with_both mem timer old)))
    (registers_stay c.run_over-user.new.ran t.regs c.run_over-user.new.thread.regs c.in-Ecall.is c.run_over-user.ensures.leaves)
    ∙ put_same (machine_of held (with_both mem timer old)) who t (thread_found held (with_both mem timer old) who c.thread_mut-thread.result.now c.thread_mut-thread.ensures.value))
    c.in-Ecall.is))

pub returns-in-Next-clause-leaves : goal.returns-in-Next-clause-leaves
returns-in-Next-clause-leaves g c =
    let back : c.self-1.given.0 ≡ c.run_over-user.result.mem.now = given_back _ _ _ c.self-1.given c.run_over-user.ensures.rest.0 in
    let kept : Keeps g.W.SwapStore c.args.self.now (with_memory c.self-1.given.0 c.args.self.now) =
    subst (λ mem. Keeps g.W.SwapStore c.args.self.now (with_memory mem c.args.self.now)) (sym back) (keeps_with g.W.SwapStore c.args.self.now c.run_over-user.result.mem.now c.requires.whole c.args.who.pid c.run_over-user.ensures.rest.2) in
    record {
      whole = subst (λ mem. IsWhole g.W.SwapStore (record (with_both mem c.run_over-user.new.timer c.args.self.now) { threads = with_thread c.args.self.now.threads c.args.who (record { pc = c.in-Next.next; regs = c.run_over-user.new.thread.regs; state = c.run_over-user.new.thread.state }) })) (sym back)
          (whole_lent g.W.SwapStore (with_both c.run_over-user.result.mem.now c.run_over-user.new.timer c.args.self.now)
          (with_thread c.args.self.now.threads c.args.who
          (record { pc = c.in-Next.next; regs = c.run_over-user.new.thread.regs; state = c.run_over-user.new.thread.state })) (c.thread_mut-thread.ensures.count _)
          (whole_ran g.W.SwapStore c.args.self.now c.run_over-user.result.mem.now c.run_over-user.new.timer c.requires.whole c.args.who.pid c.run_over-user.ensures.rest.2));
      usable = subst (λ mem. UnlessFailed c.in-Next.ran (IsUsable mem)) (sym back)
          (subst (λ a. UnlessFailed a (IsUsable c.run_over-user.result.mem.now)) (sym c.in-Next.ran-is)
          (usable_unless g.W.SwapStore.slot_count c.run_over-user.result.mem.now c.run_over-user.new.ran c.run_over-user.ensures.fit));
      keeps = record { size = kept.size; store = kept.store; room = kept.room };
      failed = subst (λ mem. IfFailed c.in-Next.ran (has_failed mem ≡ true)) (sym back)
          (subst (λ a. IfFailed a (has_failed c.run_over-user.result.mem.now ≡ true)) (sym c.in-Next.ran-is)
          (has_failed_now g.W.SwapStore c.args.self.now c.run_over-user.result.mem.now c.args.who.pid c.requires.whole c.requires.usable c.run_over-user.ensures.rest.2 c.run_over-user.new.ran c.run_over-user.ensures.unfit));
      cause = subst (λ mem. IfFailed c.in-Next.ran (Rose (g.W.SwapStore.faults (store_of c.args.self.now.mem)) (g.W.SwapStore.faults (store_of mem)))) (sym back)
          (subst (λ a. IfFailed a (Rose (g.W.SwapStore.faults (store_of c.args.self.now.mem)) (g.W.SwapStore.faults (store_of c.run_over-user.result.mem.now)))) (sym c.in-Next.ran-is)
          (c.run_over-user.ensures.cause));
      out = subst (λ a. IfFailed a (none_out c.args.self.now.mem ≡ false)) (sym c.in-Next.ran-is)
          (was_out g.W.SwapStore c.args.self.now c.run_over-user.result.mem.now c.args.who.pid c.requires.whole c.requires.usable c.run_over-user.ensures.rest.2 c.run_over-user.new.ran c.run_over-user.ensures.unfit);
      none = λ none. subst (λ mem. none_out mem ≡ true) (sym back) (c.run_over-user.ensures.rest.2.none none);
      matched = subst (λ mem. Matched (machine_of g.W.SwapStore.held (record (with_both mem c.run_over-user.new.timer c.args.self.now) { threads = with_thread c.args.self.now.threads c.args.who (record { pc = c.in-Next.next; regs = c.run_over-user.new.thread.regs; state = c.run_over-user.new.thread.state }) }))) (sym back)
          (ran_matched g.W.SwapStore c.args.self.now c.run_over-user.result.mem.now c.args.who c.requires.matched c.run_over-user.ensures.rest.2 c.has_timer-on.result c.run_over-user.new.timer c.has_timer-on.ensures c.run_over-user.ensures.timer c.thread_mut-thread.result.now
          (record { pc = c.in-Next.next; regs = c.run_over-user.new.thread.regs; state = c.run_over-user.new.thread.state }) c.thread_mut-thread.ensures.value _ (c.thread_mut-thread.ensures.writes _) (ap (λ (thread : Thread). thread.state) c.run_over-user.ensures.thread)
          (goes_aligned c.run_over-user.new.ran c.in-Next.next c.in-Next.is c.run_over-user.ensures.aligned));
      ready = subst (λ mem. ready_at (machine_of g.W.SwapStore.held (record (with_both mem c.run_over-user.new.timer c.args.self.now) { threads = with_thread c.args.self.now.threads c.args.who (record { pc = c.in-Next.next; regs = c.run_over-user.new.thread.regs; state = c.run_over-user.new.thread.state }) })) c.args.who ≡ ready_at (machine_of g.W.SwapStore.held c.args.self.now) c.args.who) (sym back)
          (ran_ready g.W.SwapStore c.args.self.now c.run_over-user.result.mem.now c.args.who c.requires.matched c.run_over-user.ensures.rest.2 c.has_timer-on.result c.run_over-user.new.timer c.has_timer-on.ensures c.run_over-user.ensures.timer c.thread_mut-thread.result.now
          (record { pc = c.in-Next.next; regs = c.run_over-user.new.thread.regs; state = c.run_over-user.new.thread.state }) c.thread_mut-thread.ensures.value _ (c.thread_mut-thread.ensures.writes _) (ap (λ (thread : Thread). thread.state) c.run_over-user.ensures.thread));
      steps = refl;
      log = refl;
    }

pub returns-in-Next-clause-performs : goal.returns-in-Next-clause-performs
returns-in-Next-clause-performs g c =
    let back : c.self-1.given.0 ≡ c.run_over-user.result.mem.now = given_back _ _ _ c.self-1.given c.run_over-user.ensures.rest.0 in
    λ known.
    unless_failed c.in-Next.ran _ (λ done.
    let over : MeansBytesOver g.W.SwapStore c.args.self.now.mem c.run_over-user.result.mem.now = subst (λ mem. MeansBytesOver g.W.SwapStore c.args.self.now.mem mem) back known in
    let run : HasRun g.W.SwapStore.held c.args.self.now c.run_over-user.result.mem.now c.run_over-user.new.timer c.args.who.pid
    (memory_of (machine_of g.W.SwapStore.held c.args.self.now) c.args.who.pid)
    (record {
      regs = c.thread_mut-thread.result.now.regs;
      reserved = reserved_by c.args.who
          (machine_of g.W.SwapStore.held c.args.self.now).reserved;
    })
    (record {
      regs = c.run_over-user.new.thread.regs;
      reserved = c.run_over-user.new.reserved;
    }) c.thread_mut-thread.result.now.pc c.run_over-user.new.ran =
    has_run g.W.SwapStore
    c.args.self.now c.run_over-user.result.mem.now c.args.who.pid c.run_over-user.result.pid c.run_over-user.ensures.rest.1 c.requires.whole c.run_over-user.ensures.rest.2 over
    c.has_timer-on.result c.run_over-user.new.timer (memory_of (machine_of g.W.SwapStore.held c.args.self.now) c.args.who.pid)
    (timed_seen g.W.SwapStore.held c.args.self.now c.args.who.pid c.has_timer-on.result c.has_timer-on.ensures c.requires.matched) c.run_over-user.ensures.timer
    (record { regs = c.thread_mut-thread.result.now.regs; reserved = c.args.reserved.now }) (record { regs = c.run_over-user.new.thread.regs; reserved = c.run_over-user.new.reserved })
    (record { regs = c.thread_mut-thread.result.now.regs; reserved = reserved_by c.args.who (machine_of g.W.SwapStore.held c.args.self.now).reserved }) c.thread_mut-thread.result.now.pc c.run_over-user.new.ran
    (ap (λ (reserved : Option ℕ). record { regs = c.thread_mut-thread.result.now.regs; reserved = reserved }) c.requires.reserved) c.run_over-user.ensures.performs (λ e. done (c.in-Next.ran-is ∙ e)) in
    of_thread ((machine_of g.W.SwapStore.held c.args.self.now).threads c.args.who) (thread_of c.thread_mut-thread.result.now) (thread_found g.W.SwapStore.held c.args.self.now c.args.who c.thread_mut-thread.result.now c.thread_mut-thread.ensures.value)
    (λ t. RunsKnown (machine_of g.W.SwapStore.held c.args.self.now)
    (machine_of g.W.SwapStore.held
    (record (with_both c.self-1.given.0 c.run_over-user.new.timer c.args.self.now) {
      threads = with_thread c.args.self.now.threads c.args.who
          (record { pc = c.in-Next.next; regs = c.run_over-user.new.thread.regs; state = c.run_over-user.new.thread.state });
    }))
    c.args.who t c.run_over-user.new.reserved c.in-Next.ran)
    (record {
      answered = c.in-Next.ran-is ∙ run.answered;
      machine = ((λ i. machine_of g.W.SwapStore.held (record (with_both (back i) c.run_over-user.new.timer c.args.self.now) { threads = with_thread c.args.self.now.threads c.args.who (record { pc = c.in-Next.next; regs = c.run_over-user.new.thread.regs; state = (ap (λ (thread : Thread). thread.state) c.run_over-user.ensures.thread) i }) }))
          ∙ machine_put g.W.SwapStore.held (with_both c.run_over-user.result.mem.now c.run_over-user.new.timer c.args.self.now) _ c.args.who _ (c.thread_mut-thread.ensures.writes _)
          ∙ machine_goes_on g.W.SwapStore.held c.args.self.now c.run_over-user.result.mem.now c.run_over-user.new.timer c.args.who
          (record {
            regs = c.thread_mut-thread.result.now.regs;
            reserved = reserved_by c.args.who
                (machine_of g.W.SwapStore.held c.args.self.now).reserved;
          })
          (record {
            regs = c.run_over-user.new.thread.regs;
            reserved = c.run_over-user.new.reserved;
          }) c.thread_mut-thread.result.now.pc c.run_over-user.new.ran run
          (thread_of c.thread_mut-thread.result.now) c.in-Next.next refl
          (thread_found g.W.SwapStore.held c.args.self.now c.args.who c.thread_mut-thread.result.now c.thread_mut-thread.ensures.value) c.in-Next.is);
      reserved = run.reserved;
    }))

pub returns-in-Next-clause-some : goal.returns-in-Next-clause-some
returns-in-Next-clause-some g c =
    let held = g.W.SwapStore.held in
    let old = c.args.self.now in
    let who = c.args.who in
    let mem = c.run_over-user.result.mem.now in
    let timer = c.run_over-user.new.timer in
    let t : ModelThread = thread_of c.thread_mut-thread.result.now in
    let found = thread_found held old who c.thread_mut-thread.result.now c.thread_mut-thread.ensures.value in
    let new : Core = record { regs = c.run_over-user.new.thread.regs; reserved = c.run_over-user.new.reserved } in
    let back : c.self-1.given.0 ≡ mem = given_back _ _ _ c.self-1.given c.run_over-user.ensures.rest.0 in
    unless_failed c.in-Next.ran _ (λ done.
    let run : HasRunSome held old mem timer who.pid (record { regs = t.regs; reserved = reserved_by who (machine_of held old).reserved }) new t.pc c.run_over-user.new.ran =
    some_run g.W.SwapStore old mem who.pid c.run_over-user.result.pid c.run_over-user.ensures.rest.2 c.has_timer-on.result timer c.has_timer-on.ensures c.run_over-user.ensures.timer c.requires.matched
    (record { regs = t.regs; reserved = c.args.reserved.now }) new (record { regs = t.regs; reserved = reserved_by who (machine_of held old).reserved }) t.pc c.run_over-user.new.ran
    (ap (λ (reserved : Option ℕ). record { regs = t.regs; reserved = reserved }) c.requires.reserved) c.run_over-user.ensures.performs (λ e. done (c.in-Next.ran-is ∙ e)) in
    of_thread ((machine_of held old).threads who) t found
    (λ u. RunsSome (machine_of held old)
    (machine_of held (record (with_both c.self-1.given.0 timer old) { threads = with_thread old.threads who (record { pc = c.in-Next.next; regs = c.run_over-user.new.thread.regs; state = c.run_over-user.new.thread.state }) })) who u new.reserved c.in-Next.ran)
    (subst (λ a. RunsSome (machine_of held old)
    (machine_of held (record (with_both c.self-1.given.0 timer old) { threads = with_thread old.threads who (record { pc = c.in-Next.next; regs = c.run_over-user.new.thread.regs; state = c.run_over-user.new.thread.state }) })) who t new.reserved a) (sym c.in-Next.ran-is)
    (some_goes_on held old mem timer who t new c.run_over-user.new.ran run
    (machine_of held (record (with_both c.self-1.given.0 timer old) { threads = with_thread old.threads who (record { pc = c.in-Next.next; regs = c.run_over-user.new.thread.regs; state = c.run_over-user.new.thread.state }) })) c.in-Next.next
    ((λ i. machine_of held (record (with_both (back i) timer old) { threads = with_thread old.threads who (record { pc = c.in-Next.next; regs = c.run_over-user.new.thread.regs; state = (ap (λ (thread : Thread). thread.state) c.run_over-user.ensures.thread) i }) }))
    ∙ machine_put held (with_both mem timer old) _ who _ (c.thread_mut-thread.ensures.writes _))
    found c.in-Next.is)))

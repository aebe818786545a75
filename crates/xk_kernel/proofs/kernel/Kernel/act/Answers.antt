-- The thread ends, or its instruction is executed: what the kernel became and told is what the machine makes of it, where bytes are
-- known; over any bytes the machine stays matched.
use Rattle.std.proofs.Common.{◌≡◌, ◌+◌, ◌<◌, true, false, [], map, sym, ap, subst, ◌∙◌, arith, inl, inr, rules}
use Rattle.std.proofs.lemmas.Option.{same_Some}
use Rattle.machine_laws.proofs.Dying.DeathLemmas.{death_keeps}
use Rattle.machine_laws.proofs.Threading.ThreadStepLemmas.{actor_ready}
use Rattle.machine_model.proofs.Runs.KeptLemmas.{matched_at}
use Rattle.machine_model.specs.Calling.Calls.{call}
use Rattle.machine_model.specs.Runs.Kept.{Settles}
use Rattle.machine_model.specs.Runs.Matched.{Matched}
use Rattle.machine_model.specs.State.Changes.{Told, call_settled, settled}
use Rattle.machine_model.specs.Ending.Ends.{death}
use Rattle.machine_model.specs.Hart.Instructions.{Executed}
use Rattle.machine_model.specs.State.Machine.{Machine, Thread}
use Rattle.machine_model.specs.Stepping.Step.{after, console_told, ends_handler, ends_thread, executed, record_of}
use Rattle.rv32_hart.specs.declared.ran.Ran.TheVariants.{Device, Ecall, Trap}
use Rattle.rv32_hart.specs.declared.ran.Ran.TheVariants as ran
use Rattle.vm_memory.specs.Bytes.{MeansBytesOver, is_known, none_out}
use Rattle.vm_memory.specs.Memory.{IsUsable as IsMemoryUsable, size}
use Rattle.xk_base.specs.Tables.Circle.{is_thread_id}
use Rattle.xk_base.specs.Calls.Registers.{reg_at}
use Rattle.xk_base.specs.declared.records.What.TheVariants.{Call, Fault}
use Rattle.xk_kernel.specs.Running.{machine_after}
use Rattle.xk_parts.specs.Shown.{thread_of}
use Rattle.xk_kernel.specs.State.{machine_of}
use Rattle.xk_kernel.proofs.Acting.ActLemmas.{actor_known, at, begun_calls, begun_done, begun_log, call_known, device_executed, fetched, if_failed_at, left_executed, next_executed, run_done, told_end, told_executed, told_handler, trap_executed, unless_at}
use Rattle.xk_kernel.proofs.Acting.SettlesLemmas.{begun_few, begun_settles, crowds_acted, done_few, end_settles, handler_settles, on_failure, out_since, settles_alike, settles_as}
use Rattle.machine_laws.proofs.Stepping.EveryCallLemmas.{every_call_keeps}
use Rattle.xk_kernel.proofs.Calling.SettleLemmas.{ready_there}
use Rattle.xk_kernel.proofs.Memory.KnownLemmas.{known_none, over_parts}
use Rattle.xk_kernel.proofs.Ringing.FewLemmas.{few_call, few_console, few_settled, one_more}
use Rattle.xk_kernel.proofs.kernel.Kernel.act.Goals as goal

pub thread-thread-requires : goal.thread-thread-requires
thread-thread-requires g c = record { there = ready_there (machine_of g.W.SwapStore.held c.args.self.now) c.args.who (actor_ready (machine_of g.W.SwapStore.held c.args.self.now) c.args.who c.requires.who) }

-- ---- ends

pub act_end-requires-clause-ends : goal.act_end-requires-clause-ends
act_end-requires-clause-ends g c t there =
    let same : (thread_of c.thread-thread.result.now) ≡ t = same_Some (thread_of c.thread-thread.result.now) t (sym c.thread-thread.ensures ∙ there) in
    subst (λ (u : Thread). (ends_thread c.args.who u.pc ≡ true) × (reg_at u.regs 10 ≡ c.get-a0.result)) same
    (sym c.ends_thread.ensures ∙ c.if-ends_thread.true, sym c.get-a0.ensures.value)

pub returns-then-ends_thread-clause-settles : goal.returns-then-ends_thread-clause-settles
returns-then-ends_thread-clause-settles g c =
    let held = g.W.SwapStore.held in
    let old = c.args.self.now in
    let who = c.args.who in
    let m : Machine = machine_of held old in
    let t : Thread = thread_of c.thread-thread.result.now in
    let there = c.thread-thread.ensures in
    let ends : ends_thread who t.pc ≡ true = sym c.ends_thread.ensures ∙ c.if-ends_thread.true in
    subst (Settles m) (sym (c.act_end.ensures.acts.done.machine ∙ ap (λ (d : Told). d.machine) (told_end m who t there ends)))
    (end_settles m who (c.requires.sound.matched c.requires.usable) (actor_ready m who c.requires.who) t (reg_at t.regs 10) ends)

pub returns-then-ends_thread-clause-tells : goal.returns-then-ends_thread-clause-tells
returns-then-ends_thread-clause-tells g c =
    done_few g.W.SwapStore.held c.args.self.now c.act_end.new.self c.act_end.ensures.stays.keeps.size c.args.who c.act_end.ensures.acts.done

pub act_handler-requires-clause-ends : goal.act_handler-requires-clause-ends
act_handler-requires-clause-ends g c t there =
    let same : (thread_of c.thread-thread.result.now) ≡ t = same_Some (thread_of c.thread-thread.result.now) t (sym c.thread-thread.ensures ∙ there) in
    subst (λ (u : Thread). (ends_thread c.args.who u.pc ≡ false) × (ends_handler c.args.who u.pc ≡ true)) same
    (sym c.ends_thread.ensures ∙ c.if-ends_thread.false, sym c.ends_handler.ensures ∙ c.if-ends_handler.true)

pub returns-then-ends_handler-clause-settles : goal.returns-then-ends_handler-clause-settles
returns-then-ends_handler-clause-settles g c =
    let held = g.W.SwapStore.held in
    let old = c.args.self.now in
    let who = c.args.who in
    let m : Machine = machine_of held old in
    let t : Thread = thread_of c.thread-thread.result.now in
    let there = c.thread-thread.ensures in
    let goes_on : ends_thread who t.pc ≡ false = sym c.ends_thread.ensures ∙ c.if-ends_thread.false in
    let ends : ends_handler who t.pc ≡ true = sym c.ends_handler.ensures ∙ c.if-ends_handler.true in
    subst (Settles m) (sym (c.act_handler.ensures.acts.done.machine ∙ ap (λ (d : Told). d.machine) (told_handler m who t there goes_on ends)))
    (handler_settles m who (c.requires.sound.matched c.requires.usable) (actor_ready m who c.requires.who) t ends)

pub returns-then-ends_handler-clause-tells : goal.returns-then-ends_handler-clause-tells
returns-then-ends_handler-clause-tells g c =
    done_few g.W.SwapStore.held c.args.self.now c.act_handler.new.self c.act_handler.ensures.stays.keeps.size c.args.who c.act_handler.ensures.acts.done

-- ---- goes on

pub begin-requires-clause-id : goal.begin-requires-clause-id
unfolding machine_of
begin-requires-clause-id g c = ap (λ s. is_thread_id s.procs c.args.who) c.run.ensures.leaves.keeps.size ∙ actor_known (machine_of g.W.SwapStore.held c.args.self.now) c.args.who (thread_of c.thread-thread.result.now) (c.requires.sound.matched c.requires.usable) c.thread-thread.ensures

pub begin-requires-clause-few : goal.begin-requires-clause-few
begin-requires-clause-few g c = subst (λ s. s < 4000000000) (sym c.run.ensures.leaves.steps) c.requires.few

pub returns-in-Next-clause-acts : goal.returns-in-Next-clause-acts
returns-in-Next-clause-acts g c known =
    let held = g.W.SwapStore.held in
    let old = c.args.self.now in
    let who = c.args.who in
    let m : Machine = machine_of held old in
    let t : Thread = thread_of c.thread-thread.result.now in
    let there = c.thread-thread.ensures in
    let x : Executed = fetched m who t there in
    let goes_on : ends_thread who t.pc ≡ false = sym c.ends_thread.ensures ∙ c.if-ends_thread.false in
    let is_none : ends_handler who t.pc ≡ false = sym c.ends_handler.ensures ∙ c.if-ends_handler.false in
    let over : MeansBytesOver g.W.SwapStore old.mem c.run.new.self.mem = subst (λ mem. MeansBytesOver g.W.SwapStore old.mem mem) c.begin.ensures.mem known in
    let runs = unless_at _ c.run.result (ran.Next c.in-Next.field-0) c.in-Next.is (c.run.ensures.performs over) t there in
    let next = next_executed m who t x c.in-Next.field-0 (sym runs.answered ∙ c.in-Next.is) in
    record {
      done = run_done held old c.run.new.self c.begin.new.self who x [] (told_executed m who t there goes_on is_none ∙ next)
          runs.machine c.run.ensures.leaves.log c.begin.ensures.machine c.begin.ensures.log;
      leaves = left_executed m who t there goes_on is_none c.run.new.reserved runs.reserved;
    }

pub returns-in-Next-clause-settles : goal.returns-in-Next-clause-settles
unfolding machine_of
returns-in-Next-clause-settles g c =
    begun_settles (machine_of g.W.SwapStore.held c.args.self.now) (machine_of g.W.SwapStore.held c.run.new.self) (machine_of g.W.SwapStore.held c.begin.new.self) c.args.who
    c.run.ensures.leaves.matched c.run.ensures.leaves.steps c.begin.ensures.machine

pub returns-in-Next-clause-tells : goal.returns-in-Next-clause-tells
returns-in-Next-clause-tells g c = record {
  told = [];
  log = begun_log g.W.SwapStore.held c.args.self.now c.run.new.self c.begin.new.self c.args.who c.run.ensures.leaves.log c.run.ensures.leaves.steps c.begin.ensures.log;
  few = omega arith;
}

pub tell_console-requires-clause-id : goal.tell_console-requires-clause-id
unfolding machine_of
tell_console-requires-clause-id g c = ap (λ s. is_thread_id s.procs c.args.who) c.run.ensures.leaves.keeps.size ∙ actor_known (machine_of g.W.SwapStore.held c.args.self.now) c.args.who (thread_of c.thread-thread.result.now) (c.requires.sound.matched c.requires.usable) c.thread-thread.ensures

pub tell_console-requires-clause-few : goal.tell_console-requires-clause-few
tell_console-requires-clause-few g c = subst (λ s. s < 4000000000) (sym c.run.ensures.leaves.steps) c.requires.few

pub returns-in-Device-clause-acts : goal.returns-in-Device-clause-acts
returns-in-Device-clause-acts g c known =
    let held = g.W.SwapStore.held in
    let old = c.args.self.now in
    let who = c.args.who in
    let m : Machine = machine_of held old in
    let t : Thread = thread_of c.thread-thread.result.now in
    let there = c.thread-thread.ensures in
    let x : Executed = fetched m who t there in
    let goes_on : ends_thread who t.pc ≡ false = sym c.ends_thread.ensures ∙ c.if-ends_thread.false in
    let is_none : ends_handler who t.pc ≡ false = sym c.ends_handler.ensures ∙ c.if-ends_handler.false in
    let over : MeansBytesOver g.W.SwapStore old.mem c.run.new.self.mem = subst (λ mem. MeansBytesOver g.W.SwapStore old.mem mem) c.tell_console.ensures.mem known in
    let runs = unless_at _ c.run.result (Device c.in-Device.offset c.in-Device.value c.in-Device.next) c.in-Device.is (c.run.ensures.performs over) t there in
    let device = device_executed m who t x c.in-Device.offset c.in-Device.value c.in-Device.next (sym runs.answered ∙ c.in-Device.is) in
    record {
      done = run_done held old c.run.new.self c.tell_console.new.self who x (console_told who c.in-Device.offset c.in-Device.value)
          (told_executed m who t there goes_on is_none ∙ device)
          runs.machine c.run.ensures.leaves.log c.tell_console.ensures.machine c.tell_console.ensures.log;
      leaves = left_executed m who t there goes_on is_none c.run.new.reserved runs.reserved;
    }

pub returns-in-Device-clause-settles : goal.returns-in-Device-clause-settles
unfolding machine_of
returns-in-Device-clause-settles g c =
    begun_settles (machine_of g.W.SwapStore.held c.args.self.now) (machine_of g.W.SwapStore.held c.run.new.self) (machine_of g.W.SwapStore.held c.tell_console.new.self) c.args.who
    c.run.ensures.leaves.matched c.run.ensures.leaves.steps c.tell_console.ensures.machine

pub returns-in-Device-clause-tells : goal.returns-in-Device-clause-tells
unfolding machine_of
returns-in-Device-clause-tells g c = record {
  told = console_told c.args.who c.in-Device.offset c.in-Device.value;
  log = c.tell_console.ensures.log
      ∙ (λ i. record (c.run.ensures.leaves.log i) {
        step = c.run.ensures.leaves.steps i + 1;
        records = map (record_of (c.run.ensures.leaves.steps i + 1)) (console_told c.args.who c.in-Device.offset c.in-Device.value);
      });
  few = few_console (machine_of g.W.SwapStore.held c.args.self.now) c.args.who c.in-Device.offset c.in-Device.value;
}

-- ---- dies of a trap

pub begin-requires-in-Trap-clause-id : goal.begin-requires-in-Trap-clause-id
unfolding machine_of
begin-requires-in-Trap-clause-id g c = ap (λ s. is_thread_id s.procs c.args.who) c.run.ensures.leaves.keeps.size ∙ actor_known (machine_of g.W.SwapStore.held c.args.self.now) c.args.who (thread_of c.thread-thread.result.now) (c.requires.sound.matched c.requires.usable) c.thread-thread.ensures

pub begin-requires-in-Trap-clause-few : goal.begin-requires-in-Trap-clause-few
begin-requires-in-Trap-clause-few g c = subst (λ s. s < 4000000000) (sym c.run.ensures.leaves.steps) c.requires.few

pub die-requires-clause-calls : goal.die-requires-clause-calls
die-requires-clause-calls g c =
    begun_calls g.W.SwapStore c.args.self.now c.run.new.self c.begin-in-Trap.new.self c.args.who c.begin-in-Trap.ensures.whole
    (subst IsMemoryUsable (sym c.begin-in-Trap.ensures.mem) (unless_at _ c.run.result (Trap c.in-Trap.cause c.in-Trap.value) c.in-Trap.is c.run.ensures.leaves.usable))
    c.run.ensures.leaves.matched (c.run.ensures.leaves.ready ∙ actor_ready (machine_of g.W.SwapStore.held c.args.self.now) c.args.who c.requires.who) c.run.ensures.leaves.steps c.requires.few c.begin-in-Trap.ensures.machine

pub returns-in-Trap-clause-acts : goal.returns-in-Trap-clause-acts
returns-in-Trap-clause-acts g c known =
    let held = g.W.SwapStore.held in
    let old = c.args.self.now in
    let who = c.args.who in
    let m : Machine = machine_of held old in
    let t : Thread = thread_of c.thread-thread.result.now in
    let there = c.thread-thread.ensures in
    let x : Executed = fetched m who t there in
    let goes_on : ends_thread who t.pc ≡ false = sym c.ends_thread.ensures ∙ c.if-ends_thread.false in
    let is_none : ends_handler who t.pc ≡ false = sym c.ends_handler.ensures ∙ c.if-ends_handler.false in
    let over : MeansBytesOver g.W.SwapStore old.mem c.run.new.self.mem = (over_parts g.W.SwapStore c.args.self.now.mem c.run.new.self.mem c.die.new.self.mem c.run.ensures.leaves.keeps.store c.run.ensures.leaves.none known).0 in
    let runs = unless_at _ c.run.result (Trap c.in-Trap.cause c.in-Trap.value) c.in-Trap.is (c.run.ensures.performs over) t there in
    let trap : (executed (at who m) t x ≡ after (Fault who c.in-Trap.cause c.in-Trap.value) (settled (death who.pid (at who m))))
    × (machine_after who m x ≡ m) =
    trap_executed m who t x c.in-Trap.cause c.in-Trap.value (sym runs.answered ∙ c.in-Trap.is) in
    let begun : machine_of held c.begin-in-Trap.new.self ≡ at who m = c.begin-in-Trap.ensures.machine ∙ ap (at who) (runs.machine ∙ trap.1) in
    record {
      done = begun_done held old c.begin-in-Trap.new.self c.die.new.self who (λ w m. after (Fault who c.in-Trap.cause c.in-Trap.value) (settled (death w.pid m)))
          (told_executed m who t there goes_on is_none ∙ trap.0) begun
          (begun_log held old c.run.new.self c.begin-in-Trap.new.self who c.run.ensures.leaves.log c.run.ensures.leaves.steps c.begin-in-Trap.ensures.log)
          c.die.ensures.tells;
      leaves = left_executed m who t there goes_on is_none c.run.new.reserved runs.reserved;
    }

pub returns-in-Trap-clause-settles : goal.returns-in-Trap-clause-settles
unfolding machine_of
returns-in-Trap-clause-settles g c =
    let held = g.W.SwapStore.held in
    let begun : Machine = machine_of held c.begin-in-Trap.new.self in
    let matched : Matched begun = subst Matched (sym c.begin-in-Trap.ensures.machine) (matched_at c.args.who (machine_of held c.run.new.self) c.run.ensures.leaves.matched) in
    subst (Settles (machine_of held c.args.self.now)) (sym c.die.ensures.tells.machine)
    (settles_as begun (machine_of held c.args.self.now) (settled (death c.begin-in-Trap.new.self.cursor.pid begun)).machine
    (ap (λ (x : Machine). x.steps) c.begin-in-Trap.ensures.machine ∙ c.run.ensures.leaves.steps)
    (death_keeps begun matched c.begin-in-Trap.new.self.cursor.pid))

pub returns-in-Trap-clause-tells : goal.returns-in-Trap-clause-tells
returns-in-Trap-clause-tells g c =
    let held = g.W.SwapStore.held in
    let begun : Machine = machine_of held c.begin-in-Trap.new.self in
    let dies = death c.begin-in-Trap.new.self.cursor.pid begun in
    begun_few held c.args.self.now c.die.new.self (c.die.ensures.stays.keeps.size ∙ ap (λ mem. size mem) c.begin-in-Trap.ensures.mem ∙ c.run.ensures.leaves.keeps.size)
    c.begin-in-Trap.new.self.log (after (Fault c.args.who c.in-Trap.cause c.in-Trap.value) (settled dies))
    (begun_log held c.args.self.now c.run.new.self c.begin-in-Trap.new.self c.args.who c.run.ensures.leaves.log c.run.ensures.leaves.steps c.begin-in-Trap.ensures.log)
    c.die.ensures.tells.log (ap (λ (x : Machine). x.processes) c.die.ensures.tells.machine)
    (one_more (Fault c.args.who c.in-Trap.cause c.in-Trap.value) (settled dies) (few_settled dies))

-- ---- calls the kernel

pub begin-requires-in-Ecall-clause-id : goal.begin-requires-in-Ecall-clause-id
unfolding machine_of
begin-requires-in-Ecall-clause-id g c = ap (λ s. is_thread_id s.procs c.args.who) c.run.ensures.leaves.keeps.size ∙ actor_known (machine_of g.W.SwapStore.held c.args.self.now) c.args.who (thread_of c.thread-thread.result.now) (c.requires.sound.matched c.requires.usable) c.thread-thread.ensures

pub begin-requires-in-Ecall-clause-few : goal.begin-requires-in-Ecall-clause-few
begin-requires-in-Ecall-clause-few g c = subst (λ s. s < 4000000000) (sym c.run.ensures.leaves.steps) c.requires.few

pub thread-requires : goal.thread-requires
thread-requires g c = record { there = ready_there (machine_of g.W.SwapStore.held c.run.new.self) c.args.who (c.run.ensures.leaves.ready ∙ actor_ready (machine_of g.W.SwapStore.held c.args.self.now) c.args.who c.requires.who) }

pub call-requires-clause-calls : goal.call-requires-clause-calls
call-requires-clause-calls g c =
    begun_calls g.W.SwapStore c.args.self.now c.run.new.self c.begin-in-Ecall.new.self c.args.who c.begin-in-Ecall.ensures.whole
    (subst IsMemoryUsable (sym c.begin-in-Ecall.ensures.mem) (unless_at _ c.run.result Ecall c.in-Ecall.is c.run.ensures.leaves.usable))
    c.run.ensures.leaves.matched (c.run.ensures.leaves.ready ∙ actor_ready (machine_of g.W.SwapStore.held c.args.self.now) c.args.who c.requires.who) c.run.ensures.leaves.steps c.requires.few c.begin-in-Ecall.ensures.machine

pub returns-in_ok-call-in-Ecall-clause-acts : goal.returns-in_ok-call-in-Ecall-clause-acts
returns-in_ok-call-in-Ecall-clause-acts g c known =
    let held = g.W.SwapStore.held in
    let old = c.args.self.now in
    let who = c.args.who in
    let m : Machine = machine_of held old in
    let t : Thread = thread_of c.thread-thread.result.now in
    let there = c.thread-thread.ensures in
    let x : Executed = fetched m who t there in
    let goes_on : ends_thread who t.pc ≡ false = sym c.ends_thread.ensures ∙ c.if-ends_thread.false in
    let is_none : ends_handler who t.pc ≡ false = sym c.ends_handler.ensures ∙ c.if-ends_handler.false in
    let parts = over_parts g.W.SwapStore old.mem c.run.new.self.mem c.call.new.self.mem c.run.ensures.leaves.keeps.store c.run.ensures.leaves.none known in
    let over : MeansBytesOver g.W.SwapStore old.mem c.run.new.self.mem = parts.0 in
    let rest : MeansBytesOver g.W.SwapStore c.begin-in-Ecall.new.self.mem c.call.new.self.mem =
    subst (λ mem. MeansBytesOver g.W.SwapStore mem c.call.new.self.mem) (sym c.begin-in-Ecall.ensures.mem) parts.1 in
    let runs = unless_at _ c.run.result (Ecall) c.in-Ecall.is (c.run.ensures.performs over) t there in
    let called = call_known held old c.run.new.self c.begin-in-Ecall.new.self who t there goes_on is_none runs.machine (sym runs.answered ∙ c.in-Ecall.is)
    c.begin-in-Ecall.ensures.machine (thread_of c.thread.result.now) c.thread.ensures c.arguments-words.result c.arguments-words.ensures.are in
    record {
      done = begun_done held old c.begin-in-Ecall.new.self c.call.new.self who (λ w m. after (Call w c.arguments-words.result) (call_settled m (call m c.arguments-words.result)))
          called.0 called.1
          (begun_log held old c.run.new.self c.begin-in-Ecall.new.self who c.run.ensures.leaves.log c.run.ensures.leaves.steps c.begin-in-Ecall.ensures.log)
          (record { machine = c.in_ok-call-in-Ecall.ensures.tells.machine.whole rest; log = c.in_ok-call-in-Ecall.ensures.tells.log });
      leaves = left_executed m who t there goes_on is_none c.run.new.reserved runs.reserved;
    }

pub returns-in_ok-call-in-Ecall-clause-settles : goal.returns-in_ok-call-in-Ecall-clause-settles
unfolding machine_of
returns-in_ok-call-in-Ecall-clause-settles g c =
    let held = g.W.SwapStore.held in
    let begun : Machine = machine_of held c.begin-in-Ecall.new.self in
    let calls = begun_calls g.W.SwapStore c.args.self.now c.run.new.self c.begin-in-Ecall.new.self c.args.who c.begin-in-Ecall.ensures.whole
    (subst IsMemoryUsable (sym c.begin-in-Ecall.ensures.mem) (unless_at _ c.run.result Ecall c.in-Ecall.is c.run.ensures.leaves.usable))
    c.run.ensures.leaves.matched (c.run.ensures.leaves.ready ∙ actor_ready (machine_of g.W.SwapStore.held c.args.self.now) c.args.who c.requires.who) c.run.ensures.leaves.steps c.requires.few c.begin-in-Ecall.ensures.machine in
    settles_alike (machine_of held c.args.self.now) (machine_of held c.call.new.self) (call_settled begun (call begun c.arguments-words.result)).machine
    c.in_ok-call-in-Ecall.ensures.tells.machine.alike
    (settles_as begun (machine_of held c.args.self.now) (call_settled begun (call begun c.arguments-words.result)).machine
    (ap (λ (x : Machine). x.steps) c.begin-in-Ecall.ensures.machine ∙ c.run.ensures.leaves.steps)
    (every_call_keeps begun calls.matched calls.ready c.arguments-words.result))

pub returns-in_ok-call-in-Ecall-clause-tells : goal.returns-in_ok-call-in-Ecall-clause-tells
returns-in_ok-call-in-Ecall-clause-tells g c =
    let held = g.W.SwapStore.held in
    let begun : Machine = machine_of held c.begin-in-Ecall.new.self in
    let outcome = call begun c.arguments-words.result in
    let who = c.begin-in-Ecall.new.self.cursor in
    begun_few held c.args.self.now c.call.new.self (c.call.ensures.leaves.keeps.size ∙ ap (λ mem. size mem) c.begin-in-Ecall.ensures.mem ∙ c.run.ensures.leaves.keeps.size)
    c.begin-in-Ecall.new.self.log (after (Call who c.arguments-words.result) (call_settled begun outcome))
    (begun_log held c.args.self.now c.run.new.self c.begin-in-Ecall.new.self c.args.who c.run.ensures.leaves.log c.run.ensures.leaves.steps c.begin-in-Ecall.ensures.log)
    c.in_ok-call-in-Ecall.ensures.tells.log (ap (λ (x : Machine). x.processes) c.in_ok-call-in-Ecall.ensures.tells.machine.alike)
    (one_more (Call who c.arguments-words.result) (call_settled begun outcome) (few_call begun outcome))

pub returns-in_ok-call-in-Ecall-clause-leaves : goal.returns-in_ok-call-in-Ecall-clause-leaves
returns-in_ok-call-in-Ecall-clause-leaves g c = record {
  whole = search rules;
  usable = search rules;
  keeps = search rules;
  failed = tt;
  cause = tt;
  crowded = tt;
  near = λ none out. inr (
      let held = g.W.SwapStore.held in
      let old = c.args.self.now in
      let who = c.args.who in
      let m : Machine = machine_of held old in
      let t : Thread = thread_of c.thread-thread.result.now in
      let there = c.thread-thread.ensures in
      let x : Executed = fetched m who t there in
      let goes_on : ends_thread who t.pc ≡ false = sym c.ends_thread.ensures ∙ c.if-ends_thread.false in
      let is_none : ends_handler who t.pc ≡ false = sym c.ends_handler.ensures ∙ c.if-ends_handler.false in
      let over : MeansBytesOver g.W.SwapStore old.mem c.run.new.self.mem =
      known_none (is_known g.W.SwapStore old.mem) (none_out old.mem) (none_out c.run.new.self.mem) none (c.run.ensures.leaves.none none) in
      let runs = unless_at _ c.run.result (Ecall) c.in-Ecall.is (c.run.ensures.performs over) t there in
      let called = call_known held old c.run.new.self c.begin-in-Ecall.new.self who t there goes_on is_none runs.machine (sym runs.answered ∙ c.in-Ecall.is)
      c.begin-in-Ecall.ensures.machine (thread_of c.thread.result.now) c.thread.ensures c.arguments-words.result c.arguments-words.ensures.are in
      crowds_acted held old c.begin-in-Ecall.new.self who c.arguments-words.result (ap (λ mem. size mem) c.begin-in-Ecall.ensures.mem ∙ c.run.ensures.leaves.keeps.size) called.1 called.0
      (c.call.ensures.leaves.near (subst (λ mem. none_out mem ≡ true) (sym c.begin-in-Ecall.ensures.mem) (c.run.ensures.leaves.none none)) out));
}

pub returns-in_err-call-in-Ecall-clause-leaves : goal.returns-in_err-call-in-Ecall-clause-leaves
returns-in_err-call-in-Ecall-clause-leaves g c =
    let may_move = out_since (none_out c.args.self.now.mem) (λ none.
    let held = g.W.SwapStore.held in
    let old = c.args.self.now in
    let who = c.args.who in
    let m : Machine = machine_of held old in
    let t : Thread = thread_of c.thread-thread.result.now in
    let there = c.thread-thread.ensures in
    let x : Executed = fetched m who t there in
    let goes_on : ends_thread who t.pc ≡ false = sym c.ends_thread.ensures ∙ c.if-ends_thread.false in
    let is_none : ends_handler who t.pc ≡ false = sym c.ends_handler.ensures ∙ c.if-ends_handler.false in
    let over : MeansBytesOver g.W.SwapStore old.mem c.run.new.self.mem =
    known_none (is_known g.W.SwapStore old.mem) (none_out old.mem) (none_out c.run.new.self.mem) none (c.run.ensures.leaves.none none) in
    let runs = unless_at _ c.run.result (Ecall) c.in-Ecall.is (c.run.ensures.performs over) t there in
    let called = call_known held old c.run.new.self c.begin-in-Ecall.new.self who t there goes_on is_none runs.machine (sym runs.answered ∙ c.in-Ecall.is)
    c.begin-in-Ecall.ensures.machine (thread_of c.thread.result.now) c.thread.ensures c.arguments-words.result c.arguments-words.ensures.are in
    crowds_acted held old c.begin-in-Ecall.new.self who c.arguments-words.result (ap (λ mem. size mem) c.begin-in-Ecall.ensures.mem ∙ c.run.ensures.leaves.keeps.size) called.1 called.0
    c.in_err-call-in-Ecall.ensures.leaves.crowded) in
    record {
      whole = search rules;
      usable = search rules;
      keeps = search rules;
      failed = search rules;
      cause = search rules;
      crowded = on_failure c.from_residual.result _ may_move;
      near = λ none out. may_move;
    }

-- ---- the memory failed

pub returns-in-Failed-clause-leaves : goal.returns-in-Failed-clause-leaves
returns-in-Failed-clause-leaves g c =
    let out = if_failed_at _ c.run.result c.in-Failed.is c.run.ensures.leaves.out in
    record {
      whole = c.run.ensures.leaves.whole;
      usable = tt;
      keeps = c.run.ensures.leaves.keeps;
      failed = if_failed_at _ c.run.result c.in-Failed.is c.run.ensures.leaves.failed;
      cause = if_failed_at _ c.run.result c.in-Failed.is c.run.ensures.leaves.cause;
      crowded = inl out;
      near = λ none now_out. inl out;
    }

-- A thread ends.
use Rattle.std.proofs.Common.{◌≡◌, ◌<◌, true, sym, ap, subst, ◌∙◌}
use Rattle.machine_laws.proofs.Threading.ThreadAnswerLemmas.{IsReadyThread, ready_thread}
use Rattle.machine_laws.proofs.Threading.ThreadStepLemmas.{actor_ready}
use Rattle.machine_model.specs.Ending.Ends.{thread_ended}
use Rattle.machine_model.specs.State.Changes.{settled}
use Rattle.machine_model.specs.State.Machine.{Machine}
use Rattle.machine_model.specs.Stepping.Step.{after, ends_thread}
use Rattle.xk_base.specs.Calls.Registers.{reg_at}
use Rattle.vm_memory.specs.Memory.{IsUsable as IsMemoryUsable}
use Rattle.xk_base.specs.declared.ids.ThreadId.{ThreadId}
use Rattle.xk_base.specs.declared.records.What.TheVariants.{End}
use Rattle.xk_kernel.specs.State.{machine_of}
use Rattle.xk_kernel.proofs.Acting.ActLemmas.{above_one, actor_known, at, begun_caller, begun_cursor, begun_done, left_at_end, told_end}
use Rattle.xk_kernel.proofs.kernel.Kernel.act_end.Goals as goal

pub begin-requires-clause-id : goal.begin-requires-clause-id
unfolding machine_of
begin-requires-clause-id g c =
    let m : Machine = machine_of g.W.SwapStore.held c.args.self.now in
    let r : IsReadyThread m c.args.who = ready_thread m c.args.who (actor_ready m c.args.who c.requires.who) in
    actor_known m c.args.who r.thread (c.requires.sound.matched c.requires.usable) r.there

pub end_thread-requires-clause-calls : goal.end_thread-requires-clause-calls
end_thread-requires-clause-calls g c =
    begun_caller g.W.SwapStore c.args.self.now c.begin.new.self c.begin.new.self c.args.who c.begin.ensures.whole
    (subst IsMemoryUsable (sym c.begin.ensures.mem) c.requires.usable) (c.requires.sound.matched c.requires.usable) c.requires.few c.requires.who c.begin.ensures.machine

pub end_thread-requires-clause-above : goal.end_thread-requires-clause-above
end_thread-requires-clause-above g c =
    let m : Machine = machine_of g.W.SwapStore.held c.args.self.now in
    let r : IsReadyThread m c.args.who = ready_thread m c.args.who (actor_ready m c.args.who c.requires.who) in
    subst (λ (id : ThreadId). 1 < id.tid.0) (sym (begun_cursor g.W.SwapStore.held c.args.self.now c.begin.new.self c.begin.new.self c.args.who c.begin.ensures.machine))
    (above_one c.args.who.tid.0 r.thread.pc (c.requires.ends r.thread r.there).0)

pub returns-clause-acts : goal.returns-clause-acts
returns-clause-acts g c =
    let m : Machine = machine_of g.W.SwapStore.held c.args.self.now in
    let r : IsReadyThread m c.args.who = ready_thread m c.args.who (actor_ready m c.args.who c.requires.who) in
    let ends : (ends_thread c.args.who r.thread.pc ≡ true) × (reg_at r.thread.regs 10 ≡ c.args.a0) = c.requires.ends r.thread r.there in
    record {
      done = begun_done g.W.SwapStore.held c.args.self.now c.begin.new.self c.end_thread.new.self c.args.who (λ w m. after (End w) (settled (thread_ended w c.args.a0 m)))
          (told_end m c.args.who r.thread r.there ends.0 ∙ ap (λ a0. after (End c.args.who) (settled (thread_ended c.args.who a0 (at c.args.who m)))) ends.1)
          c.begin.ensures.machine c.begin.ensures.log c.end_thread.ensures.tells;
      leaves = left_at_end m c.args.who r.thread r.there ends.0;
    }

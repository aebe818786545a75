-- A handler ends.
use Rattle.std.proofs.Common.{◌≡◌, true, false}
use Rattle.machine_laws.proofs.Threading.ThreadAnswerLemmas.{IsReadyThread, ready_thread}
use Rattle.machine_laws.proofs.Threading.ThreadStepLemmas.{actor_ready}
use Rattle.machine_model.specs.Ending.Ends.{handler_ended}
use Rattle.machine_model.specs.State.Changes.{settled}
use Rattle.machine_model.specs.State.Machine.{Machine}
use Rattle.machine_model.specs.Stepping.Step.{after, ends_handler, ends_thread}
use Rattle.xk_base.specs.declared.records.What.TheVariants.{End}
use Rattle.xk_kernel.specs.State.{machine_of}
use Rattle.xk_kernel.proofs.Acting.ActLemmas.{actor_known, at_one, begun_done, begun_handler, begun_ready, left_at_handler, told_handler}
use Rattle.xk_kernel.proofs.kernel.Kernel.act_handler.Goals as goal

-- src/kernel/stepping.rt
pub begin-requires-clause-id : goal.begin-requires-clause-id
unfolding machine_of
begin-requires-clause-id g c =
    let m : Machine = machine_of g.W.SwapStore.held c.args.self.now in
    let r : IsReadyThread m c.args.who = ready_thread m c.args.who (actor_ready m c.args.who c.requires.who) in
    actor_known m c.args.who r.thread (c.requires.sound.matched c.requires.usable) r.there

pub end_handler-requires-clause-ready : goal.end_handler-requires-clause-ready
end_handler-requires-clause-ready g c = begun_ready g.W.SwapStore.held c.args.self.now c.begin.new.self c.begin.new.self c.args.who c.requires.who c.begin.ensures.machine

pub end_handler-requires-clause-handler : goal.end_handler-requires-clause-handler
end_handler-requires-clause-handler g c =
    let m : Machine = machine_of g.W.SwapStore.held c.args.self.now in
    let r : IsReadyThread m c.args.who = ready_thread m c.args.who (actor_ready m c.args.who c.requires.who) in
    begun_handler g.W.SwapStore.held c.args.self.now c.begin.new.self c.begin.new.self c.args.who c.begin.ensures.machine
    (at_one c.args.who.tid.0 r.thread.pc (c.requires.ends r.thread r.there).1)

pub returns-clause-acts : goal.returns-clause-acts
returns-clause-acts g c =
    let m : Machine = machine_of g.W.SwapStore.held c.args.self.now in
    let r : IsReadyThread m c.args.who = ready_thread m c.args.who (actor_ready m c.args.who c.requires.who) in
    let ends : (ends_thread c.args.who r.thread.pc ≡ false) × (ends_handler c.args.who r.thread.pc ≡ true) = c.requires.ends r.thread r.there in
    record {
      done = begun_done g.W.SwapStore.held c.args.self.now c.begin.new.self c.end_handler.new.self c.args.who (λ w m. after (End w) (settled (handler_ended w.pid m)))
          (told_handler m c.args.who r.thread r.there ends.0 ends.1) c.begin.ensures.machine c.begin.ensures.log c.end_handler.ensures.tells;
      leaves = left_at_handler m c.args.who r.thread r.there ends.0 ends.1;
    }

-- A record tells of the call first.
use Rattle.std.proofs.Common.{ap, subst, ◌∙◌}
use Rattle.std.proofs.lemmas.Result.{on_err_weaker, on_ok_weaker}
use Rattle.machine_model.specs.Calling.Calls.{call}
use Rattle.machine_model.specs.State.Changes.{call_settled}
use Rattle.machine_model.specs.Stepping.Step.{after}
use Rattle.xk_base.specs.Log.{LogState}
use Rattle.xk_base.specs.declared.records.What.TheVariants.{Call as Called}
use Rattle.xk_kernel.specs.State.{machine_of}
use Rattle.xk_kernel.specs.Telling.{Tells}
use Rattle.xk_kernel.proofs.Calling.CallTableLemmas.{unhandled}
use Rattle.xk_kernel.proofs.Calling.OverLemmas.{tells_exactly, tells_first_over}
use Rattle.xk_kernel.proofs.Calling.SettleLemmas.{tells_first}
use Rattle.xk_kernel.proofs.Ending.EventLemmas.{pushed_whole}
use Rattle.xk_kernel.proofs.kernel.Kernel.call.Goals as goal

pub call_asked-requires-clause-calls : goal.call_asked-requires-clause-calls
unfolding machine_of
call_asked-requires-clause-calls g c = record {
  whole = pushed_whole g.W.SwapStore c.args.self.now c.push.new.self c.requires.calls.whole
      (ap (λ (log : LogState). log.room) c.push.ensures);
  usable = c.requires.calls.usable;
  matched = c.requires.calls.matched;
  few = c.requires.calls.few;
  ready = c.requires.calls.ready;
}

pub refuse-requires-clause-ready : goal.refuse-requires-clause-ready
unfolding machine_of
refuse-requires-clause-ready g c = c.requires.calls.ready

pub returns-in-Ok-clause-tells : goal.returns-in-Ok-clause-tells
unfolding machine_of
returns-in-Ok-clause-tells g c =
    let k = c.args.self.now in
    let m = machine_of g.W.SwapStore.held k in
    on_ok_weaker c.call_asked.result
    (λ tells.
    tells_first_over g.W.SwapStore.held k c.call_asked.new.self (Called k.cursor c.args.words) (record k { log = c.push.new.self })
    (call_settled m (call m c.args.words)) c.push.ensures tells)
    c.call_asked.ensures.tells

pub returns-in-Err-clause-tells : goal.returns-in-Err-clause-tells
unfolding machine_of
returns-in-Err-clause-tells g c =
    let k = c.args.self.now in
    let m = machine_of g.W.SwapStore.held k in
    tells_exactly g.W.SwapStore.held k c.refuse.new.self (after (Called k.cursor c.args.words) (call_settled m (call m c.args.words)))
    (tells_first g.W.SwapStore.held k c.refuse.new.self (Called k.cursor c.args.words) (record k { log = c.push.new.self }) (call_settled m (call m c.args.words))
    c.push.ensures
    (subst (λ o. Tells g.W.SwapStore.held (record k { log = c.push.new.self }) c.refuse.new.self (call_settled m o))
    (unhandled m c.args.words c.in-Err.error c.in-Err.ensures.no_other (c.in-Err.ensures.unhandled.0 c.in-Err.ensures.no_other)) c.refuse.ensures.tells))

pub returns-in-Ok-clause-leaves : goal.returns-in-Ok-clause-leaves
unfolding machine_of
returns-in-Ok-clause-leaves g c =
    let leaves = c.call_asked.ensures.leaves in
    record {
      whole = leaves.whole;
      usable = leaves.usable;
      keeps = record { size = leaves.keeps.size; store = leaves.keeps.store; room = leaves.keeps.room ∙ ap (λ (log : LogState). log.room) c.push.ensures };
      failed = leaves.failed;
      cause = leaves.cause;
      crowded = on_err_weaker c.call_asked.result (λ crowds. crowds) leaves.crowded;
      near = leaves.near;
    }

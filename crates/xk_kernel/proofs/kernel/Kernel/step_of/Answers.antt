-- What the thread did is the step of the machine, once it is counted, where bytes are known; over any bytes the kernel stays sound.
use Rattle.std.proofs.Common.{◌<◌, sym, ap, subst, ◌∙◌, arith, rules}
use Rattle.std.specs.Prelude.{is_some}
use Rattle.vm_memory.specs.Bytes.{MeansBytesOver, none_out}
use Rattle.xk_kernel.specs.State.{machine_of}
use Rattle.xk_kernel.proofs.Acting.SettlesLemmas.{on_failure}
use Rattle.xk_kernel.proofs.Acting.StepOfLemmas.{claim_there, counting_whole, counts_one, did, did_sound, failed_sound, few_records, may_exchange, of_its_step}
use Rattle.xk_kernel.proofs.kernel.Kernel.step_of.Goals as goal

pub overflow_add-number : goal.overflow_add-number
unfolding machine_of
overflow_add-number g c =
    let few : c.args.self.now.steps < 4000000000 = c.requires.few in
    omega arith

pub act-requires-clause-few : goal.act-requires-clause-few
unfolding machine_of
act-requires-clause-few g c = c.requires.few

pub ring-requires-clause-whole : goal.ring-requires-clause-whole
ring-requires-clause-whole g c = counting_whole g.W.SwapStore c.args.self.now c.act.new.self c.args.who c.requires.who c.in_ok-reserved.reserved c.reservation-self.result c.reservation-self.ensures c.in_ok-reserved.ensures.leaves.whole

pub ring-requires-clause-claim : goal.ring-requires-clause-claim
ring-requires-clause-claim g c = claim_there g.W.SwapStore c.args.self.now c.act.new.self c.args.who c.requires.who c.in_ok-reserved.reserved c.reservation-self.result c.reservation-self.ensures c.in_ok-reserved.ensures.tells c.in_ok-reserved.ensures.settles

pub ring-requires-clause-few : goal.ring-requires-clause-few
ring-requires-clause-few g c = few_records g.W.SwapStore c.args.self.now c.act.new.self c.args.who c.requires.who c.in_ok-reserved.reserved c.reservation-self.result c.reservation-self.ensures c.in_ok-reserved.ensures.tells c.requires.sound.whole

pub ring-requires-clause-step : goal.ring-requires-clause-step
ring-requires-clause-step g c = of_its_step g.W.SwapStore c.args.self.now c.act.new.self c.args.who c.requires.who c.in_ok-reserved.reserved c.reservation-self.result c.reservation-self.ensures c.in_ok-reserved.ensures.tells

pub returns-clause-sound : goal.returns-clause-sound
returns-clause-sound g c =
    did_sound g.W.SwapStore c.args.self.now c.act.new.self c.args.who c.requires.who c.in_ok-reserved.reserved c.reservation-self.result c.reservation-self.ensures c.in_ok-reserved.ensures.tells c.in_ok-reserved.ensures.settles c.ring.new.self c.ring.ensures.whole c.ring.ensures.rings

pub returns-clause-counts : goal.returns-clause-counts
returns-clause-counts g c =
    (ap is_some c.requires.who, counts_one g.W.SwapStore c.args.self.now c.act.new.self c.args.who c.requires.who c.in_ok-reserved.reserved c.reservation-self.result c.reservation-self.ensures c.in_ok-reserved.ensures.tells c.ring.new.self c.ring.ensures.rings)

pub returns-clause-does : goal.returns-clause-does
returns-clause-does g c known =
    did g.W.SwapStore c.args.self.now c.act.new.self c.args.who c.requires.who c.in_ok-reserved.reserved c.reservation-self.result c.reservation-self.ensures
    (c.in_ok-reserved.ensures.acts (subst (λ mem. MeansBytesOver g.W.SwapStore c.args.self.now.mem mem) c.ring.ensures.mem known))
    c.ring.new.self c.ring.ensures.rings

pub returns-clause-leaves : goal.returns-clause-leaves
returns-clause-leaves g c = record {
  whole = c.ring.ensures.whole;
  usable = search rules;
  keeps = search rules;
  failed = tt;
  cause = tt;
  crowded = tt;
  near = λ none out. may_exchange g.W.SwapStore.held c.args.self.now c.args.who c.requires.who (c.act.ensures.leaves.near none (sym (ap (λ mem. none_out mem) c.ring.ensures.mem) ∙ out));
}

-- ---- the store failed

pub returns-in_err-reserved-clause-there : goal.returns-in_err-reserved-clause-there
returns-in_err-reserved-clause-there g c = on_failure c.from_residual.result _ (ap is_some c.requires.who)

pub returns-in_err-reserved-clause-leaves : goal.returns-in_err-reserved-clause-leaves
returns-in_err-reserved-clause-leaves g c =
    let crowded = may_exchange g.W.SwapStore.held c.args.self.now c.args.who c.requires.who c.in_err-reserved.ensures.leaves.crowded in
    record {
      whole = c.act.ensures.leaves.whole;
      usable = search rules;
      keeps = search rules;
      failed = search rules;
      cause = search rules;
      crowded = on_failure c.from_residual.result _ crowded;
      near = λ none out. crowded;
    }

pub returns-in_err-reserved-clause-sound : goal.returns-in_err-reserved-clause-sound
returns-in_err-reserved-clause-sound g c = failed_sound g.W.SwapStore c.act.new.self c.act.ensures.leaves.whole c.in_err-reserved.ensures.leaves.failed

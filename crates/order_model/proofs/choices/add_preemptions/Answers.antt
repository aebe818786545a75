use Rattle.std.proofs.Common.{◌++◌, ◌∷◌, [], Bool, List, sym, ap, ◌∙◌, arith, append-nil}
use Rattle.std.specs.Prelude.{map, nat_lt, if◌then◌else◌}
use Rattle.std.proofs.lemmas.Bool.{lt-ltb}
use Rattle.order_model.specs.declared.choices.Choice.{Choice}
use Rattle.order_model.specs.declared.choices.Choice.TheVariants.{Preempts}
use Rattle.order_model.proofs.ChoiceLemmas.{next_listed, no_numbers, numbers_ended}
use Rattle.order_model.proofs.choices.add_preemptions.Goals as goal

pub loop-done-init : goal.loop-done-init
loop-done-init c =
    let choices : List Choice = c.args.choices.now.items in
    record {
      choices = sym (append-nil choices) ∙ ap (λ ns. choices ++ map (Preempts c.args.who) ns) (sym no_numbers);
      within = omega arith;
    }

pub loop-done-preserved : goal.loop-done-preserved
loop-done-preserved c =
    let now : List Choice = c.loop-done.choices.items in
    let some = lt-ltb 0 c.loop-done.done (omega (arith, c.loop-done.auto.done)) in
    record {
      choices =
          next_listed (Preempts c.args.who) (nat_lt 0) c.loop-done.done c.args.choices.now.items now c.push.new.self.items
          c.loop-done.invariant.choices
          (c.in_ok-push.ensures.items ∙ ap (λ (b : Bool). now ++ (if b then Preempts c.args.who c.loop-done.done ∷ [] else [])) (sym some));
      within = omega (arith, c.loop-done-test.true);
    }

pub returns : goal.returns
returns c =
    c.loop-done.invariant.choices
    ∙ ap (λ ns. c.args.choices.now.items ++ map (Preempts c.args.who) ns)
    (numbers_ended c.loop-done.done c.args.steps c.loop-done.auto.done c.loop-done.invariant.within c.loop-done.auto.done-end
    (omega (arith, c.loop-done-test.false)))

use Rattle.std.proofs.Common.{◌≡◌, ◌≤◌, ◌+◌, ◌++◌}
use Rattle.std.specs.Prelude.{map}
use Rattle.order_model.specs.declared.choices.Choice.TheVariants.{Preempts}
use Rattle.order_model.proofs.ChoiceLemmas.{numbers}
use Rattle.order_model.proofs.choices.add_preemptions.Given as goal

abbrev pub invariant-loop-done : goal.invariant-loop-done
invariant-loop-done l = record {
  choices : l.choices.items ≡ l.fn.choices.items ++ map (Preempts l.who) (numbers l.done);
  within : l.done ≤ l.steps + 1;
}

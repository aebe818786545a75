use Rattle.std.proofs.Common.{◌∙◌, ◌++◌, sym}
use Rattle.std.specs.Option.{option_to_list}
use Rattle.order_words.specs.Arguments.{value_at}
use Rattle.order_words.proofs.SaidLemmas.{told_more}
use Rattle.order_words.proofs.said.values.Goals as goal

pub loop-argument-preserved : goal.loop-argument-preserved
loop-argument-preserved c =
    c.in_ok-add.ensures
    ∙ ((λ i. c.loop-argument.invariant i ++ option_to_list (c.value_at.ensures i))
    ∙ sym (told_more (value_at c.args.option.now) c.args.arguments.now c.loop-argument.argument-index _ c.loop-argument-test.true))

use Rattle.std.proofs.Common.{◌∙◌, sym}
use Rattle.order_words.specs.Arguments.{is_alone}
use Rattle.order_words.proofs.SaidLemmas.{any_at}
use Rattle.order_words.proofs.said.is_given.Goals as goal

pub returns-then-is_alone : goal.returns-then-is_alone
returns-then-is_alone c =
    sym (any_at (is_alone c.args.option.now) c.args.arguments.now c.loop-argument.argument-index _ c.loop-argument-test.true
    (sym c.is_alone.ensures ∙ c.if-is_alone.true))

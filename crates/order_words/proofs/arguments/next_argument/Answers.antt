use Rattle.std.proofs.Common.{◌∙◌, sym}
use Rattle.order_words.proofs.ArgumentLemmas.{if_none, no_value_behind, unknown_behind}
use Rattle.order_words.proofs.arguments.next_argument.Goals as goal

pub returns-in_err-value-clause-none : goal.returns-in_err-value-clause-none
returns-in_err-value-clause-none c =
    if_none c.from_residual.result _ (λ args are. no_value_behind c.as_str-text.result.now c.args.word.now c.args.rest.now args c.as_str-text.ensures.value
    (sym c.has_value.ensures ∙ c.if-has_value.true) c.in_err-value.ensures.cases are)

pub returns-then-is_option-clause-none : goal.returns-then-is_option-clause-none
returns-then-is_option-clause-none c args are =
    unknown_behind c.as_str-text.result.now c.args.word.now c.args.rest.now args c.as_str-text.ensures.value (sym c.has_value.ensures ∙ c.if-has_value.false)
    (sym c.stands_alone.ensures ∙ c.if-stands_alone.false) (sym c.is_option.ensures ∙ c.if-is_option.true) are

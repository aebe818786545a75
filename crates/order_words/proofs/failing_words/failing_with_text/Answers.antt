use Rattle.order_words.proofs.ArgumentLemmas.{if_none}
use Rattle.order_words.proofs.failing_words.failing_with_text.Goals as goal

pub returns-in_err-text-clause-none : goal.returns-in_err-text-clause-none
returns-in_err-text-clause-none c = if_none c.from_residual.result _ (record {
  console = λ text some e. c.in_default.ensures.cases text e;
  console_not = λ text some e. c.in_err-text.ensures.cases text e;
})

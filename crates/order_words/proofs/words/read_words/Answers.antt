use Rattle.std.proofs.Common.{List, map, subst}
use Rattle.order_words.specs.Answers.{Answers}
use Rattle.order_words.specs.Arguments.{argument_in, texts}
use Rattle.order_words.specs.Words.{Asks}
use Rattle.order_words.specs.declared.arguments.Argument.{Argument}
use Rattle.order_words.proofs.WordLemmas.{asked_is_read}
use Rattle.order_words.proofs.words.read_words.Goals as goal

pub returns : goal.returns
returns c =
    asked_is_read (map argument_in c.in_ok-arguments.arguments.items) (texts c.args.all.now) c.words_of.result c.in_ok-arguments.ensures
    (subst (λ (args : List Argument). Answers (Asks (map argument_in args)) (Asks (map argument_in args)) c.words_of.result) c.deref.ensures.value
    c.words_of.ensures)

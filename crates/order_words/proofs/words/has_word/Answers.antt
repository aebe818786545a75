use Rattle.std.proofs.Common.{◌∙◌, sym}
use Rattle.std.specs.Str.{bytes_eq}
use Rattle.order_words.proofs.SaidLemmas.{any_word_at}
use Rattle.order_words.proofs.words.has_word.Goals as goal

pub returns-then-eq : goal.returns-then-eq
returns-then-eq c =
    sym (any_word_at (bytes_eq c.args.word.now) c.args.words.now c.loop-other.other-index _ c.loop-other-test.true (sym c.eq.ensures ∙ c.if-eq.true))

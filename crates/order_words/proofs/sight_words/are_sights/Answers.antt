use Rattle.std.proofs.Common.{◌∙◌, sym}
use Rattle.order_words.specs.Arguments.{is_one_of}
use Rattle.order_words.specs.Values.{sight_words}
use Rattle.order_words.proofs.SaidLemmas.{not_all_at}
use Rattle.order_words.proofs.sight_words.are_sights.Goals as goal

pub returns-then-not-is_sight : goal.returns-then-not-is_sight
returns-then-not-is_sight c =
    sym (not_all_at (is_one_of sight_words) c.args.parts.now c.loop-part.part-index _ c.loop-part-test.true (sym c.is_sight.ensures ∙ c.if-not-is_sight.true))

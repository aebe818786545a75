use Rattle.std.proofs.Common.{◌≡◌, map, take}
use Rattle.order_words.specs.Values.{others_than_differ}
use Rattle.order_words.proofs.failing_words.others.Given as goal

abbrev pub invariant-loop-word : goal.invariant-loop-word
invariant-loop-word l =
    map (λ word. word.now) l.others.items ≡ others_than_differ (map (λ word. word.now) (take l.word-index l.words))

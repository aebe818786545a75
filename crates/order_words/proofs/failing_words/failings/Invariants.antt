use Rattle.std.proofs.Common.{map, take}
use Rattle.order_words.specs.Values.{AskForAll}
use Rattle.order_words.proofs.failing_words.failings.Given as goal

abbrev pub invariant-loop-word : goal.invariant-loop-word
invariant-loop-word l = AskForAll (map (λ word. word.now) (take l.word-index l.words)) l.fails.items

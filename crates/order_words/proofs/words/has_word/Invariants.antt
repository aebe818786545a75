use Rattle.std.proofs.Common.{◌≡◌, false, map, take}
use Rattle.order_words.specs.Arguments.{is_one_of}
use Rattle.order_words.proofs.words.has_word.Given as goal

abbrev pub invariant-loop-other : goal.invariant-loop-other
invariant-loop-other l = is_one_of (map (λ word. word.now) (take l.other-index l.words)) l.word ≡ false

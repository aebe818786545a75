use Rattle.std.proofs.Common.{◌≡◌, ◌++◌, take}
use Rattle.order_text.proofs.names.put_letters.Given as goal

-- the words before
abbrev pub invariant-loop-word : goal.invariant-loop-word
invariant-loop-word l = l.text.items ≡ l.initial.text.items ++ take l.word-index l.words

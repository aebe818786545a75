use Rattle.std.proofs.Common.{◌≡◌, take}
use Rattle.order_text.specs.Names.{packed_letters}
use Rattle.order_text.proofs.names.packed_letters.Given as goal

-- those of the words before
abbrev pub invariant-loop-word : goal.invariant-loop-word
invariant-loop-word l = l.letters.items ≡ packed_letters (take l.word-index l.words)

-- The words so far have been appended, nine bytes for each.
use Rattle.std.proofs.Common.{◌≡◌, ◌+◌, ◌*◌, ◌++◌, length, take}
use Rattle.trace_text.specs.Words.{words_text}
use Rattle.trace_text.proofs.pieces.append_words.Given as goal

abbrev pub invariant-loop-word : goal.invariant-loop-word
invariant-loop-word l =
    (l.out.items ≡ l.initial.out.items ++ words_text (take l.word-index l.words))
    × (length l.out.items ≡ length l.initial.out.items + 9 * l.word-index)

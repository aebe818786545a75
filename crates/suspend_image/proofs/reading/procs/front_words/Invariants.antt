use Rattle.std.proofs.Common.{◌≡◌, ◌-◌}
use Rattle.suspend_image.specs.Reading.{word_at, items_at}
use Rattle.suspend_image.proofs.RowLoopLemmas.{with_front}
use Rattle.suspend_image.proofs.reading.procs.front_words.Given as goal

abbrev pub invariant-loop : goal.invariant-loop
invariant-loop l = with_front l.words (items_at word_at (l.count - l.counter) l.rest) ≡ items_at word_at l.count l.bytes

use Rattle.std.proofs.Common.{ap, ◌∙◌, get_or}
use Rattle.suspend_image.specs.Words.{word}
use Rattle.suspend_image.specs.Sheets.{appended}
use Rattle.suspend_image.proofs.Sheets.SpellingLemmas.{none_appended, word_bytes-nil, word_has_room, word_appended}
use Rattle.suspend_image.proofs.writing.sheet.Sheet.push_words.Goals as goal

pub loop-number-init : goal.loop-number-init
loop-number-init c = rw word_bytes-nil (none_appended c.args.self.now)

pub push_word-requires : goal.push_word-requires
push_word-requires c = rw c.loop-number.invariant (word_has_room c.args.numbers.now c.loop-number.number-index c.args.self.now c.loop-number-test.true c.requires)

pub loop-number-preserved : goal.loop-number-preserved
loop-number-preserved c =
    c.push_word.ensures
    ∙ ap (appended (word (get_or c.args.numbers.now c.loop-number.number-index 0))) c.loop-number.invariant
    ∙ word_appended c.args.numbers.now c.loop-number.number-index c.args.self.now c.loop-number-test.true

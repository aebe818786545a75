use Rattle.std.proofs.Common.{◌≡◌, take}
use Rattle.suspend_image.specs.Words.{word_bytes}
use Rattle.suspend_image.specs.Sheets.{appended}
use Rattle.suspend_image.proofs.writing.sheet.Sheet.push_words.Given as goal

abbrev pub invariant-loop-number : goal.invariant-loop-number
invariant-loop-number l = l.self ≡ appended (word_bytes (take l.number-index l.numbers)) l.fn.self

use Rattle.std.proofs.Common.{◌∙◌, ap, arith, length}
use Rattle.suspend_image.specs.Sheets.{SheetBytes, with_word}
use Rattle.order_search.proofs.DigestLemmas.{as_long, first_long, parts_counted, parts_uncounted, placed_is, second_long}
use Rattle.order_search.proofs.keys.set_aside.Goals as goal

pub set_word-requires-2 : goal.set_word-requires-2
set_word-requires-2 c =
    let long = first_long c.args.sheet.now c.set_word.new.self c.requires.long c.set_word.ensures in
    omega (arith, c.requires.long, long)

pub returns-then-counts-clause-parts : goal.returns-then-counts-clause-parts
returns-then-counts-clause-parts c =
    parts_counted c.args.sheet.now.bytes c.set_word-2.new.self.bytes c.args.counts
    (placed_is c.args.sheet.now c.set_word.new.self c.set_word-2.new.self c.requires.long c.set_word.ensures c.set_word-2.ensures)
    c.if-counts.true

pub returns-then-counts-clause-long : goal.returns-then-counts-clause-long
returns-then-counts-clause-long c =
    second_long c.args.sheet.now c.set_word.new.self c.set_word-2.new.self c.requires.long c.set_word.ensures c.set_word-2.ensures

pub set_word-requires-3 : goal.set_word-requires-3
set_word-requires-3 c =
    let long = second_long c.args.sheet.now c.set_word.new.self c.set_word-2.new.self c.requires.long c.set_word.ensures c.set_word-2.ensures in
    omega (arith, c.requires.long, long)

pub returns-clause-parts : goal.returns-clause-parts
returns-clause-parts c =
    parts_uncounted c.args.sheet.now.bytes c.set_word-3.new.self.bytes c.args.counts
    (ap (λ (s : SheetBytes). s.bytes) c.set_word-3.ensures
    ∙ ap (with_word 24 0)
    (placed_is c.args.sheet.now c.set_word.new.self c.set_word-2.new.self c.requires.long c.set_word.ensures c.set_word-2.ensures))
    c.if-counts.false

pub returns-clause-long : goal.returns-clause-long
returns-clause-long c =
    let long = second_long c.args.sheet.now c.set_word.new.self c.set_word-2.new.self c.requires.long c.set_word.ensures c.set_word-2.ensures in
    ap (λ (s : SheetBytes). length s.bytes) c.set_word-3.ensures
    ∙ (as_long 24 0 c.set_word-2.new.self.bytes (omega (arith, c.requires.long, long)) ∙ long)

use Rattle.std.proofs.Common.{◌%◌, Some, None, sym, ◌∙◌, refl}
use Rattle.sv32_space.specs.Spellings.{out_side}
use Rattle.sv32_space.proofs.SpellingLemmas.{kind_by_parts}
use Rattle.sv32_space.proofs.entries.kind_by_bits.Goals as goal

pub returns-in-Some-default : goal.returns-in-Some-default
returns-in-Some-default c =
    kind_by_parts c.args.word (Some c.in-Some-default.side) (out_side (c.args.word % 1024)) c.ranges.word.fits c.if-word-eq0.false
    (sym c.in-Some-default.is-0 ∙ c.side_here.ensures) refl

pub returns-in-None-Some : goal.returns-in-None-Some
returns-in-None-Some c =
    kind_by_parts c.args.word None (Some c.in-None-Some.side) c.ranges.word.fits c.if-word-eq0.false
    (sym c.in-None-Some.is-0 ∙ c.side_here.ensures) (sym c.in-None-Some.is-1 ∙ c.side_out.ensures)

pub returns-in-None-None : goal.returns-in-None-None
returns-in-None-None c =
    kind_by_parts c.args.word None None c.ranges.word.fits c.if-word-eq0.false
    (sym c.in-None-None.is-0 ∙ c.side_here.ensures) (sym c.in-None-None.is-1 ∙ c.side_out.ensures)

use Rattle.std.proofs.Common.{arith, ◌≡◌, ◌<◌, ◌+◌, ◌-◌, ◌∙◌, length, take, drop, ap, sym, []}
use Rattle.std.proofs.lemmas.Grind.{common_steps}
use Rattle.event_text.specs.Lines.{words_of}
use Rattle.event_text.proofs.LineLemmas.{words_cut, words_none}
use Rattle.event_text.proofs.words.next_word.Goals as goal

pub returns-then-is_empty-clause-none : goal.returns-then-is_empty-clause-none
returns-then-is_empty-clause-none c =
    let empty : c.skip_spaces-rest.result.now ≡ [] = grind (arith, common_steps) in
    sym c.skip_spaces-rest.ensures.same ∙ (ap words_of empty ∙ words_none)

pub returns-in-Some-clause-words : goal.returns-in-Some-clause-words
returns-in-Some-clause-words c =
    let rest = c.skip_spaces-rest.result.now in
    let end = c.in-Some.end in
    let whole : take (length rest - (end + 1)) (drop (end + 1) rest) ≡ drop (end + 1) rest = grind (arith, common_steps) in
    let some : 0 < end = grind (arith, common_steps) in
    sym c.skip_spaces-rest.ensures.same
    ∙ rw whole (words_cut rest end c.in-Some.ensures.bound c.in-Some.ensures.found c.in-Some.ensures.first some)

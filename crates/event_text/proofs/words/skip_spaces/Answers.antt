use Rattle.std.proofs.Common.{arith, ◌≡◌, ◌-◌, length, take, drop}
use Rattle.std.proofs.lemmas.Grind.{common_steps}
use Rattle.event_text.proofs.LineLemmas.{words_from}
use Rattle.event_text.proofs.words.skip_spaces.Goals as goal

pub returns-in-Some-clause-same : goal.returns-in-Some-clause-same
returns-in-Some-clause-same c =
    let text = c.args.text.now in
    let i = c.in-Some.start in
    let inside = c.in-Some.ensures.bound in
    let whole : take (length text - i) (drop i text) ≡ drop i text = grind (arith, common_steps) in
    rw whole (words_from text i (omega (arith, inside)) c.in-Some.ensures.first)

pub returns-in-None-clause-same : goal.returns-in-None-clause-same
returns-in-None-clause-same c =
    let text = c.args.text.now in
    let whole : take (length text - length text) (drop (length text) text) ≡ drop (length text) text = grind (arith, common_steps) in
    rw whole (words_from text (length text) (omega arith) c.in-None.ensures.none)

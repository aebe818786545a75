use Rattle.std.proofs.Common.{◌≡◌, ◌∙◌, refl, sym, ap, Some, None, true, []}
use Rattle.event_text.specs.declared.event.Line.TheVariants as line
use Rattle.event_text.specs.declared.event.NextEvent.TheVariants as answer
use Rattle.event_text.specs.Held.{Reader, front_of, is_good, rest_answer}
use Rattle.event_text.proofs.HeldLemmas.{answer_here, after_here, answer_blank, after_blank, front_past, rest_more, bad_known, front_good, past_holds}
use Rattle.event_text.proofs.reader.EventReader.next.Goals as goal

pub returns-in-Some-Bad-clause-answer : goal.returns-in-Some-Bad-clause-answer
returns-in-Some-Bad-clause-answer c =
    let known : front_of c.args.self.now ≡ Some line.Bad = cc in
    ap (λ n. answer.Bad n) c.line_number.ensures ∙ sym (answer_here c.args.self.now (Some line.Bad) c.front.ensures.one_line known refl)

pub returns-in-Some-Bad-clause-after : goal.returns-in-Some-Bad-clause-after
returns-in-Some-Bad-clause-after c =
    let known : front_of c.args.self.now ≡ Some line.Bad = cc in
    sym (after_here c.args.self.now (Some line.Bad) c.front.ensures.one_line known refl)

pub returns-in-Some-Asks-clause-answer : goal.returns-in-Some-Asks-clause-answer
returns-in-Some-Asks-clause-answer c =
    let known : front_of c.args.self.now ≡ Some (line.Asks c.in-Some-Asks.event) = cc in
    sym (answer_here c.args.self.now (Some (line.Asks c.in-Some-Asks.event)) c.front.ensures.one_line known refl)

pub returns-in-Some-Asks-clause-after : goal.returns-in-Some-Asks-clause-after
returns-in-Some-Asks-clause-after c =
    let known : front_of c.args.self.now ≡ Some (line.Asks c.in-Some-Asks.event) = cc in
    c.pass_line.ensures ∙ sym (after_here c.args.self.now (Some (line.Asks c.in-Some-Asks.event)) c.front.ensures.one_line known refl)

pub returns-in-Some-Blank-clause-answer : goal.returns-in-Some-Blank-clause-answer
returns-in-Some-Blank-clause-answer c =
    let known : front_of c.args.self.now ≡ Some line.Blank = cc in
    let same = answer_blank c.args.self.now c.front.ensures.one_line known in
    c.rest.ensures.answer ∙ (ap (λ (r : Reader). rest_answer r.finished) c.pass_line-in-Some-Blank.ensures ∙ sym same)

pub returns-in-Some-Blank-clause-after : goal.returns-in-Some-Blank-clause-after
returns-in-Some-Blank-clause-after c =
    let known : front_of c.args.self.now ≡ Some line.Blank = cc in
    c.pass_line-in-Some-Blank.ensures ∙ sym (after_blank c.args.self.now c.front.ensures.one_line known)

pub returns-in-Some-Blank-clause-more : goal.returns-in-Some-Blank-clause-more
returns-in-Some-Blank-clause-more c = λ more.
    let past : front_of c.pass_line-in-Some-Blank.new.self ≡ None =
    ap front_of c.pass_line-in-Some-Blank.ensures ∙ front_past c.args.self.now c.front.ensures.one_line in
    (past, rest_more c.pass_line-in-Some-Blank.new.self.finished (sym c.rest.ensures.answer ∙ more))

pub returns-in-None-clause-answer : goal.returns-in-None-clause-answer
returns-in-None-clause-answer c =
    let known : front_of c.args.self.now ≡ None = cc in
    c.rest-in-None.ensures.answer ∙ sym (answer_here c.args.self.now None c.front.ensures.one_line known refl)

pub returns-in-None-clause-after : goal.returns-in-None-clause-after
returns-in-None-clause-after c =
    let known : front_of c.args.self.now ≡ None = cc in
    sym (after_here c.args.self.now None c.front.ensures.one_line known refl)

pub returns-in-Some-Bad-clause-bad : goal.returns-in-Some-Bad-clause-bad
returns-in-Some-Bad-clause-bad c = λ n bad.
    let known : front_of c.args.self.now ≡ Some line.Bad = cc in
    bad_known c.args.self.now c.line_number.result n known c.line_number.ensures bad

pub returns-in-Some-Blank-clause-within : goal.returns-in-Some-Blank-clause-within
returns-in-Some-Blank-clause-within c = λ more.
    c.rest.ensures.within (ap front_of c.pass_line-in-Some-Blank.ensures ∙ front_past c.args.self.now c.front.ensures.one_line)

pub returns-in-Some-Asks-clause-fewer : goal.returns-in-Some-Asks-clause-fewer
returns-in-Some-Asks-clause-fewer c = λ event found.
    let known : front_of c.args.self.now ≡ Some (line.Asks c.in-Some-Asks.event) = cc in
    let good : is_good (front_of c.args.self.now) ≡ true = rw known refl in
    let within = front_good c.args.self.now c.front.ensures.one_line good in
    let none : c.pass_line.new.self.held ≡ [] = ap (λ (r : Reader). r.held) c.pass_line.ensures ∙ past_holds c.args.self.now c.front.ensures.one_line in
    rw none within.some

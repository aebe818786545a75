use Rattle.std.proofs.Common.{◌∙◌, ap, sym, ℕ, List}
use Rattle.event_text.specs.Held.{front_of, known_line}
use Rattle.event_text.proofs.reader.EventReader.front.Goals as goal

pub returns-clause-front : goal.returns-clause-front
unfolding front_of
returns-clause-front c =
    let r = c.self.inside in
    c.read_held.ensures
    ∙ (ap (λ (held : List ℕ). known_line r.finished r.start held) c.as_slice.ensures.value
    ∙ (ap (λ (held : List ℕ). known_line r.finished r.start held) (sym c.self.invariant.one_line)
    ∙ ap front_of c.self.view_is))

use Rattle.std.proofs.Common.{◌∙◌, ◌++◌, List, ap, subst}
use Rattle.event_text.specs.Spelling.{AreAskable, event_lines}
use Rattle.xk_base.specs.declared.events.Event.{Event}
use Rattle.xousorders.proofs.files.file_of.Goals as goal

pub returns-clause-file : goal.returns-clause-file
returns-clause-file c asked same =
    c.in_ok-extend_from_slice.ensures.items
    ∙ (λ i. c.in_ok-file.ensures i
    ++ (c.deref-2.ensures.value
    ∙ (c.in_ok-lines.ensures.lines ∙ ap event_lines (c.deref.ensures.value ∙ c.in_ok-events.ensures.events asked same))) i)

pub returns-clause-spelled : goal.returns-clause-spelled
returns-clause-spelled c asked same once =
    subst (λ (es : List Event). AreAskable es) (c.in_ok-events.ensures.events asked same) (c.in_ok-events.ensures.askable once)

use Rattle.std.proofs.Common.{◌∙◌, ap, length}
use Rattle.order_model.proofs.ChoiceLemmas.{ending_is, none_counted}
use Rattle.order_model.specs.Endings.{are_none}
use Rattle.order_model.proofs.choices.note_of.Goals as goal

pub returns : goal.returns
returns c asked m same =
    let ends = c.is_empty.ensures ∙ (none_counted c.args.ids.now ∙ (ap are_none same ∙ ending_is asked m)) in
    λ i. record { ends = ends i; slices = length (same i) }

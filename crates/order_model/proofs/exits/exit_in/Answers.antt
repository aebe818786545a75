use Rattle.std.proofs.Common.{sym, ap, ◌∙◌}
use Rattle.std.specs.Option.{option_map}
use Rattle.order_model.specs.declared.exits.Ended.{Ended}
use Rattle.order_model.proofs.exits.exit_in.Goals as goal

pub returns-in-Some : goal.returns-in-Some
returns-in-Some c = ap (option_map (λ (end : Ended). end.exit)) (sym c.in-Some.is ∙ c.end_in.ensures)

pub returns-in-None : goal.returns-in-None
returns-in-None c = ap (option_map (λ (end : Ended). end.exit)) (sym c.in-None.is ∙ c.end_in.ensures)

use Rattle.std.proofs.Common.{ap, ◌∙◌}
use Rattle.ledger_model.specs.Reach.{is_free, is_free_role}
use Rattle.ledger_model.proofs.small.is_free_place.Goals as goal

pub returns : goal.returns
unfolding is_free
returns c = λ procs h. c.is_free_of.ensures ∙ ap is_free_role (c.role-role.ensures procs h)

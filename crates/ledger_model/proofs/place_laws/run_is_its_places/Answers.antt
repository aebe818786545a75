use Rattle.ledger_model.proofs.PlaceLemmas.{in_run-after, in_run-index, length-run, run-at}
use Rattle.ledger_model.specs.Places.{in_run}
use Rattle.std.proofs.Common.{subst, sym, true, ◌-◌, ◌≡◌}
use Rattle.ledger_model.proofs.place_laws.run_is_its_places.Goals as goal

pub returns-clause-length : goal.returns-clause-length
returns-clause-length c = length-run

pub returns-clause-places : goal.returns-clause-places
returns-clause-places c = run-at

pub returns-clause-members : goal.returns-clause-members
returns-clause-members c = λ first n p. (λ t. (p.vpn.0 - first.vpn.0, (in_run-index first n p t).0, (in_run-index first n p t).1), λ h. subst (λ q. in_run first n q ≡ true) (sym h.2) (in_run-after first n h.0 h.1))

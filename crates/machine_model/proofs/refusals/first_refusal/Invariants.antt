use Rattle.std.proofs.Common.{◌≡◌, drop}
use Rattle.machine_model.specs.State.Changes.{first_refusal}
use Rattle.machine_model.proofs.refusals.first_refusal.Given as goal

-- no test so far holds
abbrev pub invariant-loop-holds : goal.invariant-loop-holds
invariant-loop-holds l = first_refusal (drop l.holds-index l.tests) ≡ first_refusal l.tests

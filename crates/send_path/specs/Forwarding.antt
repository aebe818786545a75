-- ForwardMessage by its row.
use Rattle.std.specs.Prelude.{ℕ}
use Rattle.machine_model.specs.Messaging.ForwardCalls.{forward_refusals, forward_served, next_arrival, next_arrival_refusals}
use Rattle.machine_model.specs.State.Changes.{Outcome, Served, unless_refused}
use Rattle.machine_model.specs.State.Machine.{Machine}
use Rattle.xk_base.specs.declared.ids.Number.{Number}

-- ForwardMessage of the message with that number to the server that the connection leads to
abbrev pub forward_row : Number → ℕ → Machine → Outcome
forward_row number cid m =
    let first = next_arrival m number cid in
    unless_refused (forward_refusals m number cid)
    (unless_refused (next_arrival_refusals first) (Served (forward_served m number cid first)))

-- A run delivers no more than was pending or is raised in it; and what an event `irq` starts.
use Rattle.std.proofs.Common.{◌≡◌, ◌+◌, ◌≤◌, Bool, [], ◌∷◌, ◌++◌, length, ap, arith}
use Rattle.machine_laws.proofs.Stepping.EveryStepLemmas.{every_run_keeps}
use Rattle.machine_model.specs.Runs.Moments.{IsRun, caused, state_at}
use Rattle.machine_model.specs.State.Machine.{Machine}
use Rattle.machine_laws.specs.Records.{records_by, records_of}
use Rattle.interrupt_laws.specs.Delivering.{DeliveredAtMostOnce, PendingAreClaimed, deliveries, once_if, raises, raises_in}
use Rattle.interrupt_laws.proofs.BalanceLemmas.{deliveries-append}
use Rattle.interrupt_laws.proofs.MomentLemmas.{moment_delivers}

pub delivered_at_most_once : DeliveredAtMostOnce
unfolding records_of raises state_at IsRun
delivered_at_most_once k start [] run = omega arith
delivered_at_most_once k start (moment ∷ moments) run =
    let one : deliveries k (records_by moment.cause start) + once_if ((caused moment.cause start).pending k) ≤ raises_in k moment.cause start + once_if (start.pending k) =
    moment_delivers k moment.cause start in
    let last : Bool = (state_at moment.machine moments (length moments)).pending k in
    let rest : deliveries k (records_of moment.machine moments) + once_if last ≤ raises k moment.machine moments + once_if (moment.machine.pending k) =
    delivered_at_most_once k moment.machine moments run.1 in
    let same : once_if (moment.machine.pending k) ≡ once_if ((caused moment.cause start).pending k) = ap (λ (m : Machine). once_if (m.pending k)) run.0 in
    let all : deliveries k (records_by moment.cause start ++ records_of moment.machine moments) ≡ deliveries k (records_by moment.cause start) + deliveries k (records_of moment.machine moments) =
    deliveries-append k (records_by moment.cause start) (records_of moment.machine moments) in
    omega arith

pub pending_are_claimed : PendingAreClaimed
pending_are_claimed k start moments i h run pending = (every_run_keeps start moments h run i).rest.claims.pending_claimed k pending

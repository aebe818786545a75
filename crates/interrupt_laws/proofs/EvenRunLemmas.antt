-- Every run is balanced.
use Rattle.std.proofs.Common.{◌≡◌, ◌+◌, Bool, [], ◌∷◌, ◌++◌, length, sym, ap, subst, arith}
use Rattle.machine_laws.proofs.Stepping.EveryStepLemmas.{every_cause_keeps}
use Rattle.machine_model.specs.Runs.Matched.{Matched}
use Rattle.machine_model.specs.Runs.Moments.{IsRun, caused, state_at}
use Rattle.machine_model.specs.State.Machine.{Machine}
use Rattle.machine_laws.specs.Records.{records_by, records_of}
use Rattle.interrupt_laws.specs.Balance.{NoInterruptIsLost, given_up, given_up_in, merges, merges_in}
use Rattle.interrupt_laws.specs.Delivering.{deliveries, once_if, raises, raises_in}
use Rattle.interrupt_laws.proofs.BalanceLemmas.{deliveries-append}
use Rattle.interrupt_laws.proofs.EvenMomentLemmas.{moment_even}

pub no_interrupt_is_lost : NoInterruptIsLost
unfolding records_of raises merges given_up state_at IsRun
no_interrupt_is_lost k start [] h run = omega arith
no_interrupt_is_lost k start (moment ∷ moments) h run =
    let here : Machine = caused moment.cause start in
    let one : raises_in k moment.cause start + once_if (start.pending k)
    ≡ deliveries k (records_by moment.cause start) + merges_in k moment.cause start + given_up_in k start here + once_if (here.pending k) =
    moment_even k start h moment.cause in
    let last : Bool = (state_at moment.machine moments (length moments)).pending k in
    let rest : once_if (moment.machine.pending k) + raises k moment.machine moments
    ≡ deliveries k (records_of moment.machine moments) + merges k moment.machine moments + given_up k moment.machine moments + once_if last =
    no_interrupt_is_lost k moment.machine moments (subst Matched (sym run.0) (every_cause_keeps moment.cause start h)) run.1 in
    let same : once_if (moment.machine.pending k) ≡ once_if (here.pending k) = ap (λ (m : Machine). once_if (m.pending k)) run.0 in
    let lost : given_up_in k start moment.machine ≡ given_up_in k start here = ap (given_up_in k start) run.0 in
    let all : deliveries k (records_by moment.cause start ++ records_of moment.machine moments) ≡ deliveries k (records_by moment.cause start) + deliveries k (records_of moment.machine moments) =
    deliveries-append k (records_by moment.cause start) (records_of moment.machine moments) in
    omega arith

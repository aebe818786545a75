-- The numbers of steps in the records of a run never fall.
use Rattle.std.proofs.Common.{◌≡◌, ℕ, ◌+◌, ◌≤◌, List, [], ◌∷◌, ◌++◌, map, Some, refl, ap, arith}
use Rattle.std.specs.List.{All, AllPairs}
use Rattle.std.proofs.lemmas.List.Elements.{All-append, All-map, All-nil, All-weaker}
use Rattle.xk_base.specs.declared.events.Event.{Event}
use Rattle.xk_base.specs.declared.ids.Pid.{Pid}
use Rattle.xk_base.specs.declared.records.Rec.{Rec}
use Rattle.xk_base.specs.declared.records.What.{What}
use Rattle.machine_laws.specs.Records.{records_by, records_of}
use Rattle.machine_laws.specs.HistoryMoments.{moments_of}
use Rattle.machine_laws.proofs.Histories.MomentLemmas.{history_is_run}
use Rattle.machine_model.specs.Ending.Ends.{death}
use Rattle.machine_model.specs.Runs.Moments.{Cause, IsRun, Moment, caused}
use Rattle.machine_model.specs.State.Changes.{settled}
use Rattle.machine_model.specs.State.Machine.{Machine}
use Rattle.machine_model.specs.Stepping.Interrupts.{pended}
use Rattle.machine_model.specs.Stepping.Reservations.{unreserved}
use Rattle.machine_model.specs.Stepping.Step.{counted, record_of}
use Rattle.machine_model.specs.Stepping.Timer.{timed}
use Rattle.transcript_laws.specs.RecordOrder.{StepsNeverFall}
use Rattle.transcript_laws.proofs.Ordering.PairLemmas.{pairs_append, pairs_none, pairs_to_map}
use Rattle.machine_laws.proofs.Stepping.CauseCaseLemmas.{CauseCase, Kills, Raises, Rests, Steps, case_of, cause_counts}
use Rattle.machine_model.specs.Ending.Closing.{closed, senders_held_gone, senders_queued_gone, servers_closed}
use Rattle.machine_model.specs.Ending.Ends.{forgotten}
use Rattle.machine_laws.proofs.Threading.ThreadStepLemmas.{turned_to}
use Rattle.machine_model.proofs.Runs.TimerLemmas.{pended_raised, timed_raised}
use Rattle.machine_model.specs.Stepping.Step.{Recorded, acted}

-- the record has a number from the one on up to the other
abbrev IsWithin : ℕ → ℕ → Rec → Type 0
IsWithin low high rec = (low ≤ rec.step) × (rec.step ≤ high)

abbrev NotAfter : Rec → Rec → Type 0
NotAfter a b = a.step ≤ b.step

-- the records of one moment have numbers from the steps before it up to those after it, and in order
record AreNumbered (low high : ℕ) (records : List Rec) : Type 0 where
  within : All (IsWithin low high) records
  pairs : AllPairs NotAfter records

none_numbered : (low high : ℕ) → AreNumbered low high []
none_numbered low high = record { within = All-nil (IsWithin low high); pairs = pairs_none NotAfter }

all_numbered : (low n high : ℕ) → low ≤ n → n ≤ high → (told : List What) → AreNumbered low high (map (record_of n) told)
all_numbered low n high le up told = record {
  within = All-map (IsWithin low high) (record_of n) told (λ k d lt. (le, up));
  pairs = pairs_to_map NotAfter (record_of n) told (λ i j d lt under. omega arith);
}

-- ---- any cause

death_steps : (pid : Pid) (m : Machine) → (settled (death pid m)).machine.steps ≡ m.steps
unfolding settled death servers_closed closed senders_queued_gone senders_held_gone forgotten
death_steps pid m = refl

-- the records have numbers from the steps before up to those after
cause_numbered : (cause : Cause) (m : Machine) → AreNumbered m.steps (caused cause m).steps (records_by cause m)
cause_numbered cause m = by cause (record { machine = caused cause m; records = records_by cause m }) (case_of cause m)
  where
    by : (cause : Cause) (next : Recorded) → CauseCase m cause next → AreNumbered m.steps next.machine.steps next.records
    by _ _ (Rests cause cursor reserved rest) = none_numbered m.steps m.steps
    by _ _ (Steps who t acts there case) =
        let done = counted (turned_to who m) (Some t) (acted (turned_to who m) t) in
        let counts : (timed done).machine.steps ≡ m.steps + 1 = ap (λ (x : Machine). x.steps) (timed_raised done).is in
        all_numbered m.steps (m.steps + 1) (timed done).machine.steps (omega arith) (omega arith) (timed done).told
    by _ _ (Raises k claim e) =
        let change = pended k claim (unreserved m) in
        let same : (settled change).machine.steps ≡ m.steps = ap (λ (x : Machine). x.steps) (pended_raised k claim (unreserved m)).is in
        all_numbered m.steps m.steps (settled change).machine.steps (omega arith) (omega arith) (settled change).told
    by _ _ (Kills pid e) =
        let change = death pid (unreserved m) in
        let same : (settled change).machine.steps ≡ m.steps = death_steps pid (unreserved m) in
        all_numbered m.steps m.steps (settled change).machine.steps (omega arith) (omega arith) (settled change).told

-- ---- runs

-- each record has a number of the start's steps or more
abbrev IsFrom : ℕ → Rec → Type 0
IsFrom low rec = low ≤ rec.step

record AreFrom (low : ℕ) (records : List Rec) : Type 0 where
  from : All (IsFrom low) records
  pairs : AllPairs NotAfter records

joined : (low middle high : ℕ) (xs ys : List Rec) → low ≤ middle → high ≤ middle → AreNumbered low high xs → AreFrom middle ys → AreFrom low (xs ++ ys)
joined low middle high xs ys le up here later = record {
  from = All-append (IsFrom low) xs ys (All-weaker (IsWithin low high) (IsFrom low) (λ x w. w.0) xs here.within)
      (All-weaker (IsFrom middle) (IsFrom low) (λ y from. let f : middle ≤ y.step = from in omega arith) ys later.from);
  pairs = pairs_append NotAfter xs ys here.pairs later.pairs
      (All-weaker (IsWithin low high) (λ x. All (NotAfter x) ys)
      (λ x w. All-weaker (IsFrom middle) (NotAfter x)
      (λ y from. let f : middle ≤ y.step = from in let h : x.step ≤ high = w.1 in omega arith) ys later.from) xs here.within);
}

run_from : (start : Machine) (moments : List Moment) → IsRun start moments → AreFrom start.steps (records_of start moments)
unfolding IsRun records_of
run_from start [] run = record { from = All-nil (IsFrom start.steps); pairs = pairs_none NotAfter }
run_from start (moment ∷ moments) run =
    let same : moment.machine.steps ≡ (caused moment.cause start).steps = ap (λ (m : Machine). m.steps) run.0 in
    let climbs : start.steps ≤ (caused moment.cause start).steps = (cause_counts moment.cause start).0 in
    joined start.steps moment.machine.steps (caused moment.cause start).steps (records_by moment.cause start) (records_of moment.machine moments)
    (omega arith) (omega arith) (cause_numbered moment.cause start) (run_from moment.machine moments run.1)

pub run_never_falls : (start : Machine) (moments : List Moment) → IsRun start moments → StepsNeverFall start moments
run_never_falls start moments run = (run_from start moments run).pairs

pub history_never_falls : (events : List Event) (limit : ℕ) (start : Machine) → StepsNeverFall start (moments_of events limit start)
history_never_falls events limit start = run_never_falls start (moments_of events limit start) (history_is_run events limit start)

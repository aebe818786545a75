-- Over a run: numbers climb, and each is that of one accepted send.
use Rattle.std.proofs.Common.{◌≡◌, ℕ, zero, suc, ◌+◌, ◌<◌, ◌≤◌, ◌⊎◌, inl, inr, List, [], ◌∷◌, length, refl, sym, ap, ◌∙◌, subst, arith}
use Rattle.std.proofs.lemmas.Bool.{cases_lt}
use Rattle.std.proofs.lemmas.Option.{none-some, same_Some, slice_get_past}
use Rattle.xk_base.specs.declared.events.Event.{Event}
use Rattle.xk_base.specs.declared.ids.Number.{Number}
use Rattle.machine_laws.specs.HistoryMoments.{moments_of}
use Rattle.machine_laws.proofs.Histories.MomentLemmas.{history_is_run}
use Rattle.machine_model.specs.Messaging.Messages.{new_number}
use Rattle.machine_model.specs.Runs.Moments.{IsRun, Moment, caused, state_at}
use Rattle.machine_model.specs.State.Machine.{Machine}
use Rattle.transcript_laws.specs.Accepting.{AcceptedOnce, Accepts, AcceptsAt, GivesNumbers}
use Rattle.transcript_laws.proofs.Accepting.GivenLemmas.{cause_gives}

-- a moment of a run gives numbers as its cause does
pub moment_gives : (m : Machine) (moment : Moment) → moment.machine ≡ caused moment.cause m → GivesNumbers m moment
moment_gives m moment e =
    subst (λ (next : Machine). GivesNumbers m (record { cause = moment.cause; machine = next })) (sym e) (cause_gives moment.cause m)

next_climbs : (m : Machine) (moment : Moment) → GivesNumbers m moment → m.next_number ≤ moment.machine.next_number
next_climbs m moment gives = go gives.kept
  where
    go : (moment.machine.next_number ≡ m.next_number) ⊎ Accepts (new_number m) m moment → m.next_number ≤ moment.machine.next_number
    go (inl same) = omega arith
    go (inr accepts) = let up : moment.machine.next_number ≡ m.next_number + 1 = gives.given (new_number m) accepts in omega arith

-- numbers never fall
pub run_climbs : (start : Machine) (moments : List Moment) (i : ℕ) → IsRun start moments → start.next_number ≤ (state_at start moments i).next_number
unfolding IsRun state_at
run_climbs start moments zero run = omega arith
run_climbs start [] (suc i) run = omega arith
run_climbs start (moment ∷ moments) (suc i) run =
    let first : start.next_number ≤ moment.machine.next_number = next_climbs start moment (moment_gives start moment run.0) in
    let rest : moment.machine.next_number ≤ (state_at moment.machine moments i).next_number = run_climbs moment.machine moments i run.1 in
    omega arith

-- what is accepted has a number above those given before
first_low : (number : Number) (start : Machine) (moments : List Moment) (i : ℕ) → IsRun start moments → AcceptsAt number start moments i
    → start.next_number ≤ number.0
first_low number start moments i run a =
    let climbs : start.next_number ≤ (state_at start moments i).next_number = run_climbs start moments i run in
    let is : number.0 ≡ (state_at start moments i).next_number = ap (λ (k : Number). k.0) a.accepts.taken in
    omega arith

later_at : (number : Number) (start : Machine) (moment : Moment) (moments : List Moment) (i : ℕ) → AcceptsAt number start (moment ∷ moments) (suc i)
    → AcceptsAt number moment.machine moments i
unfolding state_at
later_at number start moment moments i a = record { moment = a.moment; there = a.there; accepts = a.accepts }

at_first : (number : Number) (start : Machine) (moment : Moment) (moments : List Moment) → AcceptsAt number start (moment ∷ moments) 0
    → Accepts number start moment
unfolding state_at
at_first number start moment moments a = subst (Accepts number start) (sym (same_Some moment a.moment a.there)) a.accepts

run_ascends : (start : Machine) (moments : List Moment) → IsRun start moments → (first second : Number) (i j : ℕ) → AcceptsAt first start moments i
    → AcceptsAt second start moments j → i < j → first.0 < second.0
unfolding IsRun
run_ascends start [] run first second i j a b l =
    absurd (none-some a.moment (sym (slice_get_past [] i (omega arith)) ∙ a.there))
run_ascends start (moment ∷ moments) run first second i zero a b l = absurd (omega arith)
run_ascends start (moment ∷ moments) run first second zero (suc j) a b l =
    let here = at_first first start moment moments a in
    let up : moment.machine.next_number ≡ start.next_number + 1 = (moment_gives start moment run.0).given first here in
    let is : first.0 ≡ start.next_number = ap (λ (k : Number). k.0) here.taken in
    let low : moment.machine.next_number ≤ second.0 = first_low second moment.machine moments j run.1 (later_at second start moment moments j b) in
    omega arith
run_ascends start (moment ∷ moments) run first second (suc i) (suc j) a b l =
    run_ascends moment.machine moments run.1 first second i j (later_at first start moment moments i a) (later_at second start moment moments j b)
    (omega arith)

one_more : (number : Number) (start : Machine) (moment : Moment) (moments : List Moment) (i : ℕ) → AcceptsAt number moment.machine moments i
    → AcceptsAt number start (moment ∷ moments) (suc i)
unfolding state_at
one_more number start moment moments i a = record { moment = a.moment; there = a.there; accepts = a.accepts }

here_at : (number : Number) (start : Machine) (moment : Moment) (moments : List Moment) → Accepts number start moment
    → AcceptsAt number start (moment ∷ moments) 0
unfolding state_at
here_at number start moment moments a = record { moment = moment; there = refl; accepts = a }

run_each : (start : Machine) (moments : List Moment) → IsRun start moments → (number : Number) → start.next_number ≤ number.0
    → number.0 < (state_at start moments (length moments)).next_number → (i : ℕ) × AcceptsAt number start moments i
unfolding IsRun state_at
run_each start [] run number low high = absurd (omega arith)
run_each start (moment ∷ moments) run number low high =
    go (λ later. run_each moment.machine moments run.1 number later high) (cases_lt number.0 moment.machine.next_number)
  where
    gives : GivesNumbers start moment
    gives = moment_gives start moment run.0

    go : (moment.machine.next_number ≤ number.0 → (i : ℕ) × AcceptsAt number moment.machine moments i)
        → (number.0 < moment.machine.next_number) ⊎ (moment.machine.next_number ≤ number.0) → (i : ℕ) × AcceptsAt number start (moment ∷ moments) i
    go rest (inr later) =
        let at = rest later in
        (suc at.0, one_more number start moment moments at.0 at.1)
    go rest (inl now) = taken gives.kept
      where
        taken : (moment.machine.next_number ≡ start.next_number) ⊎ Accepts (new_number start) start moment
            → (i : ℕ) × AcceptsAt number start (moment ∷ moments) i
        taken (inl same) = absurd (omega arith)
        taken (inr accepts) =
            let up : moment.machine.next_number ≡ start.next_number + 1 = gives.given (new_number start) accepts in
            let is : start.next_number ≡ number.0 = omega arith in
            (0, here_at number start moment moments (subst (λ (k : Number). Accepts k start moment) (λ i. record { 0 = is i }) accepts))

pub run_accepts_once : (start : Machine) (moments : List Moment) → IsRun start moments → AcceptedOnce start moments
run_accepts_once start moments run = record {
  ascending = run_ascends start moments run;
  once = once;
  each = run_each start moments run;
}
  where
    once : (number : Number) (i j : ℕ) → AcceptsAt number start moments i → AcceptsAt number start moments j → i ≡ j
    once number i j a b = elim (cases_lt i j) [
      | inl less ↦ absurd (let l : number.0 < number.0 = run_ascends start moments run number number i j a b less in omega arith)
      | inr more ↦ elim (cases_lt j i) [
        | inl less ↦ absurd (let l : number.0 < number.0 = run_ascends start moments run number number j i b a less in omega arith)
        | inr also_more ↦ omega arith
      ]
    ]

pub history_accepts_once : (events : List Event) (limit : ℕ) (start : Machine) → AcceptedOnce start (moments_of events limit start)
history_accepts_once events limit start = run_accepts_once start (moments_of events limit start) (history_is_run events limit start)

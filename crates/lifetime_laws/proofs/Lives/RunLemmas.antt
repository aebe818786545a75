-- Pages live through runs and histories, since they live through each moment.
use Rattle.std.proofs.Common.{◌≡◌, ◌⊎◌, true, List, [], ◌∷◌, length, Option, Some, None, refl, sym, ap, ◌∙◌, inl, inr, subst, zero, suc, ℕ, take, drop}
use Rattle.std.specs.Option.{option_and_then}
use Rattle.ledger_model.specs.Ledger.{PageName}
use Rattle.machine_model.specs.Runs.Matched.{Matched}
use Rattle.machine_model.specs.Runs.Moments.{IsRun, Moment, moment_of, state_at}
use Rattle.machine_model.specs.State.Machine.{Machine}
use Rattle.machine_laws.specs.HistoryMoments.{moments_of}
use Rattle.machine_laws.proofs.Histories.MomentLemmas.{history_is_run}
use Rattle.machine_laws.proofs.Stepping.EveryStepLemmas.{every_cause_keeps, every_run_keeps}
use Rattle.lifetime_laws.specs.Deeds.{stands}
use Rattle.lifetime_laws.specs.Lives.{EveryHistoryLives, EveryPageLives, EveryRunLives, HasLine, IsGone, IsLine, IsMade, LivesThrough}
use Rattle.lifetime_laws.specs.Lives.{PagesLive, RunLives}
use Rattle.lifetime_laws.specs.Tracing.{AreOne}
use Rattle.lifetime_laws.proofs.Lives.StepLemmas.{every_moment_lives}

-- where nothing happened each page is itself
run_none : (start : Machine) → RunLives start []
unfolding state_at IsLine
run_none start = record {
  from = λ name. Some name;
  to = λ name. Some name;
  comes = λ new there. inl (new, there, record { back = refl; forth = refl; lives = ([], refl) });
  goes = λ old there. inl (old, there, record { back = refl; forth = refl; lives = ([], refl) });
}

module _ (start : Machine) (moment : Moment) (moments : List Moment) (first : PagesLive start moment) (rest : RunLives moment.machine moments) where
  abbrev from : PageName → Option PageName
  from name = option_and_then first.from (rest.from name)

  abbrev to : PageName → Option PageName
  to name = option_and_then rest.to (first.to name)

  -- a page that lives through the moment, and then has its line
  one_then : (old next new : PageName) → AreOne first.from first.to (LivesThrough start moment) old next
      → AreOne rest.from rest.to (HasLine moment.machine moments) next new → AreOne from to (HasLine start (moment ∷ moments)) old new
  unfolding IsLine
  one_then old next new a b = record {
    back = ap (option_and_then first.from) b.back ∙ a.back;
    forth = ap (option_and_then rest.to) a.forth ∙ b.forth;
    lives = (a.lives.0 ∷ b.lives.0, (next, a.lives.1, b.lives.1));
  }

  pub run_then : RunLives start (moment ∷ moments)
  unfolding state_at IsMade IsGone
  run_then = record { from = from; to = to; comes = comes; goes = goes }
    where
      comes : (new : PageName) → stands (state_at moment.machine moments (length moments)).ledger new ≡ true
          → ((old : PageName) × (stands start.ledger old ≡ true) × AreOne from to (HasLine start (moment ∷ moments)) old new)
          ⊎ ((from new ≡ None) × IsMade start (moment ∷ moments) new)
      comes new there = elim (rest.comes new there) [
        | inl was ↦ elim (first.comes was.0 was.1) [
          | inl old ↦ inl (old.0, old.1, one_then old.0 was.0 new old.2 was.2)
          | inr made ↦ inr (ap (option_and_then first.from) was.2.back ∙ made.0, inl (was.0, made.1, was.2.lives))
        ]
        | inr made ↦ inr (ap (option_and_then first.from) made.0, inr made.1)
      ]

      goes : (old : PageName) → stands start.ledger old ≡ true
          → ((new : PageName) × (stands (state_at moment.machine moments (length moments)).ledger new ≡ true)
          × AreOne from to (HasLine start (moment ∷ moments)) old new)
          ⊎ ((to old ≡ None) × IsGone start (moment ∷ moments) old)
      goes old there = elim (first.goes old there) [
        | inl next ↦ elim (rest.goes next.0 next.1) [
          | inl new ↦ inl (new.0, new.1, one_then old next.0 new.0 next.2 new.2)
          | inr gone ↦ inr (ap (option_and_then rest.to) next.2.forth ∙ gone.0, inl (next.0, next.2.lives, gone.1))
        ]
        | inr gone ↦ inr (ap (option_and_then rest.to) gone.0, inr gone.1)
      ]

-- the moment of a run
pub moment_lives : (start : Machine) (moment : Moment) → Matched start → moment ≡ moment_of moment.cause start → PagesLive start moment
moment_lives start moment h is = subst (λ (x : Moment). PagesLive start x) (sym is) (every_moment_lives moment.cause start h)

pub every_run_lives : EveryRunLives
unfolding IsRun
every_run_lives start [] h run = run_none start
every_run_lives start (moment ∷ moments) h run =
    run_then start moment moments
    (moment_lives start moment h (λ i. record { cause = moment.cause; machine = run.0 i }))
    (every_run_lives moment.machine moments (subst Matched (sym run.0) (every_cause_keeps moment.cause start h)) run.1)

pub every_history_lives : EveryHistoryLives
every_history_lives events limit start h = every_run_lives start (moments_of events limit start) h (history_is_run events limit start)

-- ---- one page in one state

-- a run up to a state and from it on
record Parts (start : Machine) (moments : List Moment) (i : ℕ) : Type 0 where
  first : IsRun start (take i moments)
  rest : IsRun (state_at start moments i) (drop i moments)
  middle : state_at start (take i moments) (length (take i moments)) ≡ state_at start moments i
  last : state_at (state_at start moments i) (drop i moments) (length (drop i moments)) ≡ state_at start moments (length moments)

parts_of : (start : Machine) (moments : List Moment) (i : ℕ) → IsRun start moments → Parts start moments i
unfolding IsRun state_at
parts_of start moments zero run = record { first = tt; rest = run; middle = refl; last = refl }
parts_of start [] (suc i) run = record { first = tt; rest = tt; middle = refl; last = refl }
parts_of start (moment ∷ moments) (suc i) run =
    let parts = parts_of moment.machine moments i run.1 in
    record { first = (run.0, parts.first); rest = parts.rest; middle = parts.middle; last = parts.last }

pub every_page_lives : EveryPageLives
every_page_lives start moments i name h run there =
    let parts : Parts start moments i = parts_of start moments i run in
    let early : RunLives start (take i moments) = every_run_lives start (take i moments) h parts.first in
    let late : RunLives (state_at start moments i) (drop i moments) =
    every_run_lives (state_at start moments i) (drop i moments) (every_run_keeps start moments h run i) parts.rest in
    record {
      came = elim (early.comes name (subst (λ (x : Machine). stands x.ledger name ≡ true) (sym parts.middle) there)) [
        | inl old ↦ inl (old.0, old.1, old.2.lives)
        | inr made ↦ inr made.1
      ];
      goes = elim (late.goes name there) [
        | inl new ↦ inl (new.0, subst (λ (x : Machine). stands x.ledger new.0 ≡ true) parts.last new.1, new.2.lives)
        | inr gone ↦ inr gone.1
      ];
    }

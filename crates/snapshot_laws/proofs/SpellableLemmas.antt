-- State bytes spell each state of a history.
use Rattle.std.proofs.Common.{◌≡◌, ℕ, zero, suc, ◌≤◌, List, [], ◌∷◌, length, sym, ap, subst, arith, le_refl, le_trans}
use Rattle.xk_base.specs.declared.events.Event.{Event}
use Rattle.machine_model.specs.Runs.Matched.{Matched}
use Rattle.machine_model.specs.Runs.Moments.{Cause, IsRun, Moment, caused, state_at}
use Rattle.machine_model.specs.State.Machine.{Machine}
use Rattle.machine_laws.proofs.Stepping.CursorStepLemmas.{every_cause_keeps_cursor}
use Rattle.machine_laws.proofs.Stepping.EveryStepLemmas.{every_cause_keeps}
use Rattle.machine_laws.specs.History.{history}
use Rattle.machine_laws.specs.HistoryMoments.{moments_of}
use Rattle.machine_laws.proofs.Histories.LimitLemmas.{history_within}
use Rattle.machine_laws.proofs.Histories.MomentLemmas.{history_is_run, history_last, moments_keep}
use Rattle.machine_laws.proofs.Stepping.CauseCaseLemmas.{cause_counts}
use Rattle.suspend_image.specs.Saveable.{IsSpellable}
use Rattle.snapshot_laws.specs.Keeping.{IsSameSize}
use Rattle.snapshot_laws.proofs.SizeLemmas.{cause_size}
use Rattle.machine_laws.proofs.Histories.ReservedLemmas.{cause_reserved}
use Rattle.snapshot_laws.proofs.Stepping.StepWordLemmas.{causes_keep}
use Rattle.snapshot_laws.specs.Keeping.{AllKeepSpellable, LastSpellable, MomentsSpellable}
use Rattle.snapshot_laws.proofs.SaveableLemmas.{saveable_of, words_of}

-- ---- one cause

pub cause_spellable : AllKeepSpellable
cause_spellable cause m h few =
    let later : m.steps ≤ (caused cause m).steps = (cause_counts cause m).0 in
    let size : IsSameSize m (caused cause m) = cause_size cause m in
    let room : m.capacity ≤ 32768 = h.saveable.capacity in
    let some : 1 ≤ m.processes = h.saveable.some_process in
    let matched : Matched (caused cause m) = every_cause_keeps cause m h.matched in
    record {
      matched = matched;
      saveable = saveable_of (caused cause m) matched few
          (causes_keep cause m h.matched (omega arith) (words_of m h.saveable))
          (subst (λ n. n ≤ 32768) (sym size.0) room)
          (subst (λ n. 1 ≤ n) (sym size.1) some)
          (every_cause_keeps_cursor cause m h.matched h.saveable.cursor)
          (cause_reserved cause m h.matched h.saveable.reserved_by);
    }

-- ---- histories

-- where no more steps were done
abbrev IsSpellableWithin : Machine → Type 0
IsSpellableWithin m = m.steps ≤ 4000000000 → IsSpellable m

kept_within : (cause : Cause) (m : Machine) → IsSpellableWithin m → IsSpellableWithin (caused cause m)
kept_within cause m h few = let later : m.steps ≤ (caused cause m).steps = (cause_counts cause m).0 in cause_spellable cause m (h (omega arith)) few

-- each state of a run has done no more steps than the last
run_later : (start : Machine) (moments : List Moment) → IsRun start moments
    → (start.steps ≤ (state_at start moments (length moments)).steps)
    × ((i : ℕ) → (state_at start moments i).steps ≤ (state_at start moments (length moments)).steps)
unfolding IsRun state_at
run_later start [] run = (le_refl start.steps, at_start)
  where
    at_start : (i : ℕ) → (state_at start [] i).steps ≤ start.steps
    at_start zero = le_refl start.steps
    at_start (suc i) = le_refl start.steps
run_later start (moment ∷ moments) run =
    let rest = run_later moment.machine moments run.1 in
    let later : start.steps ≤ (caused moment.cause start).steps = (cause_counts moment.cause start).0 in
    let first : start.steps ≤ moment.machine.steps = subst (λ (m : Machine). start.steps ≤ m.steps) (sym run.0) later in
    let all : start.steps ≤ (state_at moment.machine moments (length moments)).steps = le_trans first rest.0 in
    (all, at_each all rest.1)
  where
    at_each : start.steps ≤ (state_at moment.machine moments (length moments)).steps
        → ((i : ℕ) → (state_at moment.machine moments i).steps ≤ (state_at moment.machine moments (length moments)).steps)
        → (i : ℕ) → (state_at start (moment ∷ moments) i).steps ≤ (state_at moment.machine moments (length moments)).steps
    at_each all each zero = all
    at_each all each (suc i) = each i

module _ (events : List Event) (limit : ℕ) (start : Machine) (h : IsSpellable start) (within : start.steps ≤ limit) (few : limit ≤ 4000000000) where
  moment_few : (i : ℕ) → (state_at start (moments_of events limit start) i).steps ≤ 4000000000
  moment_few i =
      let moments = moments_of events limit start in
      let each : (state_at start moments i).steps ≤ (state_at start moments (length moments)).steps =
      (run_later start moments (history_is_run events limit start)).1 i in
      let last : (state_at start moments (length moments)).steps ≡ (history events limit start).machine.steps =
      ap (λ (m : Machine). m.steps) (history_last events limit start) in
      let most : (history events limit start).machine.steps ≤ limit = history_within events limit start within in
      omega arith

  moment_spellable : (i : ℕ) → IsSpellable (state_at start (moments_of events limit start) i)
  moment_spellable i = moments_keep IsSpellableWithin kept_within events limit start (λ _. h) i (moment_few i)

pub moments_spellable : MomentsSpellable
moments_spellable events limit start h within few i = moment_spellable events limit start h within few i

pub last_spellable : LastSpellable
last_spellable events limit start h within few =
    subst IsSpellable (history_last events limit start)
    (moment_spellable events limit start h within few (length (moments_of events limit start)))

-- Quiet steps of a slice: what is played of the rest is played of all.
use Rattle.std.proofs.Common.{◌≡◌, ◌≤◌, ◌-◌, ℕ, zero, suc, Bool, true, false, [], Option, Some, None, is_some, refl, sym, ap, ◌∙◌, arith, subst}
use Rattle.std.specs.Prelude.{◌&&◌, if◌then◌else◌}
use Rattle.std.specs.Option.{option_map_or}
use Rattle.std.proofs.lemmas.Bool.{and_parts, false≢true}
use Rattle.machine_model.specs.State.Machine.{Machine, Thread}
use Rattle.machine_model.specs.State.Order.{actor, next_ready, ready_at}
use Rattle.machine_model.specs.Stepping.Step.{Recorded, step}
use Rattle.xk_kernel.specs.Quiet.{GoesQuietly, is_quiet, thread_goes_on, timer_rests}
use Rattle.xk_kernel.proofs.Quieting.QuietStepLemmas.{quiet_parts, quiet_step_is}
use Rattle.order_player.specs.declared.slices.Part.{Part}
use Rattle.order_player.specs.declared.slices.Part.TheVariants.{On, Over}
use Rattle.order_player.specs.Played.{IsFewer, PlaysSome}
use Rattle.order_player.specs.Steps.{AreSteps, Shown}
use Rattle.order_player.proofs.StepLemmas.{none_left, silent_plays}

-- a quiet step is a step, and leaves no record
record IsSilent (m : Machine) : Type 0 where
  acts : is_some (actor m) ≡ true
  none : (step m).records ≡ []

quiet_silent : (m : Machine) → is_quiet m ≡ true → IsSilent m
unfolding is_quiet actor
quiet_silent m quiet = go (m.threads m.cursor) refl
  where
    whole : (ready_at m m.cursor ≡ true) × ((timer_rests m && option_map_or (thread_goes_on m) (m.threads m.cursor) false) ≡ true)
    whole = and_parts (ready_at m m.cursor) (timer_rests m && option_map_or (thread_goes_on m) (m.threads m.cursor) false) quiet

    go : (o : Option Thread) → m.threads m.cursor ≡ o → IsSilent m
    go None none =
        let rest = and_parts (timer_rests m) (option_map_or (thread_goes_on m) (m.threads m.cursor) false) whole.1 in
        absurd (false≢true (sym (ap (λ (o : Option Thread). option_map_or (thread_goes_on m) o false) none) ∙ rest.1))
    go (Some t) there = record {
      acts = ap (λ (b : Bool). is_some (if b then Some m.cursor else next_ready m m.cursor)) whole.0;
      none = ap (λ (s : Recorded). s.records) (quiet_step_is m t there (quiet_parts m t there quiet));
    }

module _ (keeps : Bool) where
  pub quiet_plays : (done most left : ℕ) (old mid last : Shown) → GoesQuietly done old.machine mid.machine → done ≤ most
      → mid.told ≡ old.told → AreSteps keeps (most - done) mid left last → AreSteps keeps most old left last
  quiet_plays zero most left old mid last goes within told plays =
      let all : most - 0 ≡ most = omega arith in
      let same : mid ≡ old = λ i. record { machine = goes i; told = told i } in
      subst (λ (x : Shown). AreSteps keeps most x left last) same (subst (λ n. AreSteps keeps n mid left last) all plays)
  quiet_plays (suc done) most left old mid last goes within told plays =
      let one : Shown = record { machine = (step old.machine).machine; told = old.told } in
      let silent = quiet_silent old.machine goes.0 in
      let rest : most - suc done ≡ (most - 1) - done = omega arith in
      let all : suc (most - 1) ≡ most = omega (arith, within) in
      subst (λ n. AreSteps keeps n old left last) all
      (silent_plays keeps (most - 1) left old one last silent.acts silent.none refl refl
      (quiet_plays done (most - 1) left one mid last goes.1 (omega (arith, within)) told
      (subst (λ n. AreSteps keeps n mid left last) rest plays)))

  -- .. and all of them where as many were quiet
  pub quiet_all : (most : ℕ) (old mid : Shown) → GoesQuietly most old.machine mid.machine → mid.told ≡ old.told → AreSteps keeps most old 0 mid
  quiet_all most old mid goes told =
      let none : 0 ≡ most - most = omega arith in
      let within : most ≤ most = omega arith in
      quiet_plays most most 0 old mid mid goes within told (subst (λ n. AreSteps keeps n mid 0 mid) none (none_left keeps mid))

  pub quiet_some : (done most : ℕ) (part : Part) (old mid new : Shown) → GoesQuietly done old.machine mid.machine → done ≤ most
      → mid.told ≡ old.told → PlaysSome keeps (most - done) mid new part → PlaysSome keeps most old new part
  quiet_some done most (On rest) old mid new goes within told plays = (
    omega (arith, plays.0, within),
    λ left last steps. quiet_plays done most left old mid last goes within told (plays.1 left last steps),
  )
  quiet_some done most (Over left) old mid new goes within told plays = quiet_plays done most left old mid new goes within told plays

pub fewer_later : (done most : ℕ) (part : Part) → done ≤ most → IsFewer (most - done) part → IsFewer most part
fewer_later done most (On rest) within less = omega (arith, within, less)
fewer_later done most (Over left) within less = omega (arith, within, less)

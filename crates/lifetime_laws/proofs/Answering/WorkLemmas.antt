-- How many own steps a thread does in a number of steps of all threads.
use Rattle.std.proofs.Common.{◌≡◌, ℕ, zero, suc, ◌+◌, ◌*◌, ◌<◌, ◌≤◌, List, sym, ap, ◌∙◌, arith}
use Rattle.std.proofs.Math.Nat.{suc-mul}
use Rattle.std.proofs.lemmas.Option.{none-some, same_Some}
use Rattle.xk_base.specs.declared.ids.ThreadId.{ThreadId}
use Rattle.machine_laws.proofs.Stepping.CauseCaseLemmas.{cause_counts}
use Rattle.machine_model.specs.Runs.Moments.{ByStep, Moment, IsRun, caused, state_at}
use Rattle.machine_model.specs.State.Machine.{Machine}
use Rattle.machine_model.proofs.StepLemmas.{one_step}
use Rattle.transcript_laws.specs.Turns.{DoesStep}
use Rattle.transcript_laws.proofs.Turning.FairLemmas.{Caused, Ended, Link, link}
use Rattle.lifetime_laws.specs.Prompt.{DoesSteps}
use Rattle.lifetime_laws.specs.Scheduling.{AreStepsFair, IsInLine, StepsWithin, steps_ahead}

-- ---- what a moment counts

module _ (start : Machine) (moments : List Moment) (run : IsRun start moments) where
  abbrev at : ℕ → Machine
  at i = state_at start moments i

  pub moment_counts : (i : ℕ) → (at (suc i)).steps ≤ (at i).steps + 1
  moment_counts i = go (link start moments run i)
    where
      go : Link start moments i → (at (suc i)).steps ≤ (at i).steps + 1
      go (Caused moment there e) =
          let same : (at (suc i)).steps ≡ (caused moment.cause (at i)).steps = ap (λ (m : Machine). m.steps) e in
          let le : (caused moment.cause (at i)).steps ≤ (at i).steps + 1 = (cause_counts moment.cause (at i)).1 in
          omega arith
      go (Ended none e) = let same : (at (suc i)).steps ≡ (at i).steps = ap (λ (m : Machine). m.steps) e in omega arith

  own_counts : (who : ThreadId) (i : ℕ) → DoesStep who start moments i → (at (suc i)).steps ≡ (at i).steps + 1
  own_counts who i does = go (link start moments run i)
    where
      go : Link start moments i → (at (suc i)).steps ≡ (at i).steps + 1
      go (Caused moment there e) =
          let cause : moment.cause ≡ ByStep = ap (λ (x : Moment). x.cause) (same_Some moment does.moment (sym there ∙ does.there)) ∙ does.step in
          ap (λ (m : Machine). m.steps) (e ∙ ap (λ c. caused c (at i)) cause) ∙ one_step (at i) who does.turn
      go (Ended none e) = absurd (none-some does.moment (sym none ∙ does.there))

  -- ---- own steps

  pub shorter_line : (who : ThreadId) (first last from until : ℕ) → IsInLine who start moments first last → first ≤ from → until ≤ last
      → IsInLine who start moments from until
  shorter_line who first last from until line p q = record {
    ready = λ i a b. line.ready i (omega arith) (omega arith);
    order = λ i moment a b there. line.order i moment (omega arith) (omega arith) there;
    turns = λ i a b. line.turns i (omega arith) (omega arith);
  }

  module _ (most : ℕ) (fair : AreStepsFair most start moments) where
    -- the steps in which one own step is done
    abbrev each : ℕ
    each = steps_ahead most start.processes + 1

    -- in enough steps the thread does so many of its own
    pub record Does (n : ℕ) (who : ThreadId) (first last : ℕ) : Type 0 where
      pub until : ℕ
      pub from : first ≤ until
      pub within : until ≤ last
      pub steps : DoesSteps n who start moments first until
      pub soon : (at until).steps ≤ (at first).steps + n * each

    pub does_steps : (n : ℕ) (who : ThreadId) (first last : ℕ) → first ≤ last → IsInLine who start moments first last
        → (at first).steps + n * each ≤ (at last).steps → Does n who first last
    unfolding DoesSteps
    does_steps zero who first last le line enough = record {
      until = first;
      from = omega arith;
      within = le;
      steps = omega arith;
      soon = omega arith;
    }
    does_steps (suc n) who first last le line enough =
        go (fair who first last le line (omega (arith, whole, enough)))
        (λ (w : Within) spent.
        does_steps n who (suc w.at) last (let b : w.at < last = w.until in omega arith)
        (shorter_line who first last (suc w.at) last line (let a : first ≤ w.at = w.from in omega arith) (omega arith))
        (omega (arith, whole, enough, spent)))
      where
        whole : suc n * each ≡ n * each + each
        whole = suc-mul n each

        Within : Type 0
        Within = StepsWithin who (steps_ahead most start.processes) start moments first last

        spends : (w : Within) → (at (suc w.at)).steps ≤ (at first).steps + each
        spends w =
            let one : (at (suc w.at)).steps ≡ (at w.at).steps + 1 = own_counts who w.at w.step in
            let soon : (at w.at).steps ≤ (at first).steps + steps_ahead most start.processes = w.soon in
            omega arith

        go : (w : Within) → ((v : Within) → (at (suc v.at)).steps ≤ (at first).steps + each → Does n who (suc v.at) last)
            → Does (suc n) who first last
        go w later = with_rest (later w spent)
          where
            spent : (at (suc w.at)).steps ≤ (at first).steps + each
            spent = spends w

            with_rest : Does n who (suc w.at) last → Does (suc n) who first last
            with_rest rest =
                let a : first ≤ w.at = w.from in
                let b : suc w.at ≤ rest.until = rest.from in
                let s : (at rest.until).steps ≤ (at (suc w.at)).steps + n * each = rest.soon in
                record {
                  until = rest.until;
                  from = omega arith;
                  within = rest.within;
                  steps = (w.at, w.from, omega arith, w.step, rest.steps);
                  soon = omega (arith, s, spent, whole);
                }

-- Two runs side by side have the same records, and the same states but for bytes.
use Rattle.confidentiality_laws.proofs.Ledgers.OtherBytesLemmas.{machine_through, alike_through, alike_without, no_bytes}
use Rattle.std.proofs.Common.{◌≡◌, zero, suc, List, [], ◌∷◌, ◌++◌, map, Option, Some, None, refl, sym, ap, ◌∙◌}
use Rattle.xk_base.specs.declared.ids.ThreadId.{ThreadId}
use Rattle.machine_model.specs.Runs.Isolation.{without_bytes}
use Rattle.machine_model.specs.Runs.Moments.{Cause, ByStep, ByPick, ByIrq, ByKill, ByTurn, Moment, IsRun, caused, state_at}
use Rattle.machine_model.specs.State.Machine.{Machine}
use Rattle.machine_model.specs.State.Order.{actor}
use Rattle.machine_model.specs.Stepping.Step.{Recorded, step}
use Rattle.machine_model.proofs.StepLemmas.{no_step}
use Rattle.confidentiality_laws.specs.TwoRuns.{ActsAlike, IsSideBySide, RunsAreSameButBytes, RunsTellTheSame}
use Rattle.machine_laws.specs.Records.{records_by, records_of}
use Rattle.confidentiality_laws.proofs.Isolating.EventLemmas.{killed_bare, picked_bare, raised_bare, turn_bare}
use Rattle.confidentiality_laws.proofs.Isolating.StepLemmas.{actor_alike, bare_recorded, step_alike}

-- ---- one cause

-- the next state with its records
abbrev pub by_cause : Cause → Machine → Recorded
by_cause cause m = record { machine = caused cause m; records = records_by cause m }

module _ (m n : Machine) (e : machine_through no_bytes m ≡ machine_through no_bytes n) where
  idle_alike : actor m ≡ None → bare_recorded (step m) ≡ bare_recorded (step n)
  idle_alike none =
      ap bare_recorded (no_step m none)
      ∙ ((λ i. record { machine = e i; records = [] })
      ∙ ap bare_recorded (sym (no_step n (sym (actor_alike m n e) ∙ none))))

  any_step_alike : ActsAlike m n → bare_recorded (step m) ≡ bare_recorded (step n)
  any_step_alike acts = go (actor m) refl
    where
      go : (o : Option ThreadId) → actor m ≡ o → bare_recorded (step m) ≡ bare_recorded (step n)
      go None q = idle_alike q
      go (Some who) q = step_alike m n who q (record { but_bytes = alike_without m n e; loaded = acts who q })

  pub cause_alike : (cause : Cause) → (cause ≡ ByStep → ActsAlike m n)
      → bare_recorded (by_cause cause m) ≡ bare_recorded (by_cause cause n)
  cause_alike ByStep acts = any_step_alike (acts refl)
  cause_alike (ByPick who) acts = picked_bare who m ∙ (ap (λ x. by_cause (ByPick who) x) e ∙ sym (picked_bare who n))
  cause_alike (ByIrq k) acts = raised_bare k m ∙ (ap (λ x. by_cause (ByIrq k) x) e ∙ sym (raised_bare k n))
  cause_alike (ByKill pid) acts = killed_bare pid m ∙ (ap (λ x. by_cause (ByKill pid) x) e ∙ sym (killed_bare pid n))
  cause_alike ByTurn acts =
      (λ i. record { machine = turn_bare m i; records = [] })
      ∙ ((λ i. record { machine = caused ByTurn (e i); records = [] }) ∙ sym (λ i. record { machine = turn_bare n i; records = [] }))

-- ---- a list of causes

same_head : (a b : Cause) (rest others : List Cause) → a ∷ rest ≡ b ∷ others → a ≡ b
same_head a b rest others e = cc

same_tail : (a b : Cause) (rest others : List Cause) → a ∷ rest ≡ b ∷ others → rest ≡ others
same_tail a b rest others e = cc

pub no_cause : (b : Cause) (others : List Cause) → [] ≡ b ∷ others → ⊥
no_cause b others e = cc

module _ (m n : Machine) (moment other : Moment) (moments others : List Moment)
    (side : IsSideBySide m n (moment ∷ moments) (other ∷ others)) where
  pub head : moment.cause ≡ other.cause
  head = same_head moment.cause other.cause (map (λ x. x.cause) moments) (map (λ x. x.cause) others) side.causes

  pub acts : moment.cause ≡ ByStep → ActsAlike m n
  unfolding state_at
  acts q = side.steps 0 moment refl q

  first_alike : bare_recorded (by_cause moment.cause m) ≡ bare_recorded (by_cause other.cause n)
  first_alike =
      cause_alike m n (alike_through m n side.but_bytes) moment.cause acts ∙ ap (λ c. bare_recorded (by_cause c n)) head

  first_states : without_bytes moment.machine ≡ without_bytes other.machine
  unfolding IsRun
  first_states =
      ap without_bytes side.run.0
      ∙ (alike_without (caused moment.cause m) (caused other.cause n) (ap (λ (r : Recorded). r.machine) first_alike)
      ∙ ap without_bytes (sym side.other.0))

  pub rest_side : IsSideBySide moment.machine other.machine moments others
  unfolding IsRun state_at
  rest_side = record {
    run = side.run.1;
    other = side.other.1;
    causes = same_tail moment.cause other.cause (map (λ x. x.cause) moments) (map (λ x. x.cause) others) side.causes;
    but_bytes = first_states;
    steps = λ i between there is. side.steps (suc i) between there is;
  }

pub tell_the_same : RunsTellTheSame
unfolding records_of
tell_the_same m n [] [] side = refl
tell_the_same m n [] (other ∷ others) side = absurd (no_cause other.cause (map (λ x. x.cause) others) side.causes)
tell_the_same m n (moment ∷ moments) [] side = absurd (no_cause moment.cause (map (λ x. x.cause) moments) (sym side.causes))
tell_the_same m n (moment ∷ moments) (other ∷ others) side =
    λ i. (first_alike m n moment other moments others side i).records
    ++ tell_the_same moment.machine other.machine moments others (rest_side m n moment other moments others side) i

pub same_but_bytes : RunsAreSameButBytes
unfolding state_at
same_but_bytes m n moments others side zero = side.but_bytes
same_but_bytes m n [] [] side (suc i) = side.but_bytes
same_but_bytes m n [] (other ∷ others) side (suc i) = absurd (no_cause other.cause (map (λ x. x.cause) others) side.causes)
same_but_bytes m n (moment ∷ moments) [] side (suc i) =
    absurd (no_cause moment.cause (map (λ x. x.cause) moments) (sym side.causes))
same_but_bytes m n (moment ∷ moments) (other ∷ others) side (suc i) =
    same_but_bytes moment.machine other.machine moments others (rest_side m n moment other moments others side) i

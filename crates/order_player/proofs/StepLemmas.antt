-- Steps of a slice, one after another.
use Rattle.std.proofs.Common.{◌≡◌, ◌<◌, ◌+◌, ◌-◌, ℕ, zero, suc, Bool, true, false, List, [], ◌∷◌, ◌++◌, is_some, refl, sym, ap, ◌∙◌, arith, append-nil, subst}
use Rattle.std.specs.Prelude.{◌==◌, if◌then◌else◌, length}
use Rattle.std.proofs.lemmas.Bool.{eqb-true, false≢true}
use Rattle.machine_model.specs.State.Machine.{Machine}
use Rattle.machine_model.specs.State.Order.{actor, turn}
use Rattle.machine_model.specs.Stepping.Step.{step}
use Rattle.xk_base.specs.declared.ids.ThreadId.{ThreadId}
use Rattle.xk_base.specs.declared.records.Rec.{Rec}
use Rattle.machine_model.specs.Stepping.Events.{picked}
use Rattle.order_model.specs.Slices.{Slice, last_or, no_step, slice, steps_up_to}
use Rattle.order_model.specs.declared.exits.Ended.{Ended}
use Rattle.order_model.proofs.ExitLemmas.{kept_ends-none}
use Rattle.order_player.specs.declared.slices.Part.TheVariants.{On, Over}
use Rattle.order_player.specs.Played.{PlaysSome}
use Rattle.order_player.specs.Steps.{AreSteps, IsSlice, Shown, Told, told_on}

-- ---- what the steps are

idle_steps : (most : ℕ) (m : Machine) → is_some (actor m) ≡ false → steps_up_to most m ≡ no_step m
unfolding steps_up_to
idle_steps zero m idle = refl
idle_steps (suc most) m idle = rw idle refl

silent_steps : (most : ℕ) (m : Machine) → is_some (actor m) ≡ true → (step m).records ≡ []
    → steps_up_to (suc most) m ≡ record (steps_up_to most (step m).machine) { done = (steps_up_to most (step m).machine).done + 1 }
unfolding steps_up_to
silent_steps most m some none =
    ap (λ b. if b then last_or (step m).records (step m).machine (steps_up_to most (step m).machine) else no_step m) some
    ∙ ap (λ records. last_or records (step m).machine (steps_up_to most (step m).machine)) none

loud_steps : (most : ℕ) (m : Machine) (first : Rec) (records : List Rec) → is_some (actor m) ≡ true → (step m).records ≡ first ∷ records
    → steps_up_to (suc most) m ≡ record { done = 1; machine = (step m).machine; records = first ∷ records }
unfolding steps_up_to
loud_steps most m first records some is =
    ap (λ b. if b then last_or (step m).records (step m).machine (steps_up_to most (step m).machine) else no_step m) some
    ∙ ap (λ rs. last_or rs (step m).machine (steps_up_to most (step m).machine)) is

-- ---- and what is played of them

-- no record tells anything
pub told_none : (keeps : Bool) (told : Told) → told_on keeps told [] ≡ told
told_none keeps told =
    let ends = ap (λ (xs : List Ended). told.ends ++ xs) (kept_ends-none keeps) ∙ append-nil told.ends in
    λ i. record { console = append-nil told.console i; ends = ends i }

module _ (keeps : Bool) where
  -- by what the steps are
  are_steps : (most left : ℕ) (old new : Shown) (s : Slice) → steps_up_to most old.machine ≡ s → new.machine ≡ s.machine → left + s.done ≡ most
      → new.told ≡ told_on keeps old.told s.records → AreSteps keeps most old left new
  are_steps most left old new s is machine done told = record {
    machine = machine ∙ ap (λ (x : Slice). x.machine) (sym is);
    done = ap (λ (x : Slice). left + x.done) is ∙ done;
    told = told ∙ ap (λ (x : Slice). told_on keeps old.told x.records) (sym is);
  }

  pub none_left : (old : Shown) → AreSteps keeps 0 old 0 old
  unfolding steps_up_to
  none_left old = record { machine = refl; done = refl; told = sym (told_none keeps old.told) }

  pub idle_plays : (most : ℕ) (old : Shown) → is_some (actor old.machine) ≡ false → AreSteps keeps most old most old
  idle_plays most old idle =
      let all : most + 0 ≡ most = omega arith in
      are_steps most most old old (no_step old.machine) (idle_steps most old.machine idle) refl all (sym (told_none keeps old.told))

  pub loud_plays : (most : ℕ) (old new : Shown) (first : Rec) (records : List Rec) → is_some (actor old.machine) ≡ true
      → (step old.machine).records ≡ first ∷ records → new.machine ≡ (step old.machine).machine
      → new.told ≡ told_on keeps old.told (first ∷ records) → AreSteps keeps (suc most) old most new
  loud_plays most old new first records some is machine told =
      let all : most + 1 ≡ suc most = omega arith in
      are_steps (suc most) most old new _ (loud_steps most old.machine first records some is) machine all told

  -- what a silent step leaves is all that is left
  pub silent_plays : (most left : ℕ) (old mid last : Shown) → is_some (actor old.machine) ≡ true → (step old.machine).records ≡ []
      → mid.machine ≡ (step old.machine).machine → mid.told ≡ old.told → AreSteps keeps most mid left last
      → AreSteps keeps (suc most) old left last
  silent_plays most left old mid last some none machine told plays =
      let later : Slice = steps_up_to most (step old.machine).machine in
      let same : steps_up_to most mid.machine ≡ later = ap (steps_up_to most) machine in
      let done : left + later.done ≡ most = ap (λ (x : Slice). left + x.done) (sym same) ∙ plays.done in
      are_steps (suc most) left old last (record later { done = later.done + 1 }) (silent_steps most old.machine some none)
      (plays.machine ∙ ap (λ (x : Slice). x.machine) same) (omega (arith, done))
      (plays.told ∙ (λ i. told_on keeps (told i) (same i).records))

  -- ---- one step that was done

  module _ (left : ℕ) (old new : Shown) (records : List Rec) (some : 0 < left) (acts : is_some (actor old.machine) ≡ true)
      (machine : new.machine ≡ (step old.machine).machine) (are : records ≡ (step old.machine).records)
      (told : new.told ≡ told_on keeps old.told records) where
    one_more : suc (left - 1) ≡ left
    one_more = omega (arith, some)

    pub silent_some : records ≡ [] → PlaysSome keeps left old new (On (left - 1))
    silent_some none = (
      omega (arith, some),
      λ rest last plays. subst (λ n. AreSteps keeps n old rest last) one_more
          (silent_plays (left - 1) rest old new last acts (sym are ∙ none) machine
          (told ∙ (ap (told_on keeps old.told) none ∙ told_none keeps old.told)) plays),
    )

    pub loud_some : (first : Rec) (others : List Rec) → records ≡ first ∷ others → PlaysSome keeps left old new (Over (left - 1))
    loud_some first others is =
        subst (λ n. AreSteps keeps n old (left - 1) new) one_more
        (loud_plays (left - 1) old new first others acts (sym are ∙ is) machine (told ∙ ap (told_on keeps old.told) is))

-- ---- lists of records

pub none_there : (xs : List Rec) → (length xs == 0) ≡ true → xs ≡ []
none_there [] h = refl
none_there (x ∷ xs) h =
    let zero_is : suc (length xs) ≡ 0 = eqb-true (suc (length xs)) 0 h in
    absurd (omega (arith, zero_is))

pub record HasFirst (xs : List Rec) : Type 0 where
  pub first : Rec
  pub others : List Rec
  pub is : xs ≡ first ∷ others

pub some_there : (xs : List Rec) → (length xs == 0) ≡ false → HasFirst xs
some_there [] h = absurd (false≢true (sym h))
some_there (x ∷ xs) h = record { first = x; others = xs; is = refl }

-- ---- a whole slice

pub picked_steps : (who : ThreadId) (m : Machine) → (picked who m).machine.steps ≡ m.steps
unfolding picked
picked_steps who m = refl

pub slice_played : (keeps : Bool) (quantum left : ℕ) (who : ThreadId) (old mid last new : Shown) → mid.machine ≡ (picked who old.machine).machine
    → mid.told ≡ old.told → AreSteps keeps quantum mid left last → new.machine ≡ turn last.machine → new.told ≡ last.told
    → IsSlice keeps quantum who old (quantum - left) new
unfolding slice
slice_played keeps quantum left who old mid last new begins same steps ends told =
    let count : quantum - left ≡ (steps_up_to quantum mid.machine).done = omega (arith, steps.done) in
    record {
      machine = ends ∙ ap turn (steps.machine ∙ ap (λ (m : Machine). (steps_up_to quantum m).machine) begins);
      done = count ∙ ap (λ (m : Machine). (steps_up_to quantum m).done) begins;
      told = told ∙ (steps.told ∙ (λ i. told_on keeps (same i) (steps_up_to quantum (begins i)).records));
    }

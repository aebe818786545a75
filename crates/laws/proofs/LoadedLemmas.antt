-- An SC that succeeds finds the word that its LR found, if the thread stored nothing in between.
use Rattle.std.proofs.Common.{◌≡◌, ℕ, zero, suc, ◌+◌, ◌<◌, ◌≤◌, List, [], ◌∷◌, Some, refl, sym, ap, subst, ◌∙◌, ◌⊎◌, inl, inr, arith}
use Rattle.std.specs.Prelude.{slice_get}
use Rattle.std.proofs.lemmas.Option.{none-some, same_Some}
use Rattle.machine_model.specs.Runs.Moments.{ByStep, Cause, IsRun, Moment, caused, state_at}
use Rattle.machine_model.specs.Runs.Reserving.{IsReserving}
use Rattle.machine_model.specs.State.Machine.{Machine, Reservation}
use Rattle.laws.specs.LoadedWord.{AreNoStores, EveryScFindsItsWord, HadLoaded, HasLoaded, StoresNothing, does_store}
use Rattle.laws.proofs.ReservedLemmas.{IsKept, Leaves, is_this, leaves}
use Rattle.laws.proofs.StoringLemmas.{SameMemory, cause_same, lr_step, same_word}

-- ---- memory since the LR, or since the start

-- a moment that stores nothing leaves memory
abbrev LeavesMemory : Machine → List Moment → ℕ → Type 0
LeavesMemory start moments k =
    (between : Moment) → slice_get moments k ≡ Some between → StoresNothing (state_at start moments k) between.cause
    → SameMemory (state_at start moments (suc k)) (state_at start moments k)

-- the reservation has stood since an LR, and so has memory, if nothing was stored
record Since (r : Reservation) (start : Machine) (moments : List Moment) (end : ℕ) : Type 0 where
  from : ℕ
  moment : Moment
  there : slice_get moments from ≡ Some moment
  before : from < end
  reserving : IsReserving r (state_at start moments from) moment.cause
  stands : (k : ℕ) → from < k → k ≤ end → (state_at start moments k).reserved ≡ Some r
  leaves : (k : ℕ) → from ≤ k → k < end → LeavesMemory start moments k
  same : AreNoStores start moments (from + 1) end → SameMemory (state_at start moments end) (state_at start moments from)

-- .. or since the start
record SinceStart (r : Reservation) (start : Machine) (moments : List Moment) (end : ℕ) : Type 0 where
  stands : (k : ℕ) → k ≤ end → (state_at start moments k).reserved ≡ Some r
  leaves : (k : ℕ) → k < end → LeavesMemory start moments k
  same : AreNoStores start moments 0 end → SameMemory (state_at start moments end) start

then_same : (a b c : Machine) → SameMemory a b → SameMemory b c → SameMemory a c
then_same a b c first second = (first.0 ∙ second.0, first.1 ∙ second.1)

-- an LR stores nothing
lr_stores_nothing : (r : Reservation) (m : Machine) (cause : Cause) → IsReserving r m cause → StoresNothing m cause
lr_stores_nothing r m cause reserving = subst (StoresNothing m) (sym reserving.step) at_step
  where
    at_step : StoresNothing m ByStep
    at_step who acts =
        ap (does_store m) (same_Some who r.who (sym acts ∙ reserving.by_who))
        ∙ lr_step m r.who reserving.thread reserving.there reserving.rd reserving.rs1 reserving.lr

module _ (r : Reservation) (start : Machine) (first : Moment) (moments : List Moment) (end : ℕ) (is : first.machine ≡ caused first.cause start) where
  abbrev all : List Moment
  all = first ∷ moments

  -- the first moment leaves memory, if it stores nothing
  first_same : first.machine.reserved ≡ Some r → StoresNothing start first.cause → SameMemory first.machine start
  first_same h none =
      subst (λ (m : Machine). SameMemory m start) (sym is)
      (cause_same start first.cause r (ap (λ (m : Machine). m.reserved) (sym is) ∙ h) none)

  -- each moment does, that stores nothing
  each_leaves : SinceStart r first.machine moments end → (k : ℕ) → k < suc end → LeavesMemory start all k
  unfolding state_at
  each_leaves old zero q between e none =
      first_same (old.stands 0 (omega arith)) (subst (λ (x : Moment). StoresNothing start x.cause) (sym (same_Some first between e)) none)
  each_leaves old (suc k) q between e none = old.leaves k (omega (arith, q)) between e none

  later : Since r first.machine moments end → Since r start all (suc end)
  unfolding state_at
  later s = record {
    from = suc s.from;
    moment = s.moment;
    there = s.there;
    before = omega (arith, s.before);
    reserving = s.reserving;
    stands = stands;
    leaves = left;
    same = λ none. s.same (λ k between p q e. none (suc k) between (omega (arith, p)) (omega (arith, q)) e);
  }
    where
      stands : (k : ℕ) → suc s.from < k → k ≤ suc end → (state_at start all k).reserved ≡ Some r
      stands zero p q = absurd (omega (arith, p))
      stands (suc k) p q = s.stands k (omega (arith, p)) (omega (arith, q))

      left : (k : ℕ) → suc s.from ≤ k → k < suc end → LeavesMemory start all k
      left zero p q = absurd (omega (arith, p))
      left (suc k) p q = s.leaves k (omega (arith, p)) (omega (arith, q))

  longer : IsKept r start first.cause → SinceStart r first.machine moments end → SinceStart r start all (suc end)
  unfolding state_at
  longer kept old = record {
    stands = stands;
    leaves = each_leaves old;
    same = λ none.
        then_same (state_at first.machine moments end) first.machine start
        (old.same (λ k between p q e. none (suc k) between (omega arith) (omega (arith, q)) e))
        (first_same (old.stands 0 (omega arith)) (none 0 first (omega arith) (omega arith) refl));
  }
    where
      stands : (k : ℕ) → k ≤ suc end → (state_at start all k).reserved ≡ Some r
      stands zero q = kept.before
      stands (suc k) q = old.stands k (omega (arith, q))

  newly : IsReserving r start first.cause → SinceStart r first.machine moments end → Since r start all (suc end)
  unfolding state_at
  newly reserving old = record {
    from = 0;
    moment = first;
    there = refl;
    before = omega arith;
    reserving = reserving;
    stands = stands;
    leaves = λ k p q. each_leaves old k q;
    same = λ none.
        then_same (state_at first.machine moments end) first.machine start
        (old.same (λ k between p q e. none (suc k) between (omega arith) (omega (arith, q)) e))
        (first_same (old.stands 0 (omega arith)) (lr_stores_nothing r start first.cause reserving));
  }
    where
      stands : (k : ℕ) → 0 < k → k ≤ suc end → (state_at start all k).reserved ≡ Some r
      stands zero p q = absurd (omega (arith, p))
      stands (suc k) p q = old.stands k (omega (arith, q))

  onward : Leaves r start first.cause → SinceStart r first.machine moments end → Since r start all (suc end) ⊎ SinceStart r start all (suc end)
  onward (inl kept) old = inr (longer kept old)
  onward (inr reserving) old = inl (newly reserving old)

since : (r : Reservation) (start : Machine) (moments : List Moment) (end : ℕ) → IsRun start moments
    → (state_at start moments end).reserved ≡ Some r → Since r start moments end ⊎ SinceStart r start moments end
unfolding IsRun state_at
since r start moments zero run h =
    inr (record { stands = at_start; leaves = λ k q. absurd (omega (arith, q)); same = λ none. (refl, refl) })
  where
    at_start : (k : ℕ) → k ≤ 0 → (state_at start moments k).reserved ≡ Some r
    at_start zero q = h
    at_start (suc k) q = absurd (omega (arith, q))
since r start [] (suc end) run h =
    inr (record { stands = at_start; leaves = λ k q between e none. absurd (none-some between e); same = λ none. (refl, refl) })
  where
    at_start : (k : ℕ) → k ≤ suc end → (state_at start [] k).reserved ≡ Some r
    at_start zero q = h
    at_start (suc k) q = h
since r start (first ∷ moments) (suc end) run h = go (since r first.machine moments end run.1 h)
  where
    go : Since r first.machine moments end ⊎ SinceStart r first.machine moments end
        → Since r start (first ∷ moments) (suc end) ⊎ SinceStart r start (first ∷ moments) (suc end)
    go (inl s) = inl (later r start first moments end run.0 s)
    go (inr old) =
        onward r start first moments end run.0
        (leaves start first.cause r (ap (λ (m : Machine). m.reserved) (sym run.0) ∙ old.stands 0 (omega arith))) old

-- ---- the law

found : (r : Reservation) (start : Machine) (moments : List Moment) (end : ℕ) → Since r start moments end ⊎ SinceStart r start moments end
    → HasLoaded r start moments end ⊎ HadLoaded r start moments end
found r start moments end (inl s) = inl (record {
  from = s.from;
  moment = s.moment;
  there = s.there;
  before = s.before;
  reserving = s.reserving;
  stands = s.stands;
  leaves = λ k p q between e none.
      same_word (state_at start moments (suc k)) (state_at start moments k) r.who r.address (s.leaves k p q between e none);
  word = λ none. same_word (state_at start moments end) (state_at start moments s.from) r.who r.address (s.same none);
})
found r start moments end (inr s) = inr (record {
  stands = s.stands;
  leaves = λ k q between e none.
      same_word (state_at start moments (suc k)) (state_at start moments k) r.who r.address (s.leaves k q between e none);
  word = λ none. same_word (state_at start moments end) start r.who r.address (s.same none);
})

pub every_sc_finds_its_word : EveryScFindsItsWord
every_sc_finds_its_word start moments i moment r run there sc =
    found r start moments i (since r start moments i run (is_this r (state_at start moments i).reserved sc.succeeds))

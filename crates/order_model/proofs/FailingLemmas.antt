-- Of what an ending fails, one number after the other.
use Rattle.std.proofs.Common.{◌≡◌, ℕ, ◌<◌, ◌+◌, Bool, true, false, List, length, Option, None, Some, is_some, refl, sym, ap, ◌∙◌}
use Rattle.std.specs.Prelude.{◌&&◌, slice_get}
use Rattle.std.specs.Option.{option_map_or}
use Rattle.std.proofs.lemmas.Bool.{false≢true}
use Rattle.xk_base.specs.Tables.Counting.{least_below}
use Rattle.xk_base.proofs.CountingLemmas.{least_below-None, least_below-none, least_below-same, least_below-Some}
use Rattle.machine_model.specs.State.Machine.{Machine}
use Rattle.snapshot_rows.specs.declared.state.State.{State}
use Rattle.snapshot_rows.specs.Machines.{machine_of}
use Rattle.order_model.specs.declared.exits.Ended.{Ended}
use Rattle.order_model.specs.declared.exits.Exit.{Exit as End}
use Rattle.order_model.specs.declared.failing.Badly.{Badly}
use Rattle.order_model.specs.declared.failing.Badly.TheVariants.{ByFault, ByWord}
use Rattle.order_model.specs.declared.failing.Failing.{Failing}
use Rattle.order_model.specs.declared.failing.Failing.TheVariants.{Exit, Fault, Waits}
use Rattle.order_model.specs.declared.failing.Waiter.{Waiter}
use Rattle.order_model.specs.declared.orders.Trail.{Trail}
use Rattle.order_model.specs.Choosing.{IsStand}
use Rattle.order_model.specs.Exits.{exit_in}
use Rattle.order_model.specs.Failing.{fails_at, fails_of, first_failing, is_bad, some_below, some_ended, some_stuck}
use Rattle.order_model.specs.Moves.{Point}

-- ---- some number passes, or none does

pub some_found : (n k : ℕ) (test : ℕ → Bool) → k < n → test k ≡ true → true ≡ some_below n test
some_found n k test low passes = go (least_below n test) refl
  where
    go : (o : Option ℕ) → least_below n test ≡ o → true ≡ some_below n test
    go None e = absurd (false≢true (sym (least_below-none n test e k low) ∙ passes))
    go (Some j) e = sym (ap is_some e)

pub none_found : (n : ℕ) (test : ℕ → Bool) → ((k : ℕ) → k < n → test k ≡ false) → false ≡ some_below n test
none_found n test none = sym (ap is_some (least_below-None n test none))

pub both_pass : (a b : Bool) → a ≡ true → b ≡ true → (a && b) ≡ true
both_pass a b one other = λ i. one i && other i

-- ---- what stands at a place

module _ (list : List Failing) (p : Point) (place : ℕ) (failing : Failing) (there : slice_get list place ≡ Some failing) where
  pub fails_there : fails_at list p place ≡ fails_of failing p
  fails_there = ap (λ (o : Option Failing). option_map_or (λ f. fails_of f p) o false) there

pub fails_first : (list : List Failing) (p : Point) (place : ℕ) → place < length list → fails_at list p place ≡ true
    → ((k : ℕ) → k < place → fails_at list p k ≡ false) → Some place ≡ first_failing list p
fails_first list p place low does before = sym (least_below-Some (length list) (fails_at list p) place low does before)

pub fails_nowhere : (list : List Failing) (p : Point) → ((k : ℕ) → k < length list → fails_at list p k ≡ false) → None ≡ first_failing list p
fails_nowhere list p none = sym (least_below-None (length list) (fails_at list p) none)

-- ---- rows tell it of a point

module _ (p : Point) (state : State) (trail : Trail) (stand : IsStand p state trail) where
  ended_there : (how : Badly) (ends : List Ended) → ends ≡ trail.ends.items
      → some_ended how state.n (exit_in ends) ≡ some_ended how p.state.processes p.exits
  ended_there how ends same =
      ap (λ (es : List Ended). some_ended how state.n (exit_in es)) same
      ∙ (ap is_some
      (least_below-same state.n (λ k. option_map_or (is_bad how) (exit_in trail.ends.items (k + 2)) false)
      (λ k. option_map_or (is_bad how) (p.exits (k + 2)) false)
      (λ k low. ap (λ (o : Option End). option_map_or (is_bad how) o false) (stand.exits (k + 2))))
      ∙ ap (λ (m : Machine). some_ended how m.processes p.exits) stand.rows)

  pub exit_there : (ends : List Ended) → ends ≡ trail.ends.items → some_ended ByWord state.n (exit_in ends) ≡ fails_of Exit p
  unfolding fails_of
  exit_there ends same = ended_there ByWord ends same

  pub fault_there : (ends : List Ended) → ends ≡ trail.ends.items → some_ended ByFault state.n (exit_in ends) ≡ fails_of Fault p
  unfolding fails_of
  fault_there ends same = ended_there ByFault ends same

  pub waits_there : (who : Waiter) → some_stuck who (machine_of stand.file state) ≡ fails_of (Waits who) p
  unfolding fails_of
  waits_there who = ap (some_stuck who) stand.rows

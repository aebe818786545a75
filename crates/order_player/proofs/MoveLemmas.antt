-- A move that is played leads where it leads.
use Rattle.std.proofs.Common.{◌≡◌, ◌<◌, ◌+◌, ℕ, Bool, true, false, ◌++◌, Some, None, is_some, IsSome, refl, sym, ap, ◌∙◌, arith}
use Rattle.std.specs.Prelude.{◌&&◌, ◌==◌, not, slice_get, if◌then◌else◌}
use Rattle.std.specs.Option.{option_map}
use Rattle.std.proofs.lemmas.Bool.{eq-eqb, false≢true}
use Rattle.xk_base.specs.declared.events.Event.{Event}
use Rattle.xk_base.specs.declared.events.Event.TheVariants.{Irq as IrqEvent, Kill, Pick, Tick}
use Rattle.xk_base.specs.declared.ids.ThreadId.{ThreadId}
use Rattle.xk_base.specs.declared.limits.TheConstants.{STEP_LIMIT}
use Rattle.machine_model.specs.State.Machine.{Machine}
use Rattle.machine_model.specs.State.Order.{ready_at}
use Rattle.machine_model.specs.Stepping.Step.{Recorded}
use Rattle.order_model.specs.Slices.{slice, turned}
use Rattle.xk_kernel.specs.Stepping.{event_done}
use Rattle.order_model.specs.declared.moves.Move.TheVariants.{Once, Preempted, Slice}
use Rattle.order_model.specs.Moves.{Asked, Point, behind, bytes_of, is_at_bound, is_slice, leads, may_come, most_steps, slice_at, what_comes}
use Rattle.order_model.specs.Moves.{with_come, with_preemption}
use Rattle.order_model.specs.Exits.{exit_in, kept_ends}
use Rattle.order_model.proofs.ExitLemmas.{exits_on-told}
use Rattle.order_model.proofs.MoveLemmas.{led, may_come_there, preempted_leads, preempted_may, some_mapped}
use Rattle.order_model.proofs.SliceLemmas.{slice_at_most}
use Rattle.order_player.specs.Runs.{IsNearLimit}
use Rattle.order_player.specs.Steps.{IsSlice, Shown, Told}

-- ---- tests

all_three : (a b c : Bool) → a ≡ true → b ≡ false → c ≡ true → (a && (not b && c)) ≡ true
all_three true false true p q r = refl
all_three true false false p q r = r
all_three true true c p q r = absurd (false≢true (sym q))
all_three false b c p q r = absurd (false≢true p)

-- ---- slices

-- the point where a machine is, with what was told, which events came, and how many slices were preempted
abbrev pub point_at : Machine → Told → (ℕ → Bool) → ℕ → Point
point_at m told came preempted =
    record { state = m; console = told.console; came = came; exits = exit_in told.ends; preempted = preempted }

module _ (asked : Asked) (old new : Shown) (came : ℕ → Bool) (preempted : ℕ) (who : ThreadId) (done : ℕ) where
  abbrev p : Point
  p = point_at old.machine old.told came preempted

  -- a slice that was played is done there
  behind_slice : (quantum : ℕ) (after : ℕ → Bool) → IsSlice asked.exits quantum who old done new → after ≡ came
      → behind asked p (turned (slice quantum who old.machine)) ≡ point_at new.machine new.told after preempted
  behind_slice quantum after played same =
      let told : Told = record {
        console = old.told.console ++ bytes_of (slice quantum who old.machine).records;
        ends = old.told.ends ++ kept_ends asked.exits (slice quantum who old.machine).records;
      } in
      let exits = exits_on-told old.told.ends (kept_ends asked.exits (slice quantum who old.machine).records) in
      (λ i. record { state = sym played.machine i; console = told.console; came = sym same i; exits = exits i; preempted = preempted })
      ∙ ap (λ (t : Told). point_at new.machine t after preempted) (sym played.told)

  pub slice_leads : (after : ℕ → Bool) (later : ℕ) → ready_at old.machine who ≡ true → is_at_bound asked.bound old.machine ≡ false
      → IsSlice asked.exits (most_steps asked old.machine) who old done new → after ≡ came → later ≡ preempted
      → leads asked p (Slice who done) ≡ Some (point_at new.machine new.told after later)
  unfolding leads
  slice_leads after later ready left played same count =
      let has = eq-eqb (slice_at asked who old.machine).done done (sym played.done) in
      let may : is_slice asked who done old.machine ≡ true =
      all_three (ready_at old.machine who) (is_at_bound asked.bound old.machine) ((slice_at asked who old.machine).done == done) ready left has in
      ap (λ b. if b then Some (behind asked p (turned (slice_at asked who old.machine))) else None) may
      ∙ (ap Some (behind_slice (most_steps asked old.machine) after played same)
      ∙ ap (λ (n : ℕ). Some (point_at new.machine new.told after n)) (sym count))

  pub preemption_leads : (steps : ℕ) (after : ℕ → Bool) (later : ℕ) → IsSome (leads asked p (Preempted who steps))
      → IsSlice asked.exits steps who old done new → after ≡ came → later ≡ preempted + 1
      → leads asked p (Preempted who steps) ≡ Some (point_at new.machine new.told after later)
  preemption_leads steps after later may played same count =
      preempted_leads asked p who steps (preempted_may asked p who steps may)
      ∙ (ap (λ (q : Point). Some (with_preemption q)) (behind_slice steps after played same)
      ∙ ap (λ (n : ℕ). Some (point_at new.machine new.told after n)) (sym count))

-- with as many steps as it is to be preempted after, a run isn't near the limit where one with a whole slice isn't
pub preempted_near : (asked : Asked) (p : Point) (who : ThreadId) (steps : ℕ) → IsSome (leads asked p (Preempted who steps))
    → STEP_LIMIT < p.state.steps + steps → IsNearLimit asked p
preempted_near asked p who steps may beyond =
    let fewer = (preempted_may asked p who steps may).fewer in
    let most = slice_at_most (most_steps asked p.state) who p.state in
    omega (arith, beyond, fewer, most)

-- ---- events that may come

comes_done : (event : Event) (m : Machine) → is_some (what_comes event m) ≡ true → what_comes event m ≡ Some (event_done event m)
comes_done (Tick n) m h = absurd (false≢true h)
comes_done (Pick pid tid) m h = absurd (false≢true h)
comes_done (IrqEvent k) m h = refl
comes_done (Kill pid) m h = refl

module _ (asked : Asked) (p : Point) (k : ℕ) where
  pub once_leads : (event : Event) (done : Recorded) → slice_get asked.once k ≡ Some event → done ≡ event_done event p.state
      → IsSome (leads asked p (Once k)) → leads asked p (Once k) ≡ Some (with_come k (behind asked p done))
  unfolding leads
  once_leads event done is done_is h =
      let may = may_come_there asked p k h in
      let at : may_come asked k p ≡ Some event = may.at ∙ (sym may.its ∙ is) in
      let there : is_some (what_comes event p.state) ≡ true =
      some_mapped (λ done. with_come k (behind asked p done)) (what_comes event p.state) (sym (ap (λ o. is_some (led asked p k o)) at) ∙ h) in
      ap (led asked p k) at ∙ (ap (option_map (λ done. with_come k (behind asked p done))) (comes_done event p.state there)
      ∙ ap (λ (d : Recorded). Some (with_come k (behind asked p d))) (sym done_is))

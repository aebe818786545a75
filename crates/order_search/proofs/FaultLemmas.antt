-- Why orders aren't searched on, by what the parts of a search say.
use Rattle.std.proofs.Common.{◌≡◌, ◌<◌, inl, inr, ℕ, Bool, true, false, List, Option, None, Some, Result, Ok, Err, IfErr, IsErrAnd, is_some, refl, sym, subst, ◌∙◌, arith}
use Rattle.std.specs.Prelude.{if◌then◌else◌}
use Rattle.std.proofs.lemmas.Bool.{false≢true}
use Rattle.event_player.specs.declared.ending.Ending.{Ending}
use Rattle.graph_search.specs.declared.space.Unanswered.{Unanswered}
use Rattle.graph_search.specs.declared.space.Unanswered.TheVariants.{Fault, Memory}
use Rattle.graph_search.specs.Edges.{HasCause}
use Rattle.order_model.specs.declared.moves.Move.{Move}
use Rattle.order_model.specs.Asking.{asked_of, bound_of}
use Rattle.order_model.specs.Moves.{Asked, Point}
use Rattle.order_model.specs.Nodes.{goes_on}
use Rattle.order_player.specs.declared.moves.MoveFault.{MoveFault}
use Rattle.order_player.specs.declared.moves.MoveFault.TheVariants as moves
use Rattle.order_model.specs.declared.orders.Trail.{Trail}
use Rattle.order_player.specs.Runs.{IsNearLimit, MeetsLimit, point_of}
use Rattle.order_search.specs.Before.{Unplayed}
use Rattle.order_search.specs.declared.quest.OrderFault.{OrderFault}
use Rattle.order_search.specs.declared.quest.OrderFault.TheVariants.{Line, Steps, Timer}
use Rattle.order_search.specs.declared.subject.Subject.{Subject}
use Rattle.order_search.specs.Faults.{IsFault, IsMemory, IsRunFault, IsUnchosen, IsUnplayed}
use Rattle.order_search.specs.Quests.{Arrives, history_before, searching_of, start_of}
use Rattle.xk_base.specs.declared.limits.TheConstants.{STEP_LIMIT, TIMER_INTERRUPT}
use Rattle.xk_kernel.specs.Sound.{IsSound}
use Rattle.xk_kernel.specs.State.{machine_of}
use Rattle.xk_kernel.specs.declared.kernel.Kernel.{Kernel}
use Rattle.xk_ports.specs.declared.store.SwapStore.{Ghosts as SwapStore}

pub if_err : {T E : Type 0} (r : Result T E) (P Q : E → Type 0) → ((e : E) → P e → Q e) → IfErr r P → IfErr r Q
if_err (Ok x) P Q f p = tt
if_err (Err e) P Q f p = f e p

-- what an exit answers is so where it is so of its fault
pub exit_says : {T E : Type 0} (result : Result T E) (fault : E) (P : E → Type 0) → IsErrAnd result (λ e. e ≡ fault) → P fault → IfErr result P
exit_says (Ok x) fault P same why = absurd same
exit_says (Err e) fault P same why = subst P (sym same) why

-- ---- want of memory

pub memory_caused : {F : Type 0} (P : F → Type 0) (answer : Unanswered F) → IsMemory answer → HasCause P answer
memory_caused P (Memory error) is = tt
memory_caused P (Fault fault) is = absurd is

pub memory_unplayed : (ending : Ending) (answer : Unanswered OrderFault) → IsMemory answer → Unplayed ending answer
memory_unplayed ending (Memory error) is = tt
memory_unplayed ending (Fault fault) is = absurd is

pub memory_unchosen : (asked : Asked) (p : Point) (answer : Unanswered OrderFault) → IsMemory answer → IsUnchosen asked p answer
memory_unchosen asked p (Memory error) is = tt
memory_unchosen asked p (Fault fault) is = absurd is

module _ (s : Subject) where
  pub run_caused : (answer : Unanswered OrderFault) → HasCause (IsRunFault s) answer → HasCause (IsFault s) answer
  run_caused (Memory error) why = tt
  run_caused (Fault Steps) why = why
  run_caused (Fault (Line line)) why = why
  run_caused (Fault Timer) why = absurd why

  -- the events before aren't played
  pub before_caused : (ending : Ending) → ending ≡ (history_before s).ending → (answer : Unanswered OrderFault) → Unplayed ending answer
      → HasCause (IsRunFault s) answer
  before_caused ending same (Memory error) why = tt
  before_caused ending same (Fault Steps) why = inl (sym same ∙ why)
  before_caused ending same (Fault (Line line)) why = sym same ∙ why
  before_caused ending same (Fault Timer) why = absurd why

  -- an order isn't played on
  pub unplayed_caused : (fault : MoveFault) (answer : Unanswered OrderFault) → IsUnplayed fault answer
      → (fault ≡ moves.Steps → MeetsLimit (asked_of s.orders) (start_of s)) → HasCause (IsRunFault s) answer
  unplayed_caused moves.Steps answer is meets = subst (HasCause (IsRunFault s)) (sym is) (inr (meets refl))
  unplayed_caused moves.Memory answer is meets = memory_caused (IsRunFault s) answer is
  unplayed_caused moves.Swap answer is meets = memory_caused (IsRunFault s) answer is

  -- at the end of a path the limit is near
  pub near_there : (path : List Move) (p : Point) → Arrives (searching_of s) path p → IsNearLimit (asked_of s.orders) p
      → MeetsLimit (asked_of s.orders) (start_of s)
  near_there path p arrives near = record { at = p; reached = record { order = path; leads = arrives }; near = near }

  pub beyond_there : (path : List Move) (p : Point) → Arrives (searching_of s) path p → STEP_LIMIT < p.state.steps → IsRunFault s Steps
  beyond_there path p arrives beyond = inr (near_there path p arrives (omega (arith, beyond)))

  pub unchosen_caused : (path : List Move) (p : Point) → Arrives (searching_of s) path p → (answer : Unanswered OrderFault)
      → IsUnchosen (asked_of s.orders) p answer → HasCause (IsFault s) answer
  unchosen_caused path p arrives (Memory error) why = tt
  unchosen_caused path p arrives (Fault Steps) why = inr (near_there path p arrives why)
  unchosen_caused path p arrives (Fault Timer) why = absurd why
  unchosen_caused path p arrives (Fault (Line line)) why = absurd why

-- beyond the limit it is near
pub beyond_near : {W : Type 0} {S : SwapStore W} (asked : Asked) (k : Kernel W) (trail : Trail) (steps : ℕ) → IsSound S k
    → steps ≡ (machine_of S.held k).steps → STEP_LIMIT < steps → IsNearLimit asked (point_of S k trail)
beyond_near asked k trail steps sound is beyond = omega (arith, beyond, is)

-- a choice isn't made where its move isn't played
pub unplayed_unchosen : (asked : Asked) (p : Point) (fault : MoveFault) (answer : Unanswered OrderFault) → IsUnplayed fault answer
    → (fault ≡ moves.Steps → IsNearLimit asked p) → IsUnchosen asked p answer
unplayed_unchosen asked p moves.Steps answer is near = subst (IsUnchosen asked p) (sym is) (near refl)
unplayed_unchosen asked p moves.Memory answer is near = memory_unchosen asked p answer is
unplayed_unchosen asked p moves.Swap answer is near = memory_unchosen asked p answer is

-- ---- the timer

module _ (s : Subject) (path : List Move) (p : Point) (arrives : Arrives (searching_of s) path p) where
  claims : (b : Bool) → (if b then false else true) ≡ false → b ≡ true
  claims true e = refl
  claims false e = absurd (false≢true (sym e))

  pub timer_caused : goes_on (bound_of s.orders.bound) p.state ≡ false → IsFault s Timer
  timer_caused ends = go s.orders.bound refl
    where
      go : (bound : Option ℕ) → s.orders.bound ≡ bound → IsFault s Timer
      go None none =
          let here : (if is_some (p.state.claims TIMER_INTERRUPT) then false else true) ≡ false =
          subst (λ (b : Option ℕ). goes_on (bound_of b) p.state ≡ false) none ends in (
            none,
            record { order = path; last = p; leads = arrives; claimed = claims (is_some (p.state.claims TIMER_INTERRUPT)) here },
          )
      go (Some bound) some =
          absurd (false≢true (sym (subst (λ (b : Option ℕ). goes_on (bound_of b) p.state ≡ false) some ends)))

-- .. as it is seen in another subject, which is the same
pub timer_there : (s t : Subject) (path : List Move) (p : Point) → t ≡ s → Arrives (searching_of s) path p
    → goes_on (bound_of t.orders.bound) p.state ≡ false → IsFault s Timer
timer_there s t path p same arrives ends =
    timer_caused s path p arrives (subst (λ (x : Subject). goes_on (bound_of x.orders.bound) p.state ≡ false) same ends)

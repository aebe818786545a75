-- What a run leaves of its last state.
use Rattle.std.proofs.Common.{◌≡◌, ◌≤◌, ℕ, List, Some, ap, sym, subst, ◌∙◌}
use Rattle.std.proofs.lemmas.Option.{same_Some}
use Rattle.machine_laws.specs.Reserved.{IsReservedByThread}
use Rattle.machine_model.specs.Runs.Matched.{Matched}
use Rattle.machine_model.specs.State.Machine.{Machine}
use Rattle.order_model.specs.declared.moves.Move.{Move}
use Rattle.order_model.specs.Moves.{Asked, Point, leads_by}
use Rattle.order_model.specs.declared.orders.Trail.{Trail}
use Rattle.order_model.specs.Asking.{came_of}
use Rattle.order_model.specs.Choosing.{IsStand}
use Rattle.order_model.specs.Exits.{exit_in}
use Rattle.order_search.specs.declared.subject.Subject.{Subject}
use Rattle.order_search.specs.Quests.{Arrives, searching_of}
use Rattle.snapshot_rows.specs.declared.state.State.{State}
use Rattle.snapshot_rows.specs.Machines.{machine_of as machine_in}
use Rattle.suspend_image.proofs.Saved.StateAgainLemmas.{saved_spelled}
use Rattle.suspend_image.proofs.SpellsLemmas.{spelled_once}
use Rattle.suspend_image.specs.Forms.{Spells}
use Rattle.suspend_image.specs.Saveable.{IsSaveable}
use Rattle.suspend_image.specs.StateBytes.{saved_bytes}

-- the rows that are read of the state bytes of a state say that state
pub rows_are : (file : List ℕ) (m : Machine) (state : State) → Spells file state → file ≡ saved_bytes m → Matched m → IsSaveable m
    → machine_in file state ≡ m
rows_are file m state spelled same matched saveable =
    let one = saved_spelled m matched saveable in
    let there : Spells (saved_bytes m) state = subst (λ (b : List ℕ). Spells b state) same spelled in
    let rows : state ≡ one.state = spelled_once (saved_bytes m) state one.state there one.spelled in
    (λ i. machine_in (same i) (rows i)) ∙ one.machine

-- an order arrives at one point
pub one_point : (asked : Asked) (start : Point) (order : List Move) (p q : Point) → leads_by asked start order ≡ Some p
    → leads_by asked start order ≡ Some q → p ≡ q
one_point asked start order p q one other = same_Some p q (sym one ∙ other)

-- rows of the state to which an order leads
pub stands : (asked : Asked) (start : Point) (order : List Move) (p here : Point) (state : State) (trail : Trail)
    → leads_by asked start order ≡ Some p → leads_by asked start order ≡ Some here
    → (file : List ℕ) × (machine_in file state ≡ here.state) → trail.console.items ≡ here.console
    → ((k : ℕ) → came_of trail.came.items k ≡ here.came k) → ((pid : ℕ) → exit_in trail.ends.items pid ≡ here.exits pid)
    → trail.preempted ≡ here.preempted → IsStand p state trail
stands asked start order p here state trail at there rows console came exits preempted =
    subst (λ (x : Point). IsStand x state trail) (one_point asked start order here p there at)
    (record { file = rows.0; rows = rows.1; console = console; came = came; exits = exits; preempted = preempted })

-- where a run is that left this
abbrev pub at : Machine → Trail → Point
at m trail = record {
  state = m;
  console = trail.console.items;
  came = came_of trail.came.items;
  exits = exit_in trail.ends.items;
  preempted = trail.preempted;
}

-- rows of a run that stays where it was
pub stands_on : (asked : Asked) (start : Point) (order : List Move) (p : Point) (m : Machine) (old new : Trail) (state : State)
    → leads_by asked start order ≡ Some p → leads_by asked start order ≡ Some (at m old) → (file : List ℕ) × (machine_in file state ≡ m)
    → new ≡ old → IsStand p state new
stands_on asked start order p m old new state arrives there rows same =
    stands asked start order p (at m old) state new arrives there rows (ap (λ (t : Trail). t.console.items) same)
    (λ k. ap (λ (t : Trail). came_of t.came.items k) same) (λ pid. ap (λ (t : Trail). exit_in t.ends.items pid) same)
    (ap (λ (t : Trail). t.preempted) same)

pub arrives_still : (s t : Subject) (order : List Move) (m n : Machine) (old new : Trail) → t ≡ s → n ≡ m → new ≡ old
    → Arrives (searching_of s) order (at m old) → Arrives (searching_of t) order (at n new)
arrives_still s t order m n old new same machine trail there =
    subst (λ (x : Subject). Arrives (searching_of x) order (at n new)) (sym same)
    (there ∙ (λ i. Some (at (sym machine i) (sym trail i))))

-- the rows that are read of the bytes of a state that was saved
pub rows_of : (file : List ℕ) (old new : Machine) (state : State) → new ≡ old → Matched old → old.steps ≤ 4000000000 → IsReservedByThread old
    → (new.steps ≤ 4000000000 → IsReservedByThread new → IsSaveable new) → file ≡ saved_bytes new → Spells file state
    → machine_in file state ≡ old
rows_of file old new state same matched within reserved saveable is spelled =
    let low : new.steps ≤ 4000000000 = subst (λ (m : Machine). m.steps ≤ 4000000000) (sym same) within in
    rows_are file old state spelled (is ∙ ap saved_bytes same) matched
    (subst IsSaveable same (saveable low (subst IsReservedByThread (sym same) reserved)))

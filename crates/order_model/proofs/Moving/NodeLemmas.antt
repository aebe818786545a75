-- Points of one node have the same moves.
use Rattle.std.proofs.Common.{◌≡◌, ℕ, ◌+◌, Bool, true, false, List, ◌++◌, Option, Some, None, is_some, refl, sym, ap, subst, ◌∙◌}
use Rattle.std.specs.Bool.{⊤}
use Rattle.std.specs.Prelude.{◌==◌, ◌&&◌, ◌||◌, not, nat_lt, if◌then◌else◌}
use Rattle.std.specs.Option.{option_and_then, option_map}
use Rattle.std.proofs.lemmas.Bool.{false≢true}
use Rattle.xk_base.specs.declared.events.Event.{Event}
use Rattle.xk_base.specs.declared.events.Event.TheVariants.{Irq as IrqEvent, Kill, Pick, Tick}
use Rattle.xk_base.specs.declared.ids.Pid.{Pid}
use Rattle.xk_base.specs.declared.ids.ThreadId.{ThreadId}
use Rattle.xk_base.specs.declared.limits.TheConstants.{TIMER_INTERRUPT}
use Rattle.xk_base.specs.Tables.Circle.{id_at}
use Rattle.machine_model.specs.Runs.Matched.{Matched}
use Rattle.machine_model.specs.State.Machine.{Claim, Machine}
use Rattle.machine_model.specs.State.Order.{ready_at, turn}
use Rattle.machine_model.specs.Stepping.Events.{killed, raised}
use Rattle.machine_model.specs.Stepping.Step.{Recorded}
use Rattle.machine_laws.proofs.Histories.LimitLemmas.{irq_steps, kill_steps}
use Rattle.order_model.specs.Slices.{Slice as SliceOf, slice, turned}
use Rattle.order_model.proofs.SliceLemmas.{slice_from_any_turn}
use Rattle.order_model.specs.declared.moves.Move.{Move}
use Rattle.order_model.specs.declared.moves.Move.TheVariants.{Once, Preempted, Slice}
use Rattle.order_model.specs.Counts.{slice_from, with_count}
use Rattle.order_model.specs.Exits.{exits_on}
use Rattle.order_model.specs.Moves.{Asked, Bound, Point, Unbounded, UpTo, behind, leads, may_come, may_preempt, most_within, what_comes}
use Rattle.order_model.specs.Moves.{waiting, waits_before, with_come, with_preemption}
use Rattle.order_model.specs.Nodes.{NodesLeadAlike, after, goes_on, node_of, set_aside}
use Rattle.order_model.proofs.Counting.SliceLemmas.{slice_forgets}
use Rattle.order_model.proofs.Moving.EventLemmas.{IsAside, killed_aside, raised_aside, same_bytes, same_ends, whats_numbered}
use Rattle.order_model.proofs.Moving.IdleLemmas.{idle_aside}

-- the count of steps that a node leaves in a state
abbrev count_in : Bound → Machine → ℕ
count_in Unbounded m = 0
count_in (UpTo bound) m = m.steps

-- states that differ in what a node leaves out are of one node
abbrev IsCountOf : Bound → ℕ → Machine → Type 0
IsCountOf Unbounded steps m = ⊤
IsCountOf (UpTo bound) steps m = steps ≡ m.steps

aside_alike : (bound : Bound) (steps : ℕ) (x y : Machine) → x ≡ record y { cursor = x.cursor; steps = steps } → IsCountOf bound steps y
    → set_aside bound x ≡ set_aside bound y
aside_alike Unbounded steps x y e same = ap (set_aside Unbounded) e
aside_alike (UpTo bound) steps x y e same =
    ap (set_aside (UpTo bound)) e ∙ ap (λ k. record y { cursor = id_at 0; steps = k }) same

unclaimed : (o : Option Claim) → (if is_some o then false else true) ≡ true → o ≡ None
unclaimed None e = refl
unclaimed (Some claim) e = absurd (false≢true e)

module _ (quantum : ℕ) (once : List Event) (exits : Bool) (preemptions : ℕ) where
  abbrev asks : Bound → Asked
  asks bound = record { quantum = quantum; bound = bound; once = once; exits = exits; preemptions = preemptions }

  -- what was done leads to one node
  behind_alike : (bound : Bound) (steps : ℕ) (p : Point) (x y : Recorded) → IsAside steps x y → IsCountOf bound steps y.machine
      → node_of (asks bound) (behind (asks bound) (node_of (asks bound) p) x) ≡ node_of (asks bound) (behind (asks bound) p y)
  behind_alike bound steps p x y same count = λ i. record p {
    state = aside_alike bound steps x.machine y.machine same.machine count i;
    console = p.console ++ same_bytes x.records y.records same.whats i;
    exits = exits_on p.exits (same_ends exits x.records y.records same.whats i);
  }

  -- ---- slices

  turned_aside : (n : ℕ) (s : SliceOf) → IsAside (n + s.done) (turned (slice_from n s)) (turned s)
  unfolding turn
  turned_aside n s = record { machine = refl; whats = whats_numbered (n + s.done) s.records }

  if_alike : (bound : Bound) (test : Bool) (p q : Point) → node_of (asks bound) p ≡ node_of (asks bound) q
      → option_map (node_of (asks bound)) (if test then Some p else None) ≡ option_map (node_of (asks bound)) (if test then Some q else None)
  if_alike bound true p q e = ap Some e
  if_alike bound false p q e = refl

  -- a slice from the state of a node does what it does from that of the point, but for what a node leaves out
  record IsAlike (bound : Bound) (x y : SliceOf) : Type 0 where
    steps : ℕ
    done : x.done ≡ y.done
    same : IsAside steps (turned x) (turned y)
    count : IsCountOf bound steps (turned y).machine

  slice_alike : (bound : Bound) (most : ℕ) (who : ThreadId) (m : Machine) → Matched m → goes_on bound m ≡ true → ready_at m who ≡ true
      → IsAlike bound (slice most who (set_aside bound m)) (slice most who m)
  slice_alike Unbounded most who m h goes ready =
      let s = slice most who m in
      let is : slice most who (set_aside Unbounded m) ≡ slice_from 0 s =
      slice_from_any_turn most who (id_at 0) (with_count 0 m) ready
      ∙ slice_forgets most 0 who m h (unclaimed (m.claims TIMER_INTERRUPT) goes) ready in
      subst (λ (x : SliceOf). IsAlike Unbounded x s) (sym is)
      (record { steps = 0 + s.done; done = refl; same = turned_aside 0 s; count = tt })
  slice_alike (UpTo bound) most who m h goes ready =
      let s = slice most who m in
      subst (λ (x : SliceOf). IsAlike (UpTo bound) x s) (sym (slice_from_any_turn most who (id_at 0) m ready))
      (record { steps = (turned s).machine.steps; done = refl; same = record { machine = refl; whats = refl }; count = refl })

  module _ (bound : Bound) (p : Point) (steps : ℕ) where
    abbrev then_leads : Point → Bool → Bool → ℕ → SliceOf → Option Point
    then_leads q ready free done s =
        option_map (node_of (asks bound)) (if ready && (free && (done == steps)) then Some (behind (asks bound) q (turned s)) else None)

    slices_lead : (ready free : Bool) (x y : SliceOf) → (ready ≡ true → IsAlike bound x y)
        → then_leads (node_of (asks bound) p) ready free x.done x ≡ then_leads p ready free y.done y
    slices_lead false free x y alike = refl
    slices_lead true free x y alike =
        let a = alike refl in
        ap (λ done. then_leads (node_of (asks bound) p) true free done x) a.done
        ∙ if_alike bound (free && (y.done == steps))
        (behind (asks bound) (node_of (asks bound) p) (turned x)) (behind (asks bound) p (turned y))
        (behind_alike bound a.steps p (turned x) (turned y) a.same a.count)

    -- .. and preempted ones
    abbrev then_preempts : Point → Bool → ℕ → SliceOf → Option Point
    then_preempts q ready done s =
        option_map (node_of (asks bound))
        (if ready && (may_preempt (asks bound) p && (nat_lt 0 steps && nat_lt steps done))
        then Some (with_preemption (behind (asks bound) q (turned s))) else None)

    preempted_lead : (ready : Bool) (whole_x whole_y x y : SliceOf) → (ready ≡ true → IsAlike bound whole_x whole_y)
        → (ready ≡ true → IsAlike bound x y)
        → then_preempts (node_of (asks bound) p) ready whole_x.done x ≡ then_preempts p ready whole_y.done y
    preempted_lead false whole_x whole_y x y whole_alike alike = refl
    preempted_lead true whole_x whole_y x y whole_alike alike =
        let a = alike refl in
        ap (λ done. then_preempts (node_of (asks bound) p) true done x) (whole_alike refl).done
        ∙ if_alike bound (may_preempt (asks bound) p && (nat_lt 0 steps && nat_lt steps whole_y.done))
        (with_preemption (behind (asks bound) (node_of (asks bound) p) (turned x))) (with_preemption (behind (asks bound) p (turned y)))
        (ap with_preemption (behind_alike bound a.steps p (turned x) (turned y) a.same a.count))

  module _ (p : Point) (who : ThreadId) (steps : ℕ) (h : Matched p.state) where
    slice_leads : (bound : Bound) → goes_on bound p.state ≡ true
        → option_map (node_of (asks bound)) (leads (asks bound) (node_of (asks bound) p) (Slice who steps))
        ≡ option_map (node_of (asks bound)) (leads (asks bound) p (Slice who steps))
    unfolding leads
    slice_leads Unbounded goes =
        slices_lead Unbounded p steps (ready_at p.state who) true (slice quantum who (set_aside Unbounded p.state)) (slice quantum who p.state)
        (slice_alike Unbounded quantum who p.state h goes)
    slice_leads (UpTo bound) goes =
        let most = most_within (UpTo bound) quantum p.state.steps in
        slices_lead (UpTo bound) p steps (ready_at p.state who) (not (not (nat_lt p.state.steps bound)))
        (slice most who (set_aside (UpTo bound) p.state)) (slice most who p.state) (slice_alike (UpTo bound) most who p.state h goes)

    preempted_leads_alike : (bound : Bound) → goes_on bound p.state ≡ true
        → option_map (node_of (asks bound)) (leads (asks bound) (node_of (asks bound) p) (Preempted who steps))
        ≡ option_map (node_of (asks bound)) (leads (asks bound) p (Preempted who steps))
    unfolding leads
    preempted_leads_alike Unbounded goes =
        let aside = set_aside Unbounded p.state in
        preempted_lead Unbounded p steps (ready_at p.state who) (slice quantum who aside) (slice quantum who p.state) (slice steps who aside)
        (slice steps who p.state) (slice_alike Unbounded quantum who p.state h goes) (slice_alike Unbounded steps who p.state h goes)
    preempted_leads_alike (UpTo bound) goes =
        let most = most_within (UpTo bound) quantum p.state.steps in
        let aside = set_aside (UpTo bound) p.state in
        preempted_lead (UpTo bound) p steps (ready_at p.state who) (slice most who aside) (slice most who p.state) (slice steps who aside)
        (slice steps who p.state) (slice_alike (UpTo bound) most who p.state h goes) (slice_alike (UpTo bound) steps who p.state h goes)

  -- ---- events

  raised_count : (bound : Bound) (k : ℕ) (p : Point) → IsCountOf bound (count_in bound p.state) (raised k p.state).machine
  raised_count Unbounded k p = tt
  raised_count (UpTo bound) k p = sym (irq_steps k p.state)

  killed_count : (bound : Bound) (pid : Pid) (p : Point) → IsCountOf bound (count_in bound p.state) (killed pid p.state).machine
  killed_count Unbounded pid p = tt
  killed_count (UpTo bound) pid p = sym (kill_steps pid p.state)

  abbrev then_comes : Bound → ℕ → Point → Option Recorded → Option Point
  then_comes bound k p o = option_map (node_of (asks bound)) (option_map (λ done. with_come k (behind (asks bound) p done)) o)

  come_alike : (bound : Bound) (k : ℕ) (p : Point) (x y : Recorded) → IsAside (count_in bound p.state) x y
      → IsCountOf bound (count_in bound p.state) y.machine
      → then_comes bound k (node_of (asks bound) p) (Some x) ≡ then_comes bound k p (Some y)
  come_alike bound k p x y same count =
      ap (λ next. Some (with_come k next)) (behind_alike bound (count_in bound p.state) p x y same count)

  event_leads : (bound : Bound) (k : ℕ) (p : Point) (event : Event)
      → then_comes bound k (node_of (asks bound) p) (what_comes event (set_aside bound p.state)) ≡ then_comes bound k p (what_comes event p.state)
  event_leads bound k p (Tick n) = refl
  event_leads bound k p (Pick pid tid) = refl
  event_leads Unbounded k p (IrqEvent n) =
      come_alike Unbounded k p (raised n (set_aside Unbounded p.state)) (raised n p.state) (raised_aside (id_at 0) 0 n p.state) (raised_count Unbounded n p)
  event_leads (UpTo bound) k p (IrqEvent n) =
      come_alike (UpTo bound) k p (raised n (set_aside (UpTo bound) p.state)) (raised n p.state) (raised_aside (id_at 0) p.state.steps n p.state) (raised_count (UpTo bound) n p)
  event_leads Unbounded k p (Kill pid) =
      come_alike Unbounded k p (killed pid (set_aside Unbounded p.state)) (killed pid p.state) (killed_aside (id_at 0) 0 pid p.state) (killed_count Unbounded pid p)
  event_leads (UpTo bound) k p (Kill pid) =
      come_alike (UpTo bound) k p (killed pid (set_aside (UpTo bound) p.state)) (killed pid p.state) (killed_aside (id_at 0) p.state.steps pid p.state) (killed_count (UpTo bound) pid p)

  comes_alike : (bound : Bound) (p : Point) (k : ℕ) → may_come (asks bound) k (node_of (asks bound) p) ≡ may_come (asks bound) k p
  comes_alike bound p k = λ i. option_and_then
      (λ (event : Event). if waits_before (asks bound) event p k || idle_aside bound event p.state i then None else Some event)
      (waiting (asks bound) k p)

  once_leads : (bound : Bound) (p : Point) (k : ℕ)
      → option_map (node_of (asks bound)) (leads (asks bound) (node_of (asks bound) p) (Once k))
      ≡ option_map (node_of (asks bound)) (leads (asks bound) p (Once k))
  unfolding leads
  once_leads bound p k =
      ap (λ o. then_comes bound k (node_of (asks bound) p) (option_and_then (λ event. what_comes event (set_aside bound p.state)) o))
      (comes_alike bound p k)
      ∙ go (may_come (asks bound) k p)
    where
      go : (o : Option Event)
          → then_comes bound k (node_of (asks bound) p) (option_and_then (λ event. what_comes event (set_aside bound p.state)) o)
          ≡ then_comes bound k p (option_and_then (λ event. what_comes event p.state) o)
      go None = refl
      go (Some event) = event_leads bound k p event

  -- ---- moves

  move_leads : (bound : Bound) (p : Point) (move : Move) → Matched p.state → goes_on bound p.state ≡ true
      → option_map (node_of (asks bound)) (leads (asks bound) (node_of (asks bound) p) move)
      ≡ option_map (node_of (asks bound)) (leads (asks bound) p move)
  move_leads bound p (Slice who steps) h goes = slice_leads p who steps h bound goes
  move_leads bound p (Preempted who steps) h goes = preempted_leads_alike p who steps h bound goes
  move_leads bound p (Once k) h goes = once_leads bound p k

  goes_alike : (bound : Bound) (m : Machine) → goes_on bound m ≡ true → goes_on bound (set_aside bound m) ≡ true
  goes_alike Unbounded m e = e
  goes_alike (UpTo bound) m e = e

  after_alike : (bound : Bound) (p : Point) (move : Move) → Matched p.state → goes_on bound p.state ≡ true
      → after (asks bound) (node_of (asks bound) p) move ≡ option_map (node_of (asks bound)) (leads (asks bound) p move)
  unfolding after
  after_alike bound p move h goes =
      ap (λ b. if b then option_map (node_of (asks bound)) (leads (asks bound) (node_of (asks bound) p) move) else None)
      (goes_alike bound p.state goes)
      ∙ move_leads bound p move h goes

pub nodes_lead_alike : NodesLeadAlike
nodes_lead_alike asked p move h goes = after_alike asked.quantum asked.once asked.exits asked.preemptions asked.bound p move h goes

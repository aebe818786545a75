-- Each order is played by its events.
use Rattle.std.proofs.Common.{◌≡◌, ◌≤◌, ℕ, ◌+◌, Bool, true, false, List, [], ◌∷◌, ◌++◌, Option, Some, None, refl, sym, ap, ◌∙◌, arith, append-nil, append_assoc, subst}
use Rattle.std.specs.Prelude.{◌==◌, ◌&&◌, not, if◌then◌else◌}
use Rattle.std.specs.Option.{option_and_then, option_map, option_map_or}
use Rattle.std.proofs.lemmas.Bool.{eqb-true, false≢true}
use Rattle.std.proofs.lemmas.List.Concat.{flat_map-append}
use Rattle.std.proofs.lemmas.Option.{none-some, same_Some}
use Rattle.xk_base.specs.declared.events.Event.{Event}
use Rattle.xk_base.specs.declared.events.Event.TheVariants.{Irq as IrqEvent, Kill, Pick, Tick}
use Rattle.xk_base.specs.declared.ids.ThreadId.{ThreadId}
use Rattle.xk_base.specs.declared.records.Rec.{Rec}
use Rattle.machine_model.specs.State.Machine.{Machine}
use Rattle.machine_model.specs.State.Order.{ready_at}
use Rattle.machine_model.specs.Stepping.Events.{killed, raised}
use Rattle.machine_model.specs.Stepping.Step.{Recorded}
use Rattle.machine_laws.specs.History.{History, behind as behind_records, followed_by, history, play, reached}
use Rattle.machine_laws.proofs.Histories.HistoryLemmas.{history_append, history_first, history_none}
use Rattle.machine_laws.proofs.Histories.LimitLemmas.{irq_steps, kill_steps}
use Rattle.order_model.specs.Slices.{slice, turned}
use Rattle.order_model.proofs.SliceLemmas.{slice_begins, slice_counts, slice_plays}
use Rattle.order_model.specs.declared.moves.Move.{Move}
use Rattle.order_model.specs.declared.moves.Move.TheVariants.{Once, Preempted, Slice}
use Rattle.order_model.proofs.ExitLemmas.{exits_on-append, exits_on-none, kept_ends-append, kept_ends-none}
use Rattle.order_model.specs.Exits.{exits_on, kept_ends}
use Rattle.order_model.specs.Moves.{Asked, Point, behind, byte_of_what, bytes_of, events_of, events_of_move, is_at_bound, is_slice, leads}
use Rattle.order_model.specs.Moves.{leads_by, may_come, most_steps, slice_at, what_comes, with_come}
use Rattle.order_model.specs.Orders.{OrdersArePlayed}
use Rattle.order_model.proofs.MoveLemmas.{preempted_is}
use Rattle.order_model.proofs.Moving.IdleLemmas.{may_come_now}

-- a test of three parts holds, and so do the parts
parts : (a b c : Bool) → (a && (b && c)) ≡ true → (a ≡ true) × (c ≡ true)
parts true true c e = (refl, e)
parts true false c e = absurd (false≢true e)
parts false b c e = absurd (false≢true e)

-- where there is a value, the test holds
taken : {A : Type 0} (b : Bool) (x y : A) → (if b then Some x else None) ≡ Some y → (b ≡ true) × (x ≡ y)
taken true x y e = (refl, same_Some x y e)
taken false x y e = absurd (none-some y e)

module _ (asked : Asked) (limit : ℕ) where
  -- these events lead from the point to that one
  pub record Plays (events : List Event) (p next : Point) : Type 0 where
    pub records : List Rec
    pub is : history events limit p.state ≡ record { records = records; machine = next.state; met = false }
    pub console : next.console ≡ p.console ++ bytes_of records
    pub exits : next.exits ≡ exits_on p.exits (kept_ends asked.exits records)

  -- ---- slices

  pub slice_is : (p next : Point) (who : ThreadId) (steps : ℕ) → leads asked p (Slice who steps) ≡ Some next
      → (ready_at p.state who ≡ true) × ((slice_at asked who p.state).done ≡ steps) × (behind asked p (turned (slice_at asked who p.state)) ≡ next)
  unfolding leads
  slice_is p next who steps e =
      let s = slice_at asked who p.state in
      let is = taken (is_slice asked who steps p.state) (behind asked p (turned s)) next e in
      let tests = parts (ready_at p.state who) (not (is_at_bound asked.bound p.state)) (s.done == steps) is.0 in
      (tests.0, eqb-true s.done steps tests.1, is.1)

  slice_steps : (p next : Point) (who : ThreadId) (steps : ℕ) → leads asked p (Slice who steps) ≡ Some next → next.state.steps ≡ p.state.steps + steps
  slice_steps p next who steps e =
      let is = slice_is p next who steps e in
      ap (λ (x : Point). x.state.steps) (sym is.2)
      ∙ (slice_counts (most_steps asked p.state) who p.state ∙ ap (λ k. p.state.steps + k) is.1)

  -- a slice with any quantum
  slice_events_play : (quantum : ℕ) (p : Point) (who : ThreadId) (steps : ℕ) → ready_at p.state who ≡ true
      → (slice quantum who p.state).done ≡ steps → p.state.steps + steps ≤ limit
      → Plays (Pick who.pid who.tid ∷ Tick steps ∷ []) p (behind asked p (turned (slice quantum who p.state)))
  slice_events_play quantum p who steps ready done within =
      let s = slice quantum who p.state in
      let counts : s.done ≡ steps = done in
      let fits : p.state.steps + s.done ≤ limit = omega (arith, counts, within) in
      subst (λ k. Plays (Pick who.pid who.tid ∷ Tick k ∷ []) p (behind asked p (turned s))) done (record {
        records = s.records;
        is = slice_plays quantum limit who p.state ready fits;
        console = refl;
        exits = refl;
      })

  slice_moves : (p next : Point) (who : ThreadId) (steps : ℕ) → leads asked p (Slice who steps) ≡ Some next → next.state.steps ≤ limit
      → Plays (events_of_move asked (Slice who steps)) p next
  slice_moves p next who steps e within =
      let is = slice_is p next who steps e in
      let counts : next.state.steps ≡ p.state.steps + steps = slice_steps p next who steps e in
      subst (λ (x : Point). Plays (Pick who.pid who.tid ∷ Tick steps ∷ []) p x) is.2
      (slice_events_play (most_steps asked p.state) p who steps is.0 is.1 (omega (arith, counts, within)))

  -- ---- preempted slices

  preempted_steps : (p next : Point) (who : ThreadId) (steps : ℕ) → leads asked p (Preempted who steps) ≡ Some next
      → next.state.steps ≡ p.state.steps + steps
  preempted_steps p next who steps e =
      let is = preempted_is asked p who steps next e in
      ap (λ (x : Point). x.state.steps) (sym is.1)
      ∙ (slice_counts steps who p.state
      ∙ ap (λ k. p.state.steps + k) (slice_begins steps (most_steps asked p.state) who p.state is.0.fewer).done)

  preempted_moves : (p next : Point) (who : ThreadId) (steps : ℕ) → leads asked p (Preempted who steps) ≡ Some next
      → next.state.steps ≤ limit → Plays (events_of_move asked (Preempted who steps)) p next
  preempted_moves p next who steps e within =
      let is = preempted_is asked p who steps next e in
      let counts : next.state.steps ≡ p.state.steps + steps = preempted_steps p next who steps e in
      let plays = slice_events_play steps p who steps is.0.ready
      (slice_begins steps (most_steps asked p.state) who p.state is.0.fewer).done (omega (arith, counts, within)) in
      subst (λ (x : Point). Plays (Pick who.pid who.tid ∷ Tick steps ∷ []) p x) is.1
      (record { records = plays.records; is = plays.is; console = plays.console; exits = plays.exits })

  -- ---- events

  one_event : (event : Event) (m : Machine) (done : Recorded) → play event limit m ≡ reached done
      → history (event ∷ []) limit m ≡ reached done
  one_event event m done e =
      history_first event [] limit m
      ∙ (ap (λ (h : History). followed_by h (history [] limit)) e
      ∙ (ap (behind_records done.records) (history_none limit done.machine)
      ∙ ap (λ (all : List Rec). reached (record { machine = done.machine; records = all })) (append-nil done.records)))

  comes_plays : (event : Event) (m : Machine) (done : Recorded) → what_comes event m ≡ Some done
      → (history (event ∷ []) limit m ≡ reached done) × (m.steps ≤ done.machine.steps)
  unfolding play
  comes_plays (Tick n) m done e = absurd (none-some done e)
  comes_plays (Pick pid tid) m done e = absurd (none-some done e)
  comes_plays (IrqEvent k) m done e =
      let is : raised k m ≡ done = same_Some (raised k m) done e in
      let counts : done.machine.steps ≡ m.steps = ap (λ (r : Recorded). r.machine.steps) (sym is) ∙ irq_steps k m in
      (one_event (IrqEvent k) m done (ap reached is), omega (arith, counts))
  comes_plays (Kill pid) m done e =
      let is : killed pid m ≡ done = same_Some (killed pid m) done e in
      let counts : done.machine.steps ≡ m.steps = ap (λ (r : Recorded). r.machine.steps) (sym is) ∙ kill_steps pid m in
      (one_event (Kill pid) m done (ap reached is), omega (arith, counts))

  once_moves : (p next : Point) (k : ℕ) → leads asked p (Once k) ≡ Some next
      → Plays (events_of_move asked (Once k)) p next × (p.state.steps ≤ next.state.steps)
  unfolding leads
  once_moves p next k e = by_event (may_come asked k p) refl e
    where
      by_done : (event : Event) (o : Option Recorded) → what_comes event p.state ≡ o
          → option_map (λ done. with_come k (behind asked p done)) o ≡ Some next → Plays (event ∷ []) p next × (p.state.steps ≤ next.state.steps)
      by_done event None q f = absurd (none-some next f)
      by_done event (Some done) q f =
          let plays = comes_plays event p.state done q in
          subst (λ (x : Point). Plays (event ∷ []) p x × (p.state.steps ≤ x.state.steps)) (same_Some (with_come k (behind asked p done)) next f)
          (record { records = done.records; is = plays.0; console = refl; exits = refl }, plays.1)

      by_event : (o : Option Event) → may_come asked k p ≡ o
          → option_map (λ done. with_come k (behind asked p done)) (option_and_then (λ event. what_comes event p.state) o) ≡ Some next
          → Plays (events_of_move asked (Once k)) p next × (p.state.steps ≤ next.state.steps)
      by_event None q f = absurd (none-some next f)
      by_event (Some event) q f =
          subst (λ (o : Option Event). Plays (option_map_or (λ event. event ∷ []) o []) p next × (p.state.steps ≤ next.state.steps))
          (sym (may_come_now asked k p event q).its) (by_done event (what_comes event p.state) refl f)

  -- ---- moves

  move_counts : (p next : Point) (move : Move) → leads asked p move ≡ Some next → p.state.steps ≤ next.state.steps
  move_counts p next (Slice who steps) e =
      let counts : next.state.steps ≡ p.state.steps + steps = slice_steps p next who steps e in omega (arith, counts)
  move_counts p next (Preempted who steps) e =
      let counts : next.state.steps ≡ p.state.steps + steps = preempted_steps p next who steps e in omega (arith, counts)
  move_counts p next (Once k) e = (once_moves p next k e).1

  move_plays : (p next : Point) (move : Move) → leads asked p move ≡ Some next → next.state.steps ≤ limit → Plays (events_of_move asked move) p next
  move_plays p next (Slice who steps) e within = slice_moves p next who steps e within
  move_plays p next (Preempted who steps) e within = preempted_moves p next who steps e within
  move_plays p next (Once k) e within = (once_moves p next k e).0

  -- ---- orders

  -- where an order begins with a move, that leads to a point, and the others from there
  pub record Begins (p last : Point) (move : Move) (order : List Move) : Type 0 where
    pub next : Point
    pub first : leads asked p move ≡ Some next
    pub then_ : leads_by asked next order ≡ Some last

  pub begins : (p last : Point) (move : Move) (order : List Move) → leads_by asked p (move ∷ order) ≡ Some last → Begins p last move order
  unfolding leads_by
  begins p last move order e = go (leads asked p move) refl e
    where
      go : (o : Option Point) → leads asked p move ≡ o → option_and_then (λ next. leads_by asked next order) o ≡ Some last
          → Begins p last move order
      go None q f = absurd (none-some last f)
      go (Some next) q f = record { next = next; first = q; then_ = f }

  order_counts : (order : List Move) (p last : Point) → leads_by asked p order ≡ Some last → p.state.steps ≤ last.state.steps
  unfolding leads_by
  order_counts [] p last e =
      let same : last.state.steps ≡ p.state.steps = ap (λ (x : Point). x.state.steps) (sym (same_Some p last e)) in omega (arith, same)
  order_counts (move ∷ order) p last e =
      let b = begins p last move order e in
      let first : p.state.steps ≤ b.next.state.steps = move_counts p b.next move b.first in
      let rest : b.next.state.steps ≤ last.state.steps = order_counts order b.next last b.then_ in
      omega (arith, first, rest)

  join : (events others : List Event) (p next last : Point) → Plays events p next → Plays others next last → Plays (events ++ others) p last
  join events others p next last first rest = record {
    records = first.records ++ rest.records;
    is =
        history_append events others limit p.state
        ∙ (ap (λ (h : History). followed_by h (history others limit)) first.is ∙ ap (behind_records first.records) rest.is);
    console =
        rest.console
        ∙ (ap (λ bytes. bytes ++ bytes_of rest.records) first.console
        ∙ (append_assoc p.console (bytes_of first.records) (bytes_of rest.records)
        ∙ ap (λ bytes. p.console ++ bytes) (sym (flat_map-append (λ (told : Rec). byte_of_what told.what) first.records rest.records))));
    exits =
        rest.exits
        ∙ (ap (λ exits. exits_on exits (kept_ends asked.exits rest.records)) first.exits
        ∙ (exits_on-append p.exits (kept_ends asked.exits first.records) (kept_ends asked.exits rest.records)
        ∙ ap (exits_on p.exits) (sym (kept_ends-append asked.exits first.records rest.records))));
  }

  order_plays : (order : List Move) (p last : Point) → leads_by asked p order ≡ Some last → last.state.steps ≤ limit
      → Plays (events_of asked order) p last
  unfolding leads_by
  order_plays [] p last e within =
      subst (Plays [] p) (same_Some p last e)
      (record {
        records = [];
        is = history_none limit p.state;
        console = sym (append-nil p.console);
        exits = sym (ap (exits_on p.exits) (kept_ends-none asked.exits) ∙ exits_on-none p.exits);
      })
  order_plays (move ∷ order) p last e within =
      let b = begins p last move order e in
      let rest : b.next.state.steps ≤ last.state.steps = order_counts order b.next last b.then_ in
      join (events_of_move asked move) (events_of asked order) p b.next last
      (move_plays p b.next move b.first (omega (arith, rest, within))) (order_plays order b.next last b.then_ within)

pub orders_are_played : OrdersArePlayed
orders_are_played asked order limit p last e within =
    let plays = order_plays asked limit order p last e within in
    record { records = plays.records; is = plays.is; console = plays.console; exits = plays.exits }

-- Moves of an order: a slice of a Ready thread, such a slice that is preempted, or an event that may come once. What they make of a
-- state with what came before it, and the events that play them.
use Rattle.std.specs.Prelude.{ℕ, ◌+◌, ◌-◌, ◌==◌, ◌&&◌, ◌||◌, min, nat_eq, nat_lt, Bool, true, false, not, List, [], ◌∷◌, ◌++◌, slice_get, if◌then◌else◌, Option, Some, None, is_some}
use Rattle.std.specs.List.{flat_map}
use Rattle.std.specs.Option.{option_and_then, option_map, option_map_or}
use Rattle.xk_base.specs.declared.events.Event.{Event}
use Rattle.xk_base.specs.declared.events.Event.TheVariants.{Irq as IrqEvent, Kill, Pick, Tick}
use Rattle.xk_base.specs.declared.ids.ThreadId.{ThreadId}
use Rattle.xk_base.specs.declared.records.Rec.{Rec}
use Rattle.xk_base.specs.declared.records.What.{What}
use Rattle.xk_base.specs.declared.records.What.TheVariants.{Byte, Call, End, Fault, Gone, Irq, Reply, Retry}
use Rattle.xk_base.specs.Tables.Counting.{least_below, put_at}
use Rattle.machine_model.specs.State.Machine.{Machine}
use Rattle.machine_model.specs.State.Order.{ready_at}
use Rattle.machine_model.specs.Stepping.Events.{killed, raised}
use Rattle.machine_model.specs.Stepping.Step.{Recorded}
use Rattle.order_model.specs.declared.exits.Exit.{Exit}
use Rattle.order_model.specs.Exits.{exits_on, kept_ends}
use Rattle.order_model.specs.Slices.{Slice as SliceOf, slice, turned}
use Rattle.order_model.specs.declared.moves.Move.{Move}
use Rattle.order_model.specs.declared.moves.Move.TheVariants.{Once, Preempted, Slice}

-- Whether an order has a bound of steps. It needs one where somebody claims the timer's interrupt.
pub data Bound : Type 0 where
  Unbounded : Bound
  UpTo : ℕ → Bound

-- the orders that are asked for: how many steps a slice has at most, their bound, the events that may come, each once, whether it is
-- kept what processes end with, and how many of their slices are preempted at most
pub record Asked : Type 0 where
  pub quantum : ℕ
  pub bound : Bound
  pub once : List Event
  pub exits : Bool
  pub preemptions : ℕ

-- a state, the bytes that went to the console before it, which of the events came, by pid what processes ended with, and how many slices
-- were preempted
pub record Point : Type 0 where
  pub state : Machine
  pub console : List ℕ
  pub came : ℕ → Bool
  pub exits : ℕ → Option Exit
  pub preempted : ℕ

-- ---- the console

-- the byte that went to the console, if one did
abbrev pub byte_of_what : What → List ℕ
byte_of_what (Byte thread byte) = byte ∷ []
byte_of_what (Call thread words) = []
byte_of_what (Reply thread words) = []
byte_of_what (Retry thread) = []
byte_of_what (Fault thread cause value) = []
byte_of_what (End thread) = []
byte_of_what (Irq pid number) = []
byte_of_what (Gone pid) = []

abbrev pub bytes_of : List Rec → List ℕ
bytes_of records = flat_map (λ told. byte_of_what told.what) records

-- ---- slices

-- no step is left within the bound
abbrev pub is_at_bound : Bound → Machine → Bool
is_at_bound Unbounded m = false
is_at_bound (UpTo bound) m = not (nat_lt m.steps bound)

-- so many steps at most, and no more than are left within the bound after so many
abbrev pub most_within : Bound → ℕ → ℕ → ℕ
most_within Unbounded quantum steps = quantum
most_within (UpTo bound) quantum steps = min quantum (bound - steps)

-- how many steps a slice has at most
abbrev pub most_steps : Asked → Machine → ℕ
most_steps asked m = most_within asked.bound asked.quantum m.steps

-- the slice of this thread
abbrev pub slice_at : Asked → ThreadId → Machine → SliceOf
slice_at asked who m = slice (most_steps asked m) who m

-- the thread may have a slice, and it has so many steps
abbrev pub is_slice : Asked → ThreadId → ℕ → Machine → Bool
is_slice asked who steps m = ready_at m who && (not (is_at_bound asked.bound m) && ((slice_at asked who m).done == steps))

-- one more slice may be preempted
abbrev pub may_preempt : Asked → Point → Bool
may_preempt asked p = nat_lt p.preempted asked.preemptions

-- The slice of this thread may be preempted after so many steps: it has a first one, and it has more. So these leave no record, and they
-- are the slice with this quantum.
abbrev pub is_preempted : Asked → ThreadId → ℕ → Point → Bool
is_preempted asked who steps p =
    ready_at p.state who && (may_preempt asked p && (nat_lt 0 steps && nat_lt steps (slice_at asked who p.state).done))

-- ---- events

-- what the event makes of a state; ticks and picks don't come by themselves
abbrev pub what_comes : Event → Machine → Option Recorded
what_comes (Tick n) m = None
what_comes (Pick pid tid) m = None
what_comes (IrqEvent k) m = Some (raised k m)
what_comes (Kill pid) m = Some (killed pid m)

-- **An idle event** can do nothing: nobody claims the interrupt, or the process isn't alive, and there is no reservation that it would end.
abbrev pub is_idle : Event → Machine → Bool
is_idle (Tick n) m = false
is_idle (Pick pid tid) m = false
is_idle (IrqEvent k) m = not (is_some (m.claims k)) && not (is_some m.reserved)
is_idle (Kill pid) m = not (m.process pid.0).alive && not (is_some m.reserved)

-- two events are equal
abbrev pub same_event : Event → Event → Bool
same_event (Tick n) (Tick k) = n == k
same_event (Pick pid tid) (Pick other of_other) = (pid.0 == other.0) && (tid.0 == of_other.0)
same_event (IrqEvent n) (IrqEvent k) = n == k
same_event (Kill pid) (Kill other) = pid.0 == other.0
same_event _ _ = false

-- the event of that number, if it hasn't come
abbrev pub waiting : Asked → ℕ → Point → Option Event
waiting asked k p = if p.came k then None else slice_get asked.once k

-- .. is equal to this one
abbrev pub waits_at : Asked → Event → Point → ℕ → Bool
waits_at asked event p k = option_map_or (same_event event) (waiting asked k p) false

-- an event that is equal to it, of a number below this one, hasn't come
abbrev pub waits_before : Asked → Event → Point → ℕ → Bool
waits_before asked event p k = is_some (least_below k (waits_at asked event p))

-- **The event that may come**: it hasn't come, no equal one of a lower number is to come still, and it isn't idle.
abbrev pub may_come : Asked → ℕ → Point → Option Event
may_come asked k p =
    option_and_then (λ event. if waits_before asked event p k || is_idle event p.state then None else Some event) (waiting asked k p)

-- ---- moves

-- the point behind what was done
abbrev pub behind : Asked → Point → Recorded → Point
behind asked p done = record p {
  state = done.machine;
  console = p.console ++ bytes_of done.records;
  exits = exits_on p.exits (kept_ends asked.exits done.records);
}

abbrev pub with_come : ℕ → Point → Point
with_come k p = record p { came = put_at nat_eq p.came k true }

abbrev pub with_preemption : Point → Point
with_preemption p = record p { preempted = p.preempted + 1 }

-- where a move leads to from a point, where it may be made there
unfoldable pub leads : Asked → Point → Move → Option Point
leads asked p (Slice who steps) =
    if is_slice asked who steps p.state then Some (behind asked p (turned (slice_at asked who p.state))) else None
leads asked p (Preempted who steps) =
    if is_preempted asked who steps p then Some (with_preemption (behind asked p (turned (slice steps who p.state)))) else None
leads asked p (Once k) =
    option_map (λ done. with_come k (behind asked p done)) (option_and_then (λ event. what_comes event p.state) (may_come asked k p))

-- .. and an order of moves
unfoldable pub leads_by : Asked → Point → List Move → Option Point
leads_by asked p [] = Some p
leads_by asked p (move ∷ order) = option_and_then (λ next. leads_by asked next order) (leads asked p move)

-- the events that play a move
abbrev pub events_of_move : Asked → Move → List Event
events_of_move asked (Slice who steps) = Pick who.pid who.tid ∷ Tick steps ∷ []
events_of_move asked (Preempted who steps) = Pick who.pid who.tid ∷ Tick steps ∷ []
events_of_move asked (Once k) = option_map_or (λ event. event ∷ []) (slice_get asked.once k) []

abbrev pub events_of : Asked → List Move → List Event
events_of asked order = flat_map (events_of_move asked) order

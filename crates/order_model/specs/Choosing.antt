-- What may come next at a point: a slice of a thread, whole or preempted, or an event that hasn't come.
use Rattle.std.specs.Prelude.{◌≡◌, ◌++◌, ℕ, nat_lt, Bool, true, List, [], length, map, is_some, if◌then◌else◌}
use Rattle.std.specs.List.{flat_map}
use Rattle.std.specs.Option.{option_and_then}
use Rattle.order_model.specs.declared.moves.Move.{Move}
use Rattle.order_model.specs.declared.moves.Move.TheVariants.{Once, Preempted, Slice}
use Rattle.order_model.specs.declared.moves.Note.{Note}
use Rattle.order_model.specs.Endings.{turns_at}
use Rattle.order_model.specs.Moves.{Asked, Point, may_come, may_preempt, slice_at, what_comes}
use Rattle.order_model.specs.Nodes.{goes_on}
use Rattle.order_model.specs.Searches.{note_of}
use Rattle.order_model.specs.declared.choices.Choice.{Choice}
use Rattle.order_model.specs.declared.choices.Choice.TheVariants.{Comes, Goes, Preempts}
use Rattle.order_model.specs.declared.orders.Trail.{Trail}
use Rattle.order_model.specs.Asking.{came_of}
use Rattle.order_model.specs.Exits.{exit_in}
use Rattle.snapshot_rows.specs.declared.state.State.{State}
use Rattle.snapshot_rows.specs.Machines.{machine_of}
use Rattle.xk_base.specs.Tables.Counting.{listed_below}
use Rattle.xk_base.specs.declared.ids.ThreadId.{ThreadId}

-- whose slice it is, after how many steps it is preempted, or which event comes
abbrev pub choice_of : Move → Choice
choice_of (Slice who steps) = Goes who
choice_of (Preempted who steps) = Preempts who steps
choice_of (Once number) = Comes number

-- the event of that number may come
abbrev pub comes_at : Asked → Point → ℕ → Bool
comes_at asked p k = is_some (option_and_then (λ event. what_comes event p.state) (may_come asked k p))

-- the events that may come, by their numbers
abbrev pub events_at : Asked → Point → List ℕ
events_at asked p = listed_below (length asked.once) (comes_at asked p)

-- the threads that may have a whole slice, and then these events
abbrev pub choices_at : Asked → Point → List Choice
choices_at asked p = map Goes (turns_at asked p.state) ++ map Comes (events_at asked p)

-- to preempt a slice of this thread, which has so many steps, after each of them but the last
abbrev pub preemptions_of : ThreadId → ℕ → List Choice
preemptions_of who done = map (Preempts who) (listed_below done (nat_lt 0))

-- .. the slice that the move is, if it is a whole one
abbrev pub preemptions_by : Move → List Choice
preemptions_by (Slice who steps) = preemptions_of who steps
preemptions_by (Preempted who steps) = []
preemptions_by (Once number) = []

-- to preempt any slice at the point, if one more may be preempted
abbrev pub preemptions_at : Asked → Point → List Choice
preemptions_at asked p =
    if may_preempt asked p then flat_map (λ who. preemptions_of who (slice_at asked who p.state).done) (turns_at asked p.state) else []

-- all that may come next
abbrev pub all_choices_at : Asked → Point → List Choice
all_choices_at asked p = choices_at asked p ++ preemptions_at asked p

-- rows of the point's state, with its console, which of the events came, what processes ended with, and how many slices were preempted
pub record IsStand (p : Point) (state : State) (trail : Trail) : Type 0 where
  pub file : List ℕ
  pub rows : machine_of file state ≡ p.state
  pub console : trail.console.items ≡ p.console
  pub came : (k : ℕ) → came_of trail.came.items k ≡ p.came k
  pub exits : (pid : ℕ) → exit_in trail.ends.items pid ≡ p.exits pid
  pub preempted : trail.preempted ≡ p.preempted

-- what was seen at a point: orders go on there, the choices are these, and the note is right
pub record IsSeen (asked : Asked) (p : Point) (choices : List Choice) (note : Note) : Type 0 where
  pub goes_on : goes_on asked.bound p.state ≡ true
  pub choices_are : choices ≡ choices_at asked p
  pub note_is : note ≡ note_of asked p.state

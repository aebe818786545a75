-- In which order the edges of a node are followed depth first. The threads go round by pid and tid, as in the kernel's own order: those behind
-- the one that had the last slice come first, and then the others.
use Rattle.std.specs.Prelude.{ℕ, ◌-◌, ◌==◌, ◌&&◌, ◌||◌, ◌++◌, nat_lt, Bool, false, not, List, filter, length, slice_get, if◌then◌else◌, Option, Some, None}
use Rattle.std.specs.Option.{option_and_then}
use Rattle.graph_search.specs.declared.space.Successor.{Successor}
use Rattle.order_model.specs.declared.moves.Move.{Move}
use Rattle.order_model.specs.declared.moves.Move.TheVariants.{Once, Preempted, Slice}
use Rattle.xk_base.specs.declared.ids.ThreadId.{ThreadId}

-- the thread whose slice the move is, if it is one
abbrev pub thread_of : Move → Option ThreadId
thread_of (Slice who steps) = Some who
thread_of (Preempted who steps) = Some who
thread_of (Once number) = None

-- the thread whose slice was the last move of the path, if that was one
abbrev pub last_thread : List Move → Option ThreadId
last_thread path = option_and_then thread_of (slice_get path (length path - 1))

-- a thread comes behind another by pid and tid
abbrev pub is_behind : ThreadId → ThreadId → Bool
is_behind last who = nat_lt last.pid.0 who.pid.0 || ((last.pid.0 == who.pid.0) && nat_lt last.tid.0 who.tid.0)

-- both are threads, and the second comes behind the first
abbrev pub are_in_order : Option ThreadId → Option ThreadId → Bool
are_in_order None who = false
are_in_order (Some last) None = false
are_in_order (Some last) (Some who) = is_behind last who

-- the move is a slice of a thread behind the one that had the last slice
abbrev pub comes_first : Option ThreadId → Move → Bool
comes_first last label = are_in_order last (thread_of label)

module _ {Key : Type 0} where
  -- those edges, and then the others, each in the order in which they were
  abbrev pub by_turns : List Move → List (Successor Move Key) → List (Successor Move Key)
  by_turns path edges =
      filter (λ edge. comes_first (last_thread path) edge.label) edges ++ filter (λ edge. not (comes_first (last_thread path) edge.label)) edges

  -- the edges behind a path, where so many slices of an order may be preempted: by turns, if any may be
  abbrev pub in_order : ℕ → List Move → List (Successor Move Key) → List (Successor Move Key)
  in_order preemptions path edges = if preemptions == 0 then edges else by_turns path edges

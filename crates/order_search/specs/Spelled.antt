-- Nodes that their bytes tell.
use Rattle.std.specs.Prelude.{◌≡◌, ◌≤◌, ◌<◌, ◌^◌, ℕ, false, length, Option, Some, None}
use Rattle.machine_model.specs.State.Machine.{Machine}
use Rattle.suspend_image.specs.Saveable.{IsSpellable}
use Rattle.order_model.specs.declared.exits.Ended.{Ended}
use Rattle.order_model.specs.declared.exits.Exit.{Exit}
use Rattle.order_model.specs.declared.exits.Exit.TheVariants.{Exited, Faulted, Killed}
use Rattle.order_model.specs.Moves.{Asked, Point}
use Rattle.order_model.specs.Nodes.{set_aside}
use Rattle.order_search.specs.Keys.{node_bytes}

abbrev pub IsExitOfWords : Exit → Type 0
IsExitOfWords (Exited word) = word < 2 ^ 32
IsExitOfWords (Faulted cause value) = value < 2 ^ 32
IsExitOfWords Killed = Unit {0}

-- its pid is a byte, and it ended with words
pub record IsEndOfWords (end : Ended) : Type 0 where
  pub pid : end.pid.0 < 2 ^ 8
  pub exit : IsExitOfWords end.exit

-- if the process of that pid ended
abbrev pub IsExitTold : ℕ → Option Exit → Type 0
IsExitTold pid None = Unit {0}
IsExitTold pid (Some exit) = (pid < 2 ^ 8) × IsExitOfWords exit

-- It is the node of a state that state bytes spell; of the events that were asked for none came but those that are told; how many moves
-- were preempted is a word; and what processes ended with has the form in which it is told. So is each node of which a search makes a key.
pub record IsSpelled (asked : Asked) (node : Point) : Type 0 where
  pub state : Machine
  pub spellable : IsSpellable state
  pub is : set_aside asked.bound state ≡ node.state
  pub came : (k : ℕ) → length asked.once ≤ k → node.came k ≡ false
  pub preempted : node.preempted < 2 ^ 32
  pub exits : (pid : ℕ) → IsExitTold pid (node.exits pid)

-- **Equal bytes are equal nodes.**
abbrev pub BytesTellNodes : Type 0
BytesTellNodes =
    (asked : Asked) (one other : Point) → IsSpelled asked one → IsSpelled asked other → node_bytes asked one ≡ node_bytes asked other
    → one ≡ other

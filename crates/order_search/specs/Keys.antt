-- Keys of nodes: digests of the bytes that spell them.
use Rattle.std.specs.Prelude.{◌≡◌, ◌+◌, ◌^◌, ℕ, zero, suc, Bool, true, false, List, [], ◌∷◌, ◌++◌, drop, length, map, take, Option, Some, None}
use Rattle.std.specs.Int.{to_le_bytes, w32}
use Rattle.std.specs.List.{flat_map}
use Rattle.machine_model.specs.State.Machine.{Machine}
use Rattle.sha2.specs.Sha256.{sha256}
use Rattle.suspend_image.specs.StateBytes.{saved_bytes, saved_parts}
use Rattle.suspend_image.specs.Words.{word}
use Rattle.order_model.specs.declared.exits.Exit.{Exit}
use Rattle.order_model.specs.declared.exits.Exit.TheVariants.{Exited, Faulted, Killed}
use Rattle.order_model.specs.Moves.{Asked, Bound, Point, Unbounded, UpTo}
use Rattle.order_search.specs.Marks.{marked}
use Rattle.xk_base.specs.Tables.Counting.{listed_below}

-- of each of the first n events in their order whether it came
unfoldable pub came_list : ℕ → (ℕ → Bool) → List Bool
came_list zero came = []
came_list (suc n) came = came 0 ∷ came_list n (λ k. came (k + 1))

abbrev pub came_byte : Bool → ℕ
came_byte false = 0
came_byte true = 1

-- which of the events came, a byte for each
abbrev pub came_bytes : Asked → Point → List ℕ
came_bytes asked p = map came_byte (came_list (length asked.once) p.came)

-- what a process ended with: whether it did and how, and the words of that
abbrev pub exit_bytes : Option Exit → List ℕ
exit_bytes None = 0 ∷ []
exit_bytes (Some (Exited word)) = 1 ∷ to_le_bytes w32 word
exit_bytes (Some (Faulted cause value)) = 2 ∷ cause ∷ to_le_bytes w32 value
exit_bytes (Some Killed) = 3 ∷ []

-- .. each of a pid that is a byte
unfoldable pub exits_bytes : (ℕ → Option Exit) → List ℕ
exits_bytes exits = flat_map (λ pid. exit_bytes (exits pid)) (listed_below (2 ^ 8) (λ pid. true))

-- which of the events came, how many moves were preempted, as a word, and what processes ended with
abbrev pub beside_bytes : Asked → Point → List ℕ
beside_bytes asked p = came_bytes asked p ++ (to_le_bytes w32 p.preempted ++ exits_bytes p.exits)

-- How many state bytes the node has, their parts with marks in place of zeros, which events came, how many moves were preempted, what
-- processes ended with, and the console's bytes. No check number is among them.
abbrev pub node_bytes : Asked → Point → List ℕ
node_bytes asked node =
    word (length (saved_bytes node.state)) ++ (marked (saved_parts node.state) ++ (beside_bytes asked node ++ node.console))

-- the key of a node
abbrev pub key_of : Asked → Point → List ℕ
key_of asked node = sha256 (node_bytes asked node)

-- the bytes have the length and the parts of those of a state, whatever their check number
pub record HasParts (m : Machine) (bytes : List ℕ) : Type 0 where
  pub size : take 4 (drop 8 bytes) ≡ word (length (saved_bytes m))
  pub parts : drop 16 bytes ≡ saved_parts m

abbrev pub has_bound : Bound → Bool
has_bound Unbounded = false
has_bound (UpTo bound) = true

-- what is told of a point
pub record IsToldOf (asked : Asked) (p : Point) (bytes : List ℕ) (counts : Bool) (beside console : List ℕ) : Type 0 where
  pub bytes_are : bytes ≡ saved_bytes p.state
  pub counts_is : counts ≡ has_bound asked.bound
  pub beside_is : beside ≡ beside_bytes asked p
  pub console_is : console ≡ p.console

-- All points of a node are seen alike.
use Rattle.std.proofs.Common.{◌≡◌, ℕ, Bool, false, List, length, refl}
use Rattle.std.specs.Option.{option_map_or}
use Rattle.std.specs.Prelude.{slice_get}
use Rattle.xk_base.specs.declared.events.Event.{Event}
use Rattle.xk_base.specs.Tables.Circle.{id_at}
use Rattle.xk_base.specs.Tables.Counting.{least_below}
use Rattle.machine_model.specs.State.Machine.{Machine}
use Rattle.order_model.specs.declared.failing.Failing.{Failing}
use Rattle.order_model.specs.declared.failing.Failing.TheVariants.{Console, ConsoleNot, Exit, Fault, Waits}
use Rattle.order_model.specs.Failing.{fails_of, first_failing}
use Rattle.order_model.specs.Endings.{AreSeenAlike, NodesAreSeenAlike, kept_at, ready_ids, seen_of}
use Rattle.order_model.specs.Moves.{Asked, Bound, Point, Unbounded, UpTo}
use Rattle.order_model.specs.Nodes.{node_of}
use Rattle.order_model.specs.Searches.{note_of}

-- whose turn it is, and after how many steps, isn't seen
abbrev IsLike : Point → Machine → Type 0
IsLike p m = (failing : Failing) → fails_of failing (record p { state = m }) ≡ fails_of failing p

fails_from_any_turn : (p : Point) → IsLike p (record p.state { cursor = id_at 0 })
unfolding fails_of
fails_from_any_turn p Exit = refl
fails_from_any_turn p Fault = refl
fails_from_any_turn p (Waits who) = refl
fails_from_any_turn p (Console text) = refl
fails_from_any_turn p (ConsoleNot text) = refl

fails_at_any_count : (p : Point) → IsLike p (record p.state { cursor = id_at 0; steps = 0 })
unfolding fails_of
fails_at_any_count p Exit = refl
fails_at_any_count p Fault = refl
fails_at_any_count p (Waits who) = refl
fails_at_any_count p (Console text) = refl
fails_at_any_count p (ConsoleNot text) = refl

first_alike : (p : Point) (m : Machine) → IsLike p m → (list : List Failing) → first_failing list (record p { state = m }) ≡ first_failing list p
first_alike p m like list =
    λ i. least_below (length list) (λ place. option_map_or (λ failing. like failing i) (slice_get list place) false)

alike : (bound : Bound) (quantum : ℕ) (once : List Event) (exits : Bool) (preemptions : ℕ) (p : Point)
    → AreSeenAlike (record { quantum = quantum; bound = bound; once = once; exits = exits; preemptions = preemptions }) p
unfolding ready_ids kept_at seen_of
alike Unbounded quantum once exits preemptions p = record {
  seen = refl;
  failing = first_alike p _ (fails_at_any_count p);
  ending = refl;
  turns = refl;
}
alike (UpTo bound) quantum once exits preemptions p = record {
  seen = refl;
  failing = first_alike p _ (fails_from_any_turn p);
  ending = refl;
  turns = refl;
}

pub nodes_are_seen_alike : NodesAreSeenAlike
nodes_are_seen_alike asked p = alike asked.bound asked.quantum asked.once asked.exits asked.preemptions p

pub note_alike : (asked : Asked) (p : Point) → note_of asked (node_of asked p).state ≡ note_of asked p.state
note_alike asked p =
    let same = nodes_are_seen_alike asked p in
    λ i. record { ends = same.ending i; slices = length (same.turns i) }

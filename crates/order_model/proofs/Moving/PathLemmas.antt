-- Each order is a path of nodes.
use Rattle.std.proofs.Common.{◌≡◌, ℕ, zero, suc, Bool, true, false, List, [], ◌∷◌, Option, Some, None, is_some, refl, ap, ◌∙◌, subst}
use Rattle.std.specs.Prelude.{if◌then◌else◌}
use Rattle.std.specs.Option.{option_and_then, option_map}
use Rattle.std.proofs.lemmas.Option.{none-some, same_Some}
use Rattle.xk_base.specs.declared.events.Event.{Event}
use Rattle.xk_base.specs.declared.events.Event.TheVariants.{Irq as IrqEvent, Kill, Pick, Tick}
use Rattle.xk_base.specs.declared.ids.ThreadId.{ThreadId}
use Rattle.xk_base.specs.declared.records.Rec.{Rec}
use Rattle.machine_model.specs.Runs.Matched.{Matched}
use Rattle.machine_model.specs.Runs.Moments.{ByIrq, ByKill, ByPick, ByTurn}
use Rattle.machine_model.specs.State.Machine.{Machine}
use Rattle.machine_model.specs.State.Order.{actor}
use Rattle.machine_model.specs.Stepping.Events.{killed, picked, raised}
use Rattle.machine_model.specs.Stepping.Step.{Recorded, step}
use Rattle.machine_laws.proofs.Stepping.EveryStepLemmas.{every_cause_keeps, every_step_keeps}
use Rattle.order_model.specs.Slices.{Slice as SliceOf, last_or, no_step, slice, steps_up_to, turned}
use Rattle.graph_search.specs.Graph.{node_by}
use Rattle.order_model.specs.declared.moves.Move.{Move}
use Rattle.order_model.specs.declared.moves.Move.TheVariants.{Once, Preempted, Slice}
use Rattle.order_model.specs.Moves.{Asked, Point, behind, leads, leads_by, may_come, most_steps, what_comes, with_come}
use Rattle.order_model.specs.Nodes.{after, node_of}
use Rattle.order_model.specs.Orders.{GoOn, OrdersArePaths}
use Rattle.order_model.proofs.MoveLemmas.{preempted_is}
use Rattle.order_model.proofs.Moving.NodeLemmas.{nodes_lead_alike}
use Rattle.order_model.proofs.Moving.PlayLemmas.{slice_is}

-- ---- a slice keeps the machine matched

steps_keep : (most : ℕ) (m : Machine) → Matched m → Matched (steps_up_to most m).machine
unfolding steps_up_to
steps_keep zero m h = h
steps_keep (suc most) m h = go (steps_keep most (step m).machine (every_step_keeps m h)) (is_some (actor m))
  where
    later : SliceOf
    later = steps_up_to most (step m).machine

    by_records : Matched later.machine → (records : List Rec) → Matched (last_or records (step m).machine later).machine
    by_records rest [] = rest
    by_records rest (first ∷ records) = every_step_keeps m h

    go : Matched later.machine → (b : Bool) → Matched (if b then last_or (step m).records (step m).machine later else no_step m).machine
    go rest false = h
    go rest true = by_records rest (step m).records

slice_keeps : (quantum : ℕ) (who : ThreadId) (m : Machine) → Matched m → Matched (turned (slice quantum who m)).machine
unfolding slice
slice_keeps quantum who m h =
    every_cause_keeps ByTurn (steps_up_to quantum (picked who m).machine).machine
    (steps_keep quantum (picked who m).machine (every_cause_keeps (ByPick who) m h))

-- ---- .. and so does every move

comes_keeps : (event : Event) (m : Machine) (done : Recorded) → Matched m → what_comes event m ≡ Some done → Matched done.machine
comes_keeps (Tick n) m done h e = absurd (none-some done e)
comes_keeps (Pick pid tid) m done h e = absurd (none-some done e)
comes_keeps (IrqEvent k) m done h e =
    subst (λ (r : Recorded). Matched r.machine) (same_Some (raised k m) done e) (every_cause_keeps (ByIrq k) m h)
comes_keeps (Kill pid) m done h e =
    subst (λ (r : Recorded). Matched r.machine) (same_Some (killed pid m) done e) (every_cause_keeps (ByKill pid) m h)

module _ (asked : Asked) where
  pub move_keeps : (p next : Point) (move : Move) → Matched p.state → leads asked p move ≡ Some next → Matched next.state
  unfolding leads
  move_keeps p next (Slice who steps) h e =
      subst (λ (x : Point). Matched x.state) (slice_is asked 0 p next who steps e).2 (slice_keeps (most_steps asked p.state) who p.state h)
  move_keeps p next (Preempted who steps) h e =
      subst (λ (x : Point). Matched x.state) (preempted_is asked p who steps next e).1 (slice_keeps steps who p.state h)
  move_keeps p next (Once k) h e = by_event (may_come asked k p) e
    where
      by_done : (event : Event) (o : Option Recorded) → what_comes event p.state ≡ o
          → option_map (λ done. with_come k (behind asked p done)) o ≡ Some next → Matched next.state
      by_done event None q f = absurd (none-some next f)
      by_done event (Some done) q f =
          subst (λ (x : Point). Matched x.state) (same_Some (with_come k (behind asked p done)) next f) (comes_keeps event p.state done h q)

      by_event : (o : Option Event)
          → option_map (λ done. with_come k (behind asked p done)) (option_and_then (λ event. what_comes event p.state) o) ≡ Some next
          → Matched next.state
      by_event None f = absurd (none-some next f)
      by_event (Some event) f = by_done event (what_comes event p.state) refl f

  paths : (order : List Move) (p : Point) → Matched p.state → GoOn asked p order
      → node_by (after asked) (node_of asked p) order ≡ option_map (node_of asked) (leads_by asked p order)
  unfolding leads_by GoOn
  paths [] p h go_on = refl
  paths (move ∷ order) p h go_on =
      ap (option_and_then (λ next. node_by (after asked) next order)) (nodes_lead_alike asked p move h go_on.0)
      ∙ go (λ next e. paths order next (move_keeps p next move h e) (go_on.1 next e)) (leads asked p move) refl
    where
      go : ((next : Point) → leads asked p move ≡ Some next
          → node_by (after asked) (node_of asked next) order ≡ option_map (node_of asked) (leads_by asked next order))
          → (o : Option Point) → leads asked p move ≡ o
          → option_and_then (λ next. node_by (after asked) next order) (option_map (node_of asked) o)
          ≡ option_map (node_of asked) (option_and_then (λ next. leads_by asked next order) o)
      go rest None e = refl
      go rest (Some next) e = rest next e

pub orders_are_paths : OrdersArePaths
orders_are_paths asked order p h go_on = paths asked order p h go_on

-- Preemptions are counted, and only their count is limited.
use Rattle.std.proofs.Common.{◌≡◌, ◌≤◌, ◌<◌, ◌+◌, ℕ, List, [], ◌∷◌, Option, Some, None, sym, ap, cond, ◌∙◌, arith}
use Rattle.std.specs.Option.{option_and_then, option_map}
use Rattle.std.proofs.lemmas.List.Sums.{sum_by-cons}
use Rattle.std.proofs.lemmas.Option.{none-some, same_Some}
use Rattle.xk_base.specs.declared.events.Event.{Event}
use Rattle.machine_model.specs.Stepping.Step.{Recorded}
use Rattle.order_model.specs.declared.moves.Move.{Move}
use Rattle.order_model.specs.declared.moves.Move.TheVariants.{Once, Preempted, Slice}
use Rattle.order_model.specs.Moves.{Asked, Point, behind, leads, leads_by, may_come, what_comes, with_come}
use Rattle.order_model.specs.Orders.{AreCounted, FewPreemptionsAreAllowed, PreemptionsAreCounted, is_preemption, preemptions_in}
use Rattle.order_model.proofs.MoveLemmas.{preempted_is, preempted_leads}
use Rattle.order_model.proofs.Moving.PlayLemmas.{begins, slice_is}

-- a move counts if it is a preempted slice
abbrev count_of : Move → ℕ
count_of move = cond (is_preemption move) 1 0

module _ (asked : Asked) where
  once_keeps : (p next : Point) (k : ℕ) → leads asked p (Once k) ≡ Some next → next.preempted ≡ p.preempted
  unfolding leads
  once_keeps p next k e = by_event (may_come asked k p) e
    where
      by_done : (o : Option Recorded) → option_map (λ done. with_come k (behind asked p done)) o ≡ Some next → next.preempted ≡ p.preempted
      by_done None f = absurd (none-some next f)
      by_done (Some done) f = ap (λ (x : Point). x.preempted) (sym (same_Some (with_come k (behind asked p done)) next f))

      by_event : (o : Option Event)
          → option_map (λ done. with_come k (behind asked p done)) (option_and_then (λ event. what_comes event p.state) o) ≡ Some next
          → next.preempted ≡ p.preempted
      by_event None f = absurd (none-some next f)
      by_event (Some event) f = by_done (what_comes event p.state) f

  -- a move counts itself, and no more are counted than may be
  record IsCounted (move : Move) (p next : Point) : Type 0 where
    count : next.preempted ≡ p.preempted + count_of move
    within : p.preempted ≤ asked.preemptions → next.preempted ≤ asked.preemptions

  move_counted : (p next : Point) (move : Move) → leads asked p move ≡ Some next → IsCounted move p next
  move_counted p next (Slice who steps) e =
      let same : next.preempted ≡ p.preempted = ap (λ (x : Point). x.preempted) (sym (slice_is asked 0 p next who steps e).2) in
      record { count = omega (arith, same); within = λ few. omega (arith, same, few) }
  move_counted p next (Preempted who steps) e =
      let is = preempted_is asked p who steps next e in
      let more : next.preempted ≡ p.preempted + 1 = ap (λ (x : Point). x.preempted) (sym is.1) in
      let left : p.preempted < asked.preemptions = is.0.left in
      record { count = more; within = λ few. omega (arith, more, left) }
  move_counted p next (Once k) e =
      let same : next.preempted ≡ p.preempted = once_keeps p next k e in
      record { count = omega (arith, same); within = λ few. omega (arith, same, few) }

  order_counted : (order : List Move) (p last : Point) → leads_by asked p order ≡ Some last → AreCounted asked order p last
  unfolding leads_by
  order_counted [] p last e =
      let same : last.preempted ≡ p.preempted = ap (λ (x : Point). x.preempted) (sym (same_Some p last e)) in
      record { count = omega (arith, same); within = λ few. omega (arith, same, few) }
  order_counted (move ∷ order) p last e =
      let b = begins asked 0 p last move order e in
      let one = move_counted p b.next move b.first in
      let others = order_counted order b.next last b.then_ in
      let first : b.next.preempted ≡ p.preempted + count_of move = one.count in
      let rest : last.preempted ≡ b.next.preempted + preemptions_in order = others.count in
      let all : preemptions_in (move ∷ order) ≡ count_of move + preemptions_in order = sum_by-cons count_of move order in
      record { count = omega (arith, first, rest, all); within = λ few. others.within (one.within few) }

  -- ---- with another count of preemptions

  module _ (more : ℕ) where
    abbrev asking_more : Asked
    asking_more = record asked { preemptions = more }

    few_move : (p next : Point) (move : Move) → leads asking_more p move ≡ Some next → p.preempted + count_of move ≤ asked.preemptions
        → leads asked p move ≡ Some next
    unfolding leads
    few_move p next (Slice who steps) e few = e
    few_move p next (Once k) e few = e
    few_move p next (Preempted who steps) e few =
        let is = preempted_is asking_more p who steps next e in
        let left : p.preempted < asked.preemptions = omega (arith, few) in
        preempted_leads asked p who steps (record { ready = is.0.ready; left = left; some = is.0.some; fewer = is.0.fewer }) ∙ ap Some is.1

few_order : (asked : Asked) (more : ℕ) (order : List Move) (p last : Point)
    → leads_by (record asked { preemptions = more }) p order ≡ Some last
    → p.preempted + preemptions_in order ≤ asked.preemptions → leads_by asked p order ≡ Some last
unfolding leads_by
few_order asked more [] p last e few = e
few_order asked more (move ∷ order) p last e few =
    let b = begins (record asked { preemptions = more }) 0 p last move order e in
    let first : b.next.preempted ≡ p.preempted + count_of move =
    (move_counted (record asked { preemptions = more }) p b.next move b.first).count in
    let all : preemptions_in (move ∷ order) ≡ count_of move + preemptions_in order = sum_by-cons count_of move order in
    let fewer : p.preempted + preemptions_in (move ∷ order) ≤ asked.preemptions = few in
    ap (option_and_then (λ next. leads_by asked next order))
    (few_move asked more p b.next move b.first (omega (arith, fewer, all)))
    ∙ few_order asked more order b.next last b.then_ (omega (arith, first, fewer, all))

pub preemptions_are_counted : PreemptionsAreCounted
preemptions_are_counted asked order p last e = order_counted asked order p last e

pub few_preemptions_are_allowed : FewPreemptionsAreAllowed
few_preemptions_are_allowed asked more order p last e few = few_order asked more order p last e few

-- The choices to preempt slices at a point are those of the moves that may be made there, and whole slices tell them.
use Rattle.std.proofs.Common.{◌≡◌, ◌<◌, ◌≤◌, ◌-◌, ◌⊎◌, inl, inr, ℕ, zero, suc, Bool, true, false, List, [], ◌∷◌, ◌++◌, All, Contains, is_some, refl, sym, ap, subst, ◌∙◌, arith, append-nil}
use Rattle.std.specs.Prelude.{get_or, length, map, min, nat_lt, not, if◌then◌else◌}
use Rattle.std.specs.List.{flat_map}
use Rattle.std.proofs.Math.Nat.{min-le_right}
use Rattle.std.proofs.lemmas.Bool.{lt-ltb, ltb-false, ltb-true}
use Rattle.std.proofs.lemmas.Grind.{flat_map-append}
use Rattle.std.proofs.lemmas.List.{get_or-map, length-map}
use Rattle.std.proofs.lemmas.List.Elements.{All-contains, All-head, All-tail, Contains-append_cases, Contains-append_left, Contains-append_right, Contains-get_or}
use Rattle.std.proofs.lemmas.List.Folds.{flat_map-map}
use Rattle.machine_model.specs.State.Machine.{Machine}
use Rattle.machine_model.specs.State.Order.{ready_at}
use Rattle.order_model.specs.declared.moves.Move.{Move}
use Rattle.order_model.specs.declared.moves.Move.TheVariants.{Once, Preempted, Slice}
use Rattle.order_model.specs.declared.choices.Choice.{Choice}
use Rattle.order_model.specs.declared.choices.Choice.TheVariants.{Comes, Goes, Preempts}
use Rattle.order_model.specs.Endings.{ready_ids, turns_at}
use Rattle.order_model.specs.Moves.{Asked, Bound, Point, Unbounded, UpTo, is_at_bound, leads, may_preempt, most_steps, most_within}
use Rattle.order_model.specs.Moves.{slice_at}
use Rattle.order_model.specs.Choosing.{all_choices_at, choice_of, choices_at, events_at, preemptions_at, preemptions_by, preemptions_of}
use Rattle.order_model.specs.Edges.{AreEdgesBy, IsEdge}
use Rattle.order_model.proofs.MoveLemmas.{MayPreempt, may_go}
use Rattle.order_model.proofs.SliceLemmas.{slice_at_most}
use Rattle.graph_search.specs.declared.space.Successor.{Successor}
use Rattle.xk_base.specs.declared.ids.ThreadId.{ThreadId}
use Rattle.xk_base.specs.Tables.Circle.{id_at, is_thread_id, listed_ids}
use Rattle.xk_base.specs.Tables.Counting.{listed_below}
use Rattle.xk_base.proofs.CircleLemmas.{listed_ids-passes}
use Rattle.xk_base.proofs.CountingLemmas.{listed_below-contains, listed_below-passes}

-- ---- lists

pub contains_map : {A B : Type 0} (f : A → B) (xs : List A) (x : A) → Contains xs x → Contains (map f xs) (f x)
contains_map f xs x at = (at.0, rw length-map at.1, get_or-map f xs at.0 x (f x) at.1 ∙ ap f at.2)

-- an element of a mapped list comes of one of the list
contained_map : {A B : Type 0} (f : A → B) (xs : List A) (d : A) (y : B) → Contains (map f xs) y → (x : A) × (Contains xs x × (f x ≡ y))
contained_map f xs d y at =
    let within : at.0 < length xs = rw (← length-map xs f) at.1 in
    (get_or xs at.0 d, (Contains-get_or xs at.0 d within, sym (get_or-map f xs at.0 d y within) ∙ at.2))

contains_flat_map : {A B : Type 0} (f : A → List B) (xs : List A) (x : A) (y : B) → Contains xs x → Contains (f x) y
    → Contains (flat_map f xs) y
contains_flat_map {A} {B} f xs x y at inner = go xs at.0 at.1 at.2
  where
    go : (zs : List A) (k : ℕ) → k < length zs → get_or zs k x ≡ x → Contains (flat_map f zs) y
    go [] k low is = absurd (omega (arith, low))
    go (z ∷ zs) zero low is = Contains-append_left (f z) (flat_map f zs) y (subst (λ w. Contains (f w) y) (sym is) inner)
    go (z ∷ zs) (suc k) low is = Contains-append_right (f z) (flat_map f zs) y (go zs k (omega (arith, low)) is)

contained_none : {A : Type 0} (x : A) → Contains [] x → ⊥
contained_none x at = omega (arith, at.1)

-- an element of a list of lists comes of one of them
contained_flat_map : {A B : Type 0} (f : A → List B) (xs : List A) (y : B) → Contains (flat_map f xs) y
    → (x : A) × (Contains xs x × Contains (f x) y)
contained_flat_map f [] y at = absurd (contained_none y at)
contained_flat_map {A} {B} f (z ∷ zs) y at =
    go (λ later. contained_flat_map f zs y later) (Contains-append_cases (f z) (flat_map f zs) y at)
  where
    go : (Contains (flat_map f zs) y → (x : A) × (Contains zs x × Contains (f x) y)) → Contains (f z) y ⊎ Contains (flat_map f zs) y
        → (x : A) × (Contains (z ∷ zs) x × Contains (f x) y)
    go rest (inl here) = (z, ((0, omega arith, refl), here))
    go rest (inr later) =
        let from = rest later in
        (from.0, (Contains-append_right (z ∷ []) zs from.0 from.1.0, from.1.1))

flat_map_none : {A B : Type 0} (f : A → List B) (xs : List A) → ((x : A) → f x ≡ []) → flat_map f xs ≡ []
flat_map_none f [] none = refl
flat_map_none f (x ∷ xs) none = ap (λ ys. ys ++ flat_map f xs) (none x) ∙ flat_map_none f xs none

-- ---- of one slice

preemption_listed : (who : ThreadId) (done k : ℕ) → 0 < k → k < done → Contains (preemptions_of who done) (Preempts who k)
preemption_listed who done k some fewer =
    contains_map (Preempts who) (listed_below done (nat_lt 0)) k (listed_below-contains done k (nat_lt 0) fewer (lt-ltb 0 k some))

-- it is of this thread, after one of its steps but the last
record IsWithin (who : ThreadId) (k : ℕ) (of : ThreadId) (done : ℕ) : Type 0 where
  same : of ≡ who
  some : 0 < k
  fewer : k < done

preemption_within : (of : ThreadId) (done : ℕ) (who : ThreadId) (k : ℕ) → Contains (preemptions_of of done) (Preempts who k)
    → IsWithin who k of done
preemption_within of done who k at =
    let from = contained_map (Preempts of) (listed_below done (nat_lt 0)) 0 (Preempts who k) at in
    let same : Preempts of from.0 ≡ Preempts who k = from.1.1 in
    let steps : from.0 ≡ k = (let e : Preempts of from.0 ≡ Preempts who k = same in cc) in
    let passes = All-contains (λ i. (i < done) × (nat_lt 0 i ≡ true)) (listed_below done (nat_lt 0)) from.0
    (listed_below-passes done (nat_lt 0)) from.1.0 in
    let some : 0 < from.0 = ltb-true 0 from.0 passes.1 in
    record {
      same = (let e : Preempts of from.0 ≡ Preempts who k = same in cc);
      some = subst (λ i. 0 < i) steps some;
      fewer = subst (λ i. i < done) steps passes.0;
    }

-- ---- of all slices at a point

-- a slice with steps has them within the bound
left_within : (bound : Bound) (quantum : ℕ) (m : Machine) → 0 < most_within bound quantum m.steps → is_at_bound bound m ≡ false
left_within Unbounded quantum m some = refl
left_within (UpTo bound) quantum m some = go (nat_lt m.steps bound) refl
  where
    go : (b : Bool) → nat_lt m.steps bound ≡ b → not b ≡ false
    go true e = refl
    go false e =
        let over : bound ≤ m.steps = ltb-false m.steps bound e in
        let none : min quantum (bound - m.steps) ≤ bound - m.steps = min-le_right quantum (bound - m.steps) in
        absurd (omega (arith, over, none, some))

module _ (asked : Asked) (p : Point) where
  abbrev whole_of : ThreadId → ℕ
  whole_of who = (slice_at asked who p.state).done

  -- a slice that may be preempted is one that the thread may have
  pub may_turn : (who : ThreadId) (k : ℕ) → MayPreempt asked p who k → is_at_bound asked.bound p.state ≡ false
  may_turn who k may =
      let most : whole_of who ≤ most_steps asked p.state = slice_at_most (most_steps asked p.state) who p.state in
      let fewer : k < whole_of who = may.fewer in
      left_within asked.bound asked.quantum p.state (omega (arith, most, fewer))

  -- .. and to preempt it is among the choices
  pub preemption_there : (who : ThreadId) (k : ℕ) → MayPreempt asked p who k → Contains (turns_at asked p.state) who
      → Contains (preemptions_at asked p) (Preempts who k)
  preemption_there who k may turn =
      let listed : Contains (flat_map (λ w. preemptions_of w (whole_of w)) (turns_at asked p.state)) (Preempts who k) =
      contains_flat_map (λ w. preemptions_of w (whole_of w)) (turns_at asked p.state) who (Preempts who k) turn
      (preemption_listed who (whole_of who) k may.some may.fewer) in
      subst (λ (b : Bool). Contains (if b then flat_map (λ w. preemptions_of w (whole_of w)) (turns_at asked p.state) else []) (Preempts who k))
      (sym (lt-ltb p.preempted asked.preemptions may.left)) listed

  turn_ready : (who : ThreadId) → Contains (turns_at asked p.state) who → ready_at p.state who ≡ true
  unfolding ready_ids
  turn_ready who = go (is_at_bound asked.bound p.state)
    where
      go : (b : Bool) → Contains (if b then [] else ready_ids p.state) who → ready_at p.state who ≡ true
      go true at = absurd (contained_none who at)
      go false at =
          (All-contains (λ d. (is_thread_id p.state.processes d ≡ true) × (ready_at p.state d ≡ true))
          (listed_ids p.state.processes (ready_at p.state)) who (listed_ids-passes p.state.processes (ready_at p.state)) at).1

  -- what is among them may be done
  preemption_may : (who : ThreadId) (k : ℕ) → Contains (preemptions_at asked p) (Preempts who k) → MayPreempt asked p who k
  preemption_may who k = go (may_preempt asked p) refl
    where
      go : (b : Bool) → may_preempt asked p ≡ b
          → Contains (if b then flat_map (λ w. preemptions_of w (whole_of w)) (turns_at asked p.state) else []) (Preempts who k)
          → MayPreempt asked p who k
      go false e at = absurd (contained_none (Preempts who k) at)
      go true e at =
          let from = contained_flat_map (λ w. preemptions_of w (whole_of w)) (turns_at asked p.state) (Preempts who k) at in
          let within = preemption_within from.0 (whole_of from.0) who k from.1.1 in
          record {
            ready = turn_ready who (subst (Contains (turns_at asked p.state)) within.same from.1.0);
            left = ltb-true p.preempted asked.preemptions e;
            some = within.some;
            fewer = subst (λ w. k < whole_of w) within.same within.fewer;
          }

  pub preempts_there : (who : ThreadId) (k : ℕ) → Contains (all_choices_at asked p) (Preempts who k) → MayPreempt asked p who k
  preempts_there who k at = go (Contains-append_cases (choices_at asked p) (preemptions_at asked p) (Preempts who k) at)
    where
      other : Contains (map Goes (turns_at asked p.state)) (Preempts who k) ⊎ Contains (map Comes (events_at asked p)) (Preempts who k) → ⊥
      other (inl turn) =
          let from = contained_map Goes (turns_at asked p.state) (id_at 0) (Preempts who k) turn in
          let e : Goes from.0 ≡ Preempts who k = from.1.1 in cc
      other (inr event) =
          let from = contained_map Comes (events_at asked p) 0 (Preempts who k) event in
          let e : Comes from.0 ≡ Preempts who k = from.1.1 in cc

      go : Contains (choices_at asked p) (Preempts who k) ⊎ Contains (preemptions_at asked p) (Preempts who k) → MayPreempt asked p who k
      go (inl choice) =
          absurd (other (Contains-append_cases (map Goes (turns_at asked p.state)) (map Comes (events_at asked p)) (Preempts who k) choice))
      go (inr preemption) = preemption_may who k preemption

  -- ---- found by whole slices

  -- by the choice of a whole slice
  abbrev by_choice : Choice → List Choice
  by_choice (Goes who) = preemptions_of who (whole_of who)
  by_choice (Preempts who k) = []
  by_choice (Comes number) = []

  by_all : flat_map by_choice (choices_at asked p) ≡ flat_map (λ who. preemptions_of who (whole_of who)) (turns_at asked p.state)
  by_all =
      flat_map-append by_choice (map Goes (turns_at asked p.state)) (map Comes (events_at asked p))
      ∙ (ap (λ rest. flat_map by_choice (map Goes (turns_at asked p.state)) ++ rest) events
      ∙ (append-nil (flat_map by_choice (map Goes (turns_at asked p.state))) ∙ flat_map-map by_choice Goes (turns_at asked p.state)))
    where
      events : flat_map by_choice (map Comes (events_at asked p)) ≡ []
      events =
          flat_map-map by_choice Comes (events_at asked p)
          ∙ flat_map_none (λ number. by_choice (Comes number)) (events_at asked p) (λ number. refl)

  module _ {Key : Type 0} (IsKey : Point → Key → Type 0) where
    by_label : (label : Move) (edge : Successor Move Key) → edge.label ≡ label → IsEdge IsKey asked p edge
        → preemptions_by label ≡ by_choice (choice_of label)
    by_label (Slice who steps) edge same is =
        let may = may_go asked p who steps (ap (λ label. is_some (leads asked p label)) (sym same) ∙ ap is_some is.leads_is) in
        ap (preemptions_of who) (sym may.done)
    by_label (Preempted who steps) edge same is = refl
    by_label (Once number) edge same is = refl

    by_labels : (edges : List (Successor Move Key)) → All (IsEdge IsKey asked p) edges
        → flat_map preemptions_by (map (λ edge. edge.label) edges) ≡ flat_map by_choice (map (λ edge. choice_of edge.label) edges)
    by_labels [] each = refl
    by_labels (edge ∷ edges) each =
        let first : preemptions_by edge.label ≡ by_choice (choice_of edge.label) =
        by_label edge.label edge refl (All-head (IsEdge IsKey asked p) edge edges each) in
        let rest = by_labels edges (All-tail (IsEdge IsKey asked p) edge edges each) in
        λ i. first i ++ rest i

    pub preemptions_found : (edges : List (Successor Move Key)) → AreEdgesBy IsKey asked p (choices_at asked p) edges
        → flat_map preemptions_by (map (λ edge. edge.label) edges)
        ≡ flat_map (λ who. preemptions_of who (slice_at asked who p.state).done) (turns_at asked p.state)
    preemptions_found edges by = by_labels edges by.each ∙ (ap (flat_map by_choice) by.choices_are ∙ by_all)

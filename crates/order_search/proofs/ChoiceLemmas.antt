-- What is among the choices at a point may be made there.
use Rattle.std.proofs.Common.{◌≡◌, ◌<◌, ◌⊎◌, inl, inr, ℕ, Bool, true, false, List, [], ◌∷◌, ◌++◌, length, Option, Some, None, is_some, IsSome, refl, sym, ap, subst, ◌∙◌, append-nil, arith}
use Rattle.std.specs.Prelude.{All, get_or, map, nat_lt, if◌then◌else◌}
use Rattle.std.specs.List.{Contains, flat_map}
use Rattle.std.specs.Option.{option_and_then, option_map}
use Rattle.std.proofs.lemmas.List.{get_or-map, length-map}
use Rattle.std.proofs.lemmas.Bool.{false≢true}
use Rattle.std.proofs.lemmas.List.Folds.{flat_map-map}
use Rattle.std.proofs.lemmas.List.Elements.{All-append, All-contains, All-contains_itself, All-from_get_or, All-get_or, All-map, All-nil, All-weaker}
use Rattle.std.proofs.lemmas.List.Elements.{Contains-append_cases, Contains-append_left, Contains-append_right}
use Rattle.std.proofs.lemmas.Option.{get_or_from_slice_get, slice_get-get_or}
use Rattle.machine_model.specs.State.Order.{ready_at}
use Rattle.machine_model.specs.Stepping.Step.{Recorded}
use Rattle.order_model.specs.declared.moves.Move.{Move}
use Rattle.order_model.specs.declared.moves.Move.TheVariants.{Once, Preempted}
use Rattle.order_model.specs.Endings.{ready_ids, turns_at}
use Rattle.order_model.specs.Moves.{Asked, Point, behind, is_at_bound, leads, may_come, may_preempt, slice_at, what_comes, with_come}
use Rattle.order_model.specs.declared.choices.Choice.{Choice}
use Rattle.order_model.specs.declared.choices.Choice.TheVariants.{Comes, Goes, Preempts}
use Rattle.order_model.specs.Choosing.{all_choices_at, choices_at, comes_at, events_at, preemptions_at, preemptions_by, preemptions_of}
use Rattle.order_model.specs.Edges.{AreEdgesBy}
use Rattle.order_model.proofs.MoveLemmas.{preempted_leads}
use Rattle.order_model.proofs.PreemptionLemmas.{preemptions_found, preempts_there}
use Rattle.graph_search.specs.declared.space.Successor.{Successor}
use Rattle.order_search.specs.Quests.{IsChoice}
use Rattle.xk_base.specs.declared.ids.ThreadId.{ThreadId}
use Rattle.xk_base.specs.Tables.Circle.{id_at, is_thread_id, listed_ids}
use Rattle.xk_base.specs.Tables.Counting.{listed_below}
use Rattle.xk_base.proofs.CircleLemmas.{listed_ids-passes}
use Rattle.xk_base.proofs.CountingLemmas.{listed_below-passes}

-- ---- lists

same_read : {A : Type 0} (xs : List A) (i : ℕ) (d : A) → i < length xs → get_or xs i (get_or xs i d) ≡ get_or xs i d
same_read xs i d low = get_or_from_slice_get xs i (get_or xs i d) (get_or xs i d) (slice_get-get_or xs i d low)

-- an element of a mapped list comes of one of the list
contained_map : {A B : Type 0} (f : A → B) (xs : List A) (d : A) (y : B) → Contains (map f xs) y → (x : A) × (Contains xs x × (f x ≡ y))
contained_map f xs d y at =
    let within : at.0 < length xs = rw (← length-map xs f) at.1 in
    (get_or xs at.0 d, ((at.0, within, same_read xs at.0 d within), sym (get_or-map f xs at.0 d y within) ∙ at.2))

contained_passes : {A : Type 0} (P : A → Type 0) (xs : List A) (x : A) → All P xs → Contains xs x → P x
contained_passes P xs x all at = subst P at.2 (All-get_or P xs at.0 x at.1 all)

contained_none : {A : Type 0} (x : A) → Contains [] x → ⊥
contained_none x at = omega (arith, at.1)

module _ (asked : Asked) (p : Point) where
  -- ---- a thread

  pub record MayGo (who : ThreadId) : Type 0 where
    pub ready : ready_at p.state who ≡ true
    pub left : is_at_bound asked.bound p.state ≡ false

  listed_ready : (who : ThreadId) → Contains (ready_ids p.state) who → ready_at p.state who ≡ true
  unfolding ready_ids
  listed_ready who at =
      (contained_passes (λ d. (is_thread_id p.state.processes d ≡ true) × (ready_at p.state d ≡ true))
      (listed_ids p.state.processes (ready_at p.state)) who (listed_ids-passes p.state.processes (ready_at p.state)) at).1

  turn_goes : (who : ThreadId) → Contains (turns_at asked p.state) who → MayGo who
  turn_goes who = go (is_at_bound asked.bound p.state) refl
    where
      go : (b : Bool) → is_at_bound asked.bound p.state ≡ b → Contains (if b then [] else ready_ids p.state) who → MayGo who
      go true e at = absurd (contained_none who at)
      go false e at = record { ready = listed_ready who at; left = e }

  pub goes_there : (who : ThreadId) → Contains (choices_at asked p) (Goes who) → MayGo who
  goes_there who at = go (Contains-append_cases (map Goes (turns_at asked p.state)) (map Comes (events_at asked p)) (Goes who) at)
    where
      go : Contains (map Goes (turns_at asked p.state)) (Goes who) ⊎ Contains (map Comes (events_at asked p)) (Goes who) → MayGo who
      go (inl turn) =
          let from = contained_map Goes (turns_at asked p.state) (id_at 0) (Goes who) turn in
          let same : from.0 ≡ who = (let e : Goes from.0 ≡ Goes who = from.1.1 in cc) in
          subst MayGo same (turn_goes from.0 from.1.0)
      go (inr event) =
          let from = contained_map Comes (events_at asked p) 0 (Goes who) event in
          absurd (let e : Comes from.0 ≡ Goes who = from.1.1 in cc)

  -- ---- an event

  led : (k : ℕ) (o : Option Recorded) → is_some o ≡ true → is_some (option_map (λ done. with_come k (behind asked p done)) o) ≡ true
  led k None e = e
  led k (Some done) e = refl

  event_comes : (k : ℕ) → Contains (events_at asked p) k → IsSome (leads asked p (Once k))
  unfolding leads
  event_comes k at =
      let comes = contained_passes (λ i. (i < length asked.once) × (comes_at asked p i ≡ true)) (events_at asked p) k
      (listed_below-passes (length asked.once) (comes_at asked p)) at in
      led k (option_and_then (λ event. what_comes event p.state) (may_come asked k p)) comes.1

  pub comes_there : (k : ℕ) → Contains (choices_at asked p) (Comes k) → IsSome (leads asked p (Once k))
  comes_there k at = go (Contains-append_cases (map Goes (turns_at asked p.state)) (map Comes (events_at asked p)) (Comes k) at)
    where
      go : Contains (map Goes (turns_at asked p.state)) (Comes k) ⊎ Contains (map Comes (events_at asked p)) (Comes k)
          → IsSome (leads asked p (Once k))
      go (inl turn) =
          let from = contained_map Goes (turns_at asked p.state) (id_at 0) (Comes k) turn in
          absurd (let e : Goes from.0 ≡ Comes k = from.1.1 in cc)
      go (inr event) =
          let from = contained_map Comes (events_at asked p) 0 (Comes k) event in
          let same : from.0 ≡ k = (let e : Comes from.0 ≡ Comes k = from.1.1 in cc) in
          subst (λ (i : ℕ). IsSome (leads asked p (Once i))) same (event_comes from.0 from.1.0)

  -- ---- a preempted slice

  abbrev preempts : Choice → Bool
  preempts (Goes who) = false
  preempts (Preempts who steps) = true
  preempts (Comes k) = false

  preempts_of : (who : ThreadId) (done : ℕ) → All (λ (c : Choice). preempts c ≡ true) (preemptions_of who done)
  preempts_of who done =
      All-map (λ (c : Choice). preempts c ≡ true) (Preempts who) (listed_below done (nat_lt 0))
      (All-from_get_or (λ (k : ℕ). preempts (Preempts who k) ≡ true) (listed_below done (nat_lt 0)) 0 (λ i low. refl))

  preempt_all : (ids : List ThreadId)
      → All (λ (c : Choice). preempts c ≡ true) (flat_map (λ who. preemptions_of who (slice_at asked who p.state).done) ids)
  preempt_all [] = All-nil (λ (c : Choice). preempts c ≡ true)
  preempt_all (who ∷ ids) =
      All-append (λ (c : Choice). preempts c ≡ true) (preemptions_of who (slice_at asked who p.state).done)
      (flat_map (λ who. preemptions_of who (slice_at asked who p.state).done) ids) (preempts_of who (slice_at asked who p.state).done)
      (preempt_all ids)

  others_preempt : All (λ (c : Choice). preempts c ≡ true) (preemptions_at asked p)
  others_preempt = go (may_preempt asked p)
    where
      go : (b : Bool) → All (λ (c : Choice). preempts c ≡ true)
          (if b then flat_map (λ who. preemptions_of who (slice_at asked who p.state).done) (turns_at asked p.state) else [])
      go true = preempt_all (turns_at asked p.state)
      go false = All-nil (λ (c : Choice). preempts c ≡ true)

  -- any other choice is told by rows
  pub told_by_rows : (choice : Choice) → Contains (all_choices_at asked p) choice → preempts choice ≡ false → Contains (choices_at asked p) choice
  told_by_rows choice at is = go (Contains-append_cases (choices_at asked p) (preemptions_at asked p) choice at)
    where
      go : Contains (choices_at asked p) choice ⊎ Contains (preemptions_at asked p) choice → Contains (choices_at asked p) choice
      go (inl there) = there
      go (inr other) =
          absurd (false≢true (sym is ∙ All-contains (λ (c : Choice). preempts c ≡ true) (preemptions_at asked p) choice others_preempt other))

-- ---- as it stands at calls

pub goes_at : (asked : Asked) (p : Point) (choice : Choice) (who : ThreadId) → IsChoice asked p choice → choice ≡ Goes who → MayGo asked p who
goes_at asked p choice who is same =
    goes_there asked p who (told_by_rows asked p (Goes who) (subst (Contains (all_choices_at asked p)) same is.among) refl)

pub preempts_at : (asked : Asked) (p : Point) (choice : Choice) (who : ThreadId) (steps : ℕ) → IsChoice asked p choice
    → choice ≡ Preempts who steps → IsSome (leads asked p (Preempted who steps))
preempts_at asked p choice who steps is same =
    ap is_some (preempted_leads asked p who steps (preempts_there asked p who steps (subst (Contains (all_choices_at asked p)) same is.among)))

pub comes_at_once : (asked : Asked) (p : Point) (choice : Choice) (k : ℕ) → IsChoice asked p choice → choice ≡ Comes k
    → IsSome (leads asked p (Once k))
comes_at_once asked p choice k is same =
    comes_there asked p k (told_by_rows asked p (Comes k) (subst (Contains (all_choices_at asked p)) same is.among) refl)

-- each of those that rows tell
pub all_chosen : (asked : Asked) (p : Point) (choices : List Choice) → choices ≡ choices_at asked p → All (IsChoice asked p) choices
all_chosen asked p choices all =
    subst (All (IsChoice asked p)) (sym all)
    (All-weaker (Contains (choices_at asked p)) (IsChoice asked p)
    (λ choice at. record { among = Contains-append_left (choices_at asked p) (preemptions_at asked p) choice at }) (choices_at asked p)
    (All-contains_itself (choices_at asked p)))

-- .. and of the others
pub all_preempted : (asked : Asked) (p : Point) (choices : List Choice) → choices ≡ preemptions_at asked p → All (IsChoice asked p) choices
all_preempted asked p choices all =
    subst (All (IsChoice asked p)) (sym all)
    (All-weaker (Contains (preemptions_at asked p)) (IsChoice asked p)
    (λ choice at. record { among = Contains-append_right (choices_at asked p) (preemptions_at asked p) choice at }) (preemptions_at asked p)
    (All-contains_itself (preemptions_at asked p)))

-- ---- preempted slices

module _ {Key : Type 0} (IsKey : Point → Key → Type 0) (asked : Asked) (p : Point) where
  -- there are none, if no more may be preempted
  pub no_preemptions : (edges : List (Successor Move Key)) → may_preempt asked p ≡ false → AreEdgesBy IsKey asked p (choices_at asked p) edges
      → AreEdgesBy IsKey asked p (all_choices_at asked p) edges
  no_preemptions edges none by =
      let none_at : preemptions_at asked p ≡ [] =
      ap (λ (b : Bool). if b then flat_map (λ who. preemptions_of who (slice_at asked who p.state).done) (turns_at asked p.state) else []) none in
      subst (λ (cs : List Choice). AreEdgesBy IsKey asked p cs edges)
      (sym (ap (λ (cs : List Choice). choices_at asked p ++ cs) none_at ∙ append-nil (choices_at asked p))) by

  -- the slices that the edges are tell all
  pub preemptions_are : (edges : List (Successor Move Key)) (choices : List Choice) → may_preempt asked p ≡ true
      → AreEdgesBy IsKey asked p (choices_at asked p) edges → choices ≡ flat_map (λ edge. preemptions_by edge.label) edges
      → choices ≡ preemptions_at asked p
  preemptions_are edges choices some by are =
      are ∙ (sym (flat_map-map preemptions_by (λ (edge : Successor Move Key). edge.label) edges) ∙ (preemptions_found asked p IsKey edges by
      ∙ sym (ap (λ (b : Bool). if b then flat_map (λ who. preemptions_of who (slice_at asked who p.state).done) (turns_at asked p.state) else []) some)))

-- Free orders are orders. An order follows a free one move by move: it has the same slices. Where an event comes freely, it passes over
-- that if the event is idle, or else has the equal event of the lowest number that waits. Of no event fewer wait in the order than in the
-- free one, so there always is such a number.
use Rattle.std.proofs.Common.{◌≡◌, ◌≤◌, ◌<◌, ◌+◌, ◌⊎◌, inl, inr, ℕ, Bool, true, false, List, [], ◌∷◌, length, Option, Some, None, is_some, refl, sym, ap, ◌∙◌, arith, append-nil, subst}
use Rattle.std.specs.Prelude.{slice_get, if◌then◌else◌}
use Rattle.std.specs.Option.{option_and_then, option_map, option_map_or}
use Rattle.std.proofs.lemmas.Bool.{cases_Bool, cases_eq, eq-eqb, false≢true, ne_eqb}
use Rattle.std.proofs.lemmas.Option.{none-some, same_Some, slice_get_within}
use Rattle.xk_base.specs.declared.events.Event.{Event}
use Rattle.xk_base.specs.Tables.Counting.{count_below, least_below}
use Rattle.xk_base.proofs.CountingLemmas.{count_below-none, count_below-one, count_below-positive, count_below-same}
use Rattle.xk_base.proofs.CountingLemmas.{least_below-bound, least_below-first, least_below-None, least_below-none, least_below-passes}
use Rattle.graph_search.specs.Paths.{labels_to}
use Rattle.machine_model.specs.Stepping.Events.{nothing}
use Rattle.machine_model.specs.Stepping.Step.{Recorded}
use Rattle.order_model.specs.declared.moves.Move.{Move}
use Rattle.order_model.specs.declared.moves.Move.TheVariants.{Once, Preempted, Slice}
use Rattle.order_model.proofs.ExitLemmas.{exits_on-none, kept_ends-none}
use Rattle.order_model.proofs.Moving.IdleLemmas.{comes_now, equal_are_same, equal_to_itself, idle_events_do_nothing, waits_there}
use Rattle.order_model.proofs.Moving.SearchLemmas.{orders_are_told}
use Rattle.order_model.specs.Exits.{exits_on}
use Rattle.order_model.specs.Freely.{AreAlike, FreeOrdersAreOrders, FreeOrdersAreTold, leads_freely, leads_freely_by}
use Rattle.order_model.specs.Moves.{Asked, Point, behind, is_idle, is_preempted, is_slice, leads, leads_by, same_event, slice_at}
use Rattle.order_model.specs.Moves.{waiting, waits_at, waits_before, what_comes, with_come, with_preemption}
use Rattle.order_model.specs.Slices.{slice, turned}

-- the point, with these events come
abbrev with_events : (ℕ → Bool) → Point → Point
with_events came p = record p { came = came }

module _ (asked : Asked) where
  -- how many events that are equal to it wait
  abbrev count_waiting : Event → Point → ℕ
  count_waiting event p = count_below (length asked.once) (waits_at asked event p)

  -- the point is that one but for which events came, and of no event fewer wait
  record IsFollowed (free p : Point) : Type 0 where
    alike : AreAlike p free
    more : (event : Event) → count_waiting event free ≤ count_waiting event p

  -- ---- slices don't look at which events came

  slice_alike : (came : ℕ → Bool) (p : Point) (move : Move) → ((k : ℕ) → move ≡ Once k → ⊥)
      → leads asked (with_events came p) move ≡ option_map (with_events came) (leads asked p move)
  unfolding leads
  slice_alike came p (Slice who steps) other = go (is_slice asked who steps p.state)
    where
      go : (b : Bool)
          → (if b then Some (behind asked (with_events came p) (turned (slice_at asked who p.state))) else None)
          ≡ option_map (with_events came) (if b then Some (behind asked p (turned (slice_at asked who p.state))) else None)
      go true = refl
      go false = refl
  slice_alike came p (Preempted who steps) other = go (is_preempted asked who steps p)
    where
      go : (b : Bool)
          → (if b then Some (with_preemption (behind asked (with_events came p) (turned (slice steps who p.state)))) else None)
          ≡ option_map (with_events came) (if b then Some (with_preemption (behind asked p (turned (slice steps who p.state)))) else None)
      go true = refl
      go false = refl
  slice_alike came p (Once k) other = absurd (other k refl)

  slice_keeps_events : (p next : Point) (move : Move) → ((k : ℕ) → move ≡ Once k → ⊥) → leads asked p move ≡ Some next → next.came ≡ p.came
  slice_keeps_events p next move other e =
      let same : Some next ≡ Some (with_events p.came next) =
      sym e ∙ (slice_alike p.came p move other ∙ ap (option_map (with_events p.came)) e) in
      ap (λ (x : Point). x.came) (same_Some next (with_events p.came next) same)

  -- ---- an event comes

  -- of which events one still waits once this one came
  came_waits : (event : Event) (p : Point) (k i : ℕ) → (i ≡ k → ⊥) → waits_at asked event (with_come k p) i ≡ waits_at asked event p i
  came_waits event p k i differ =
      ap (λ (b : Bool). option_map_or (same_event event) (if (if b then true else p.came i) then None else slice_get asked.once i) false)
      (ne_eqb i k differ)

  came_is_over : (event : Event) (p : Point) (k : ℕ) → waits_at asked event (with_come k p) k ≡ false
  came_is_over event p k =
      ap (λ (b : Bool). option_map_or (same_event event) (if (if b then true else p.came k) then None else slice_get asked.once k) false)
      (eq-eqb k k refl)

  -- one fewer waits of those that are equal to it
  one_fewer : (event : Event) (p : Point) (k : ℕ) → k < length asked.once → waits_at asked event p k ≡ true
      → count_waiting event p ≡ count_waiting event (with_come k p) + 1
  one_fewer event p k low waits =
      count_below-one (length asked.once) k (waits_at asked event p) (waits_at asked event (with_come k p)) low waits (came_is_over event p k)
      (λ i less differ. sym (came_waits event p k i differ))

  -- as many wait of the others
  as_many : (event : Event) (p : Point) (k : ℕ) → waits_at asked event p k ≡ false → count_waiting event (with_come k p) ≡ count_waiting event p
  as_many event p k other =
      count_below-same (length asked.once) (waits_at asked event (with_come k p)) (waits_at asked event p) (λ i less. each i (cases_eq i k))
    where
      each : (i : ℕ) → (i ≡ k) ⊎ (i ≡ k → ⊥) → waits_at asked event (with_come k p) i ≡ waits_at asked event p i
      each i (inl same) =
          subst (λ j. waits_at asked event (with_come k p) j ≡ waits_at asked event p j) (sym same) (came_is_over event p k ∙ sym other)
      each i (inr differ) = came_waits event p k i differ

  -- no more wait of any
  no_more : (event : Event) (p : Point) (k : ℕ) → k < length asked.once → count_waiting event (with_come k p) ≤ count_waiting event p
  no_more event p k low = go (waits_at asked event p k) refl
    where
      go : (b : Bool) → waits_at asked event p k ≡ b → count_waiting event (with_come k p) ≤ count_waiting event p
      go true e = let fewer : count_waiting event p ≡ count_waiting event (with_come k p) + 1 = one_fewer event p k low e in omega (arith, fewer)
      go false e = let same : count_waiting event (with_come k p) ≡ count_waiting event p = as_many event p k e in omega (arith, same)

  -- the lowest number of those that wait
  record IsLowest (event : Event) (p : Point) (k : ℕ) : Type 0 where
    low : k < length asked.once
    free : p.came k ≡ false
    its : slice_get asked.once k ≡ Some event
    first : waits_before asked event p k ≡ false

  waiting_is : (event : Event) (p : Point) (k : ℕ) → waits_at asked event p k ≡ true → (p.came k ≡ false) × (slice_get asked.once k ≡ Some event)
  waiting_is event p k e = go (p.came k) (slice_get asked.once k) refl refl e
    where
      go : (b : Bool) (o : Option Event) → p.came k ≡ b → slice_get asked.once k ≡ o
          → option_map_or (same_event event) (if b then None else o) false ≡ true → (p.came k ≡ false) × (slice_get asked.once k ≡ Some event)
      go true o c q f = absurd (false≢true f)
      go false None c q f = absurd (false≢true f)
      go false (Some other) c q f = (c, q ∙ ap Some (sym (equal_are_same event other f)))

  lowest : (event : Event) (p : Point) → 0 < count_waiting event p → (k : ℕ) × IsLowest event p k
  lowest event p some = go (least_below (length asked.once) (waits_at asked event p)) refl
    where
      go : (o : Option ℕ) → least_below (length asked.once) (waits_at asked event p) ≡ o → (k : ℕ) × IsLowest event p k
      go None e =
          let none : count_waiting event p ≡ 0 =
          count_below-none (length asked.once) (waits_at asked event p) (least_below-none (length asked.once) (waits_at asked event p) e) in
          absurd (omega (arith, some, none))
      go (Some k) e =
          let is = waiting_is event p k (least_below-passes (length asked.once) (waits_at asked event p) k e) in (
            k,
            record {
              low = least_below-bound (length asked.once) (waits_at asked event p) k e;
              free = is.0;
              its = is.1;
              first =
                  ap is_some
                  (least_below-None k (waits_at asked event p) (least_below-first (length asked.once) (waits_at asked event p) k e));
            },
          )

  -- ---- one move of a free order

  -- what the order does for it: nothing, or a move
  data Follows (next p : Point) : Type 0 where
    Rests : IsFollowed next p → Follows next p
    Moves : (move : Move) (then_ : Point) → leads asked p move ≡ Some then_ → IsFollowed next then_ → Follows next p

  follow_slice : (free p next : Point) (move : Move) → ((k : ℕ) → move ≡ Once k → ⊥) → IsFollowed free p → leads asked free move ≡ Some next
      → Follows next p
  follow_slice free p next move other f e =
      Moves move (with_events p.came next)
      (ap (λ (x : Point). leads asked x move) f.alike ∙ (slice_alike p.came free move other ∙ ap (option_map (with_events p.came)) e))
      (record {
        alike = refl;
        more = λ event.
            subst (λ (came : ℕ → Bool). count_waiting event (with_events came free) ≤ count_waiting event p)
            (sym (slice_keeps_events free next move other e)) (f.more event);
      })

  -- nothing was done
  nothing_behind : (p : Point) → behind asked p (nothing p.state) ≡ p
  nothing_behind p = λ i. record p {
    console = append-nil p.console i;
    exits = (ap (exits_on p.exits) (kept_ends-none asked.exits) ∙ exits_on-none p.exits) i;
  }

  follow_idle : (free p next : Point) (k : ℕ) (event : Event) (done : Recorded) → IsFollowed free p → k < length asked.once
      → what_comes event free.state ≡ Some done → is_idle event free.state ≡ true → with_come k (behind asked free done) ≡ next → Follows next p
  follow_idle free p next k event done f low comes idle is =
      let still : nothing free.state ≡ done = same_Some (nothing free.state) done (sym (idle_events_do_nothing event free.state idle) ∙ comes) in
      let at : with_come k free ≡ next =
      ap (with_come k) (sym (nothing_behind free)) ∙ (ap (λ d. with_come k (behind asked free d)) still ∙ is) in
      Rests (subst (λ (x : Point). IsFollowed x p) at (record {
        alike = f.alike;
        more = λ other.
            let less : count_waiting other (with_come k free) ≤ count_waiting other free = no_more other free k low in
            let more : count_waiting other free ≤ count_waiting other p = f.more other in
            omega (arith, less, more);
      }))

  -- of no event fewer wait, once an equal one came in both
  both_came : (free p : Point) (k j : ℕ) (event : Event) → IsFollowed free p → k < length asked.once → waits_at asked event free k ≡ true
      → j < length asked.once → slice_get asked.once k ≡ Some event → p.came j ≡ false → slice_get asked.once j ≡ Some event
      → (other : Event) → count_waiting other (with_come k free) ≤ count_waiting other (with_come j p)
  both_came free p k j event f low waits low_j is free_j is_j other = go (same_event other event) refl
    where
      more : count_waiting other free ≤ count_waiting other p
      more = f.more other

      at_j : waits_at asked other p j ≡ same_event other event
      at_j = ap (λ (o : Option Event). option_map_or (same_event other) o false) (waits_there asked j p event free_j is_j)

      go : (b : Bool) → same_event other event ≡ b → count_waiting other (with_come k free) ≤ count_waiting other (with_come j p)
      go true e =
          let equal : event ≡ other = sym (equal_are_same other event e) in
          let one : count_waiting other free ≡ count_waiting other (with_come k free) + 1 =
          one_fewer other free k low (subst (λ x. waits_at asked x free k ≡ true) equal waits) in
          let two : count_waiting other p ≡ count_waiting other (with_come j p) + 1 = one_fewer other p j low_j (at_j ∙ e) in
          omega (arith, one, two, more)
      go false e =
          let less : count_waiting other (with_come k free) ≤ count_waiting other free = no_more other free k low in
          let same : count_waiting other (with_come j p) ≡ count_waiting other p = as_many other p j (at_j ∙ e) in
          omega (arith, less, same, more)

  follow_busy : (free p next : Point) (k : ℕ) (event : Event) (done : Recorded) → IsFollowed free p → waiting asked k free ≡ Some event
      → slice_get asked.once k ≡ Some event → what_comes event free.state ≡ Some done → is_idle event free.state ≡ false
      → with_come k (behind asked free done) ≡ next → Follows next p
  unfolding leads
  follow_busy free p next k event done f waits is comes busy at =
      let low : k < length asked.once = slice_get_within asked.once k event is in
      let here : waits_at asked event free k ≡ true =
      ap (λ (o : Option Event). option_map_or (same_event event) o false) waits ∙ equal_to_itself event in
      let some : 0 < count_waiting event free = count_below-positive (length asked.once) k (waits_at asked event free) low here in
      let more : count_waiting event free ≤ count_waiting event p = f.more event in
      let l = lowest event p (omega (arith, some, more)) in
      let may = comes_now asked l.0 p event (record {
        free = l.1.free;
        its = l.1.its;
        first = l.1.first;
        busy = ap (λ (x : Point). is_idle event x.state) f.alike ∙ busy;
      }) in
      Moves (Once l.0) (with_come l.0 (behind asked p done))
      (ap (λ o. option_map (λ done. with_come l.0 (behind asked p done)) (option_and_then (λ event. what_comes event p.state) o)) may
      ∙ ap (option_map (λ done. with_come l.0 (behind asked p done))) (ap (λ (x : Point). what_comes event x.state) f.alike ∙ comes))
      (subst (λ (x : Point). IsFollowed x (with_come l.0 (behind asked p done))) at (record {
        alike = ap (λ (x : Point). with_come l.0 (behind asked x done)) f.alike;
        more = both_came free p k l.0 event f low here l.1.low is l.1.free l.1.its;
      }))

  follow_once : (free p next : Point) (k : ℕ) → IsFollowed free p → leads_freely asked free (Once k) ≡ Some next → Follows next p
  unfolding leads_freely
  follow_once free p next k f e = by_came (free.came k) (slice_get asked.once k) refl refl e
    where
      by_done : (event : Event) (o : Option Recorded) → waiting asked k free ≡ Some event → slice_get asked.once k ≡ Some event
          → what_comes event free.state ≡ o → option_map (λ done. with_come k (behind asked free done)) o ≡ Some next → Follows next p
      by_done event None waits is q g = absurd (none-some next g)
      by_done event (Some done) waits is q g =
          let at = same_Some (with_come k (behind asked free done)) next g in
          elim (cases_Bool (is_idle event free.state)) [
            | inl idle ↦ follow_idle free p next k event done f (slice_get_within asked.once k event is) q idle at
            | inr busy ↦ follow_busy free p next k event done f waits is q busy at
          ]

      by_came : (came : Bool) (o : Option Event) → free.came k ≡ came → slice_get asked.once k ≡ o
          → option_map (λ done. with_come k (behind asked free done))
          (option_and_then (λ event. what_comes event free.state) (if came then None else o)) ≡ Some next
          → Follows next p
      by_came true o c q g = absurd (none-some next g)
      by_came false None c q g = absurd (none-some next g)
      by_came false (Some event) c q g = by_done event (what_comes event free.state) (waits_there asked k free event c q) q refl g

  follow : (free p next : Point) (move : Move) → IsFollowed free p → leads_freely asked free move ≡ Some next → Follows next p
  unfolding leads_freely
  follow free p next (Slice who steps) f e =
      follow_slice free p next (Slice who steps) (λ k same. absurd (let one : Slice who steps ≡ Once k = same in cc)) f e
  follow free p next (Preempted who steps) f e =
      follow_slice free p next (Preempted who steps) (λ k same. absurd (let one : Preempted who steps ≡ Once k = same in cc)) f e
  follow free p next (Once k) f e = follow_once free p next k f e

  -- ---- free orders

  -- an order goes on from the point as the free one does
  record IsFound (free : List Move) (p last : Point) : Type 0 where
    order : List Move
    other : Point
    leads_there : leads_by asked p order ≡ Some other
    alike : AreAlike other last
    no_longer : length order ≤ length free

  -- .. from any point
  abbrev Finds : List Move → Point → Type 0
  Finds moves last = (free p : Point) → IsFollowed free p → leads_freely_by asked free moves ≡ Some last → IsFound moves p last

  found : (moves : List Move) (free p last : Point) → IsFollowed free p → leads_freely_by asked free moves ≡ Some last → IsFound moves p last
  unfolding leads_by leads_freely_by
  found [] free p last f e =
      record { order = []; other = p; leads_there = refl; alike = f.alike ∙ ap (with_events p.came) (same_Some free last e); no_longer = omega arith }
  found (move ∷ moves) free p last f e =
      by_move (λ next then_ g h. found moves next then_ last g h) (leads_freely asked free move) refl e
    where
      by_follow : Finds moves last → (next : Point) → Follows next p → leads_freely_by asked next moves ≡ Some last → IsFound (move ∷ moves) p last
      by_follow later next (Rests f) g =
          let rest = later next p f g in
          let fewer : length rest.order ≤ length moves = rest.no_longer in
          record {
            order = rest.order;
            other = rest.other;
            leads_there = rest.leads_there;
            alike = rest.alike;
            no_longer = omega (arith, fewer);
          }
      by_follow later next (Moves first then_ q f) g =
          let rest = later next then_ f g in
          let fewer : length rest.order ≤ length moves = rest.no_longer in
          record {
            order = first ∷ rest.order;
            other = rest.other;
            leads_there = ap (option_and_then (λ x. leads_by asked x rest.order)) q ∙ rest.leads_there;
            alike = rest.alike;
            no_longer = omega (arith, fewer);
          }

      by_move : Finds moves last → (o : Option Point) → leads_freely asked free move ≡ o
          → option_and_then (λ next. leads_freely_by asked next moves) o ≡ Some last → IsFound (move ∷ moves) p last
      by_move later None q g = absurd (none-some last g)
      by_move later (Some next) q g = by_follow later next (follow free p next move f q) g

pub free_orders_are_orders : FreeOrdersAreOrders
free_orders_are_orders asked free p last e =
    let is = found asked free p p last (record { alike = refl; more = λ event. omega arith }) e in
    record { order = is.order; other = is.other; leads = is.leads_there; alike = is.alike; no_longer = is.no_longer }

pub free_orders_are_told : FreeOrdersAreTold
free_orders_are_told t free last h sound whole e =
    let is = free_orders_are_orders t.asked free t.start last e in
    let told = orders_are_told t is.order is.other h sound whole is.leads in
    let no_longer : length is.order ≤ length free = is.no_longer in
    record {
      other = is.other;
      alike = is.alike;
      told = record {
        number = told.number;
        found = told.found;
        no_longer = λ breadth.
            let short : length (labels_to t.edges told.number) ≤ length is.order = told.no_longer breadth in omega (arith, short, no_longer);
        noted = told.noted;
      };
    }

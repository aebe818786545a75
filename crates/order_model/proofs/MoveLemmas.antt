-- What it says that a move leads somewhere.
use Rattle.std.proofs.Common.{◌≡◌, ◌<◌, inl, inr, ℕ, Bool, true, false, List, length, Option, Some, None, is_some, IsSome, refl, sym, ap, ◌∙◌}
use Rattle.std.specs.Prelude.{◌&&◌, ◌==◌, not, nat_eq, nat_lt, set, slice_get, if◌then◌else◌}
use Rattle.std.specs.Option.{option_and_then, option_map}
use Rattle.std.proofs.lemmas.Bool.{and_parts, cases_eq, eq-eqb, eqb-true, false≢true, lt-ltb, ltb-true, ne_eqb}
use Rattle.std.proofs.lemmas.List.{get_or-set_other}
use Rattle.std.proofs.lemmas.Grind.{get_or-set_at}
use Rattle.std.proofs.lemmas.Option.{same_Some}
use Rattle.xk_base.specs.declared.events.Event.{Event}
use Rattle.xk_base.specs.declared.ids.ThreadId.{ThreadId}
use Rattle.xk_base.specs.Tables.Counting.{put_at}
use Rattle.machine_model.specs.State.Order.{ready_at}
use Rattle.order_model.specs.Slices.{slice, turned}
use Rattle.order_model.specs.declared.moves.Move.TheVariants.{Once, Preempted, Slice}
use Rattle.order_model.specs.Moves.{Asked, Point, behind, is_at_bound, is_preempted, is_slice, leads, may_come, may_preempt, slice_at}
use Rattle.order_model.specs.Moves.{what_comes, with_come, with_preemption}
use Rattle.order_model.specs.Asking.{came_of}
use Rattle.order_model.proofs.Moving.IdleLemmas.{may_come_now}

-- ---- tests

pub not_true : (b : Bool) → not b ≡ true → b ≡ false
not_true true h = absurd (false≢true h)
not_true false h = refl

pub some_if : {A : Type 0} (b : Bool) (x : A) → is_some (if b then Some x else None) ≡ true → b ≡ true
some_if true x h = refl
some_if false x h = absurd (false≢true h)

pub some_mapped : {A B : Type 0} (f : A → B) (o : Option A) → is_some (option_map f o) ≡ true → is_some o ≡ true
some_mapped f None h = absurd (false≢true h)
some_mapped f (Some x) h = refl

all_four : (a b c d : Bool) → a ≡ true → b ≡ true → c ≡ true → d ≡ true → (a && (b && (c && d))) ≡ true
all_four true true true d p q r s = s
all_four true true false d p q r s = absurd (false≢true r)
all_four true false c d p q r s = absurd (false≢true q)
all_four false b c d p q r s = absurd (false≢true p)

-- ---- slices

-- the thread may have a slice, which has so many steps
pub record MayGo (asked : Asked) (p : Point) (who : ThreadId) (steps : ℕ) : Type 0 where
  pub ready : ready_at p.state who ≡ true
  pub left : is_at_bound asked.bound p.state ≡ false
  pub done : (slice_at asked who p.state).done ≡ steps

module _ (asked : Asked) (p : Point) (who : ThreadId) (steps : ℕ) where
  pub may_go : IsSome (leads asked p (Slice who steps)) → MayGo asked p who steps
  unfolding leads
  may_go h =
      let whole = some_if (is_slice asked who steps p.state) (behind asked p (turned (slice_at asked who p.state))) h in
      let front = and_parts (ready_at p.state who) (not (is_at_bound asked.bound p.state) && ((slice_at asked who p.state).done == steps)) whole in
      let back = and_parts (not (is_at_bound asked.bound p.state)) ((slice_at asked who p.state).done == steps) front.1 in
      record {
        ready = front.0;
        left = not_true (is_at_bound asked.bound p.state) back.0;
        done = eqb-true (slice_at asked who p.state).done steps back.1;
      }

-- a slice that was played is that of the move that was to be made
pub same_slice : (asked : Asked) (p new : Point) (who : ThreadId) (steps done : ℕ) → IsSome (leads asked p (Slice who steps))
    → leads asked p (Slice who done) ≡ Some new → leads asked p (Slice who steps) ≡ Some new
same_slice asked p new who steps done may is =
    let one = may_go asked p who steps may in
    let other = may_go asked p who done (ap is_some is) in
    ap (λ n. leads asked p (Slice who n)) (sym one.done ∙ other.done) ∙ is

-- ---- preempted slices

-- the slice of the thread may be preempted after so many steps
pub record MayPreempt (asked : Asked) (p : Point) (who : ThreadId) (steps : ℕ) : Type 0 where
  pub ready : ready_at p.state who ≡ true
  pub left : p.preempted < asked.preemptions
  pub some : 0 < steps
  pub fewer : steps < (slice_at asked who p.state).done

module _ (asked : Asked) (p : Point) (who : ThreadId) (steps : ℕ) where
  abbrev whole_done : ℕ
  whole_done = (slice_at asked who p.state).done

  -- the point to which it leads
  abbrev pub preempted_at : Point
  preempted_at = with_preemption (behind asked p (turned (slice steps who p.state)))

  pub preempted_may : IsSome (leads asked p (Preempted who steps)) → MayPreempt asked p who steps
  unfolding leads
  preempted_may h =
      let all = some_if (is_preempted asked who steps p) preempted_at h in
      let front = and_parts (ready_at p.state who) (may_preempt asked p && (nat_lt 0 steps && nat_lt steps whole_done)) all in
      let back = and_parts (may_preempt asked p) (nat_lt 0 steps && nat_lt steps whole_done) front.1 in
      let counts = and_parts (nat_lt 0 steps) (nat_lt steps whole_done) back.1 in
      record {
        ready = front.0;
        left = ltb-true p.preempted asked.preemptions back.0;
        some = ltb-true 0 steps counts.0;
        fewer = ltb-true steps whole_done counts.1;
      }

  is_so : MayPreempt asked p who steps → is_preempted asked who steps p ≡ true
  is_so may =
      all_four (ready_at p.state who) (may_preempt asked p) (nat_lt 0 steps) (nat_lt steps whole_done) may.ready
      (lt-ltb p.preempted asked.preemptions may.left) (lt-ltb 0 steps may.some) (lt-ltb steps whole_done may.fewer)

  pub preempted_leads : MayPreempt asked p who steps → leads asked p (Preempted who steps) ≡ Some preempted_at
  unfolding leads
  preempted_leads may = ap (λ (b : Bool). if b then Some preempted_at else None) (is_so may)

  pub preempted_is : (next : Point) → leads asked p (Preempted who steps) ≡ Some next
      → MayPreempt asked p who steps × (preempted_at ≡ next)
  preempted_is next e =
      let may = preempted_may (ap is_some e) in
      (may, same_Some preempted_at next (sym (preempted_leads may) ∙ e))

-- ---- events that may come

-- which events came, once this one did
pub came_set : (came : List Bool) (k : ℕ) → k < length came → (q : ℕ) → came_of (set came k true) q ≡ put_at nat_eq (came_of came) k true q
came_set came k low q = elim (cases_eq q k) [
  | inl same ↦
      get_or-set_at came k q true false same low
      ∙ sym (ap (λ (b : Bool). if b then true else came_of came q) (eq-eqb q k same))
  | inr differ ↦
      get_or-set_other came k q true false differ
      ∙ sym (ap (λ (b : Bool). if b then true else came_of came q) (ne_eqb q k differ))
]

module _ (asked : Asked) (p : Point) (k : ℕ) where
  abbrev pub led : Option Event → Option Point
  led o = option_map (λ done. with_come k (behind asked p done)) (option_and_then (λ event. what_comes event p.state) o)

  -- it is one of the events, and may come
  pub record MayCome : Type 0 where
    pub event : Event
    pub at : may_come asked k p ≡ Some event
    pub its : slice_get asked.once k ≡ Some event
    pub comes : is_some (what_comes event p.state) ≡ true

  pub may_come_there : IsSome (leads asked p (Once k)) → MayCome
  unfolding leads
  may_come_there h = go (may_come asked k p) refl
    where
      go : (o : Option Event) → may_come asked k p ≡ o → MayCome
      go None at = absurd (false≢true (sym (ap (λ o. is_some (led o)) at) ∙ h))
      go (Some event) at =
          record {
            event = event;
            at = at;
            its = (may_come_now asked k p event at).its;
            comes = some_mapped (λ done. with_come k (behind asked p done)) (what_comes event p.state) (sym (ap (λ o. is_some (led o)) at) ∙ h);
          }

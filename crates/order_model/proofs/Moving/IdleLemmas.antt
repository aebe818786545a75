-- What an idle event does, and which of equal events waits.
use Rattle.std.proofs.Common.{◌≡◌, ℕ, Bool, true, false, Option, Some, None, is_some, refl, sym, ap, ◌∙◌}
use Rattle.std.specs.Prelude.{◌==◌, ◌&&◌, ◌||◌, not, slice_get, if◌then◌else◌}
use Rattle.std.specs.Option.{option_and_then}
use Rattle.std.proofs.lemmas.Bool.{and_parts, eq-eqb, eqb-true, false≢true, or_parts}
use Rattle.std.proofs.lemmas.Option.{none-some, same_Some}
use Rattle.xk_base.specs.declared.events.Event.{Event}
use Rattle.xk_base.specs.declared.events.Event.TheVariants.{Irq as IrqEvent, Kill, Pick, Tick}
use Rattle.machine_model.specs.State.Machine.{Machine, Reservation}
use Rattle.machine_model.specs.Stepping.Events.{killed, killed_if, nothing, raised, raised_if}
use Rattle.machine_model.specs.Stepping.Reservations.{unreserved}
use Rattle.order_model.specs.Freely.{IdleEventsDoNothing}
use Rattle.order_model.specs.Moves.{Asked, Bound, Point, Unbounded, UpTo, is_idle, may_come, same_event, waiting, waits_before}
use Rattle.order_model.specs.Nodes.{set_aside}

-- ---- an idle event does nothing

none_there : {A : Type 0} (o : Option A) → not (is_some o) ≡ true → o ≡ None
none_there None e = refl
none_there (Some x) e = absurd (false≢true e)

isnt : (b : Bool) → not b ≡ true → b ≡ false
isnt true e = absurd (false≢true e)
isnt false e = refl

-- without a reservation there is none to end
no_reservation : (m : Machine) → not (is_some m.reserved) ≡ true → unreserved m ≡ m
no_reservation m e = ap (λ (r : Option Reservation). record m { reserved = r }) (sym (none_there m.reserved e))

pub idle_events_do_nothing : IdleEventsDoNothing
unfolding raised killed
idle_events_do_nothing (Tick n) m e = absurd (false≢true e)
idle_events_do_nothing (Pick pid tid) m e = absurd (false≢true e)
idle_events_do_nothing (IrqEvent k) m e =
    let both = and_parts (not (is_some (m.claims k))) (not (is_some m.reserved)) e in
    ap (λ o. Some (raised_if k o (unreserved m))) (none_there (m.claims k) both.0)
    ∙ ap (λ (x : Machine). Some (nothing x)) (no_reservation m both.1)
idle_events_do_nothing (Kill pid) m e =
    let both = and_parts (not (m.process pid.0).alive) (not (is_some m.reserved)) e in
    ap (λ alive. Some (killed_if alive pid (unreserved m))) (isnt (m.process pid.0).alive both.0)
    ∙ ap (λ (x : Machine). Some (nothing x)) (no_reservation m both.1)

-- a state without what a node leaves out of it has the same idle events
pub idle_aside : (bound : Bound) (event : Event) (m : Machine) → is_idle event (set_aside bound m) ≡ is_idle event m
idle_aside Unbounded (Tick n) m = refl
idle_aside Unbounded (Pick pid tid) m = refl
idle_aside Unbounded (IrqEvent k) m = refl
idle_aside Unbounded (Kill pid) m = refl
idle_aside (UpTo bound) (Tick n) m = refl
idle_aside (UpTo bound) (Pick pid tid) m = refl
idle_aside (UpTo bound) (IrqEvent k) m = refl
idle_aside (UpTo bound) (Kill pid) m = refl

-- ---- equal events

both_pass : (a b : Bool) → a ≡ true → b ≡ true → (a && b) ≡ true
both_pass a b one other = λ i. one i && other i

pub equal_to_itself : (event : Event) → same_event event event ≡ true
equal_to_itself (Tick n) = eq-eqb n n refl
equal_to_itself (Pick pid tid) = both_pass (pid.0 == pid.0) (tid.0 == tid.0) (eq-eqb pid.0 pid.0 refl) (eq-eqb tid.0 tid.0 refl)
equal_to_itself (IrqEvent n) = eq-eqb n n refl
equal_to_itself (Kill pid) = eq-eqb pid.0 pid.0 refl

pub equal_are_same : (a b : Event) → same_event a b ≡ true → a ≡ b
equal_are_same (Tick n) (Tick k) e = ap Tick (eqb-true n k e)
equal_are_same (Pick pid tid) (Pick other of_other) e =
    let both = and_parts (pid.0 == other.0) (tid.0 == of_other.0) e in
    let one : pid ≡ other = ap (λ n. record { 0 = n }) (eqb-true pid.0 other.0 both.0) in
    let two : tid ≡ of_other = ap (λ n. record { 0 = n }) (eqb-true tid.0 of_other.0 both.1) in
    λ i. Pick (one i) (two i)
equal_are_same (IrqEvent n) (IrqEvent k) e = ap IrqEvent (eqb-true n k e)
equal_are_same (Kill pid) (Kill other) e =
    let same : pid ≡ other = ap (λ n. record { 0 = n }) (eqb-true pid.0 other.0 e) in
    ap Kill same
equal_are_same (Tick n) (Pick pid tid) e = absurd (false≢true e)
equal_are_same (Tick n) (IrqEvent k) e = absurd (false≢true e)
equal_are_same (Tick n) (Kill pid) e = absurd (false≢true e)
equal_are_same (Pick pid tid) (Tick n) e = absurd (false≢true e)
equal_are_same (Pick pid tid) (IrqEvent k) e = absurd (false≢true e)
equal_are_same (Pick pid tid) (Kill other) e = absurd (false≢true e)
equal_are_same (IrqEvent n) (Tick k) e = absurd (false≢true e)
equal_are_same (IrqEvent n) (Pick pid tid) e = absurd (false≢true e)
equal_are_same (IrqEvent n) (Kill pid) e = absurd (false≢true e)
equal_are_same (Kill pid) (Tick n) e = absurd (false≢true e)
equal_are_same (Kill pid) (Pick other tid) e = absurd (false≢true e)
equal_are_same (Kill pid) (IrqEvent n) e = absurd (false≢true e)

-- ---- the event that may come

module _ (asked : Asked) (k : ℕ) (p : Point) where
  -- of an event that hasn't come, what is left of it
  abbrev pub left_of : Option Event → Option Event
  left_of o = option_and_then (λ event. if waits_before asked event p k || is_idle event p.state then None else Some event) o

  -- what it says that an event may come
  pub record MayComeNow (event : Event) : Type 0 where
    pub free : p.came k ≡ false
    pub its : slice_get asked.once k ≡ Some event
    pub first : waits_before asked event p k ≡ false
    pub busy : is_idle event p.state ≡ false

  pub may_come_now : (event : Event) → may_come asked k p ≡ Some event → MayComeNow event
  may_come_now event e = by_came (p.came k) (slice_get asked.once k) refl refl e
    where
      by_test : (other : Event) (b : Bool) → (waits_before asked other p k || is_idle other p.state) ≡ b → (if b then None else Some other) ≡ Some event
          → ((waits_before asked event p k || is_idle event p.state) ≡ false) × (other ≡ event)
      by_test other true q f = absurd (none-some event f)
      by_test other false q f =
          let same : other ≡ event = same_Some other event f in
          (ap (λ x. waits_before asked x p k || is_idle x p.state) (sym same) ∙ q, same)

      by_came : (came : Bool) (o : Option Event) → p.came k ≡ came → slice_get asked.once k ≡ o
          → left_of (if came then None else o) ≡ Some event → MayComeNow event
      by_came true o c q f = absurd (none-some event f)
      by_came false None c q f = absurd (none-some event f)
      by_came false (Some other) c q f =
          let tests = by_test other (waits_before asked other p k || is_idle other p.state) refl f in
          let parts = or_parts (waits_before asked event p k) (is_idle event p.state) tests.0 in
          record { free = c; its = q ∙ ap Some tests.1; first = parts.0; busy = parts.1 }

  -- the event of that number, which hasn't come
  pub waits_there : (event : Event) → p.came k ≡ false → slice_get asked.once k ≡ Some event → waiting asked k p ≡ Some event
  waits_there event free its = ap (λ (b : Bool). if b then None else slice_get asked.once k) free ∙ its

  -- .. may come, where this is so
  pub comes_now : (event : Event) → MayComeNow event → may_come asked k p ≡ Some event
  comes_now event may =
      ap left_of (waits_there event may.free may.its)
      ∙ (λ i. if may.first i || may.busy i then None else Some event)

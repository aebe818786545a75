-- What may come next, as it is told.
use Rattle.std.proofs.Common.{◌≡◌, ◌≤◌, ◌+◌, ℕ, zero, suc, Bool, true, false, List, [], ◌∷◌, ◌++◌, Option, Some, None, is_some, refl, sym, ap, subst, ◌∙◌, append_assoc, arith}
use Rattle.std.specs.Prelude.{◌&&◌, ◌||◌, ◌==◌, length, not, map, nat_lt, slice_get, if◌then◌else◌}
use Rattle.std.specs.Option.{option_and_then}
use Rattle.std.proofs.lemmas.Bool.{ne_eqb}
use Rattle.std.proofs.lemmas.List.{map-append}
use Rattle.std.proofs.lemmas.Option.{none-some}
use Rattle.xk_base.specs.declared.events.Event.{Event}
use Rattle.xk_base.specs.declared.events.Event.TheVariants.{Irq as IrqEvent, Kill, Pick, Tick}
use Rattle.xk_base.specs.declared.ids.Pid.{Pid}
use Rattle.xk_base.specs.declared.limits.TheConstants.{TIMER_INTERRUPT}
use Rattle.xk_base.specs.Tables.Counting.{listed_below}
use Rattle.xk_base.specs.declared.ids.ThreadId.{ThreadId}
use Rattle.machine_model.specs.State.Machine.{Machine}
use Rattle.order_model.specs.Endings.{are_none, is_ending, ready_ids, turns_at}
use Rattle.order_model.specs.Moves.{Asked, Point, is_at_bound, is_idle, waits_before, what_comes}
use Rattle.order_model.proofs.Moving.IdleLemmas.{left_of, waits_there}
use Rattle.order_model.specs.Nodes.{goes_on}
use Rattle.order_model.specs.declared.choices.Choice.{Choice}
use Rattle.order_model.specs.Asking.{bound_of}
use Rattle.order_model.specs.Choosing.{comes_at}

none_or : (b : Bool) (xs : List ThreadId) → are_none (if b then [] else xs) ≡ (are_none xs || b)
none_or true [] = refl
none_or true (x ∷ xs) = refl
none_or false [] = refl
none_or false (x ∷ xs) = refl

pub ending_is : (asked : Asked) (m : Machine) → are_none (turns_at asked m) ≡ is_ending asked m
ending_is asked m = none_or (is_at_bound asked.bound m) (ready_ids m)

-- ---- events

module _ (asked : Asked) (p : Point) (k : ℕ) where
  abbrev comes_in : Option Event → Bool
  comes_in o = is_some (option_and_then (λ (event : Event). what_comes event p.state) o)

  abbrev comes_among : Option Event → Bool
  comes_among o = comes_in (left_of asked k p o)

  -- one that came doesn't come again
  pub came_once : p.came k ≡ true → comes_at asked p k ≡ false
  came_once e = ap (λ (b : Bool). comes_among (if b then None else slice_get asked.once k)) e

  module _ (event : Event) (is : slice_get asked.once k ≡ Some event) (free : p.came k ≡ false) where
    there : comes_at asked p k ≡ comes_among (Some event)
    there = ap comes_among (waits_there asked k p event free is)

    -- another doesn't come before an equal one, ..
    pub comes_later : waits_before asked event p k ≡ true → comes_at asked p k ≡ false
    comes_later e = there ∙ ap (λ (b : Bool). comes_in (if b || is_idle event p.state then None else Some event)) e

    -- .. or where it is idle, ..
    pub comes_idle : waits_before asked event p k ≡ false → is_idle event p.state ≡ true → comes_at asked p k ≡ false
    comes_idle first e = there ∙ (λ i. comes_in (if first i || e i then None else Some event))

    -- .. and else where it comes by itself
    pub comes_if : waits_before asked event p k ≡ false → is_idle event p.state ≡ false → comes_at asked p k ≡ is_some (what_comes event p.state)
    comes_if first busy = there ∙ (λ i. comes_in (if first i || busy i then None else Some event))

-- ---- idle events

and_no : (b : Bool) → (b && false) ≡ false
and_no true = refl
and_no false = refl

and_yes : (b : Bool) → (b && true) ≡ b
and_yes true = refl
and_yes false = refl

-- with a reservation none is idle
pub reserved_busy : (event : Event) (m : Machine) → is_some m.reserved ≡ true → is_idle event m ≡ false
reserved_busy (Tick n) m e = refl
reserved_busy (Pick pid tid) m e = refl
reserved_busy (IrqEvent k) m e = ap (λ b. not (is_some (m.claims k)) && not b) e ∙ and_no (not (is_some (m.claims k)))
reserved_busy (Kill pid) m e = ap (λ b. not (m.process pid.0).alive && not b) e ∙ and_no (not (m.process pid.0).alive)

-- without one it is told by the claim of the interrupt ..
pub irq_idle : (event : Event) (m : Machine) (k : ℕ) (claimed : Bool) → event ≡ IrqEvent k → claimed ≡ is_some (m.claims k)
    → is_some m.reserved ≡ false → not claimed ≡ is_idle event m
irq_idle event m k claimed is told none =
    sym (and_yes (not claimed)) ∙ ((λ i. not (told i) && not (sym none i)) ∙ sym (ap (λ x. is_idle x m) is))

-- .. or by the process
pub kill_idle : (event : Event) (m : Machine) (pid : Pid) (alive : Bool) → event ≡ Kill pid → alive ≡ (m.process pid.0).alive
    → is_some m.reserved ≡ false → not alive ≡ is_idle event m
kill_idle event m pid alive is told none =
    sym (and_yes (not alive)) ∙ ((λ i. not (told i) && not (sym none i)) ∙ sym (ap (λ x. is_idle x m) is))

-- the choice of the next number is added where it passes
pub next_listed : (f : ℕ → Choice) (test : ℕ → Bool) (k : ℕ) (before now more : List Choice) → now ≡ before ++ map f (listed_below k test)
    → more ≡ now ++ (if test k then f k ∷ [] else []) → more ≡ before ++ map f (listed_below (k + 1) test)
unfolding listed_below
next_listed f test k before now more e is =
    let same : suc k ≡ k + 1 = omega arith in
    subst (λ n. more ≡ before ++ map f (listed_below n test)) same (go (test k) refl)
  where
    behind : (b : Bool) → map f (listed_below k test) ++ (if b then f k ∷ [] else []) ≡ map f (listed_below k test ++ (if b then k ∷ [] else []))
    behind true = sym (map-append f (listed_below k test) (k ∷ []))
    behind false = sym (map-append f (listed_below k test) [])

    go : (b : Bool) → test k ≡ b → more ≡ before ++ map f (listed_below k test ++ (if test k then k ∷ [] else []))
    go b t =
        is
        ∙ (ap (λ (xs : List Choice). xs ++ (if test k then f k ∷ [] else [])) e
        ∙ (append_assoc before (map f (listed_below k test)) (if test k then f k ∷ [] else [])
        ∙ ap (λ (xs : List Choice). before ++ xs) (behind (test k))))

-- ---- none

pub none_counted : (xs : List ThreadId) → (length xs == 0) ≡ are_none xs
none_counted [] = refl
none_counted (x ∷ xs) = ne_eqb (suc (length xs)) 0 (λ e. absurd (omega (arith, e)))

-- ---- orders go on

not_is : (b : Bool) → not b ≡ (if b then false else true)
not_is true = refl
not_is false = refl

pub free_goes : (bound : Option ℕ) (m : Machine) (claimed : Bool) → bound ≡ None → claimed ≡ is_some (m.claims TIMER_INTERRUPT)
    → not claimed ≡ goes_on (bound_of bound) m
free_goes None m claimed e h = ap not h ∙ not_is (is_some (m.claims TIMER_INTERRUPT))
free_goes (Some bound) m claimed e h = absurd (none-some bound (sym e))

-- ---- preempted slices

-- the numbers from 1 on, below the end
abbrev pub numbers : ℕ → List ℕ
numbers end = listed_below end (nat_lt 0)

pub no_numbers : numbers 1 ≡ []
unfolding listed_below
no_numbers = refl

pub numbers_ended : (n end : ℕ) → 1 ≤ n → n ≤ end + 1 → (1 ≤ end → n ≤ end) → end ≤ n → numbers n ≡ numbers end
unfolding listed_below
numbers_ended n zero some within ends all = let one : n ≡ 1 = omega (arith, some, within) in ap numbers one
numbers_ended n (suc end) some within ends all =
    let first : 1 ≤ suc end = omega arith in
    let last : n ≤ suc end = ends first in
    let same : n ≡ suc end = omega (arith, last, all) in
    ap numbers same

-- What a quiet step makes of the machine, and quiet steps in a row.
use Rattle.std.proofs.Common.{◌≡◌, ℕ, zero, suc, ◌+◌, if◌then◌else◌, Bool, true, false, not, ◌&&◌, [], Option, Some, None, refl, sym, ap, subst, ◌∙◌}
use Rattle.std.specs.Option.{option_map_or}
use Rattle.std.proofs.lemmas.Bool.{and_parts, false≢true}
use Rattle.machine_model.specs.Hart.Atomics.{Performed}
use Rattle.machine_model.specs.Hart.Instructions.{Executed, Next, Stores, StoresToConsole, StoresToTimer, CallsKernel, Traps}
use Rattle.machine_model.specs.State.Changes.{Told}
use Rattle.machine_model.specs.State.Machine.{Machine, Reservation, Thread}
use Rattle.machine_model.specs.State.Order.{actor, next_ready, ready_at}
use Rattle.machine_model.specs.State.Views.{memory_of, stored}
use Rattle.machine_model.specs.Stepping.Reservations.{reservation_of, reserved_by}
use Rattle.machine_model.specs.Stepping.Step.{Recorded, ends_handler, ends_thread, executed, performed, reservation_left_if_there, step}
use Rattle.machine_model.specs.Stepping.Timer.{is_due, timed, timed_if}
use Rattle.xk_kernel.specs.Acting.{told_by}
use Rattle.xk_kernel.specs.Quiet.{GoesQuietly, done_without_timer, goes_on, is_quiet, thread_goes_on, timer_rests}
use Rattle.xk_kernel.specs.Running.{machine_after}
use Rattle.xk_kernel.proofs.Acting.ActLemmas.{at, told_executed}
use Rattle.xk_kernel.proofs.Acting.StepOfLemmas.{counted_by, step_is, stepped_to}
use Rattle.xk_kernel.proofs.Quieting.WithoutTimerLemmas.{same_with_timer}

-- ---- tests that hold together

off : (b : Bool) → not b ≡ true → b ≡ false
off true e = absurd (false≢true e)
off false e = refl

pub both_hold : (a b : Bool) → a ≡ true → b ≡ true → (a && b) ≡ true
both_hold true b e f = f
both_hold false b e f = e

pub last_fails : (a b : Bool) → (a && (b && false)) ≡ false
last_fails true true = refl
last_fails true false = refl
last_fails false b = refl

-- ---- what is executed by a thread that goes on

goes_executed : (m : Machine) (t : Thread) (x : Executed) → goes_on x ≡ true
    → executed m t x ≡ record { machine = machine_after m.cursor m x; told = [] }
unfolding stored
goes_executed m t (Next regs pc) e = refl
goes_executed m t (Stores address width value regs pc) e = refl
goes_executed m t (StoresToConsole offset value regs pc) e = absurd (false≢true e)
goes_executed m t (StoresToTimer offset width value regs pc) e = absurd (false≢true e)
goes_executed m t CallsKernel e = absurd (false≢true e)
goes_executed m t (Traps cause value) e = absurd (false≢true e)

compare_stays : (m : Machine) (x : Executed) → goes_on x ≡ true → (machine_after m.cursor m x).compare ≡ m.compare
unfolding stored
compare_stays m (Next regs pc) e = refl
compare_stays m (Stores address width value regs pc) e = refl
compare_stays m (StoresToConsole offset value regs pc) e = absurd (false≢true e)
compare_stays m (StoresToTimer offset width value regs pc) e = absurd (false≢true e)
compare_stays m CallsKernel e = absurd (false≢true e)
compare_stays m (Traps cause value) e = absurd (false≢true e)

cursor_stays : (m : Machine) (x : Executed) → goes_on x ≡ true → (machine_after m.cursor m x).cursor ≡ m.cursor
unfolding stored
cursor_stays m (Next regs pc) e = refl
cursor_stays m (Stores address width value regs pc) e = refl
cursor_stays m (StoresToConsole offset value regs pc) e = absurd (false≢true e)
cursor_stays m (StoresToTimer offset width value regs pc) e = absurd (false≢true e)
cursor_stays m CallsKernel e = absurd (false≢true e)
cursor_stays m (Traps cause value) e = absurd (false≢true e)

-- ---- a quiet step

-- what makes the next step quiet, where this is the cursor's thread
pub record IsQuietBy (m : Machine) (t : Thread) : Type 0 where
  pub ready : ready_at m m.cursor ≡ true
  pub undue : is_due m.compare (m.steps + 1) ≡ false
  pub goes_past : ends_thread m.cursor t.pc ≡ false
  pub stays_in : ends_handler m.cursor t.pc ≡ false
  pub goes : goes_on (done_without_timer m t).executed ≡ true

module _ (m : Machine) (t : Thread) (there : m.threads m.cursor ≡ Some t) where
  by_thread : option_map_or (thread_goes_on m) (m.threads m.cursor) false ≡ thread_goes_on m t
  by_thread = ap (λ (o : Option Thread). option_map_or (thread_goes_on m) o false) there

  pub quiet_parts : is_quiet m ≡ true → IsQuietBy m t
  unfolding is_quiet
  quiet_parts e =
      let whole = and_parts (ready_at m m.cursor) (timer_rests m && option_map_or (thread_goes_on m) (m.threads m.cursor) false) e in
      let others = and_parts (timer_rests m) (option_map_or (thread_goes_on m) (m.threads m.cursor) false) whole.1 in
      let thread = and_parts (not (ends_thread m.cursor t.pc)) (not (ends_handler m.cursor t.pc) && goes_on (done_without_timer m t).executed) (sym by_thread ∙ others.1) in
      let last = and_parts (not (ends_handler m.cursor t.pc)) (goes_on (done_without_timer m t).executed) thread.1 in
      record {
        ready = whole.0;
        undue = off (is_due m.compare (m.steps + 1)) others.0;
        goes_past = off (ends_thread m.cursor t.pc) thread.0;
        stays_in = off (ends_handler m.cursor t.pc) last.0;
        goes = last.1;
      }

  pub quiet_whole : IsQuietBy m t → is_quiet m ≡ true
  unfolding is_quiet
  quiet_whole h =
      both_hold (ready_at m m.cursor) (timer_rests m && option_map_or (thread_goes_on m) (m.threads m.cursor) false) h.ready
      (both_hold (timer_rests m) (option_map_or (thread_goes_on m) (m.threads m.cursor) false) (ap not h.undue)
      (by_thread ∙ both_hold (not (ends_thread m.cursor t.pc)) (not (ends_handler m.cursor t.pc) && goes_on (done_without_timer m t).executed) (ap not h.goes_past)
      (both_hold (not (ends_handler m.cursor t.pc)) (goes_on (done_without_timer m t).executed) (ap not h.stays_in) h.goes)))

  -- a step by which the thread doesn't go on isn't quiet
  pub not_quiet : thread_goes_on m t ≡ false → is_quiet m ≡ false
  unfolding is_quiet
  not_quiet e = ap (λ b. ready_at m m.cursor && (timer_rests m && b)) (by_thread ∙ e) ∙ last_fails (ready_at m m.cursor) (timer_rests m)

  -- its instruction does the same with the timer's page
  pub does_same : IsQuietBy m t → performed m m.cursor t ≡ done_without_timer m t
  does_same h = same_with_timer (memory_of m m.cursor.pid) t.regs t.pc (reserved_by m.cursor m.reserved) h.goes

  pub goes_with_timer : IsQuietBy m t → goes_on (performed m m.cursor t).executed ≡ true
  goes_with_timer h = ap (λ (p : Performed). goes_on p.executed) (does_same h) ∙ h.goes

  -- what a quiet step leaves
  abbrev pub quiet_left : Machine
  quiet_left = record (machine_after m.cursor m (performed m m.cursor t).executed) {
    steps = m.steps + 1;
    reserved = reservation_of m.cursor (performed m m.cursor t).reserved;
  }

  module _ (h : IsQuietBy m t) where
    acts : actor m ≡ Some m.cursor
    unfolding actor
    acts = ap (λ b. if b then Some m.cursor else next_ready m m.cursor) h.ready

    tells : told_by m.cursor m ≡ record { machine = machine_after m.cursor m (performed m m.cursor t).executed; told = [] }
    tells = told_executed m m.cursor t there h.goes_past h.stays_in ∙ goes_executed m t (performed m m.cursor t).executed (goes_with_timer h)

    abbrev left_by : Bool → Bool → Option Reservation
    left_by a b = if a then None else (if b then None else reservation_of m.cursor (performed m m.cursor t).reserved)

    leaves : reservation_left_if_there (at m.cursor m) (m.threads m.cursor) ≡ reservation_of m.cursor (performed m m.cursor t).reserved
    leaves = ap (reservation_left_if_there m) there ∙ (λ i. left_by (h.goes_past i) (h.stays_in i))

    counts : counted_by m.cursor m ≡ record { machine = quiet_left; told = [] }
    counts = λ i. record (tells i) { machine = record (tells i).machine { steps = m.steps + 1; reserved = leaves i } }

    in_time : timed (record { machine = quiet_left; told = [] }) ≡ record { machine = quiet_left; told = [] }
    in_time =
        ap (λ b. timed_if b (record { machine = quiet_left; told = [] }))
        (ap (λ (compare : Option ℕ). is_due compare (m.steps + 1)) (compare_stays m (performed m m.cursor t).executed (goes_with_timer h)) ∙ h.undue)

    pub quiet_step_is : step m ≡ record { machine = quiet_left; records = [] }
    quiet_step_is = step_is m m.cursor acts ∙ ap (λ (d : Told). stepped_to (m.steps + 1) (timed d)) counts ∙ ap (stepped_to (m.steps + 1)) in_time

-- ---- in a row

-- .. and one more
pub goes_once_more : (n : ℕ) (m mid new : Machine) → GoesQuietly n m mid → is_quiet mid ≡ true → new ≡ (step mid).machine → GoesQuietly (suc n) m new
goes_once_more zero m mid new h quiet is = (ap is_quiet (sym h) ∙ quiet, is ∙ ap (λ (x : Machine). (step x).machine) h)
goes_once_more (suc n) m mid new h quiet is = (h.0, goes_once_more n (step m).machine mid new h.1 quiet is)

-- from a machine whose first step is the same
pub goes_from : (n : ℕ) (m other new : Machine) → is_quiet m ≡ is_quiet other → step m ≡ step other → GoesQuietly (suc n) m new → GoesQuietly (suc n) other new
goes_from n m other new quiet same h = (sym quiet ∙ h.0, subst (λ (s : Recorded). GoesQuietly n s.machine new) same h.1)

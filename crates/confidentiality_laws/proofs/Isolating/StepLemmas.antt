-- A step has the same records, and leads to the same state but for bytes, from two states that differ only in bytes that the
-- process of its thread can't load.
use Rattle.std.proofs.Common.{◌≡◌, ℕ, ◌+◌, Bool, true, false, [], map, Option, Some, None, refl, sym, ap, ◌∙◌}
use Rattle.std.specs.Prelude.{if◌then◌else◌}
use Rattle.xk_base.specs.declared.ids.ThreadId.{ThreadId}
use Rattle.xk_base.specs.declared.records.What.TheVariants.{End}
use Rattle.xk_base.specs.Calls.Registers.{reg_at}
use Rattle.machine_model.specs.Ending.Ends.{handler_ended, thread_ended}
use Rattle.machine_model.specs.Hart.Atomics.{Performed, execute_at}
use Rattle.machine_model.specs.Hart.Instructions.{Executed}
use Rattle.machine_model.specs.Runs.Isolation.{IsSameFor, StepIsIsolated}
use Rattle.machine_model.specs.State.Changes.{Told, settled}
use Rattle.machine_model.specs.State.Machine.{Machine, Reservation, Thread}
use Rattle.machine_model.specs.State.Order.{actor, next_ready}
use Rattle.machine_model.specs.State.Views.{memory_of}
use Rattle.machine_model.specs.Stepping.Reservations.{reservation_of, reserved_by}
use Rattle.machine_model.specs.Stepping.Step.{Recorded, acted_if_there, after, counted, ends_handler, ends_thread, executed, performed, record_of, reservation_left_if_there, step, step_by, step_by_if}
use Rattle.machine_model.specs.Stepping.Timer.{timed}
use Rattle.machine_laws.proofs.Threading.ThreadStepLemmas.{turned_to}
use Rattle.confidentiality_laws.proofs.Carrying.ChangeLemmas.{told_through, settled_through}
use Rattle.confidentiality_laws.proofs.Carrying.EndLemmas.{handler_ended_through, thread_ended_through}
use Rattle.confidentiality_laws.proofs.Carrying.InterruptLemmas.{timed_through}
use Rattle.confidentiality_laws.proofs.Isolating.InstructionLemmas.{executed_alike}
use Rattle.confidentiality_laws.proofs.Isolating.SeenMemoryLemmas.{memory_alike}
use Rattle.confidentiality_laws.proofs.Ledgers.OtherBytesLemmas.{machine_through, no_bytes, alike_through, alike_without}

abbrev pub bare_recorded : Recorded → Recorded
bare_recorded r = record r { machine = machine_through no_bytes r.machine }

-- what a thread does that ends, ends its handler or executes this
abbrev pub acts : Machine → ThreadId → Thread → Bool → Bool → Executed → Told
acts m who t a b x =
    if a then after (End who) (settled (thread_ended who (reg_at t.regs 10) (turned_to who m))) else (
    if b then after (End who) (settled (handler_ended who.pid (turned_to who m))) else
    executed (turned_to who m) t x)

ended_bare : (m : Machine) (who : ThreadId) (a0 : ℕ)
    → told_through no_bytes (after (End who) (settled (thread_ended who a0 m)))
    ≡ after (End who) (settled (thread_ended who a0 (machine_through no_bytes m)))
ended_bare m who a0 =
    ap (after (End who))
    (settled_through no_bytes (thread_ended who a0 m) ∙ ap settled (thread_ended_through no_bytes who a0 m))

handled_bare : (m : Machine) (who : ThreadId)
    → told_through no_bytes (after (End who) (settled (handler_ended who.pid m)))
    ≡ after (End who) (settled (handler_ended who.pid (machine_through no_bytes m)))
handled_bare m who =
    ap (after (End who))
    (settled_through no_bytes (handler_ended who.pid m) ∙ ap settled (handler_ended_through no_bytes who.pid m))

module _ (m n : Machine) (who : ThreadId) (e : machine_through no_bytes m ≡ machine_through no_bytes n) where
  turned_alike : machine_through no_bytes (turned_to who m) ≡ machine_through no_bytes (turned_to who n)
  turned_alike = ap (turned_to who) e

  acts_alike : (t : Thread) (a b : Bool) (x y : Executed) → x ≡ y
      → told_through no_bytes (acts m who t a b x) ≡ told_through no_bytes (acts n who t a b y)
  acts_alike t true b x y same =
      ended_bare (turned_to who m) who (reg_at t.regs 10)
      ∙ (ap (λ z. after (End who) (settled (thread_ended who (reg_at t.regs 10) z))) turned_alike
      ∙ sym (ended_bare (turned_to who n) who (reg_at t.regs 10)))
  acts_alike t false true x y same =
      handled_bare (turned_to who m) who
      ∙ (ap (λ z. after (End who) (settled (handler_ended who.pid z))) turned_alike ∙ sym (handled_bare (turned_to who n) who))
  acts_alike t false false x y same =
      executed_alike (turned_to who m) (turned_to who n) turned_alike t x
      ∙ ap (λ z. told_through no_bytes (executed (turned_to who n) t z)) same

module _ (m n : Machine) (who : ThreadId) (same : IsSameFor who.pid m n) where
  abbrev e : machine_through no_bytes m ≡ machine_through no_bytes n
  e = alike_through m n same.but_bytes

  pub performed_alike : (t : Thread) → performed (turned_to who m) who t ≡ performed (turned_to who n) who t
  unfolding memory_of
  performed_alike t = λ i. execute_at t.regs t.pc (reserved_by who (e i).reserved) (memory_alike who.pid m n same i)

  acted_alike : (o : Option Thread)
      → told_through no_bytes (acted_if_there (turned_to who m) o) ≡ told_through no_bytes (acted_if_there (turned_to who n) o)
  acted_alike None = λ i. record { machine = turned_alike m n who e i; told = [] }
  acted_alike (Some t) =
      acts_alike m n who e t (ends_thread who t.pc) (ends_handler who t.pc) (performed (turned_to who m) who t).executed
      (performed (turned_to who n) who t).executed (ap (λ (p : Performed). p.executed) (performed_alike t))

  left_alike : (o : Option Thread)
      → reservation_left_if_there (turned_to who m) o ≡ reservation_left_if_there (turned_to who n) o
  left_alike None = refl
  left_alike (Some t) =
      ap (λ (p : Performed). if_neither (ends_thread who t.pc) (ends_handler who t.pc) (reservation_of who p.reserved))
      (performed_alike t)
    where
      if_neither : Bool → Bool → Option Reservation → Option Reservation
      if_neither a b r = if a then None else (if b then None else r)

  done_alike : (o : Option Thread)
      → told_through no_bytes (timed (counted (turned_to who m) o (acted_if_there (turned_to who m) o)))
      ≡ told_through no_bytes (timed (counted (turned_to who n) o (acted_if_there (turned_to who n) o)))
  done_alike o =
      timed_through no_bytes (counted (turned_to who m) o (acted_if_there (turned_to who m) o))
      ∙ (ap timed counts ∙ sym (timed_through no_bytes (counted (turned_to who n) o (acted_if_there (turned_to who n) o))))
    where
      counts : told_through no_bytes (counted (turned_to who m) o (acted_if_there (turned_to who m) o))
          ≡ told_through no_bytes (counted (turned_to who n) o (acted_if_there (turned_to who n) o))
      counts = λ i. record (acted_alike o i) {
        machine = record (acted_alike o i).machine { steps = (e i).steps + 1; reserved = left_alike o i };
      }

  pub step_by_alike : bare_recorded (step_by who m) ≡ bare_recorded (step_by who n)
  unfolding step_by
  step_by_alike = λ i. record { machine = (done i).machine; records = map (record_of ((e i).steps + 1)) (done i).told }
    where
      of_thread : Option Thread → Told
      of_thread o = told_through no_bytes (timed (counted (turned_to who n) o (acted_if_there (turned_to who n) o)))

      done : told_through no_bytes (timed (counted (turned_to who m) (m.threads who) (acted_if_there (turned_to who m) (m.threads who))))
          ≡ told_through no_bytes (timed (counted (turned_to who n) (n.threads who) (acted_if_there (turned_to who n) (n.threads who))))
      done = done_alike (m.threads who) ∙ ap of_thread (ap (λ (x : Machine). x.threads who) e)

-- who does the next step is the same
pub actor_alike : (m n : Machine) → machine_through no_bytes m ≡ machine_through no_bytes n → actor m ≡ actor n
unfolding actor next_ready
actor_alike m n e = ap actor e

pub step_of : (m : Machine) (who : ThreadId) → actor m ≡ Some who → step m ≡ step_by who m
unfolding step
step_of m who e = ap (λ a. step_by_if a m) e

pub step_alike : (m n : Machine) (who : ThreadId) → actor m ≡ Some who → IsSameFor who.pid m n
    → bare_recorded (step m) ≡ bare_recorded (step n)
step_alike m n who acts same =
    ap bare_recorded (step_of m who acts)
    ∙ (step_by_alike m n who same
    ∙ ap bare_recorded (sym (step_of n who (sym (actor_alike m n (alike_through m n same.but_bytes)) ∙ acts))))

pub step_isolated : StepIsIsolated
step_isolated m n who h k acts same =
    (ap (λ (r : Recorded). r.records) (step_alike m n who acts same), alike_without (step m).machine (step n).machine (ap (λ (r : Recorded). r.machine) (step_alike m n who acts same)))

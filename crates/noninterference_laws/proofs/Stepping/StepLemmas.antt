-- A step is the same but for the inside of a group from states that are: a step of another, and a step of the group that is one act.
use Rattle.std.proofs.Common.{◌≡◌, ℕ, ◌+◌, Bool, true, false, [], map, Option, Some, None, refl, sym, ap, ◌∙◌}
use Rattle.std.specs.Prelude.{if◌then◌else◌}
use Rattle.std.specs.Option.{option_map}
use Rattle.std.proofs.lemmas.Bool.{and_parts, eqb-true, false≢true}
use Rattle.std.proofs.lemmas.Option.{none-some, same_Some}
use Rattle.xk_base.specs.declared.ids.Pid.{Pid}
use Rattle.xk_base.specs.declared.ids.ThreadId.{ThreadId}
use Rattle.xk_base.specs.declared.records.What.TheVariants.{End}
use Rattle.xk_base.specs.Calls.Registers.{reg_at}
use Rattle.xk_base.specs.Tables.Circle.{same_thread}
use Rattle.machine_model.specs.Hart.Atomics.{Performed, execute_at}
use Rattle.machine_model.specs.Hart.Instructions.{Executed}
use Rattle.machine_model.specs.Runs.Isolation.{IsSameFor, without_bytes}
use Rattle.machine_model.specs.State.Changes.{Told}
use Rattle.machine_model.specs.State.Machine.{Machine, Reservation, Thread}
use Rattle.machine_model.specs.State.Views.{memory_of}
use Rattle.machine_model.specs.Stepping.Reservations.{reservation_of, reserved_by}
use Rattle.machine_model.specs.Stepping.Step.{acted_if_there, after, counted, ends_handler, ends_thread, performed, record_of, reservation_left_if_there, step_by}
use Rattle.machine_model.specs.Stepping.Timer.{timed}
use Rattle.machine_laws.proofs.Threading.ThreadStepLemmas.{performed_turned, turned_to}
use Rattle.confidentiality_laws.proofs.Isolating.SeenMemoryLemmas.{memory_alike}
use Rattle.confidentiality_laws.proofs.Isolating.StepLemmas.{acts}
use Rattle.noninterference_laws.specs.Acting.{act_of, act_of_thread}
use Rattle.noninterference_laws.specs.Inside.{Group, SameButInside, hidden_if, hidden_reservation, outside}
use Rattle.noninterference_laws.proofs.Stepping.ActLemmas.{act_by, did, did_alike, own_does}
use Rattle.noninterference_laws.proofs.Stepping.ShadeLemmas.{ended_shade, executed_shade, handled_shade, recorded_shade, shade, timed_shade}
use Rattle.noninterference_laws.proofs.Stepping.ShadeLemmas.{told_shade}
use Rattle.noninterference_laws.proofs.Veiling.EffectLemmas.{told_veil}

-- a state with the threads and the reservation of another
abbrev pub between : Machine → Machine → Machine
between m n = record n { threads = m.threads; reserved = m.reserved }

pub between_bare : (group : Group) (m n : Machine) → outside group m ≡ outside group n → without_bytes m ≡ without_bytes (between m n)
between_bare group m n e = λ i. record (e i) { threads = m.threads; reserved = m.reserved }

-- what a step left, if its thread did not end
abbrev if_neither : Bool → Bool → Option Reservation → Option Reservation
if_neither a b r = if a then None else (if b then None else r)

module _ (group : Group) (who : ThreadId) (m n : Machine) (e : shade group m ≡ shade group n) where
  turned : shade group (turned_to who m) ≡ shade group (turned_to who n)
  turned = ap (turned_to who) e

  -- ---- the step, from what is done and what is left reserved

  module _ (acted : told_shade group (acted_if_there (turned_to who m) (m.threads who)) ≡ told_shade group (acted_if_there (turned_to who n) (n.threads who)))
      (left : hidden_reservation group (reservation_left_if_there (turned_to who m) (m.threads who)) ≡ hidden_reservation group (reservation_left_if_there (turned_to who n) (n.threads who))) where
    abbrev mine : Told
    mine = counted (turned_to who m) (m.threads who) (acted_if_there (turned_to who m) (m.threads who))

    abbrev its : Told
    its = counted (turned_to who n) (n.threads who) (acted_if_there (turned_to who n) (n.threads who))

    counts : told_shade group mine ≡ told_shade group its
    counts = λ i. record (acted i) { machine = record (acted i).machine { steps = (e i).steps + 1; reserved = left i } }

    done : told_shade group (timed mine) ≡ told_shade group (timed its)
    done = timed_shade group mine ∙ (ap (λ x. told_veil group (timed x)) counts ∙ sym (timed_shade group its))

    step_by_alike : recorded_shade group (step_by who m) ≡ recorded_shade group (step_by who n)
    unfolding step_by
    step_by_alike = λ i. record { machine = (done i).machine; records = map (record_of ((e i).steps + 1)) (done i).told }

  -- ---- a step of the group

  module _ (own : group who.pid.0 ≡ true) where
    own_reserved : (o : Option ℕ) → hidden_reservation group (reservation_of who o) ≡ None
    own_reserved None = refl
    own_reserved (Some address) = ap (λ b. if b then None else Some (record { who = who; address = address })) own

    own_left : (a b : Bool) (o : Option ℕ) → hidden_reservation group (if_neither a b (reservation_of who o)) ≡ None
    own_left true b o = refl
    own_left false true o = refl
    own_left false false o = own_reserved o

    none_left : (x : Machine) (o : Option Thread) → hidden_reservation group (reservation_left_if_there (turned_to who x) o) ≡ None
    none_left x None = refl
    none_left x (Some t) = own_left (ends_thread who t.pc) (ends_handler who t.pc) (performed (turned_to who x) who t).reserved

    act_turned : (x : Machine) (t : Thread)
        → act_of_thread x who t ≡ act_by x t (ends_thread who t.pc) (ends_handler who t.pc) (performed (turned_to who x) who t).executed
    act_turned x t =
        ap (λ (p : Performed). act_by x t (ends_thread who t.pc) (ends_handler who t.pc) p.executed) (performed_turned x who t)

    does : (x : Machine) (t : Thread)
        → told_shade group (acted_if_there (turned_to who x) (Some t)) ≡ told_shade group (did x who (act_of_thread x who t))
    does x t =
        own_does group x who own t (ends_thread who t.pc) (ends_handler who t.pc) (performed (turned_to who x) who t).executed
        ∙ ap (λ act. told_shade group (did x who act)) (sym (act_turned x t))

    own_acted : (o p : Option Thread) → option_map (act_of_thread m who) o ≡ option_map (act_of_thread n who) p
        → told_shade group (acted_if_there (turned_to who m) o) ≡ told_shade group (acted_if_there (turned_to who n) p)
    own_acted None None same = λ i. record { machine = turned i; told = [] }
    own_acted None (Some u) same = absurd (none-some (act_of_thread n who u) same)
    own_acted (Some t) None same = absurd (none-some (act_of_thread m who t) (sym same))
    own_acted (Some t) (Some u) same =
        does m t
        ∙ (ap (λ act. told_shade group (did m who act)) (same_Some (act_of_thread m who t) (act_of_thread n who u) same)
        ∙ (did_alike group m n who e (act_of_thread n who u) ∙ sym (does n u)))

    pub own_step : act_of m who ≡ act_of n who → recorded_shade group (step_by who m) ≡ recorded_shade group (step_by who n)
    own_step same =
        step_by_alike (own_acted (m.threads who) (n.threads who) same) (none_left m (m.threads who) ∙ sym (none_left n (n.threads who)))

  -- ---- a step of another

  module _ (other : group who.pid.0 ≡ false) (same : SameButInside group m n) where
    same_for : IsSameFor who.pid m (between m n)
    same_for = record {
      but_bytes = between_bare group m n same.outside;
      loaded = λ place page at reached.
          same.seen page (record { place = place; other = ap (λ (p : Pid). group p.0) at ∙ other; reached = reached });
    }

    memory_same : memory_of (turned_to who m) who.pid ≡ memory_of (turned_to who n) who.pid
    unfolding memory_of
    memory_same = memory_alike who.pid m (between m n) same_for

    -- a reservation of the group isn't that of the thread
    not_its : (r : Reservation) (b : Bool) → group r.who.pid.0 ≡ b
        → reserved_by who (Some r) ≡ reserved_by who (if b then None else Some r)
    not_its r true q = go (same_thread r.who who) refl
      where
        go : (c : Bool) → same_thread r.who who ≡ c → (if c then Some r.address else None) ≡ None
        go false f = refl
        go true f =
            let one : r.who.pid.0 ≡ who.pid.0 = eqb-true r.who.pid.0 who.pid.0 (and_parts _ _ f).0 in
            absurd (false≢true (sym other ∙ (ap group (sym one) ∙ q)))
    not_its r false q = refl

    reserved_told : (o : Option Reservation) → reserved_by who o ≡ reserved_by who (hidden_reservation group o)
    reserved_told None = refl
    reserved_told (Some r) = not_its r (group r.who.pid.0) refl

    reserved_same : reserved_by who m.reserved ≡ reserved_by who n.reserved
    reserved_same = reserved_told m.reserved ∙ (ap (λ (x : Machine). reserved_by who x.reserved) e ∙ sym (reserved_told n.reserved))

    pub performed_same : (t : Thread) → performed (turned_to who m) who t ≡ performed (turned_to who n) who t
    performed_same t = λ i. execute_at t.regs t.pc (reserved_same i) (memory_same i)

    pub thread_same : m.threads who ≡ n.threads who
    thread_same =
        ap (λ b. hidden_if b (m.threads who)) (sym other)
        ∙ (ap (λ (x : Machine). x.threads who) e ∙ ap (λ b. hidden_if b (n.threads who)) other)

    acts_same : (t : Thread) (a b : Bool) (x : Executed) → told_shade group (acts m who t a b x) ≡ told_shade group (acts n who t a b x)
    acts_same t true b x =
        ap (after (End who)) (ended_shade group who (reg_at t.regs 10) (turned_to who m) (turned_to who n) turned)
    acts_same t false true x = ap (after (End who)) (handled_shade group who.pid (turned_to who m) (turned_to who n) turned)
    acts_same t false false x = executed_shade group t x (turned_to who m) (turned_to who n) turned

    acted_same : (o : Option Thread)
        → told_shade group (acted_if_there (turned_to who m) o) ≡ told_shade group (acted_if_there (turned_to who n) o)
    acted_same None = λ i. record { machine = turned i; told = [] }
    acted_same (Some t) =
        acts_same t (ends_thread who t.pc) (ends_handler who t.pc) (performed (turned_to who m) who t).executed
        ∙ ap (λ (p : Performed). told_shade group (acts n who t (ends_thread who t.pc) (ends_handler who t.pc) p.executed)) (performed_same t)

    left_same : (o : Option Thread)
        → hidden_reservation group (reservation_left_if_there (turned_to who m) o)
        ≡ hidden_reservation group (reservation_left_if_there (turned_to who n) o)
    left_same None = refl
    left_same (Some t) =
        ap (λ (p : Performed). hidden_reservation group (if_neither (ends_thread who t.pc) (ends_handler who t.pc) (reservation_of who p.reserved)))
        (performed_same t)

    pub other_step : recorded_shade group (step_by who m) ≡ recorded_shade group (step_by who n)
    other_step =
        step_by_alike
        (acted_same (m.threads who) ∙ ap (λ o. told_shade group (acted_if_there (turned_to who n) o)) thread_same)
        (left_same (m.threads who) ∙ ap (λ o. hidden_reservation group (reservation_left_if_there (turned_to who n) o)) thread_same)

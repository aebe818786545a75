-- A reservation stands only since an LR of its thread or since the start, and as long as no other thread does a step.
use Rattle.std.proofs.Common.{◌≡◌, ℕ, zero, suc, ◌<◌, Bool, true, false, List, [], ◌∷◌, Option, Some, None, refl, sym, ap, subst, ◌∙◌, ◌⊎◌, inl, inr, arith}
use Rattle.std.specs.Prelude.{if◌then◌else◌, slice_get}
use Rattle.std.proofs.lemmas.Bool.{eqb-true}
use Rattle.std.proofs.lemmas.Option.{same_Some}
use Rattle.std.specs.Option.{option_and_then}
use Rattle.xk_base.specs.declared.ids.ThreadId.{ThreadId}
use Rattle.xk_base.specs.declared.pages.Access.TheVariants.{Fetch}
use Rattle.xk_base.specs.declared.pages.Width.TheVariants.{Word}
use Rattle.xk_base.specs.Tables.Circle.{same_thread}
use Rattle.xk_base.specs.UserMemory.{Memory, number_at}
use Rattle.machine_model.specs.Ending.Closing.{closed, servers_closed, senders_queued_gone, senders_held_gone}
use Rattle.machine_model.specs.Ending.Ends.{death, forgotten}
use Rattle.machine_model.specs.Hart.Atomics.{Atomic, LoadReserved, StoreConditional, Amo, atomic_at, execute, execute_at, is_reserved, perform, unless_ended, Performed}
use Rattle.machine_model.specs.Hart.Instructions.{Executed, Next, Stores, StoresToConsole, StoresToTimer, CallsKernel, Traps, x}
use Rattle.machine_model.specs.Runs.Moments.{Cause, ByStep, Moment, IsRun, caused, state_at}
use Rattle.machine_model.specs.Runs.Reserving.{IsOnlyBy, IsReservedSince, IsReserving, ReservationHolds}
use Rattle.machine_model.specs.State.Changes.{settled}
use Rattle.machine_model.specs.State.Machine.{Machine, Reservation, Thread}
use Rattle.machine_model.specs.State.Order.{actor}
use Rattle.machine_model.specs.State.Views.{memory_of}
use Rattle.machine_model.specs.Stepping.Acts.{atomic_by, atomic_fetched, atomic_there}
use Rattle.machine_model.specs.Stepping.Reservations.{reservation_of, reserved_by, unreserved}
use Rattle.machine_model.specs.Stepping.Step.{Recorded, acted, counted, ends_handler, ends_thread, performed}
use Rattle.machine_model.proofs.Runs.TimerLemmas.{pended_raised, timed_raised}
use Rattle.machine_laws.proofs.Threading.ThreadPutLemmas.{alike}
use Rattle.machine_laws.proofs.Threading.ThreadStepLemmas.{performed_turned, turned_to}
use Rattle.machine_laws.specs.Records.{records_by}
use Rattle.machine_laws.proofs.Stepping.CauseCaseLemmas.{CauseCase, IsDead, Kills, NoneActs, Picks, Raises, RestCase, Rests, Steps, Turns, Unclaimed, case_of}
use Rattle.laws.specs.Standing.{EveryReservationHolds, IsReservedBefore, IsReservedFromStart}

-- ---- one instruction

-- what an instruction leaves of a reservation is what it would leave, unless it ends
kept_of : (left : Option ℕ) (e : Executed) (a : ℕ) → unless_ended left e ≡ Some a → left ≡ Some a
kept_of left (Next regs pc) a h = h
kept_of left (Stores address width value regs pc) a h = h
kept_of left (StoresToConsole offset value regs pc) a h = h
kept_of left (StoresToTimer offset width value regs pc) a h = h
kept_of left CallsKernel a h = absurd (cc)
kept_of left (Traps cause value) a h = absurd (cc)

-- the thread had reserved the address before, or this is the LR that does
record IsLr (mem : Memory) (regs : List ℕ) (pc a : ℕ) : Type 0 where
  rd : ℕ
  rs1 : ℕ
  lr : atomic_there mem pc ≡ Some (LoadReserved rd rs1)
  address : x regs rs1 ≡ a

module _ (mem : Memory) (regs : List ℕ) (pc : ℕ) (reserved : Option ℕ) (a : ℕ) where
  by_atomic : (word : ℕ) (o : Option Atomic) → atomic_there mem pc ≡ o
      → (perform mem regs pc word reserved o).reserved ≡ Some a → (reserved ≡ Some a) ⊎ IsLr mem regs pc a
  by_atomic word None e h = inl (kept_of reserved _ a h)
  by_atomic word (Some (LoadReserved rd rs1)) e h =
      inr (record { rd = rd; rs1 = rs1; lr = e; address = same_Some (x regs rs1) a (kept_of (Some (x regs rs1)) _ a h) })
  by_atomic word (Some (StoreConditional rd rs1 rs2)) e h = absurd (let d : None ≡ Some a = kept_of None _ a h in cc)
  by_atomic word (Some (Amo operation rd rs1 rs2)) e h = inl (kept_of reserved _ a h)

  by_fetch : (b : Bool) → mem.may Fetch pc ≡ b
      → (if b then execute regs pc (number_at mem.byte pc Word) reserved mem else record { executed = Traps 12 pc; reserved = None }).reserved ≡ Some a
      → (reserved ≡ Some a) ⊎ IsLr mem regs pc a
  unfolding execute
  by_fetch false e h = absurd (cc)
  by_fetch true e h = by_atomic (number_at mem.byte pc Word) (atomic_at (number_at mem.byte pc Word)) (rw e refl) h

  by_instruction : (execute_at regs pc reserved mem).reserved ≡ Some a → (reserved ≡ Some a) ⊎ IsLr mem regs pc a
  unfolding execute_at
  by_instruction h = by_fetch (mem.may Fetch pc) refl h

-- ---- one step

-- what the thread has reserved is the reservation
own : (who : ThreadId) (a : ℕ) (o : Option Reservation) → reserved_by who o ≡ Some a → o ≡ Some (record { who = who; address = a })
own who a None e = absurd (cc)
own who a (Some r) e = go (same_thread r.who who) refl e
  where
    go : (b : Bool) → same_thread r.who who ≡ b → (if b then Some r.address else None) ≡ Some a → Some r ≡ Some (record { who = who; address = a })
    go false q h = absurd (cc)
    go true q h = λ i. Some (record { who = alike r.who who q i; address = same_Some r.address a h i })

-- what leads to a state that has the reservation: it had it before and only that thread did a step, or this is the LR
pub record IsKept (r : Reservation) (m : Machine) (cause : Cause) : Type 0 where
  pub before : m.reserved ≡ Some r
  pub only : IsOnlyBy r.who m cause

abbrev pub Leaves : Reservation → Machine → Cause → Type 0
Leaves r m cause = IsKept r m cause ⊎ IsReserving r m cause

module _ (m : Machine) (who : ThreadId) (acts : actor m ≡ Some who) (thread : Thread) (there : m.threads who ≡ Some thread) where
  module _ (b : ends_thread who thread.pc ≡ false) (c : ends_handler who thread.pc ≡ false) where
    lr_there : (o : Option Atomic) → atomic_there (memory_of m who.pid) thread.pc ≡ o → atomic_by m who ≡ o
    unfolding atomic_by
    lr_there o e = ap (option_and_then (atomic_fetched m who)) there ∙ (rw (b, c) e)

    by_performed : (a : ℕ) → (performed (turned_to who m) who thread).reserved ≡ Some a → Leaves (record { who = who; address = a }) m ByStep
    by_performed a h =
        let same : (performed m who thread).reserved ≡ Some a = ap (λ (p : Performed). p.reserved) (performed_turned m who thread) ∙ h in
        go same (by_instruction (memory_of m who.pid) thread.regs thread.pc (reserved_by who m.reserved) a same)
      where
        go : (performed m who thread).reserved ≡ Some a
            → (reserved_by who m.reserved ≡ Some a) ⊎ IsLr (memory_of m who.pid) thread.regs thread.pc a
            → Leaves (record { who = who; address = a }) m ByStep
        go same (inl q) = inl (record {
          before = own who a m.reserved q;
          only = λ other e. same_Some other who (sym e ∙ acts);
        })
        go same (inr l) = inr (record {
          step = refl;
          by_who = acts;
          thread = thread;
          there = there;
          rd = l.rd;
          rs1 = l.rs1;
          lr = lr_there (Some (LoadReserved l.rd l.rs1)) l.lr;
          address = l.address;
          reserves = same;
        })

    by_reservation : (r : Reservation) (o : Option ℕ) → (performed (turned_to who m) who thread).reserved ≡ o → reservation_of who o ≡ Some r → Leaves r m ByStep
    by_reservation r None e h = absurd (cc)
    by_reservation r (Some a) e h =
        subst (λ y. Leaves y m ByStep) (same_Some (record { who = who; address = a }) r h) (by_performed a e)

  by_ends : (r : Reservation) (b c : Bool) → ends_thread who thread.pc ≡ b → ends_handler who thread.pc ≡ c
      → (if b then None else (if c then None else reservation_of who (performed (turned_to who m) who thread).reserved)) ≡ Some r → Leaves r m ByStep
  by_ends r true c p q h = absurd (cc)
  by_ends r false true p q h = absurd (cc)
  by_ends r false false p q h = by_reservation p q r (performed (turned_to who m) who thread).reserved refl h

-- ---- any cause

pub leaves : (m : Machine) (cause : Cause) (r : Reservation) → (caused cause m).reserved ≡ Some r → Leaves r m cause
unfolding settled death servers_closed closed senders_queued_gone senders_held_gone forgotten
leaves m cause r = by cause (record { machine = caused cause m; records = records_by cause m }) (case_of cause m)
  where
    rests : (cause : Cause) (cursor : ThreadId) (reserved : Option Reservation) → RestCase m cause cursor reserved → reserved ≡ Some r → Leaves r m cause
    rests _ _ _ (NoneActs e) h = inl (record { before = h; only = λ other q. absurd (let d : None ≡ Some other = sym e ∙ q in cc) })
    rests _ _ _ (Picks who) h = inl (record { before = h; only = tt })
    rests _ _ _ (Unclaimed k e) h = absurd (cc)
    rests _ _ _ (IsDead pid e) h = absurd (cc)
    rests _ _ _ Turns h = inl (record { before = h; only = tt })

    by : (cause : Cause) (next : Recorded) → CauseCase m cause next → next.machine.reserved ≡ Some r → Leaves r m cause
    by _ _ (Rests cause cursor reserved rest) h = rests cause cursor reserved rest h
    by _ _ (Steps who t acts there case) h =
        by_ends m who acts t there r (ends_thread who t.pc) (ends_handler who t.pc) refl refl
        (sym (ap (λ (n : Machine). n.reserved) (timed_raised (counted (turned_to who m) (Some t) (acted (turned_to who m) t))).is) ∙ h)
    by _ _ (Raises k claim e) h =
        absurd (let d : None ≡ Some r = sym (ap (λ (n : Machine). n.reserved) (pended_raised k claim (unreserved m)).is) ∙ h in cc)
    by _ _ (Kills pid e) h = absurd (let d : None ≡ Some r = h in cc)

-- ---- runs

module _ (r : Reservation) (start : Machine) (first : Moment) (moments : List Moment) (end : ℕ) where
  later : IsReservedSince r first.machine moments end → IsReservedSince r start (first ∷ moments) (suc end)
  unfolding state_at
  later s = record {
    from = suc s.from;
    moment = s.moment;
    there = s.there;
    before = omega (arith, s.before);
    reserving = s.reserving;
    alone = alone;
  }
    where
      alone : (k : ℕ) (between : Moment) → suc s.from < k → k < suc end → slice_get (first ∷ moments) k ≡ Some between
          → IsOnlyBy r.who (state_at start (first ∷ moments) k) between.cause
      alone zero between p q e = absurd (omega (arith, p))
      alone (suc k) between p q e = s.alone k between (omega (arith, p)) (omega (arith, q)) e

  longer : IsKept r start first.cause → IsReservedFromStart r first.machine moments end → IsReservedFromStart r start (first ∷ moments) (suc end)
  unfolding state_at
  longer kept old = record { stood = kept.before; alone = alone }
    where
      alone : (k : ℕ) (between : Moment) → k < suc end → slice_get (first ∷ moments) k ≡ Some between
          → IsOnlyBy r.who (state_at start (first ∷ moments) k) between.cause
      alone zero between q e = subst (λ m. IsOnlyBy r.who start m.cause) (same_Some first between e) kept.only
      alone (suc k) between q e = old.alone k between (omega (arith, q)) e

  newly : IsReserving r start first.cause → IsReservedFromStart r first.machine moments end → IsReservedSince r start (first ∷ moments) (suc end)
  unfolding state_at
  newly reserving old = record { from = 0; moment = first; there = refl; before = omega arith; reserving = reserving; alone = alone }
    where
      alone : (k : ℕ) (between : Moment) → 0 < k → k < suc end → slice_get (first ∷ moments) k ≡ Some between
          → IsOnlyBy r.who (state_at start (first ∷ moments) k) between.cause
      alone zero between p q e = absurd (omega (arith, p))
      alone (suc k) between p q e = old.alone k between (omega (arith, q)) e

  onward : Leaves r start first.cause → IsReservedFromStart r first.machine moments end → IsReservedBefore r start (first ∷ moments) (suc end)
  onward (inl kept) old = inr (longer kept old)
  onward (inr reserving) old = inl (newly reserving old)

-- where a state of a run has the reservation, it has it since an LR or since the start
since : (r : Reservation) (start : Machine) (moments : List Moment) (end : ℕ) → IsRun start moments
    → (state_at start moments end).reserved ≡ Some r → IsReservedBefore r start moments end
unfolding IsRun state_at
since r start moments zero run h = inr (record { stood = h; alone = λ k between q e. absurd (omega (arith, q)) })
since r start [] (suc end) run h = inr (record { stood = h; alone = λ k between q e. absurd (cc) })
since r start (first ∷ moments) (suc end) run h = go (since r first.machine moments end run.1 h)
  where
    go : IsReservedBefore r first.machine moments end → IsReservedBefore r start (first ∷ moments) (suc end)
    go (inl s) = inl (later r start first moments end s)
    go (inr old) = onward r start first moments end (leaves start first.cause r (ap (λ m. m.reserved) (sym run.0) ∙ old.stood)) old

-- what is reserved by the thread at the address is this reservation
pub is_this : (r : Reservation) (o : Option Reservation) → is_reserved (reserved_by r.who o) r.address ≡ true → o ≡ Some r
is_this r o h = go (reserved_by r.who o) refl h
  where
    go : (p : Option ℕ) → reserved_by r.who o ≡ p → is_reserved p r.address ≡ true → o ≡ Some r
    go None e q = absurd (cc)
    go (Some a) e q = own r.who a o e ∙ (λ i. Some (record { who = r.who; address = eqb-true a r.address q i }))

pub every_reservation_holds : EveryReservationHolds
every_reservation_holds start moments i moment r run there sc = since r start moments i run (is_this r (state_at start moments i).reserved sc.succeeds)

-- without a reservation at the start
pub reservation_holds : ReservationHolds
reservation_holds start moments i moment r none run there sc = go (every_reservation_holds start moments i moment r run there sc)
  where
    go : IsReservedBefore r start moments i → IsReservedSince r start moments i
    go (inl since) = since
    go (inr old) = absurd (let d : None ≡ Some r = sym none ∙ old.stood in cc)

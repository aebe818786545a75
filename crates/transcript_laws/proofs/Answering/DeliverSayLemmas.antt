-- What the delivery of an interrupt and the timer tell of a thread: a handler starts in a free one.
use Rattle.std.proofs.Common.{◌≡◌, ℕ, zero, suc, ◌≤◌, inl, inr, Bool, true, false, List, [], ◌∷◌, ◌++◌, Option, Some, None, refl, sym, ap, ◌∙◌, subst, arith}
use Rattle.std.specs.Prelude.{◌==◌, if◌then◌else◌, is_some, nat_eq, slice_index_or}
use Rattle.std.specs.List.{All}
use Rattle.std.specs.Option.{option_map, option_map_or}
use Rattle.std.proofs.lemmas.Bool.{false≢true}
use Rattle.std.proofs.lemmas.Option.{none-some, same_Some}
use Rattle.xk_base.specs.declared.ids.Pid.{Pid}
use Rattle.xk_base.specs.declared.ids.ThreadId.{ThreadId}
use Rattle.xk_base.specs.declared.limits.TheConstants.{TIMER_INTERRUPT}
use Rattle.xk_base.specs.declared.records.What.{What}
use Rattle.xk_base.specs.declared.records.What.TheVariants.{Call, Reply, Retry, Byte, Fault, End, Irq, Gone}
use Rattle.xk_base.specs.Tables.Circle.{same_thread}
use Rattle.xk_base.specs.Tables.Counting.{put_at}
use Rattle.machine_model.specs.State.Changes.{Change, Delivery, Told, death_told, delivery_told, only, replies, settled}
use Rattle.machine_model.specs.State.Machine.{Claim, Idle, Joining, Machine, Process, Ready, Receiving, Thread, ThreadState, Waiting}
use Rattle.machine_model.specs.State.Threads.{handler_thread, put_thread, thread_id, with_answer}
use Rattle.machine_model.specs.Stepping.Interrupts.{delivered, delivered_lowest, handler_started, is_free_for_interrupt, is_idle, lowest_pending, pended}
use Rattle.machine_model.specs.Stepping.Timer.{is_due, raised_by_timer, stands_after_irq, timed, timed_if, timer_change, with_irq, with_irq_if}
use Rattle.machine_laws.proofs.Threading.ThreadPutLemmas.{alike}
use Rattle.transcript_laws.specs.AnsweredOnce.{Dead, DiesIf, Free, LeadsIf, Says, SayInTurn, Standing, standing, standing_by}
use Rattle.transcript_laws.specs.Answering.{awaits_reply, is_waiting}
use Rattle.transcript_laws.specs.RecordOrder.{IsBefore, rank}
use Rattle.transcript_laws.proofs.Answering.SayLemmas.{say_append, say_first, say_none, unanswered_say}
use Rattle.transcript_laws.proofs.Answering.StandLemmas.{put_stands, unanswered_stands}
use Rattle.transcript_laws.proofs.Ordering.ChangeLemmas.{IsOrdered}
use Rattle.transcript_laws.proofs.Ordering.PairLemmas.{pairs_head, pairs_tail}

-- what happened tells of each thread how it comes to stand as it does
abbrev pub Tells : (ThreadId → Standing) → Told → Type 0
Tells before done = (who : ThreadId) → SayInTurn who done.told (before who) (standing done.machine who)

-- each interrupt thread is of a living process
abbrev pub HandlersLive : Machine → Type 0
HandlersLive m = (pid : Pid) → is_some (m.threads (thread_id pid 1)) ≡ true → (m.process pid.0).alive ≡ true

-- ---- a delivery

-- it answers nobody, leaves all threads as they stand, and starts a handler in a free thread
pub record Delivers (m : Machine) (change : Change) : Type 0 where
  pub answers : (id : ThreadId) → is_some (change.answers id) ≡ false
  pub gone : change.gone ≡ None
  pub same : (id : ThreadId) → standing change.machine id ≡ standing m id
  pub stay : (id : ThreadId) → is_some (m.threads id) ≡ true → is_some (change.machine.threads id) ≡ true
  pub process : change.machine.process ≡ m.process
  pub free : (d : Delivery) → change.delivery ≡ Some d
      → (is_waiting (m.threads (thread_id d.pid 1)) ≡ false) × (is_some (m.threads (thread_id d.pid 1)) ≡ true)

only_delivers : (m : Machine) → Delivers m (only m)
only_delivers m = record {
  answers = λ id. refl;
  gone = refl;
  same = λ id. refl;
  stay = λ id some. some;
  process = refl;
  free = λ d e. absurd (none-some d e);
}

idle_waits : (s : ThreadState) → is_idle s ≡ true → awaits_reply s ≡ false
idle_waits Ready e = absurd (false≢true e)
idle_waits (Receiving serial) e = absurd (false≢true e)
idle_waits (Waiting number) e = absurd (false≢true e)
idle_waits (Joining tid) e = absurd (false≢true e)
idle_waits Idle e = refl

free_waits : (o : Option Thread) → option_map_or (λ t. is_idle t.state) o false ≡ true → (is_waiting o ≡ false) × (is_some o ≡ true)
free_waits None e = absurd (false≢true e)
free_waits (Some t) e = (idle_waits t.state e, refl)

-- a thread is put
put_stays : (m : Machine) (who : ThreadId) (t : Thread) (id : ThreadId) → is_some (m.threads id) ≡ true
    → is_some ((put_thread who (Some t) m).threads id) ≡ true
put_stays m who t id some = go (same_thread id who)
  where
    go : (b : Bool) → is_some (if b then Some t else m.threads id) ≡ true
    go true = refl
    go false = some

pub delivered_delivers : (m : Machine) (pid : Pid) → Delivers m (delivered pid m)
unfolding delivered
delivered_delivers m pid = go (is_free_for_interrupt m pid) refl
  where
    started : is_free_for_interrupt m pid ≡ true → (k : ℕ) (claim : Claim) → Delivers m (handler_started m pid k (Some claim))
    started free k claim = record {
      answers = λ id. refl;
      gone = refl;
      same = put_stands (record m { pending = put_at nat_eq m.pending k false }) (thread_id pid 1) (Some (handler_thread k claim))
          (free_waits (m.threads (thread_id pid 1)) free).0 refl;
      stay = put_stays (record m { pending = put_at nat_eq m.pending k false }) (thread_id pid 1) (handler_thread k claim);
      process = refl;
      free = λ d e.
          subst (λ (x : Delivery). (is_waiting (m.threads (thread_id x.pid 1)) ≡ false) × (is_some (m.threads (thread_id x.pid 1)) ≡ true))
          (same_Some (record { pid = pid; number = k }) d e) (free_waits (m.threads (thread_id pid 1)) free);
    }

    claimed : is_free_for_interrupt m pid ≡ true → (k : ℕ) (o : Option Claim) → Delivers m (handler_started m pid k o)
    claimed free k None = only_delivers m
    claimed free k (Some claim) = started free k claim

    lowest : is_free_for_interrupt m pid ≡ true → (o : Option ℕ) → Delivers m (delivered_lowest m pid o)
    lowest free None = only_delivers m
    lowest free (Some k) = claimed free k (m.claims k)

    go : (b : Bool) → is_free_for_interrupt m pid ≡ b → Delivers m (delivered_lowest m pid (if b then lowest_pending m pid else None))
    go true free = lowest free (lowest_pending m pid)
    go false free = only_delivers m

-- .. also where the interrupt comes in, and the cursor goes to the handler
pub pended_delivers : (m : Machine) (k : ℕ) (claim : Claim) → Delivers m (pended k claim m)
pended_delivers m k claim =
    let d = delivered_delivers (record m { pending = put_at nat_eq m.pending k true }) claim.pid in
    record { answers = d.answers; gone = d.gone; same = d.same; stay = d.stay; process = d.process; free = d.free }

-- ---- what it tells

-- an interrupt thread that waits for nothing is free
handler_free : (m : Machine) → HandlersLive m → (pid : Pid)
    → (is_waiting (m.threads (thread_id pid 1)) ≡ false) × (is_some (m.threads (thread_id pid 1)) ≡ true) → standing m (thread_id pid 1) ≡ Free
handler_free m lives pid e =
    ap (λ b. standing_by b (is_waiting (m.threads (thread_id pid 1)))) (lives pid e.1) ∙ ap (standing_by true) e.0

module _ (m : Machine) (change : Change) (d : Delivers m change) where
  pub settled_stands : (who : ThreadId) → standing (settled change).machine who ≡ standing m who
  unfolding settled
  settled_stands who =
      ap (standing_by (change.machine.process who.pid.0).alive) (unanswered_stands change.machine change.answers who (d.answers who))
      ∙ d.same who

  -- the threads that there are stay
  pub settled_stays : (id : ThreadId) → is_some (m.threads id) ≡ true → is_some ((settled change).machine.threads id) ≡ true
  unfolding settled
  settled_stays id some = go (change.machine.threads id) (d.stay id some)
    where
      go : (o : Option Thread) → is_some o ≡ true → is_some (option_map (with_answer (change.answers id)) o) ≡ true
      go None e = absurd (false≢true e)
      go (Some t) e = refl

  pub settled_process : (settled change).machine.process ≡ m.process
  unfolding settled
  settled_process = d.process

  delivery_says : (who : ThreadId) (o : Option Delivery) → ((x : Delivery) → o ≡ Some x → standing m (thread_id x.pid 1) ≡ Free)
      → SayInTurn who (delivery_told o) (standing m who) (standing m who)
  delivery_says who None free = say_none who (standing m who)
  delivery_says who (Some x) free =
      say_first who (Irq x.pid x.number) [] (standing m who) (standing m who) (standing m who) (go (same_thread (thread_id x.pid 1) who) refl)
      (say_none who (standing m who))
    where
      go : (b : Bool) → same_thread (thread_id x.pid 1) who ≡ b → LeadsIf b Free Free (standing m who) (standing m who)
      go true e =
          let f : standing m who ≡ Free = ap (standing m) (sym (alike (thread_id x.pid 1) who e)) ∙ free x refl in
          (f, f)
      go false e = refl

  all_say : HandlersLive m → (who : ThreadId) → SayInTurn who (replies change.machine.processes change.answers ++ (delivery_told change.delivery ++ death_told change.gone))
      (standing m who) (standing m who)
  all_say lives who =
      say_append who (replies change.machine.processes change.answers) (delivery_told change.delivery ++ death_told change.gone)
      (standing m who) (standing m who) (standing m who)
      (unanswered_say change.machine.processes change.answers who (standing m who) (d.answers who))
      (say_append who (delivery_told change.delivery) (death_told change.gone) (standing m who) (standing m who) (standing m who)
      (delivery_says who change.delivery (λ x e. handler_free m lives x.pid (d.free x e)))
      (subst (λ o. SayInTurn who (death_told o) (standing m who) (standing m who)) (sym d.gone) (say_none who (standing m who))))

  told_says : HandlersLive m → (who : ThreadId) → SayInTurn who (settled change).told (standing m who) (standing m who)
  unfolding settled
  told_says lives who = all_say lives who

  pub delivers_tells : HandlersLive m → Tells (standing m) (settled change)
  delivers_tells lives who = subst (SayInTurn who (settled change).told (standing m who)) (sym (settled_stands who)) (told_says lives who)

-- ---- the timer's interrupt in its place

-- a record of an interrupt or a death
abbrev IsEnding : What → Type 0
IsEnding what = 3 ≤ (rank what).kind

leads_free : (b : Bool) (a c : Standing) → LeadsIf b Free Free a c → c ≡ Free → a ≡ Free
leads_free true a c says e = says.0
leads_free false a c says e = says ∙ e

dies_free : (b : Bool) (a c : Standing) → DiesIf b a c → c ≡ Free → a ≡ Free
dies_free true a c says e = absurd (let d : Dead ≡ Free = sym says.1 ∙ e in cc)
dies_free false a c says e = says ∙ e

-- where such records leave the thread free, it was free
module _ (who : ThreadId) where
  ending_free : (what : What) (a c : Standing) → 3 ≤ (rank what).kind → Says who what a c → c ≡ Free → a ≡ Free
  ending_free (Call other words) a c late says e = absurd (omega arith)
  ending_free (Reply other words) a c late says e = absurd (omega arith)
  ending_free (Retry other) a c late says e = absurd (omega arith)
  ending_free (Byte other byte) a c late says e = absurd (omega arith)
  ending_free (Fault other cause value) a c late says e = absurd (omega arith)
  ending_free (End other) a c late says e = absurd (omega arith)
  ending_free (Irq pid k) a c late says e = leads_free (same_thread (thread_id pid 1) who) a c says e
  ending_free (Gone pid) a c late says e = dies_free (pid.0 == who.pid.0) a c says e

  endings_free : (told : List What) (a c : Standing) → All IsEnding told → SayInTurn who told a c → c ≡ Free → a ≡ Free
  unfolding SayInTurn
  endings_free [] a c late says e = says ∙ e
  endings_free (what ∷ told) a c late says e =
      ending_free what a says.0 (late 0 what (omega arith)) says.1 (endings_free told says.0 c (λ k d lt. late (suc k) d (omega arith)) says.2 e)

  -- where it is put before a record, those after it are of that kind
  after_late : (pid : Pid) (what : What) → stands_after_irq pid what ≡ true → 3 ≤ (rank what).kind
  after_late pid (Call other words) e = absurd (false≢true e)
  after_late pid (Reply other words) e = absurd (false≢true e)
  after_late pid (Retry other) e = absurd (false≢true e)
  after_late pid (Byte other byte) e = absurd (false≢true e)
  after_late pid (Fault other cause value) e = absurd (false≢true e)
  after_late pid (End other) e = absurd (false≢true e)
  after_late pid (Irq other k) e = omega arith
  after_late pid (Gone other) e = omega arith

  before_late : (a b : What) → IsBefore a b → 3 ≤ (rank a).kind → 3 ≤ (rank b).kind
  before_late a b (inl p) l = omega arith
  before_late a b (inr p) l = let e : (rank a).kind ≡ (rank b).kind = p.0 in omega arith

  inserted : (d : Delivery) (told : List What) (a c : Standing) → IsOrdered told → (same_thread (thread_id d.pid 1) who ≡ true → c ≡ Free)
      → SayInTurn who told a c → SayInTurn who (with_irq d told) a c
  unfolding SayInTurn
  inserted d [] a c ordered free says =
      say_first who (Irq d.pid d.number) [] a a c (leads (same_thread (thread_id d.pid 1) who) refl) says
    where
      is : a ≡ c
      is = says

      leads : (b : Bool) → same_thread (thread_id d.pid 1) who ≡ b → LeadsIf b Free Free a a
      leads true e = (is ∙ free e, is ∙ free e)
      leads false e = refl
  inserted d (what ∷ told) a c ordered free says =
      go (inserted d told says.0 c (pairs_tail IsBefore what told ordered) free says.2) (stands_after_irq d.pid what) refl
    where
      late : stands_after_irq d.pid what ≡ true → All IsEnding (what ∷ told)
      late e zero x lt = after_late d.pid what e
      late e (suc k) x lt =
          before_late what (slice_index_or told k x) (pairs_head IsBefore what told ordered k x (omega arith)) (after_late d.pid what e)

      leads : stands_after_irq d.pid what ≡ true → (b : Bool) → same_thread (thread_id d.pid 1) who ≡ b → LeadsIf b Free Free a a
      leads s true e =
          let f : a ≡ Free = endings_free (what ∷ told) a c (late s) says (free e) in
          (f, f)
      leads s false e = refl

      go : SayInTurn who (with_irq d told) says.0 c → (b : Bool) → stands_after_irq d.pid what ≡ b
          → SayInTurn who (if b then Irq d.pid d.number ∷ what ∷ told else what ∷ with_irq d told) a c
      go rest true e = say_first who (Irq d.pid d.number) (what ∷ told) a a c (leads e (same_thread (thread_id d.pid 1) who) refl) says
      go rest false e = say_first who what (with_irq d told) a says.0 c says.1 rest

-- what a step told, and then the timer
module _ (before : ThreadId → Standing) (done : Told) (lives : HandlersLive (timed done).machine) (ordered : IsOrdered done.told) (tells : Tells before done) where
  raised_delivers : (o : Option Claim) → Delivers done.machine (raised_by_timer o (record done.machine { compare = None }))
  raised_delivers None = record {
    answers = λ id. refl;
    gone = refl;
    same = λ id. refl;
    stay = λ id some. some;
    process = refl;
    free = λ d e. absurd (none-some d e);
  }
  raised_delivers (Some claim) =
      let d = pended_delivers (record done.machine { compare = None }) TIMER_INTERRUPT claim in
      record { answers = d.answers; gone = d.gone; same = d.same; stay = d.stay; process = d.process; free = d.free }

  delivers : Delivers done.machine (timer_change done.machine)
  delivers = raised_delivers (done.machine.claims TIMER_INTERRUPT)

  -- the handlers' processes lived before
  lived : HandlersLive (settled (timer_change done.machine)).machine → HandlersLive done.machine
  lived later pid some =
      ap (λ (p : ℕ → Process). (p pid.0).alive) (sym (settled_process done.machine (timer_change done.machine) delivers))
      ∙ later pid (settled_stays done.machine (timer_change done.machine) delivers (thread_id pid 1) some)

  with_delivery : (who : ThreadId) (o : Option Delivery) → ((d : Delivery) → o ≡ Some d → standing done.machine (thread_id d.pid 1) ≡ Free)
      → SayInTurn who (with_irq_if o done.told) (before who) (standing done.machine who)
  with_delivery who None free = tells who
  with_delivery who (Some d) free =
      inserted who d done.told (before who) (standing done.machine who) ordered
      (λ e. ap (standing done.machine) (sym (alike (thread_id d.pid 1) who e)) ∙ free d refl) (tells who)

  pub timed_tells : Tells before (timed done)
  timed_tells who = go (is_due done.machine.compare done.machine.steps) lives
    where
      go : (b : Bool) → HandlersLive (timed_if b done).machine → SayInTurn who (timed_if b done).told (before who) (standing (timed_if b done).machine who)
      go false alive = tells who
      go true alive =
          subst (SayInTurn who (timed_if true done).told (before who)) (sym (settled_stands done.machine (timer_change done.machine) delivers who))
          (with_delivery who (timer_change done.machine).delivery (λ d e. handler_free done.machine (lived alive) d.pid (delivers.free d e)))

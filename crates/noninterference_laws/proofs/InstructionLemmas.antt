-- An instruction leaves what is another's.
use Rattle.std.proofs.Common.{◌≡◌, ◌≢◌, ℕ, Bool, true, false, ◌⊎◌, inl, inr, Option, Some, None, refl, sym, ap, ◌∙◌, subst}
use Rattle.std.specs.Prelude.{nat_eq, if◌then◌else◌}
use Rattle.std.specs.Option.{option_and_then, option_map, option_map_or}
use Rattle.std.proofs.lemmas.Bool.{and_parts, eqb-true, false≢true}
use Rattle.xk_base.specs.declared.ids.Pid.{Pid}
use Rattle.xk_base.specs.declared.ids.Place.{Place}
use Rattle.xk_base.specs.declared.ids.ThreadId.{ThreadId}
use Rattle.xk_base.specs.declared.limits.TheConstants.{TIMER_INTERRUPT}
use Rattle.xk_base.specs.Tables.Circle.{same_thread}
use Rattle.xk_base.specs.Tables.Counting.{put_at}
use Rattle.ledger_model.specs.Ledger.{Homed, Ledger, Orphaned, PageName, contents_of}
use Rattle.ledger_model.specs.Loans.{bare}
use Rattle.ledger_model.specs.Places.{same_place}
use Rattle.ledger_model.specs.Steps.{write}
use Rattle.ledger_model.proofs.PlaceLemmas.{same_place-refl, same_place-true}
use Rattle.ledger_model.proofs.ReachingLemmas.{write_others}
use Rattle.ledger_model.proofs.Stepping.WritingLemmas.{write_bare}
use Rattle.machine_model.specs.Hart.Instructions.{CallsKernel, Executed, Next, Stores, StoresToConsole, StoresToTimer, Traps}
use Rattle.machine_model.specs.Runs.Isolation.{IsOneStore}
use Rattle.machine_model.specs.State.Changes.{settled}
use Rattle.machine_model.specs.State.Machine.{Claim, Machine, Thread}
use Rattle.machine_model.specs.State.Threads.{thread_id, with_answer, with_registers}
use Rattle.machine_model.specs.State.Views.{stored, timer_set}
use Rattle.machine_model.specs.Stepping.Acts.{does_instruction, executes, is_instruction}
use Rattle.machine_model.specs.Stepping.Interrupts.{delivered, delivered_lowest, handler_started, is_claim_of, is_free_for_interrupt, lowest_pending, with_handler_next}
use Rattle.machine_model.specs.Stepping.Step.{acted, counted, executed, step}
use Rattle.machine_model.specs.Stepping.Timer.{is_due, raised_by_timer, timed, timed_if}
use Rattle.machine_model.specs.State.Changes.{Told}
use Rattle.machine_model.proofs.Runs.TimerLemmas.{timed_raised}
use Rattle.machine_laws.proofs.Executing.InstructionStepLemmas.{instruction_stores}
use Rattle.machine_laws.proofs.Stepping.StepKindLemmas.{acted_as_executed}
use Rattle.machine_laws.proofs.Threading.ThreadStepLemmas.{step_of_thread, turned_to}
use Rattle.noninterference_laws.specs.Integrity.{InstructionLeavesOthers, IsLoadedByOther, is_of_timer}
use Rattle.noninterference_laws.proofs.PendingLemmas.{not_of_claimant, timed_pending}
use Rattle.noninterference_laws.proofs.ReachedPageLemmas.{stored_alone}

-- ---- the timer

pub unanswered : (o : Option Thread) → option_map (with_answer None) o ≡ o
unanswered None = refl
unanswered (Some t) = refl

-- the timer changes no thread but tid 1 of the process that claimed its interrupt
module _ (id : ThreadId) where
  chosen_other : (b : Bool) (t : Option Thread) (o : Option Thread) → b ≡ false → option_map (with_answer None) (if b then t else o) ≡ o
  chosen_other true t o e = absurd (false≢true (sym e))
  chosen_other false t o e = unanswered o

  started_other : (m : Machine) (pid : Pid) (k : ℕ) (o : Option Claim) → same_thread id (thread_id pid 1) ≡ false
      → (settled (with_handler_next (handler_started m pid k o))).machine.threads id ≡ m.threads id
  unfolding settled
  started_other m pid k None e = unanswered (m.threads id)
  started_other m pid k (Some claim) e = chosen_other (same_thread id (thread_id pid 1)) _ (m.threads id) e

  lowest_other : (m : Machine) (pid : Pid) (o : Option ℕ) → same_thread id (thread_id pid 1) ≡ false
      → (settled (with_handler_next (delivered_lowest m pid o))).machine.threads id ≡ m.threads id
  unfolding settled
  lowest_other m pid None e = unanswered (m.threads id)
  lowest_other m pid (Some k) e = started_other m pid k (m.claims k) e

  pub delivery_other : (m : Machine) (pid : Pid) → same_thread id (thread_id pid 1) ≡ false
      → (settled (with_handler_next (delivered pid m))).machine.threads id ≡ m.threads id
  unfolding delivered
  delivery_other m pid e = lowest_other m pid (if is_free_for_interrupt m pid then lowest_pending m pid else None) e

  raise_other : (m : Machine) (o : Option Claim) → option_map_or (λ claim. same_thread id (thread_id claim.pid 1)) o false ≡ false
      → (settled (raised_by_timer o (record m { compare = None }))).machine.threads id ≡ m.threads id
  unfolding settled
  raise_other m None e = unanswered (m.threads id)
  raise_other m (Some claim) e =
      delivery_other (record m { compare = None; pending = put_at nat_eq m.pending TIMER_INTERRUPT true }) claim.pid e

  timed_if_other : (b : Bool) (done : Told) → is_of_timer done.machine id ≡ false
      → (timed_if b done).machine.threads id ≡ done.machine.threads id
  timed_if_other false done e = refl
  timed_if_other true done e = raise_other done.machine (done.machine.claims TIMER_INTERRUPT) e

  pub timed_other : (done : Told) → is_of_timer done.machine id ≡ false → (timed done).machine.threads id ≡ done.machine.threads id
  timed_other done e = timed_if_other (is_due done.machine.compare done.machine.steps) done e

-- ---- the bytes of others

pub same_page : PageName → PageName → Bool
same_page (Homed p) (Homed q) = same_place p q
same_page (Homed p) (Orphaned q) = false
same_page (Orphaned p) (Homed q) = false
same_page (Orphaned p) (Orphaned q) = same_place p q

pub same_page_true : (a b : PageName) → same_page a b ≡ true → a ≡ b
unfolding same_page
same_page_true (Homed p) (Homed q) e = ap (λ x. Homed x) (same_place-true p q e)
same_page_true (Homed p) (Orphaned q) e = absurd (false≢true e)
same_page_true (Orphaned p) (Homed q) e = absurd (false≢true e)
same_page_true (Orphaned p) (Orphaned q) e = ap (λ x. Orphaned x) (same_place-true p q e)

same_page_self : (p : Place) → same_place p p ≡ true
same_page_self p = same_place-refl p

pub same_page_at : (a b : PageName) → a ≡ b → same_page a b ≡ true
unfolding same_page
same_page_at a b e = subst (λ x. same_page a x ≡ true) e (self a)
  where
    self : (x : PageName) → same_page x x ≡ true
    self (Homed p) = same_page_self p
    self (Orphaned p) = same_page_self p

module _ (pid : Pid) (m : Machine) where
  store_keeps : (after : Ledger) → IsOneStore pid m after → (page : PageName) → IsLoadedByOther pid m page
      → contents_of after page ≡ contents_of m.ledger page
  store_keeps after one page seen = go (same_page page one.page) refl
    where
      written : contents_of after page ≡ contents_of (write one.page one.offset one.bytes m.ledger) page
      written = ap (λ l. contents_of l page) one.written

      go : (b : Bool) → same_page page one.page ≡ b → contents_of after page ≡ contents_of m.ledger page
      go true e =
          let at : one.store.place ≡ seen.place =
          stored_alone m.processes m.ledger one.store.place seen.place page
          (one.store.reached ∙ ap (λ x. Some x) (sym (same_page_true page one.page e))) seen.reached in
          absurd (seen.other (sym (ap (λ (p : Place). p.pid) at) ∙ one.own))
      go false e =
          written
          ∙ write_others one.page page one.offset one.bytes m.ledger (λ same. false≢true (sym e ∙ same_page_at page one.page same))

  pub bytes_kept : (after : Ledger) → (after ≡ m.ledger) ⊎ IsOneStore pid m after → (page : PageName) → IsLoadedByOther pid m page
      → contents_of after page ≡ contents_of m.ledger page
  bytes_kept after (inl same) page seen = ap (λ l. contents_of l page) same
  bytes_kept after (inr one) page seen = store_keeps after one page seen

  pub pages_kept : (after : Ledger) → (after ≡ m.ledger) ⊎ IsOneStore pid m after → bare after ≡ bare m.ledger
  pages_kept after (inl same) = ap bare same
  pages_kept after (inr one) = ap bare one.written ∙ write_bare one.page one.offset one.bytes m.ledger

-- ---- the step

-- the thread that does the instruction
record IsDone (m : Machine) (who : ThreadId) : Type 0 where
  thread : Thread
  there : m.threads who ≡ Some thread
  executed : Executed
  does : executes m who thread ≡ Some executed
  is : is_instruction executed ≡ true

is_done : (m : Machine) (who : ThreadId) → does_instruction m who ≡ true → IsDone m who
unfolding does_instruction
is_done m who d = go (m.threads who) refl d
  where
    of_thread : (t : Thread) → m.threads who ≡ Some t → (o : Option Executed) → executes m who t ≡ o
        → option_map_or is_instruction o false ≡ true → IsDone m who
    of_thread t q None r i = absurd (false≢true i)
    of_thread t q (Some e) r i = record { thread = t; there = q; executed = e; does = r; is = i }

    go : (o : Option Thread) → m.threads who ≡ o → option_map_or is_instruction (option_and_then (executes m who) o) false ≡ true
        → IsDone m who
    go None q r = absurd (false≢true r)
    go (Some t) q r = of_thread t q (executes m who t) refl r

-- what an instruction leaves before the timer
pub record Leaves (who : ThreadId) (m after : Machine) : Type 0 where
  pub threads : (id : ThreadId) → same_thread id who ≡ false → after.threads id ≡ m.threads id
  pub process : after.process ≡ m.process
  pub servers : after.servers ≡ m.servers
  pub claims : after.claims ≡ m.claims
  pub pending : after.pending ≡ m.pending

-- .. and the thread that does it
pub record LeftBefore (m : Machine) (who : ThreadId) : Type 0 where
  pub thread : Thread
  pub there : m.threads who ≡ Some thread
  pub left : Leaves who m (acted (turned_to who m) thread).machine

module _ (m : Machine) (who : ThreadId) (t : Thread) where
  put_other : (change : Thread → Thread) (id : ThreadId) → same_thread id who ≡ false
      → put_at same_thread m.threads who (option_map change (m.threads who)) id ≡ m.threads id
  put_other change id e = ap (λ b. if b then option_map change (m.threads who) else m.threads id) e

  executed_leaves : (x : Executed) → is_instruction x ≡ true → Leaves who m (executed (turned_to who m) t x).machine
  unfolding stored timer_set
  executed_leaves (Next regs pc) i =
      record { threads = put_other (with_registers regs pc); process = refl; servers = refl; claims = refl; pending = refl }
  executed_leaves (Stores address width value regs pc) i =
      record { threads = put_other (with_registers regs pc); process = refl; servers = refl; claims = refl; pending = refl }
  executed_leaves (StoresToConsole offset value regs pc) i =
      record { threads = put_other (with_registers regs pc); process = refl; servers = refl; claims = refl; pending = refl }
  executed_leaves (StoresToTimer offset width value regs pc) i =
      record { threads = put_other (with_registers regs pc); process = refl; servers = refl; claims = refl; pending = refl }
  executed_leaves CallsKernel i = absurd (false≢true i)
  executed_leaves (Traps cause value) i = absurd (false≢true i)

-- a thread of another process is another thread
pub other_thread : (id who : ThreadId) → id.pid ≢ who.pid → same_thread id who ≡ false
other_thread id who other = go (same_thread id who) refl
  where
    go : (b : Bool) → same_thread id who ≡ b → b ≡ false
    go false e = refl
    go true e =
        let same : id.pid.0 ≡ who.pid.0 = eqb-true id.pid.0 who.pid.0 (and_parts (nat_eq id.pid.0 who.pid.0) (nat_eq id.tid.0 who.tid.0) e).0 in
        absurd (other (λ i. record { 0 = same i }))

pub left_before : (m : Machine) (who : ThreadId) → does_instruction m who ≡ true → LeftBefore m who
left_before m who does = record {
  thread = by.thread;
  there = by.there;
  left =
      subst (λ (told : Told). Leaves who m told.machine) (sym (acted_as_executed m who by.thread by.executed by.does))
      (executed_leaves m who by.thread by.executed by.is);
}
  where
    by : IsDone m who
    by = is_done m who does

pub instruction_leaves : InstructionLeavesOthers
instruction_leaves m who h acts does = record {
  pages = pages_kept who.pid m (step m).machine.ledger stores;
  bytes = bytes_kept who.pid m (step m).machine.ledger stores;
  threads = λ id other untimed.
      ap (λ (x : Machine). x.threads id) is
      ∙ (timed_other id done (ap (λ c. option_map_or (λ claim. same_thread id (thread_id claim.pid 1)) c false) (ap (λ f. f TIMER_INTERRUPT) left.claims) ∙ untimed)
      ∙ left.threads id (other_thread id who other));
  process = ap (λ (x : Machine). x.process) stepped ∙ left.process;
  servers = ap (λ (x : Machine). x.servers) stepped ∙ left.servers;
  claims = ap (λ (x : Machine). x.claims) stepped ∙ left.claims;
  pending = λ k claim there untimed.
      ap (λ (x : Machine). x.pending k) is
      ∙ (timed_pending done k claim (ap (λ (f : ℕ → Option Claim). f k) left.claims ∙ there) (not_timer claim untimed)
      ∙ ap (λ (f : ℕ → Bool). f k) left.pending);
}
  where
    stores : ((step m).machine.ledger ≡ m.ledger) ⊎ IsOneStore who.pid m (step m).machine.ledger
    stores = instruction_stores m who h acts does

    by : LeftBefore m who
    by = left_before m who does

    left : Leaves who m (acted (turned_to who m) by.thread).machine
    left = by.left

    done : Told
    done = counted (turned_to who m) (Some by.thread) (acted (turned_to who m) by.thread)

    not_timer : (claim : Claim) → is_of_timer m (thread_id claim.pid 1) ≡ false → is_claim_of claim.pid (done.machine.claims TIMER_INTERRUPT) ≡ false
    not_timer claim untimed =
        ap (λ (f : ℕ → Option Claim). is_claim_of claim.pid (f TIMER_INTERRUPT)) left.claims
        ∙ not_of_claimant claim.pid (m.claims TIMER_INTERRUPT) untimed

    is : (step m).machine ≡ (timed done).machine
    is = step_of_thread m who by.thread acts by.there

    stepped : (step m).machine ≡ record done.machine { cursor = (timed_raised done).cursor; threads = (timed_raised done).threads; pending = (timed_raised done).pending; compare = (timed_raised done).compare }
    stepped = is ∙ (timed_raised done).is

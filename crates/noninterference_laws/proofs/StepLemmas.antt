-- Faults, ends of threads and of handlers, kills, and every other cause keep what is another's.
use Rattle.std.proofs.Common.{◌≡◌, ◌≢◌, ℕ, Bool, ◌&&◌, true, false, Option, Some, None, refl, sym, ap, ◌∙◌, subst}
use Rattle.std.specs.Prelude.{nat_eq, if◌then◌else◌}
use Rattle.std.specs.Option.{option_map, option_map_or, option_or}
use Rattle.std.proofs.lemmas.Bool.{false≢true}
use Rattle.xk_base.specs.declared.ids.Pid.{Pid}
use Rattle.xk_base.specs.declared.ids.ThreadId.{ThreadId}
use Rattle.xk_base.specs.Calls.Registers.{arguments_of, reg_at}
use Rattle.syscall_codec.specs.ReplyWords.{scalar1_words}
use Rattle.xk_base.specs.Tables.Circle.{same_thread}
use Rattle.xk_base.specs.Tables.Counting.{put_at}
use Rattle.machine_model.specs.Ending.Ends.{death, end_with_last_thread, handler_ended, has_threads, is_joining, joiners_answered, thread_ended}
use Rattle.machine_model.specs.Hart.Instructions.{CallsKernel, Executed, Next, Stores, StoresToConsole, StoresToTimer, Traps}
use Rattle.machine_model.specs.Runs.Matched.{Matched}
use Rattle.machine_model.specs.Runs.Moments.{ByIrq, ByKill, ByPick, ByStep, ByTurn}
use Rattle.machine_model.specs.State.Changes.{Change, settled}
use Rattle.machine_model.specs.State.Machine.{Claim, Idle, Machine, Thread}
use Rattle.machine_model.specs.State.Order.{actor, turn}
use Rattle.machine_model.specs.State.Threads.{put_thread, thread_id, with_state}
use Rattle.machine_model.specs.Stepping.Acts.{does_instruction, executes}
use Rattle.machine_model.specs.Stepping.Events.{killed, killed_if, picked, raised, raised_if}
use Rattle.machine_model.specs.Stepping.Interrupts.{delivered, delivered_lowest, handler_started, is_claim_of, is_free_for_interrupt, lowest_pending}
use Rattle.machine_model.specs.Stepping.Reservations.{unreserved}
use Rattle.machine_model.specs.Stepping.Step.{acted, step}
use Rattle.machine_model.proofs.Runs.TimerLemmas.{pended_raised}
use Rattle.machine_laws.proofs.Stepping.StepKindLemmas.{is_call, is_done}
use Rattle.machine_laws.proofs.Threading.ThreadAnswerLemmas.{same_thread-self}
use Rattle.machine_laws.proofs.Threading.ThreadStepLemmas.{turned_to}
use Rattle.machine_laws.proofs.Stepping.CauseCaseLemmas.{ActCase, EndsHandler, EndsThread, Instructs, act_of}
use Rattle.noninterference_laws.proofs.InstructionLemmas.{delivery_other, instruction_leaves, other_thread, unanswered}
use Rattle.noninterference_laws.proofs.PendingLemmas.{lowest_claimed, pended_pending, started_pending}
use Rattle.noninterference_laws.specs.Causes.{AllKeepOthers, LeavesAll, by_kill, by_step, is_of_claimant}
use Rattle.noninterference_laws.specs.Fates.{Doing, MadeCall}
use Rattle.noninterference_laws.specs.KeptOthers.{KeepsOthers}
use Rattle.noninterference_laws.proofs.AnswerLemmas.{either_why, not_why}
use Rattle.noninterference_laws.proofs.CallLemmas.{called_parts}
use Rattle.noninterference_laws.proofs.DeathLemmas.{dead_claims, dead_pages, dead_pending, dead_processes, dead_servers, dead_threads}
use Rattle.noninterference_laws.proofs.OtherLemmas.{apart_pid}
use Rattle.noninterference_laws.proofs.PartLemmas.{KeepsChange, KeepsParts, LeavesParts, left_parts, settled_parts, step_others}
use Rattle.machine_model.specs.State.Changes.{Told}
use Rattle.machine_model.specs.Stepping.Step.{executed}

-- ---- deaths

module _ (m : Machine) (h : Matched m) (who : ThreadId) (call : Option MadeCall) where
  abbrev here : Machine
  here = turned_to who m

  abbrev doing : Doing
  doing = record { pid = who.pid; call = call; before = m }

  died : (threads : ThreadId → Option Thread) → ((id : ThreadId) → id.pid ≢ who.pid → threads id ≡ m.threads id)
      → KeepsChange doing (death who.pid (record here { threads = threads }))
  died threads others = record {
    threads = dead_threads m h who.pid who m.reserved threads others call;
    process = dead_processes m h who.pid who m.reserved threads others call;
    claims = dead_claims m h who.pid who m.reserved threads others call;
    pending = dead_pending m h who.pid who m.reserved threads others call;
    servers = dead_servers m h who.pid who m.reserved threads others call;
    pages = dead_pages m h who.pid who m.reserved threads others call;
  }

  -- ---- ends of threads

  abbrev without : ThreadId → Option Thread
  without = put_at same_thread m.threads who None

  without_other : (id : ThreadId) → id.pid ≢ who.pid → without id ≡ m.threads id
  without_other id other = ap (λ b. if b then None else m.threads id) (other_thread id who other)

  last_keeps : (b : Bool) → KeepsChange doing (end_with_last_thread b who.pid (put_thread who None here))
  last_keeps false = died without without_other
  last_keeps true = record {
    threads = record { same = without_other; why = λ id other. not_why doing m.servers id None refl };
    process = λ other apart. refl;
    claims = λ k claim other. (λ f. f, λ f. f);
    pending = λ k claim there other. refl;
    servers = (left_parts doing (put_thread who None here) bare).servers;
    pages = (left_parts doing (put_thread who None here) bare).pages;
  }
    where
      bare : LeavesParts doing (put_thread who None here)
      bare = record { threads = without_other; process = refl; claims = refl; pending = λ k claim there other. refl; servers = refl; ledger = refl }

  -- who joins the thread is of its process
  not_joining : (a0 : ℕ) (id : ThreadId) → id.pid ≢ who.pid → joiners_answered here who a0 id ≡ None
  not_joining a0 id other = go (m.threads id) refl
    where
      go : (o : Option Thread) → m.threads id ≡ o → joiners_answered here who a0 id ≡ None
      go None e = rw e refl
      go (Some t) e = rw e (ap (λ b. if b && is_joining who.tid t.state then Some (scalar1_words a0) else None) (apart_pid id.pid who.pid other))

  ended_keeps : (a0 : ℕ) → KeepsChange doing (thread_ended who a0 here)
  unfolding thread_ended
  ended_keeps a0 = with_joiners (end_with_last_thread (has_threads (put_thread who None here) who.pid) who.pid (put_thread who None here)) (last_keeps (has_threads (put_thread who None here) who.pid))
    where
      with_joiners : (change : Change) → KeepsChange doing change
          → KeepsChange doing (record change { answers = λ id. option_or (joiners_answered here who a0 id) (change.answers id) })
      with_joiners change keeps = record {
        threads = record {
          same = keeps.threads.same;
          why = λ id other.
              either_why doing change.machine.servers id (joiners_answered here who a0 id) (change.answers id)
              (not_why doing change.machine.servers id (joiners_answered here who a0 id) (not_joining a0 id other)) (keeps.threads.why id other);
        };
        process = keeps.process;
        claims = keeps.claims;
        pending = keeps.pending;
        servers = keeps.servers;
        pages = keeps.pages;
      }

  -- ---- ends of handlers

  started_leaves : (x : Machine) (k : ℕ) → is_claim_of who.pid (x.claims k) ≡ true → (o : Option Claim) → LeavesParts doing x
      → LeavesParts doing (settled (handler_started x who.pid k o)).machine
  unfolding settled
  started_leaves x k own None leaves = record {
    threads = λ id other. unanswered (x.threads id) ∙ leaves.threads id other;
    process = leaves.process;
    claims = leaves.claims;
    pending = leaves.pending;
    servers = leaves.servers;
    ledger = leaves.ledger;
  }
  started_leaves x k own (Some c) leaves = record {
    threads = λ id other. unanswered _ ∙ (rw (other_thread id (thread_id who.pid 1) other) (leaves.threads id other));
    process = leaves.process;
    claims = leaves.claims;
    pending = λ j claim there other.
        started_pending x who.pid j claim (ap (λ all. all j) leaves.claims ∙ there) other k own (Some c) ∙ leaves.pending j claim there other;
    servers = leaves.servers;
    ledger = leaves.ledger;
  }

  lowest_leaves : (x : Machine) (o : Option ℕ) → (if is_free_for_interrupt x who.pid then lowest_pending x who.pid else None) ≡ o
      → LeavesParts doing x → LeavesParts doing (settled (delivered_lowest x who.pid o)).machine
  unfolding settled
  lowest_leaves x None e leaves = record {
    threads = λ id other. unanswered (x.threads id) ∙ leaves.threads id other;
    process = leaves.process;
    claims = leaves.claims;
    pending = leaves.pending;
    servers = leaves.servers;
    ledger = leaves.ledger;
  }
  lowest_leaves x (Some k) e leaves =
      started_leaves x k (lowest_claimed x who.pid (is_free_for_interrupt x who.pid) k e) (x.claims k) leaves

  handled_leaves : LeavesParts doing (settled (handler_ended who.pid here)).machine
  unfolding handler_ended delivered
  handled_leaves =
      lowest_leaves idle (if is_free_for_interrupt idle who.pid then lowest_pending idle who.pid else None) refl
      (record {
        threads = λ id other. rw (other_thread id (thread_id who.pid 1) other) refl;
        process = refl;
        claims = refl;
        pending = λ k claim there other. refl;
        servers = refl;
        ledger = refl;
      })
    where
      idle : Machine
      idle = record here { threads = put_at same_thread m.threads (thread_id who.pid 1) (option_map (with_state Idle) (m.threads (thread_id who.pid 1))) }

-- ---- steps

-- what a step that isn't an instruction does before the timer: it keeps all that is another's
pub record BeforeTimer (m : Machine) (who : ThreadId) : Type 0 where
  pub thread : Thread
  pub there : m.threads who ≡ Some thread
  pub keeps : KeepsParts (by_step who m) (acted (turned_to who m) thread).machine

pub step_before : (m : Machine) (who : ThreadId) → Matched m → actor m ≡ Some who → does_instruction m who ≡ false → BeforeTimer m who
step_before m who h acts none =
    let act = act_of m who acts in
    record { thread = act.thread; there = act.there; keeps = act_keeps act.thread act.there (acted (turned_to who m) act.thread) act.case }
  where
    executed_keeps : (t : Thread) (x : Executed) → m.threads who ≡ Some t → executes m who t ≡ Some x
        → KeepsParts (by_step who m) (executed (turned_to who m) t x).machine
    executed_keeps t (Next regs pc) there e = absurd (false≢true (sym none ∙ is_done m who t there (Next regs pc) e refl))
    executed_keeps t (Stores address width value regs pc) there e =
        absurd (false≢true (sym none ∙ is_done m who t there (Stores address width value regs pc) e refl))
    executed_keeps t (StoresToConsole offset value regs pc) there e =
        absurd (false≢true (sym none ∙ is_done m who t there (StoresToConsole offset value regs pc) e refl))
    executed_keeps t (StoresToTimer offset width value regs pc) there e =
        absurd (false≢true (sym none ∙ is_done m who t there (StoresToTimer offset width value regs pc) e refl))
    executed_keeps t CallsKernel there e =
        subst
        (λ c. KeepsParts (record { pid = who.pid; call = option_map (λ words. record { who = who; words = words }) c; before = m })
        (executed (turned_to who m) t CallsKernel).machine)
        (sym (is_call m who t there e)) (called_parts m h who (arguments_of t.regs))
    executed_keeps t (Traps cause value) there e =
        settled_parts (by_step who m) (death who.pid (turned_to who m)) (died m h who (by_step who m).call m.threads (λ id other. refl))

    act_keeps : (t : Thread) → m.threads who ≡ Some t → (done : Told) → ActCase m who t done → KeepsParts (by_step who m) done.machine
    act_keeps t there _ (Instructs x e) = executed_keeps t x there e
    act_keeps t there _ (EndsThread ends) =
        settled_parts (by_step who m) (thread_ended who (reg_at t.regs 10) (turned_to who m)) (ended_keeps m h who (by_step who m).call (reg_at t.regs 10))
    act_keeps t there _ (EndsHandler ends) =
        left_parts (by_step who m) (settled (handler_ended who.pid (turned_to who m))).machine (handled_leaves m h who (by_step who m).call)

step_keeps : (m : Machine) (who : ThreadId) → Matched m → actor m ≡ Some who → does_instruction m who ≡ false
    → KeepsOthers (by_step who m) (step m).machine
step_keeps m who h acts none =
    let before : BeforeTimer m who = step_before m who h acts none in
    step_others (by_step who m) m who before.thread acts before.there before.keeps

-- ---- kills

-- without a timer nothing is left out
untimed : (by : Doing) (after : Machine) → KeepsParts by after → KeepsOthers by after
untimed by after keeps = record {
  threads = λ id other none. keeps.threads id other;
  process = keeps.process;
  claims = keeps.claims;
  pending = λ k claim there other none. keeps.pending k claim there other;
  servers = keeps.servers;
  homes = keeps.pages.homes;
  orphans = keeps.pages.orphans;
}

pub kill_parts : (pid : Pid) (m : Machine) → Matched m → KeepsParts (by_kill pid m) (killed pid m).machine
unfolding killed
kill_parts pid m h = go (m.process pid.0).alive
  where
    go : (b : Bool) → KeepsParts (by_kill pid m) (killed_if b pid (unreserved m)).machine
    go false =
        left_parts (by_kill pid m) (unreserved m)
        (record {
          threads = λ id other. refl;
          process = refl;
          claims = refl;
          pending = λ k claim there other. refl;
          servers = refl;
          ledger = refl;
        })
    go true =
        settled_parts (by_kill pid m) (death pid (unreserved m)) (record {
          threads = dead_threads m h pid m.cursor None m.threads (λ id other. refl) None;
          process = dead_processes m h pid m.cursor None m.threads (λ id other. refl) None;
          claims = dead_claims m h pid m.cursor None m.threads (λ id other. refl) None;
          pending = dead_pending m h pid m.cursor None m.threads (λ id other. refl) None;
          servers = dead_servers m h pid m.cursor None m.threads (λ id other. refl) None;
          pages = dead_pages m h pid m.cursor None m.threads (λ id other. refl) None;
        })

kill_keeps : (pid : Pid) (m : Machine) → Matched m → KeepsOthers (by_kill pid m) (killed pid m).machine
kill_keeps pid m h = untimed (by_kill pid m) (killed pid m).machine (kill_parts pid m h)

-- ---- interrupts

not_claimant : (c claim : Claim) → same_thread (thread_id c.pid 1) (thread_id claim.pid 1) ≡ false → c.pid ≢ claim.pid
not_claimant c claim other same =
    false≢true (sym other ∙ (ap (λ p. same_thread (thread_id p 1) (thread_id claim.pid 1)) same ∙ same_thread-self (thread_id claim.pid 1)))

irq_leaves : (k : ℕ) (m : Machine) → LeavesAll (is_of_claimant k m) m (raised k m).machine
unfolding raised
irq_leaves k m = go (m.claims k) refl
  where
    go : (o : Option Claim) → m.claims k ≡ o
        → LeavesAll (λ id. option_map_or (λ claim. same_thread id (thread_id claim.pid 1)) o false) m (raised_if k o (unreserved m)).machine
    go None e = record {
      threads = λ id other. refl;
      process = refl;
      claims = refl;
      servers = refl;
      ledger = refl;
      pending = λ j c there other. refl;
    }
    go (Some claim) e =
        let is = pended_raised k claim (unreserved m) in
        record {
          threads = λ id other. delivery_other id (record (unreserved m) { pending = put_at nat_eq m.pending k true }) claim.pid other;
          process = ap (λ (x : Machine). x.process) is.is;
          claims = ap (λ (x : Machine). x.claims) is.is;
          servers = ap (λ (x : Machine). x.servers) is.is;
          ledger = ap (λ (x : Machine). x.ledger) is.is;
          pending = λ j c there other. pended_pending j c (unreserved m) k claim there e (not_claimant c claim other);
        }

-- ---- whatever it is

-- where the cursor alone goes on
cursor_leaves : (m : Machine) (cursor : ThreadId) → LeavesAll (λ id. false) m (record m { cursor = cursor })
cursor_leaves m cursor = record {
  threads = λ id other. refl;
  process = refl;
  claims = refl;
  servers = refl;
  ledger = refl;
  pending = λ k claim there other. refl;
}

pub all_keep : AllKeepOthers
unfolding picked turn
all_keep ByStep m h = λ who acts. record { instruction = instruction_leaves m who h acts; other = step_keeps m who h acts }
all_keep (ByPick who) m h = cursor_leaves m (picked who m).machine.cursor
all_keep (ByIrq k) m h = irq_leaves k m
all_keep (ByKill pid) m h = kill_keeps pid m h
all_keep ByTurn m h = cursor_leaves m (turn m).cursor

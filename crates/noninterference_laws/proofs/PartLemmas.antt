-- What is kept of others, all parts together: by a change before and after its answers are given, by the count of the step, and by the
-- timer that comes last.
use Rattle.std.proofs.Common.{◌≡◌, ◌≢◌, Bool, true, false, Option, Some, None, refl, sym, ap, ◌∙◌, subst}
use Rattle.std.specs.Prelude.{◌==◌}
use Rattle.std.specs.Option.{option_map_or}
use Rattle.std.proofs.lemmas.Bool.{eqb-true, eq-eqb, false≢true}
use Rattle.xk_base.specs.declared.ids.Pid.{Pid}
use Rattle.xk_base.specs.declared.ids.ThreadId.{ThreadId}
use Rattle.xk_base.specs.declared.limits.TheConstants.{TIMER_INTERRUPT}
use Rattle.xk_base.specs.Tables.Circle.{same_thread}
use Rattle.ledger_model.specs.Ledger.{Ledger}
use Rattle.machine_model.specs.State.Changes.{Change, Told, settled}
use Rattle.machine_model.specs.State.Machine.{Claim, Machine, Thread}
use Rattle.machine_model.specs.State.Order.{actor}
use Rattle.machine_model.specs.State.Threads.{thread_id}
use Rattle.machine_model.specs.Stepping.Interrupts.{is_claim_of}
use Rattle.machine_model.specs.Stepping.Step.{acted, counted, step}
use Rattle.machine_model.specs.Stepping.Timer.{timed}
use Rattle.machine_model.proofs.Runs.TimerLemmas.{timed_raised}
use Rattle.machine_laws.proofs.Threading.ThreadStepLemmas.{step_of_thread, turned_to}
use Rattle.noninterference_laws.specs.Integrity.{is_of_timer}
use Rattle.noninterference_laws.proofs.InstructionLemmas.{other_thread, timed_other}
use Rattle.noninterference_laws.proofs.PendingLemmas.{timed_pending}
use Rattle.noninterference_laws.specs.Fates.{Doing, OrphanStays, PageStays, ServerStays, ThreadFate, ThreadStays}
use Rattle.noninterference_laws.specs.KeptOthers.{KeepsOthers, claims_timer}
use Rattle.noninterference_laws.proofs.AnswerLemmas.{answered_fate}
use Rattle.noninterference_laws.proofs.OtherLemmas.{same_pid}
use Rattle.noninterference_laws.proofs.PageLemmas.{KeepsPages}
use Rattle.noninterference_laws.proofs.PlainPartLemmas.{KeepsClaims, KeepsPending, KeepsProcesses}
use Rattle.noninterference_laws.proofs.ServerLemmas.{KeepsServers}
use Rattle.noninterference_laws.proofs.ThreadLemmas.{KeepsThreads}

-- ---- all parts of a change, before the timer

-- what becomes of all that is another's, the timer apart
pub record KeepsParts (doing : Doing) (after : Machine) : Type 0 where
  pub threads : (id : ThreadId) → id.pid ≢ doing.pid → ThreadFate doing after.servers id (after.threads id)
  pub process : KeepsProcesses doing.before doing.pid after
  pub claims : KeepsClaims doing.before doing.pid after
  pub pending : KeepsPending doing.before doing.pid after
  pub servers : KeepsServers doing after
  pub pages : KeepsPages doing.pid doing.before.ledger after.ledger

-- .. of a change
pub record KeepsChange (doing : Doing) (change : Change) : Type 0 where
  pub threads : KeepsThreads doing change
  pub process : KeepsProcesses doing.before doing.pid change.machine
  pub claims : KeepsClaims doing.before doing.pid change.machine
  pub pending : KeepsPending doing.before doing.pid change.machine
  pub servers : KeepsServers doing change.machine
  pub pages : KeepsPages doing.pid doing.before.ledger change.machine.ledger

pub settled_parts : (doing : Doing) (change : Change) → KeepsChange doing change → KeepsParts doing (settled change).machine
unfolding settled
settled_parts doing change keeps = record {
  threads = λ id other.
      answered_fate doing change.machine.servers id (change.answers id) (change.machine.threads id) (keeps.threads.same id other)
      (keeps.threads.why id other);
  process = keeps.process;
  claims = keeps.claims;
  pending = keeps.pending;
  servers = keeps.servers;
  pages = keeps.pages;
}

-- the count of the step and the reservation touch nothing of it
pub counted_parts : (doing : Doing) (m : Machine) (t : Thread) (told : Told) → KeepsParts doing told.machine
    → KeepsParts doing (counted m (Some t) told).machine
counted_parts doing m t told keeps = record {
  threads = keeps.threads;
  process = keeps.process;
  claims = keeps.claims;
  pending = keeps.pending;
  servers = keeps.servers;
  pages = keeps.pages;
}

-- ---- what touches nothing of another

pub record LeavesParts (doing : Doing) (after : Machine) : Type 0 where
  pub threads : (id : ThreadId) → id.pid ≢ doing.pid → after.threads id ≡ doing.before.threads id
  pub process : after.process ≡ doing.before.process
  pub claims : after.claims ≡ doing.before.claims
  pub pending : KeepsPending doing.before doing.pid after
  pub servers : after.servers ≡ doing.before.servers
  pub ledger : after.ledger ≡ doing.before.ledger

pub left_parts : (doing : Doing) (after : Machine) → LeavesParts doing after → KeepsParts doing after
left_parts doing after leaves = record {
  threads = λ id other. ThreadStays (leaves.threads id other);
  process = λ other apart. ap (λ all. all other.0) leaves.process;
  claims = λ k claim other. (λ f. ap (λ all. all k) (sym leaves.claims) ∙ f, λ f. ap (λ all. all k) leaves.claims ∙ f);
  pending = leaves.pending;
  servers = λ n. ServerStays (ap (λ all. all n) leaves.servers);
  pages = record {
    homes = λ p other. PageStays (ap (λ (l : Ledger). l.home p) leaves.ledger);
    orphans = λ q other. OrphanStays (ap (λ (l : Ledger). l.orphan q) leaves.ledger);
  };
}

-- ---- the timer

module _ (doing : Doing) (told : Told) (keeps : KeepsParts doing told.machine) where
  -- whose handler the timer may start isn't another's afterwards that wasn't so before
  still_untimed : (id : ThreadId) → id.pid ≢ doing.pid → is_of_timer doing.before id ≡ false → is_of_timer told.machine id ≡ false
  still_untimed id other untimed = go (told.machine.claims TIMER_INTERRUPT) refl
    where
      of_claim : (claim : Claim) → told.machine.claims TIMER_INTERRUPT ≡ Some claim → (b : Bool) → (claim.pid.0 == doing.pid.0) ≡ b
          → same_thread id (thread_id claim.pid 1) ≡ false
      of_claim claim e true q =
          other_thread id (thread_id claim.pid 1) (λ same. other (same ∙ same_pid claim.pid doing.pid (eqb-true claim.pid.0 doing.pid.0 q)))
      of_claim claim e false q =
          let before = (keeps.claims TIMER_INTERRUPT claim (λ same. false≢true (sym q ∙ eq-eqb claim.pid.0 doing.pid.0 (ap (λ (x : Pid). x.0) same)))).0 e in
          sym (ap (λ o. option_map_or (λ (c : Claim). same_thread id (thread_id c.pid 1)) o false) before) ∙ untimed

      go : (o : Option Claim) → told.machine.claims TIMER_INTERRUPT ≡ o
          → option_map_or (λ (c : Claim). same_thread id (thread_id c.pid 1)) o false ≡ false
      go None e = refl
      go (Some claim) e = of_claim claim e (claim.pid.0 == doing.pid.0) refl

  -- nor is the timer another's that wasn't so before
  still_without : (claim : Claim) → claim.pid ≢ doing.pid → claims_timer doing.before claim.pid ≡ false
      → claims_timer told.machine claim.pid ≡ false
  still_without claim other untimed = go (told.machine.claims TIMER_INTERRUPT) refl
    where
      of_claim : (c : Claim) → told.machine.claims TIMER_INTERRUPT ≡ Some c → (b : Bool) → (c.pid.0 == claim.pid.0) ≡ b → b ≡ false
      of_claim c e false q = refl
      of_claim c e true q =
          let before = (keeps.claims TIMER_INTERRUPT c (λ same. other (sym (same_pid c.pid claim.pid (eqb-true c.pid.0 claim.pid.0 q)) ∙ same))).0 e in
          sym q ∙ (sym (ap (is_claim_of claim.pid) before) ∙ untimed)

      go : (o : Option Claim) → told.machine.claims TIMER_INTERRUPT ≡ o → is_claim_of claim.pid o ≡ false
      go None e = refl
      go (Some c) e = of_claim c e (c.pid.0 == claim.pid.0) refl

  pub timed_others : KeepsOthers doing (timed told).machine
  timed_others =
      let raised = timed_raised told in
      subst (KeepsOthers doing) (sym raised.is)
      (record {
        threads = λ id other untimed.
            subst (ThreadFate doing told.machine.servers id)
            (sym (ap (λ (x : Machine). x.threads id) (sym raised.is) ∙ timed_other id told (still_untimed id other untimed)))
            (keeps.threads id other);
        process = keeps.process;
        claims = keeps.claims;
        pending = λ k claim there other untimed.
            sym (ap (λ (x : Machine). x.pending k) raised.is)
            ∙ (timed_pending told k claim ((keeps.claims k claim other).1 there) (still_without claim other untimed)
            ∙ keeps.pending k claim there other);
        servers = keeps.servers;
        homes = keeps.pages.homes;
        orphans = keeps.pages.orphans;
      })

-- ---- the step

-- what a thread does keeps it, and so does its step
pub step_others : (doing : Doing) (m : Machine) (who : ThreadId) (t : Thread) → actor m ≡ Some who → m.threads who ≡ Some t
    → KeepsParts doing (acted (turned_to who m) t).machine → KeepsOthers doing (step m).machine
step_others doing m who t acts there keeps =
    subst (KeepsOthers doing) (sym (step_of_thread m who t acts there))
    (timed_others doing (counted (turned_to who m) (Some t) (acted (turned_to who m) t))
    (counted_parts doing (turned_to who m) t (acted (turned_to who m) t) keeps))

-- Others leave a process that shares nothing as it is, in each moment and so in a run.
use Rattle.std.proofs.Common.{◌≡◌, ◌≢◌, ℕ, zero, suc, Bool, true, false, List, [], ◌∷◌, Option, Some, None, refl, sym, ap, ◌∙◌, inl, inr, subst}
use Rattle.std.specs.Prelude.{IfSome}
use Rattle.std.specs.Option.{option_map_or}
use Rattle.std.proofs.lemmas.Bool.{false≢true}
use Rattle.std.proofs.lemmas.Option.{same_Some}
use Rattle.xk_base.specs.declared.ids.Pid.{Pid}
use Rattle.xk_base.specs.declared.ids.Place.{Place}
use Rattle.xk_base.specs.declared.ids.ThreadId.{ThreadId}
use Rattle.xk_base.specs.declared.limits.TheConstants.{TIMER_INTERRUPT}
use Rattle.ledger_model.specs.Ledger.{loan_of}
use Rattle.xk_base.specs.Tables.Circle.{same_thread}
use Rattle.machine_model.specs.Runs.LoanSpan.{IsInstructionOf, IsServedCallOf}
use Rattle.machine_model.specs.Runs.Matched.{Matched, is_living, is_waiting_for}
use Rattle.machine_model.specs.Runs.Moments.{ByIrq, ByKill, ByPick, ByStep, ByTurn, Cause, IsRun, caused, moment_of, state_at}
use Rattle.machine_model.specs.State.Machine.{Claim, Machine, Server, Thread}
use Rattle.machine_model.specs.State.Order.{actor}
use Rattle.machine_model.specs.State.Threads.{thread_id}
use Rattle.machine_model.specs.Stepping.Acts.{does_instruction}
use Rattle.machine_model.specs.Stepping.Step.{step}
use Rattle.machine_model.proofs.StepLemmas.{no_step}
use Rattle.machine_laws.proofs.Stepping.EveryStepLemmas.{every_cause_keeps}
use Rattle.machine_laws.proofs.Stepping.CauseCaseLemmas.{is_step}
use Rattle.noninterference_laws.specs.Integrity.{LeavesOthers}
use Rattle.noninterference_laws.specs.Causes.{LeavesAll, StepKeepsOthers, by_step}
use Rattle.noninterference_laws.specs.Fates.{Doing, Gains, Loses, MadeCall, Own, ServerFate, ServerStays}
use Rattle.noninterference_laws.specs.KeptOthers.{KeepsOthers}
use Rattle.noninterference_laws.proofs.StepLemmas.{all_keep}
use Rattle.lifetime_laws.proofs.Lives.StepLemmas.{every_moment_lives}
use Rattle.lifetime_laws.specs.Untouched.{IsOfOthers, IsUntouched, OthersLeaveIt, RunsOfOthersLeaveIt, SharesNothing}
use Rattle.lifetime_laws.proofs.Apart.PageLemmas.{home_stays, none_comes, page_stays}
use Rattle.lifetime_laws.proofs.Apart.ThreadLemmas.{not_started, thread_stays}

abbrev IsLeft : Pid → Machine → Machine → Type 0
IsLeft pid m after = IsUntouched pid m after × SharesNothing pid after

-- ---- it shares nothing still

module _ (pid : Pid) (m after : Machine) (alone : SharesNothing pid m) (same : IsUntouched pid m after) where
  still_alone : ((n : ℕ) (server : Server) → after.servers n ≡ Some server → server.pid ≢ pid)
      → ((k : ℕ) (claim : Claim) → after.claims k ≡ Some claim → claim.pid ≢ pid) → SharesNothing pid after
  still_alone servers claims = record {
    servers = servers;
    messages = λ id number own.
        ap (λ (o : Option Thread). option_map_or (λ t. is_waiting_for number t.state) o false) (same.threads id own) ∙ alone.messages id number own;
    loans = λ p loan there own. alone.loans p loan (sym (ap loan_of (same.pages p own)) ∙ there) own;
    claims = claims;
  }

itself : (pid : Pid) (m : Machine) → IsUntouched pid m m
itself pid m = record { pages = λ p own. refl; threads = λ id own. refl; process = refl }

-- ---- where nobody does anything but threads that are started

all_left : (pid : Pid) (started : ThreadId → Bool) (m after : Machine) → SharesNothing pid m → ((id : ThreadId) → id.pid ≡ pid → started id ≡ false)
    → LeavesAll started m after → IsLeft pid m after
all_left pid started m after alone none leaves = (untouched, still_alone pid m after alone untouched servers claims)
  where
    untouched : IsUntouched pid m after
    untouched = record {
      pages = λ p own. ap (λ l. l.home p) leaves.ledger;
      threads = λ id own. leaves.threads id (none id own);
      process = ap (λ f. f pid.0) leaves.process;
    }

    servers : (n : ℕ) (server : Server) → after.servers n ≡ Some server → server.pid ≢ pid
    servers n server there = alone.servers n server (sym (ap (λ f. f n) leaves.servers) ∙ there)

    claims : (k : ℕ) (claim : Claim) → after.claims k ≡ Some claim → claim.pid ≢ pid
    claims k claim there = alone.claims k claim (sym (ap (λ f. f k) leaves.claims) ∙ there)

-- ---- by another process

module _ (pid : Pid) (m : Machine) (h : Matched m) (alone : SharesNothing pid m) (cause : Cause)
    (unstored : (other : Pid) → IsInstructionOf other m (moment_of cause m) → ⊥)
    (uncalled : (words : List ℕ) → IsServedCallOf pid words m (moment_of cause m) → ⊥) (by : Pid) (call : Option MadeCall)
    (apart : by ≢ pid) (keeps : KeepsOthers (record { pid = by; call = call; before = m }) (caused cause m)) where
  abbrev doing : Doing
  doing = record { pid = by; call = call; before = m }

  abbrev after : Machine
  after = caused cause m

  other : (x : Pid) → x ≡ pid → x ≢ by
  other x own same = apart (sym same ∙ own)

  alone_at : (p : Place) → p.pid ≡ pid → SharesNothing p.pid m
  alone_at p own = subst (λ x. SharesNothing x m) (sym own) alone

  page_left : (p : Place) → p.pid ≡ pid → after.ledger.home p ≡ m.ledger.home p
  page_left p own =
      home_stays by m after.ledger p (alone_at p own)
      (λ none page now.
      none_comes m (moment_of cause m) p none unstored (alone_at p own)
      (λ words served. uncalled words (subst (λ x. IsServedCallOf x words m (moment_of cause m)) own served))
      (every_moment_lives cause m h) page now)
      (keeps.homes p (other p.pid own))

  untouched : IsUntouched pid m after
  untouched = record {
    pages = page_left;
    threads = λ id own.
        thread_stays m h pid alone id own doing refl after.servers (after.threads id)
        (keeps.threads id (other id.pid own) (not_started m pid TIMER_INTERRUPT alone id own));
    process = keeps.process pid (other pid refl);
  }

  server_apart : (n : ℕ) (server : Server) → after.servers n ≡ Some server → server.pid ≢ pid
  server_apart n server there own = go (keeps.servers n)
    where
      was : (old : Server) → m.servers n ≡ Some old → old.pid ≡ pid → ⊥
      was old live of = alone.servers n old live of

      go : ServerFate doing (is_living after by) n (after.servers n) → ⊥
      go (Own before now) =
          let its : server.pid ≡ by = subst (λ o. IfSome o (λ (x : Server). x.pid ≡ by)) there now in
          apart (sym its ∙ own)
      go (ServerStays same) = was server (sym same ∙ there) own
      go (Gains made message old call brought live later) = elim later [
        | inl queued ↦ was old live (ap (λ (x : Server). x.pid) (same_Some _ server (sym queued ∙ there)) ∙ own)
        | inr received ↦ was old live (ap (λ (x : Server). x.pid) (same_Some _ server (sym received ∙ there)) ∙ own)
      ]
      go (Loses old dead live later) =
          was old live (ap (λ (x : Server). x.pid) (same_Some _ server (sym later ∙ there)) ∙ own)

  claim_apart : (k : ℕ) (claim : Claim) → after.claims k ≡ Some claim → claim.pid ≢ pid
  claim_apart k claim there own =
      alone.claims k claim ((keeps.claims k claim (other claim.pid own)).0 there) own

  kept_left : IsLeft pid m after
  kept_left = (untouched, still_alone pid m after alone untouched server_apart claim_apart)

-- ---- an instruction of another process

instruction_left : (pid : Pid) (m : Machine) (who : ThreadId) → SharesNothing pid m → who.pid ≢ pid → LeavesOthers who.pid m (step m).machine
    → IsLeft pid m (step m).machine
instruction_left pid m who alone apart leaves = (untouched, still_alone pid m (step m).machine alone untouched servers claims)
  where
    other : (x : Pid) → x ≡ pid → x ≢ who.pid
    other x own same = apart (sym same ∙ own)

    untouched : IsUntouched pid m (step m).machine
    untouched = record {
      pages = λ p own. page_stays who.pid m (step m).machine leaves p (other p.pid own) (subst (λ x. SharesNothing x m) (sym own) alone);
      threads = λ id own. leaves.threads id (other id.pid own) (not_started m pid TIMER_INTERRUPT alone id own);
      process = ap (λ f. f pid.0) leaves.process;
    }

    servers : (n : ℕ) (server : Server) → (step m).machine.servers n ≡ Some server → server.pid ≢ pid
    servers n server there = alone.servers n server (sym (ap (λ f. f n) leaves.servers) ∙ there)

    claims : (k : ℕ) (claim : Claim) → (step m).machine.claims k ≡ Some claim → claim.pid ≢ pid
    claims k claim there = alone.claims k claim (sym (ap (λ f. f k) leaves.claims) ∙ there)

-- ---- each cause

no_kill_step : (pid : Pid) → ByKill pid ≡ ByStep → ⊥
no_kill_step pid e = false≢true (ap is_step e)

step_left : (m : Machine) (pid : Pid) → Matched m → SharesNothing pid m → IsOfOthers pid m ByStep → IsLeft pid m (step m).machine
step_left m pid h alone of = go (actor m) refl
  where
    module_of : (who : ThreadId) → actor m ≡ Some who → (b : Bool) → does_instruction m who ≡ b → StepKeepsOthers who m (step m).machine
        → IsLeft pid m (step m).machine
    module_of who acts true e keeps = instruction_left pid m who alone (of who acts) (keeps.instruction e)
    module_of who acts false e keeps =
        kept_left pid m h alone ByStep
        (λ other does.
        let same : does.who ≡ who = same_Some does.who who (sym does.by_who ∙ acts) in
        false≢true (sym e ∙ (ap (does_instruction m) (sym same) ∙ does.instruction)))
        (λ words served. of served.who served.by_who served.of_process)
        who.pid (by_step who m).call (of who acts) (keeps.other e)

    go : (o : Option ThreadId) → actor m ≡ o → IsLeft pid m (step m).machine
    go None e = rw (no_step m e) (itself pid m, alone)
    go (Some who) e = module_of who e (does_instruction m who) refl (all_keep ByStep m h who e)

pub others_leave_it : OthersLeaveIt
others_leave_it ByStep m pid h alone of = step_left m pid h alone of
others_leave_it (ByPick who) m pid h alone of =
    all_left pid (λ id. false) m (caused (ByPick who) m) alone (λ id own. refl) (all_keep (ByPick who) m h)
others_leave_it (ByIrq k) m pid h alone of =
    all_left pid (λ id. option_map_or (λ (claim : Claim). same_thread id (thread_id claim.pid 1)) (m.claims k) false) m (caused (ByIrq k) m) alone
    (not_started m pid k alone) (all_keep (ByIrq k) m h)
others_leave_it (ByKill killed) m pid h alone of =
    kept_left pid m h alone (ByKill killed) (λ other does. no_kill_step killed does.step) (λ words served. no_kill_step killed served.step)
    killed None of (all_keep (ByKill killed) m h)
others_leave_it ByTurn m pid h alone of = all_left pid (λ id. false) m (caused ByTurn m) alone (λ id own. refl) (all_keep ByTurn m h)

-- ---- runs

untouched_then : (pid : Pid) (a b c : Machine) → IsUntouched pid a b → IsUntouched pid b c → IsUntouched pid a c
untouched_then pid a b c first then_ = record {
  pages = λ p own. then_.pages p own ∙ first.pages p own;
  threads = λ id own. then_.threads id own ∙ first.threads id own;
  process = then_.process ∙ first.process;
}

pub runs_leave_it : RunsOfOthersLeaveIt
unfolding IsRun state_at
runs_leave_it start moments pid h alone run of zero = (itself pid start, alone)
runs_leave_it start [] pid h alone run of (suc i) = (itself pid start, alone)
runs_leave_it start (moment ∷ moments) pid h alone run of (suc i) =
    let first : IsLeft pid start moment.machine =
    subst (λ (x : Machine). IsLeft pid start x) (sym run.0) (others_leave_it moment.cause start pid h alone (of 0 moment refl)) in
    let rest : IsLeft pid moment.machine (state_at moment.machine moments i) =
    runs_leave_it moment.machine moments pid (subst Matched (sym run.0) (every_cause_keeps moment.cause start h)) first.1 run.1
    (λ j found there. of (suc j) found there) i in
    (untouched_then pid start moment.machine (state_at moment.machine moments i) first.0 rest.0, rest.1)

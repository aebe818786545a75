-- What each step, event and end of a turn lets come to which place.
use Rattle.std.proofs.Common.{◌≡◌, ℕ, ◌⊎◌, inl, inr, true, List, Some, None, refl, sym, ap, ◌∙◌, subst}
use Rattle.xk_base.specs.declared.ids.Pid.{Pid}
use Rattle.xk_base.specs.declared.ids.Place.{Place}
use Rattle.xk_base.specs.declared.ids.ThreadId.{ThreadId}
use Rattle.xk_base.specs.Calls.Registers.{arguments_of, reg_at}
use Rattle.ledger_model.specs.Ledger.{Ledger, Page, PageLoan, loan_at}
use Rattle.machine_model.specs.Calling.Calls.{call}
use Rattle.machine_model.specs.Ending.Ends.{death, handler_ended, thread_ended}
use Rattle.machine_model.specs.Hart.Instructions.{CallsKernel, Executed, Next, Stores, StoresToConsole, StoresToTimer, Traps}
use Rattle.machine_model.specs.Runs.Isolation.{IsOneStore}
use Rattle.machine_model.specs.Runs.Matched.{Matched}
use Rattle.machine_model.specs.Runs.Moments.{ByIrq, ByKill, ByStep, Cause}
use Rattle.machine_model.specs.State.Changes.{Change, Outcome, Refused, Retried, Served}
use Rattle.machine_model.specs.State.Machine.{Machine, Thread}
use Rattle.machine_model.specs.State.Order.{actor}
use Rattle.machine_model.specs.State.Threads.{put_thread}
use Rattle.machine_model.specs.Stepping.Acts.{call_by, does_instruction, executes, is_call_served, is_served}
use Rattle.machine_model.specs.Stepping.Events.{killed, raised}
use Rattle.machine_model.specs.Stepping.Reservations.{unreserved}
use Rattle.machine_model.specs.Stepping.Step.{Recorded, step}
use Rattle.machine_model.proofs.Runs.KeptLemmas.{matched_at}
use Rattle.machine_laws.proofs.Executing.InstructionStepLemmas.{instruction_stores}
use Rattle.machine_laws.proofs.Stepping.StepKindLemmas.{is_call, is_done}
use Rattle.machine_laws.proofs.Threading.ThreadStepLemmas.{actor_ready, turned_to}
use Rattle.call_effects.proofs.ServedLemmas.{OfServed}
use Rattle.confidentiality_laws.proofs.Keeping.CallLemmas.{ledger_after, settled_ledger}
use Rattle.confidentiality_laws.proofs.Keeping.DeathLemmas.{death_orphans}
use Rattle.confidentiality_laws.proofs.Spreading.CauseLemmas.{irq_ledger}
use Rattle.confidentiality_laws.proofs.Spreading.StepLemmas.{handler_ledger}
use Rattle.loan_laws.proofs.Fates.LikeLemmas.{call_like, settled_like, step_like}
use Rattle.machine_laws.proofs.Stepping.CauseCaseLemmas.{ActCase, CauseCase, EndCase, EndsHandler, EndsThread, Instructs, IsLast, Kills, LeavesOthers, Raises, Rests, Steps, case_of}
use Rattle.machine_laws.proofs.Stepping.CauseCaseLemmas.{end_of}
use Rattle.transcript_laws.specs.Coming.{AllPagesCome, IsLent, IsMade, IsMoved, PagesCome}
use Rattle.transcript_laws.proofs.Coming.LedgerLemmas.{NoneComes, none_comes, only_orphans, same_ledger, write_none}
use Rattle.transcript_laws.proofs.Coming.RowLemmas.{call_comes}
use Rattle.transcript_laws.proofs.Serving.AtServerLemmas.{arrives_like, call_turned, served_like}
use Rattle.machine_laws.specs.Records.{records_by}
use Rattle.machine_model.specs.Runs.Moments.{caused}
use Rattle.machine_model.specs.State.Changes.{Told}
use Rattle.machine_model.specs.Stepping.Step.{acted, executed}

-- nothing comes where the ledger stays
stays_come : (cause : Cause) (m : Machine) (after : Ledger) → after ≡ m.ledger → PagesCome cause m after
stays_come cause m after same = subst (PagesCome cause m) (sym same) (none_comes cause m m.ledger (same_ledger m.ledger))

-- .. nor where a process dies
death_comes : (cause : Cause) (m x : Machine) (pid : Pid) (after : Ledger) → x.ledger ≡ m.ledger → after ≡ (death pid x).machine.ledger
    → PagesCome cause m after
death_comes cause m x pid after same is =
    none_comes cause m after
    (subst (NoneComes m.ledger) (sym is)
    (subst (λ l. NoneComes l (death pid x).machine.ledger) same (only_orphans x.ledger (death pid x).machine.ledger (death_orphans pid x))))

-- ---- from the state that is turned to the thread whose step it is to the one before

module _ (m : Machine) (who : ThreadId) (acts : actor m ≡ Some who) (turned : actor (turned_to who m) ≡ Some who) where
  abbrev like : Machine
  like = turned_to who m

  made_back : (p : Place) (page : Page) → IsMade p page ByStep like → IsMade p page ByStep m
  made_back p page r =
      record { words = r.words; served = served_like ByStep m who acts turned p.pid r.words r.served; makes = r.makes; new = r.new }

  moved_back : (p : Place) (page : Page) (after : Ledger) → IsMoved p page ByStep like after → IsMoved p page ByStep m after
  moved_back p page after r = record {
    n = r.n;
    server = r.server;
    there = r.there;
    message = r.message;
    sent = record {
      pid = r.sent.pid;
      words = r.sent.words;
      served = served_like ByStep m who acts turned r.sent.pid r.sent.words r.sent.served;
      sends = r.sent.sends;
      leads = r.sent.leads;
      kind = r.sent.kind;
      named = r.sent.named;
      first = r.sent.first;
      is = r.sent.is;
    };
    moves = r.moves;
    place = r.place;
    from = r.from;
    own = r.own;
    stood = r.stood;
    left = r.left;
  }

  lent_back : (loan : PageLoan) → IsLent loan ByStep like → IsLent loan ByStep m
  lent_back loan r = record {
    n = r.n;
    server = r.server;
    there = r.there;
    message = r.message;
    arrives = arrives_like ByStep m who acts turned r.n r.message r.arrives;
    lends = r.lends;
    numbered = r.numbered;
    place = r.place;
  }

  comes_back : (after : Ledger) → PagesCome ByStep like after → PagesCome ByStep m after
  comes_back after c = record {
    homes = λ p page empty e. home p page (c.homes p page empty e);
    loans = λ p loan e. on_loan p loan (c.loans p loan e);
    orphans = c.orphans;
  }
    where
      home : (p : Place) (page : Page) → IsMade p page ByStep like ⊎ IsMoved p page ByStep like after → IsMade p page ByStep m ⊎ IsMoved p page ByStep m after
      home p page (inl r) = inl (made_back p page r)
      home p page (inr r) = inr (moved_back p page after r)

      on_loan : (p : Place) (loan : PageLoan) → (loan_at m.ledger p ≡ Some loan) ⊎ IsLent loan ByStep like
          → (loan_at m.ledger p ≡ Some loan) ⊎ IsLent loan ByStep m
      on_loan p loan (inl same) = inl same
      on_loan p loan (inr r) = inr (lent_back loan r)

-- ---- steps

module _ (m : Machine) (h : Matched m) (who : ThreadId) (acts : actor m ≡ Some who) where
  abbrev n : Machine
  n = turned_to who m

  turned_acts : actor n ≡ Some who
  unfolding actor
  turned_acts = rw (actor_ready m who acts) refl

  abbrev Comes : Type 0
  Comes = PagesCome ByStep m (step m).machine.ledger

  instruction_comes : does_instruction m who ≡ true → Comes
  instruction_comes d = by (instruction_stores m who h acts d)
    where
      by : ((step m).machine.ledger ≡ m.ledger) ⊎ IsOneStore who.pid m (step m).machine.ledger → Comes
      by (inl same) = stays_come ByStep m (step m).machine.ledger same
      by (inr s) =
          none_comes ByStep m (step m).machine.ledger (subst (NoneComes m.ledger) (sym s.written) (write_none s.page s.offset s.bytes m.ledger))

  went : (w : List ℕ) (change : Change) → call n w ≡ Served change → is_call_served n who w ≡ true
  unfolding is_call_served
  went w change e = ap is_served e

  called_comes : (w : List ℕ) → call_by m who ≡ Some w → Comes
  called_comes w calls =
      subst (PagesCome ByStep m) (sym ((call_like m who w acts calls).ledger ∙ settled_ledger n (call n w)))
      (comes_back m who acts turned_acts (ledger_after n (call n w)) (by (call n w) refl))
    where
      by : (o : Outcome) → call n w ≡ o → PagesCome ByStep n (ledger_after n o)
      by (Refused error) e = stays_come ByStep n n.ledger refl
      by Retried e = stays_come ByStep n n.ledger refl
      by (Served change) e =
          subst (OfServed (λ (c : Change). PagesCome ByStep n c.machine.ledger)) e
          (call_comes ByStep refl n (matched_at who m h) (actor_ready m who acts) w turned_acts (call_turned m who ∙ calls) (went w change e))

  executed_comes : (t : Thread) → m.threads who ≡ Some t → (x : Executed) → executes m who t ≡ Some x
      → (step m).machine.ledger ≡ (executed n t x).machine.ledger → Comes
  executed_comes t there (Next regs pc) e is = instruction_comes (is_done m who t there (Next regs pc) e refl)
  executed_comes t there (Stores address width value regs pc) e is =
      instruction_comes (is_done m who t there (Stores address width value regs pc) e refl)
  executed_comes t there (StoresToConsole offset value regs pc) e is =
      instruction_comes (is_done m who t there (StoresToConsole offset value regs pc) e refl)
  executed_comes t there (StoresToTimer offset width value regs pc) e is =
      instruction_comes (is_done m who t there (StoresToTimer offset width value regs pc) e refl)
  executed_comes t there CallsKernel e is = called_comes (arguments_of t.regs) (is_call m who t there e)
  executed_comes t there (Traps code value) e is =
      death_comes ByStep m n who.pid (step m).machine.ledger refl (is ∙ (settled_like (death who.pid n)).ledger)

  thread_end_comes : (a0 : ℕ) (change : Change) → EndCase who a0 n change → (step m).machine.ledger ≡ change.machine.ledger → Comes
  thread_end_comes a0 _ LeavesOthers is = stays_come ByStep m (step m).machine.ledger is
  thread_end_comes a0 _ IsLast is = death_comes ByStep m (put_thread who None n) who.pid (step m).machine.ledger refl is

  act_comes : (t : Thread) → m.threads who ≡ Some t → (done : Told) → ActCase m who t done → (step m).machine.ledger ≡ done.machine.ledger → Comes
  act_comes t there _ (Instructs x e) is = executed_comes t there x e is
  act_comes t there _ (EndsThread e) is =
      let ended = thread_ended who (reg_at t.regs 10) n in
      thread_end_comes (reg_at t.regs 10) ended (end_of who (reg_at t.regs 10) n) (is ∙ (settled_like ended).ledger)
  act_comes t there _ (EndsHandler e) is =
      stays_come ByStep m (step m).machine.ledger (is ∙ ((settled_like (handler_ended who.pid n)).ledger ∙ handler_ledger who.pid n))

pub all_come : AllPagesCome
all_come cause m h = by cause (record { machine = caused cause m; records = records_by cause m }) (case_of cause m) refl
  where
    by : (cause : Cause) (next : Recorded) → CauseCase m cause next → (caused cause m).ledger ≡ next.machine.ledger
        → PagesCome cause m (caused cause m).ledger
    by _ _ (Rests cause cursor reserved rest) is = stays_come cause m (caused cause m).ledger is
    by _ _ (Steps who t acts there case) is = act_comes m h who acts t there (acted (turned_to who m) t) case (step_like m who t acts there).ledger
    by _ _ (Raises k claim e) is = stays_come (ByIrq k) m (raised k m).machine.ledger (irq_ledger k m)
    by _ _ (Kills pid e) is =
        death_comes (ByKill pid) m (unreserved m) pid (killed pid m).machine.ledger refl (is ∙ (settled_like (death pid (unreserved m))).ledger)

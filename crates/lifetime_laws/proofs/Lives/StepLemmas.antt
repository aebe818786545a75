-- Pages live through whatever leads from a matched state to the next.
use Rattle.std.proofs.Common.{◌≡◌, ◌⊎◌, ℕ, true, Some, None, refl, sym, ap, ◌∙◌, inl, inr}
use Rattle.std.specs.Prelude.{if◌then◌else◌}
use Rattle.std.proofs.lemmas.Bool.{false≢true}
use Rattle.std.proofs.lemmas.Option.{none-some, same_Some}
use Rattle.xk_base.specs.declared.ids.Number.{Number}
use Rattle.xk_base.specs.declared.ids.Pid.{Pid}
use Rattle.xk_base.specs.declared.ids.ThreadId.{ThreadId}
use Rattle.xk_base.specs.Calls.Registers.{arguments_of, reg_at}
use Rattle.ledger_model.specs.Loans.{LoanRun}
use Rattle.machine_model.specs.Ending.Closing.{any_server, closed, senders_held_gone, senders_queued_gone, servers_closed}
use Rattle.machine_model.specs.Ending.Ends.{death, forgotten, handler_ended, thread_ended}
use Rattle.machine_model.specs.Hart.Instructions.{CallsKernel, Executed, Next, Stores, StoresToConsole, StoresToTimer, Traps}
use Rattle.machine_model.specs.Runs.Isolation.{IsOneStore}
use Rattle.machine_model.specs.Runs.LoanSpan.{IsForwarded}
use Rattle.machine_model.specs.Runs.Matched.{Matched}
use Rattle.machine_model.specs.Runs.Moments.{ByIrq, ByKill, ByStep, Cause, moment_of}
use Rattle.machine_model.specs.State.Changes.{settled}
use Rattle.machine_model.specs.State.Machine.{Idle, Machine, Thread}
use Rattle.machine_model.specs.State.Order.{actor}
use Rattle.machine_model.specs.State.Threads.{change_thread, put_thread, thread_id, with_state}
use Rattle.machine_model.specs.Stepping.Acts.{call_by, does_instruction, executes}
use Rattle.machine_model.specs.Stepping.Events.{killed}
use Rattle.machine_model.specs.Stepping.Interrupts.{delivered}
use Rattle.machine_model.specs.Stepping.Reservations.{unreserved}
use Rattle.machine_model.specs.Stepping.Step.{Recorded, acted, ends_handler, performed, step}
use Rattle.machine_model.proofs.Runs.KeptLemmas.{matched_at}
use Rattle.machine_laws.proofs.Executing.InstructionStepLemmas.{instruction_stores}
use Rattle.machine_laws.proofs.Stepping.StepKindLemmas.{is_call, is_done}
use Rattle.machine_laws.proofs.Threading.ThreadAnswerLemmas.{ready_lives}
use Rattle.machine_laws.proofs.Threading.ThreadMoveLemmas.{matched_reserved}
use Rattle.machine_laws.proofs.Threading.ThreadStepLemmas.{actor_ready, turned_to}
use Rattle.loan_laws.proofs.Fates.LikeLemmas.{IsLike, like_both, like_same, settled_like, step_like}
use Rattle.confidentiality_laws.proofs.Spreading.CauseLemmas.{irq_ledger}
use Rattle.machine_laws.proofs.Stepping.CauseCaseLemmas.{ActCase, CauseCase, EndCase, EndsHandler, EndsThread, Instructs, IsLast, Kills, LeavesOthers, Raises, Rests, StartCase, Starts}
use Rattle.machine_laws.proofs.Stepping.CauseCaseLemmas.{StartsNone, Steps, case_of, end_of, is_step, start_of}
use Rattle.lifetime_laws.specs.Lives.{EveryMomentLives, PagesLive}
use Rattle.lifetime_laws.proofs.Lives.CallLemmas.{call_lives}
use Rattle.lifetime_laws.proofs.Lives.DeathLemmas.{death_lives}
use Rattle.lifetime_laws.proofs.Lives.StoreLemmas.{stored_lives}
use Rattle.lifetime_laws.proofs.Lives.TurnLemmas.{left_lives}
use Rattle.machine_laws.specs.Records.{records_by}
use Rattle.machine_model.specs.Runs.Moments.{caused}
use Rattle.machine_model.specs.State.Changes.{Change, Told}
use Rattle.machine_model.specs.Stepping.Step.{executed}

-- ---- interrupts leave the ledger

delivered_ledger : (pid : Pid) (m : Machine) → (delivered pid m).machine.ledger ≡ m.ledger
delivered_ledger pid m = go (delivered pid m) (start_of pid m)
  where
    go : (change : Change) → StartCase pid m change → change.machine.ledger ≡ m.ledger
    go _ StartsNone = refl
    go _ (Starts k claim e) = refl

handler_ledger : (pid : Pid) (m : Machine) → (handler_ended pid m).machine.ledger ≡ m.ledger
unfolding handler_ended
handler_ledger pid m = delivered_ledger pid (change_thread (thread_id pid 1) (with_state Idle) m)

-- ---- the step of a thread

module _ (m : Machine) (who : ThreadId) (h : Matched m) (acts : actor m ≡ Some who) where
  abbrev here : Machine
  here = turned_to who m

  -- a step without a call forwards nothing
  not_forwarding : call_by m who ≡ None → (a : LoanRun) (number : Number) → IsForwarded number a m (moment_of ByStep m) → ⊥
  not_forwarding none a number forwarded =
      let same : forwarded.served.who ≡ who = same_Some forwarded.served.who who (sym forwarded.served.by_who ∙ acts) in
      none-some forwarded.words (sym none ∙ (ap (call_by m) (sym same) ∙ forwarded.served.call))

  dies : call_by m who ≡ None → IsLike (step m).machine (death who.pid here).machine → PagesLive m (moment_of ByStep m)
  dies none like =
      death_lives m h who m.reserved who.pid (matched_at who m h) (ready_lives m h who (actor_ready m who acts)) (moment_of ByStep m) like
      (not_forwarding none)

  instructs : does_instruction m who ≡ true → PagesLive m (moment_of ByStep m)
  instructs does = go (instruction_stores m who h acts does)
    where
      go : ((step m).machine.ledger ≡ m.ledger) ⊎ IsOneStore who.pid m (step m).machine.ledger → PagesLive m (moment_of ByStep m)
      go (inl same) = left_lives m (moment_of ByStep m) same
      go (inr store) =
          stored_lives m (moment_of ByStep m) who.pid
          (record { who = who; step = refl; by_who = acts; of_process = refl; instruction = does }) store

  -- ---- ends of threads

  no_call : (t : Thread) → m.threads who ≡ Some t → executes m who t ≡ None → call_by m who ≡ None
  unfolding call_by
  no_call t there e = rw there (rw e refl)

  trap_calls_not : (t : Thread) (cause value : ℕ) → m.threads who ≡ Some t → executes m who t ≡ Some (Traps cause value) → call_by m who ≡ None
  unfolding call_by
  trap_calls_not t cause value there e = rw there (rw e refl)

  -- the death of a process whose last thread is gone
  last_like : IsLike (death who.pid (put_thread who None here)).machine (death who.pid here).machine
  unfolding death any_server servers_closed closed senders_queued_gone senders_held_gone forgotten
  last_like = record { ledger = refl; servers = refl; process = refl; number = refl }

  thread_end_lives : (a0 : ℕ) (change : Change) → EndCase who a0 here change → call_by m who ≡ None → IsLike (step m).machine change.machine
      → PagesLive m (moment_of ByStep m)
  thread_end_lives a0 _ LeavesOthers none like = left_lives m (moment_of ByStep m) like.ledger
  thread_end_lives a0 _ IsLast none like =
      dies none (like_both (step m).machine (death who.pid (put_thread who None here)).machine (death who.pid here).machine like last_like)

  -- ---- all

  executed_lives : (t : Thread) → m.threads who ≡ Some t → (x : Executed) → executes m who t ≡ Some x
      → IsLike (step m).machine (executed here t x).machine → PagesLive m (moment_of ByStep m)
  executed_lives t there (Next regs pc) e like = instructs (is_done m who t there (Next regs pc) e refl)
  executed_lives t there (Stores address width value regs pc) e like =
      instructs (is_done m who t there (Stores address width value regs pc) e refl)
  executed_lives t there (StoresToConsole offset value regs pc) e like =
      instructs (is_done m who t there (StoresToConsole offset value regs pc) e refl)
  executed_lives t there (StoresToTimer offset width value regs pc) e like =
      instructs (is_done m who t there (StoresToTimer offset width value regs pc) e refl)
  executed_lives t there CallsKernel e like =
      call_lives m who (arguments_of t.regs) h (record { acts = acts; call = is_call m who t there e })
  executed_lives t there (Traps cause value) e like =
      dies (trap_calls_not t cause value there e)
      (like_both (step m).machine (settled (death who.pid here)).machine (death who.pid here).machine like (settled_like (death who.pid here)))

  act_lives : (t : Thread) → m.threads who ≡ Some t → (done : Told) → ActCase m who t done → IsLike (step m).machine done.machine
      → PagesLive m (moment_of ByStep m)
  act_lives t there _ (Instructs x e) like = executed_lives t there x e like
  act_lives t there _ (EndsThread ends) like =
      let ended = thread_ended who (reg_at t.regs 10) here in
      thread_end_lives (reg_at t.regs 10) ended (end_of who (reg_at t.regs 10) here)
      (no_call t there (ap (λ b. if b then None else (if ends_handler who t.pc then None else Some (performed m who t).executed)) ends))
      (like_both (step m).machine (settled ended).machine ended.machine like (settled_like ended))
  act_lives t there _ (EndsHandler ends) like =
      left_lives m (moment_of ByStep m) (like.ledger ∙ ((settled_like (handler_ended who.pid here)).ledger ∙ handler_ledger who.pid here))

-- ---- whatever it is

pub every_moment_lives : EveryMomentLives
every_moment_lives cause m h = by cause (record { machine = caused cause m; records = records_by cause m }) (case_of cause m) refl
  where
    no_call : (pid : Pid) (a : LoanRun) (number : Number) → IsForwarded number a m (moment_of (ByKill pid) m) → ⊥
    no_call pid a number forwarded = false≢true (ap is_step forwarded.served.step)

    by : (cause : Cause) (next : Recorded) → CauseCase m cause next → caused cause m ≡ next.machine → PagesLive m (moment_of cause m)
    by _ _ (Rests cause cursor reserved rest) is = left_lives m (moment_of cause m) (ap (λ (x : Machine). x.ledger) is)
    by _ _ (Steps who t acts there case) is = act_lives m who h acts t there (acted (turned_to who m) t) case (step_like m who t acts there)
    by _ _ (Raises k claim e) is = left_lives m (moment_of (ByIrq k) m) (irq_ledger k m)
    by _ _ (Kills pid e) is =
        death_lives m h m.cursor None pid (matched_reserved m h None) e (moment_of (ByKill pid) m)
        (like_both (killed pid m).machine (settled (death pid (unreserved m))).machine (death pid (unreserved m)).machine
        (like_same (killed pid m).machine (settled (death pid (unreserved m))).machine is) (settled_like (death pid (unreserved m)))) (no_call pid)

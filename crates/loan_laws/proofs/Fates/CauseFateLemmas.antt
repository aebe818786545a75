-- The fate of a number by each cause.
use Rattle.std.proofs.Common.{◌≡◌, ℕ, Some, None, refl, sym, ap, ◌∙◌, arith, subst}
use Rattle.xk_base.specs.declared.ids.Number.{Number}
use Rattle.xk_base.specs.declared.ids.Pid.{Pid}
use Rattle.xk_base.specs.declared.ids.ThreadId.{ThreadId}
use Rattle.xk_base.specs.Calls.Registers.{arguments_of, reg_at}
use Rattle.machine_model.specs.Ending.Closing.{any_server, closed, senders_held_gone, senders_queued_gone, servers_closed}
use Rattle.machine_model.specs.Ending.Ends.{death, forgotten, handler_ended, thread_ended}
use Rattle.machine_model.specs.Hart.Instructions.{CallsKernel, Executed, Next, Stores, StoresToConsole, StoresToTimer, Traps}
use Rattle.machine_model.specs.Runs.Matched.{Matched}
use Rattle.machine_model.specs.Runs.Moments.{ByIrq, ByKill, ByStep, Cause, caused, moment_of}
use Rattle.machine_model.specs.State.Changes.{Change, Told, settled}
use Rattle.machine_model.specs.State.Machine.{Idle, Machine, Thread}
use Rattle.machine_model.specs.State.Order.{actor}
use Rattle.machine_model.specs.State.Threads.{change_thread, put_thread, thread_id, with_state}
use Rattle.machine_model.specs.Stepping.Acts.{executes}
use Rattle.machine_model.specs.Stepping.Events.{killed}
use Rattle.machine_model.specs.Stepping.Interrupts.{delivered}
use Rattle.machine_model.specs.Stepping.Reservations.{unreserved}
use Rattle.machine_model.specs.Stepping.Step.{Recorded, acted, executed, step}
use Rattle.machine_model.proofs.Runs.KeptLemmas.{matched_at}
use Rattle.machine_model.proofs.Runs.TimerLemmas.{pended_raised}
use Rattle.machine_laws.proofs.Stepping.StepKindLemmas.{is_call}
use Rattle.machine_laws.proofs.Threading.ThreadMoveLemmas.{matched_reserved}
use Rattle.machine_laws.proofs.Threading.ThreadStepLemmas.{turned_to}
use Rattle.machine_laws.specs.Records.{records_by}
use Rattle.machine_laws.proofs.Stepping.CauseCaseLemmas.{ActCase, CauseCase, EndCase, EndsHandler, EndsThread, Instructs, IsLast, Kills, LeavesOthers, Raises, Rests, StartCase, Starts}
use Rattle.machine_laws.proofs.Stepping.CauseCaseLemmas.{StartsNone, Steps, case_of, end_of, start_of}
use Rattle.loan_laws.specs.Fates.{AllHaveFates, Fate}
use Rattle.loan_laws.specs.Leaving.{Leaves}
use Rattle.loan_laws.proofs.Fates.CallFateLemmas.{call_fate}
use Rattle.loan_laws.proofs.Fates.DeathFateLemmas.{death_fate}
use Rattle.loan_laws.proofs.Fates.FateLemmas.{fate_left}
use Rattle.loan_laws.proofs.Fates.InstructionFateLemmas.{instruction_has_fates}
use Rattle.loan_laws.proofs.Fates.LikeLemmas.{IsLike, like_both, like_itself, like_same, settled_like, step_like}
use Rattle.loan_laws.proofs.Leaving.NumberPageLemmas.{leaves_itself}

-- ---- interrupts leave loans, servers, processes and the next number

delivered_like : (m : Machine) (pid : Pid) → IsLike (delivered pid m).machine m
delivered_like m pid = go (delivered pid m) (start_of pid m)
  where
    go : (change : Change) → StartCase pid m change → IsLike change.machine m
    go _ StartsNone = like_itself m
    go _ (Starts k claim e) = record { ledger = refl; servers = refl; process = refl; number = refl }

handler_like : (m : Machine) (who : ThreadId) → IsLike (settled (handler_ended who.pid (turned_to who m))).machine m
unfolding handler_ended
handler_like m who =
    let idle = change_thread (thread_id who.pid 1) (with_state Idle) (turned_to who m) in
    like_both (settled (delivered who.pid idle)).machine (delivered who.pid idle).machine m (settled_like (delivered who.pid idle))
    (like_both (delivered who.pid idle).machine idle m (delivered_like idle who.pid)
    (record { ledger = refl; servers = refl; process = refl; number = refl }))

module _ (number : Number) (m : Machine) (h : Matched m) where
  -- where the loans and the next number are as before
  left_fate : (cause : Cause) → (caused cause m).ledger ≡ m.ledger → (caused cause m).next_number ≡ m.next_number → Fate number m (moment_of cause m)
  left_fate cause ledger same =
      fate_left number m (moment_of cause m) h
      (subst (λ l. Leaves number m.ledger l) (sym ledger) (leaves_itself number m.ledger)) (omega arith)

  -- ---- the step of a thread

  module _ (who : ThreadId) (acts : actor m ≡ Some who) where
    abbrev here : Machine
    here = turned_to who m

    dies : IsLike (step m).machine (death who.pid here).machine → Fate number m (moment_of ByStep m)
    dies like = death_fate number m who m.reserved who.pid h (matched_at who m h) (moment_of ByStep m) like

    -- the death of a process whose last thread is gone
    last_like : IsLike (death who.pid (put_thread who None here)).machine (death who.pid here).machine
    unfolding death any_server servers_closed closed senders_queued_gone senders_held_gone forgotten
    last_like = record { ledger = refl; servers = refl; process = refl; number = refl }

    thread_end_fate : (a0 : ℕ) (change : Change) → EndCase who a0 here change → IsLike (step m).machine change.machine
        → Fate number m (moment_of ByStep m)
    thread_end_fate a0 _ LeavesOthers like = left_fate ByStep like.ledger like.number
    thread_end_fate a0 _ IsLast like =
        dies (like_both (step m).machine (death who.pid (put_thread who None here)).machine (death who.pid here).machine like last_like)

    executed_fate : (t : Thread) → m.threads who ≡ Some t → (x : Executed) → executes m who t ≡ Some x
        → IsLike (step m).machine (executed here t x).machine → Fate number m (moment_of ByStep m)
    executed_fate t there (Next regs pc) e like = instruction_has_fates m number who t (Next regs pc) h acts there e refl
    executed_fate t there (Stores address width value regs pc) e like =
        instruction_has_fates m number who t (Stores address width value regs pc) h acts there e refl
    executed_fate t there (StoresToConsole offset value regs pc) e like =
        instruction_has_fates m number who t (StoresToConsole offset value regs pc) h acts there e refl
    executed_fate t there (StoresToTimer offset width value regs pc) e like =
        instruction_has_fates m number who t (StoresToTimer offset width value regs pc) h acts there e refl
    executed_fate t there CallsKernel e like =
        call_fate number m who (arguments_of t.regs) h (record { acts = acts; call = is_call m who t there e })
    executed_fate t there (Traps cause value) e like =
        dies (like_both (step m).machine (settled (death who.pid here)).machine (death who.pid here).machine like (settled_like (death who.pid here)))

    act_fate : (t : Thread) → m.threads who ≡ Some t → (done : Told) → ActCase m who t done → IsLike (step m).machine done.machine
        → Fate number m (moment_of ByStep m)
    act_fate t there _ (Instructs x e) like = executed_fate t there x e like
    act_fate t there _ (EndsThread ends) like =
        let ended = thread_ended who (reg_at t.regs 10) here in
        thread_end_fate (reg_at t.regs 10) ended (end_of who (reg_at t.regs 10) here)
        (like_both (step m).machine (settled ended).machine ended.machine like (settled_like ended))
    act_fate t there _ (EndsHandler ends) like =
        left_fate ByStep (like.ledger ∙ (handler_like m who).ledger) (like.number ∙ (handler_like m who).number)

-- ---- whatever it is

pub all_have_fates : AllHaveFates
all_have_fates cause m number h = by cause (record { machine = caused cause m; records = records_by cause m }) (case_of cause m) refl
  where
    by : (cause : Cause) (next : Recorded) → CauseCase m cause next → caused cause m ≡ next.machine → Fate number m (moment_of cause m)
    by _ _ (Rests cause cursor reserved rest) is =
        left_fate number m h cause (ap (λ (x : Machine). x.ledger) is) (ap (λ (x : Machine). x.next_number) is)
    by _ _ (Steps who t acts there case) is =
        act_fate number m h who acts t there (acted (turned_to who m) t) case (step_like m who t acts there)
    by _ _ (Raises k claim e) is =
        let raises = (pended_raised k claim (unreserved m)).is in
        left_fate number m h (ByIrq k) (ap (λ (x : Machine). x.ledger) (is ∙ raises)) (ap (λ (x : Machine). x.next_number) (is ∙ raises))
    by _ _ (Kills pid e) is =
        death_fate number m m.cursor None pid h (matched_reserved m h None) (moment_of (ByKill pid) m)
        (like_both (killed pid m).machine (settled (death pid (unreserved m))).machine (death pid (unreserved m)).machine
        (like_same (killed pid m).machine (settled (death pid (unreserved m))).machine is) (settled_like (death pid (unreserved m))))

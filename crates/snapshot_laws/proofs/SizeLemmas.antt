-- The machine has as many processes and as much room for pages at any time.
use Rattle.std.proofs.Common.{ℕ, true, false, Some, refl, ap, ◌∙◌}
use Rattle.xk_base.specs.declared.ids.Pid.{Pid}
use Rattle.xk_base.specs.declared.ids.ThreadId.{ThreadId}
use Rattle.xk_base.specs.Calls.Registers.{arguments_of, reg_at}
use Rattle.machine_model.specs.Calling.Calls.{call}
use Rattle.machine_model.specs.Ending.Closing.{closed, servers_closed, senders_held_gone, senders_queued_gone}
use Rattle.machine_model.specs.Ending.Ends.{death, forgotten, handler_ended, thread_ended}
use Rattle.machine_model.specs.Hart.Instructions.{Executed, Next, Stores, StoresToConsole, StoresToTimer, CallsKernel, Traps}
use Rattle.machine_model.specs.Runs.Moments.{Cause, caused}
use Rattle.machine_model.specs.State.Changes.{Change, Outcome, Refused, Retried, Served, Told, call_settled, settled}
use Rattle.machine_model.specs.State.Machine.{Idle, Machine, Thread}
use Rattle.machine_model.specs.State.Order.{turn}
use Rattle.machine_model.specs.State.Threads.{change_thread, thread_id, with_state}
use Rattle.machine_model.specs.State.Views.{stored, timer_set}
use Rattle.machine_model.specs.Stepping.Interrupts.{delivered}
use Rattle.machine_model.specs.Stepping.Reservations.{unreserved}
use Rattle.machine_model.specs.Stepping.Step.{Recorded, acted, counted, executed}
use Rattle.machine_model.proofs.Runs.TimerLemmas.{pended_raised, timed_raised}
use Rattle.machine_laws.proofs.Threading.ThreadStepLemmas.{turned_to}
use Rattle.call_effects.specs.Effects.{Effect, Pages, HasHeap, Starts as StartsThread, Waits, Awaits, EndsTurn, Founds, Connects, TakesNumber, Serves, ClosesServers, Unqueues, Orphans, Forgets, Claims, Frees, apply}
use Rattle.call_effects.proofs.LeadingLemmas.{Leads, call_leads}
use Rattle.machine_laws.specs.Records.{records_by}
use Rattle.machine_laws.proofs.Stepping.CauseCaseLemmas.{ActCase, CauseCase, EndCase, EndsHandler, EndsThread, Instructs, IsLast, Kills, LeavesOthers, Raises, Rests, StartCase, Starts}
use Rattle.machine_laws.proofs.Stepping.CauseCaseLemmas.{StartsNone, Steps, case_of, end_of, start_of}
use Rattle.snapshot_laws.specs.Keeping.{IsSameSize}

same : (m : Machine) → IsSameSize m m
same m = (refl, refl)

behind : (a b c : Machine) → IsSameSize a b → IsSameSize b c → IsSameSize a c
behind a b c h k = (k.0 ∙ h.0, k.1 ∙ h.1)

-- ---- calls

effect_size : (effect : Effect) (m : Machine) → IsSameSize m (apply effect m)
unfolding turn closed senders_queued_gone senders_held_gone forgotten
effect_size (Pages step) m = (refl, refl)
effect_size (HasHeap n) m = (refl, refl)
effect_size (StartsThread who thread) m = (refl, refl)
effect_size (Waits who state) m = (refl, refl)
effect_size (Awaits true number) m = (refl, refl)
effect_size (Awaits false number) m = (refl, refl)
effect_size EndsTurn m = (refl, refl)
effect_size (Founds server) m = (refl, refl)
effect_size (Connects serial) m = (refl, refl)
effect_size TakesNumber m = (refl, refl)
effect_size (Serves serial step) m = (refl, refl)
effect_size (ClosesServers which) m = (refl, refl)
effect_size (Unqueues pid) m = (refl, refl)
effect_size (Orphans pid) m = (refl, refl)
effect_size (Forgets pid) m = (refl, refl)
effect_size (Claims k claim) m = (refl, refl)
effect_size (Frees k) m = (refl, refl)

outcome_size : (m : Machine) (outcome : Outcome) → Leads IsSameSize m outcome → IsSameSize m (call_settled m outcome).machine
unfolding call_settled settled turn
outcome_size m (Refused error) h = (refl, refl)
outcome_size m Retried h = (refl, refl)
outcome_size m (Served change) h = h.0

-- ---- deaths and ends

death_size : (pid : Pid) (m : Machine) → IsSameSize m (settled (death pid m)).machine
unfolding settled death servers_closed closed senders_queued_gone senders_held_gone forgotten
death_size pid m = (refl, refl)

thread_size : (who : ThreadId) (a0 : ℕ) (m : Machine) → IsSameSize m (settled (thread_ended who a0 m)).machine
unfolding settled death servers_closed closed senders_queued_gone senders_held_gone forgotten
thread_size who a0 m = go (thread_ended who a0 m) (end_of who a0 m)
  where
    go : (change : Change) → EndCase who a0 m change → IsSameSize m (settled change).machine
    go _ LeavesOthers = (refl, refl)
    go _ IsLast = (refl, refl)

handler_size : (pid : Pid) (m : Machine) → IsSameSize m (settled (handler_ended pid m)).machine
unfolding settled handler_ended
handler_size pid m = go (delivered pid idle) (start_of pid idle)
  where
    idle : Machine
    idle = change_thread (thread_id pid 1) (with_state Idle) m

    go : (change : Change) → StartCase pid idle change → IsSameSize m (settled change).machine
    go _ StartsNone = (refl, refl)
    go _ (Starts k claim e) = (refl, refl)

-- ---- steps

executed_size : (m : Machine) (t : Thread) (e : Executed) → IsSameSize m (executed m t e).machine
unfolding stored timer_set
executed_size m t (Next regs pc) = (refl, refl)
executed_size m t (Stores address width value regs pc) = (refl, refl)
executed_size m t (StoresToConsole offset value regs pc) = (refl, refl)
executed_size m t (StoresToTimer offset width value regs pc) = (refl, refl)
executed_size m t CallsKernel =
    outcome_size m (call m (arguments_of t.regs)) (call_leads IsSameSize same behind effect_size m (arguments_of t.regs))
executed_size m t (Traps cause value) = death_size m.cursor.pid m

act_size : (m : Machine) (who : ThreadId) (t : Thread) (done : Told) → ActCase m who t done → IsSameSize m done.machine
act_size m who t _ (Instructs x e) = executed_size (turned_to who m) t x
act_size m who t _ (EndsThread e) = thread_size who (reg_at t.regs 10) (turned_to who m)
act_size m who t _ (EndsHandler e) = handler_size who.pid (turned_to who m)

-- ---- whatever it is

pub cause_size : (cause : Cause) (m : Machine) → IsSameSize m (caused cause m)
cause_size cause m = by cause (record { machine = caused cause m; records = records_by cause m }) (case_of cause m)
  where
    by : (cause : Cause) (next : Recorded) → CauseCase m cause next → IsSameSize m next.machine
    by _ _ (Rests cause cursor reserved rest) = (refl, refl)
    by _ _ (Steps who t acts there case) =
        let done = acted (turned_to who m) t in
        let is = (timed_raised (counted (turned_to who m) (Some t) done)).is in
        let size = act_size m who t done case in
        (ap (λ (x : Machine). x.capacity) is ∙ size.0, ap (λ (x : Machine). x.processes) is ∙ size.1)
    by _ _ (Raises k claim e) =
        let is = (pended_raised k claim (unreserved m)).is in (ap (λ (x : Machine). x.capacity) is, ap (λ (x : Machine). x.processes) is)
    by _ _ (Kills pid e) = death_size pid (unreserved m)

-- No call makes an interrupt thread Idle, or makes a number pending or claims one that is.
use Rattle.std.proofs.Common.{◌≡◌, ℕ, Bool, true, false, List, [], ◌∷◌, Option, Some, None, refl, sym, ap, ◌∙◌}
use Rattle.std.specs.Prelude.{◌==◌, ◌||◌, not}
use Rattle.std.proofs.lemmas.Bool.{false≢true, or_parts}
use Rattle.xk_base.specs.declared.ids.Serial.{Serial}
use Rattle.xk_base.specs.declared.ids.ThreadId.{ThreadId}
use Rattle.xk_base.specs.declared.messages.Message.{Message}
use Rattle.syscall_codec.specs.CallWords.{call_number, interrupt_argument, interrupt_handler, interrupt_number}
use Rattle.machine_model.specs.Calling.Calls.{call}
use Rattle.machine_model.specs.Calling.InterruptCalls.{claim_refusals}
use Rattle.machine_model.specs.Calling.ServerCalls.{named_server, named_sid}
use Rattle.machine_model.specs.Ending.Closing.{closed, senders_held_gone, senders_queued_gone}
use Rattle.machine_model.specs.Ending.Ends.{forgotten}
use Rattle.machine_model.specs.Messaging.ReceiveCalls.{oldest_queued}
use Rattle.machine_model.specs.State.Changes.{Change, Outcome, Refused, Retried, Served, call_settled, settled, with_refusal}
use Rattle.machine_model.specs.State.Machine.{Claim, Machine, Receiving, Thread, Waiting}
use Rattle.machine_model.specs.State.Order.{turn}
use Rattle.machine_model.specs.State.Threads.{change_thread, passed, thread_id, with_state}
use Rattle.machine_model.specs.Stepping.Interrupts.{is_idle}
use Rattle.call_effects.specs.Effects.{Effect, Pages, HasHeap, Starts, Waits, Awaits, EndsTurn, Founds, Connects, TakesNumber, Serves, ClosesServers, Unqueues, Orphans, Forgets, Claims, Frees, apply, run}
use Rattle.call_effects.specs.Footprints.{ClaimsPart, Part, PendingPart, ThreadsPart, footprint, names}
use Rattle.call_effects.specs.Rows.MessageRows.{receive_row, send_row, taken_or, try_send_row}
use Rattle.call_effects.specs.Rows.ThreadRows.{create_row, join_row, terminate_row}
use Rattle.call_effects.specs.Verdicts.{Does, RefusedIf, Refuses, RetriedIf, Verdict, all_effects, answers_nobody}
use Rattle.call_effects.proofs.LeadingLemmas.{run_leads}
use Rattle.call_effects.proofs.PartLemmas.{OfChanging, of_parts}
use Rattle.machine_model.proofs.Calling.TableLemmas.{◌also◌}
use Rattle.call_effects.proofs.ServedLemmas.{OfPlan, OfServed}
use Rattle.confidentiality_laws.proofs.Keeping.CallLemmas.{none_hold}
use Rattle.interrupt_laws.proofs.IdleLemmas.{Calms, IdlesNoMore, Stood, changed_idles, forgotten_stood, freed_stood, idle_at, newly_stood}
use Rattle.interrupt_laws.proofs.IdleLemmas.{put_idles, settled_calms, then_calms, unforgotten}
use Rattle.interrupt_laws.proofs.KeptPendingLemmas.{PendingIsClaimed}

-- ---- effects

-- the effect leaves no thread Idle
abbrev idles_none : Effect → Bool
idles_none (Pages step) = true
idles_none (HasHeap n) = true
idles_none (Starts who thread) = not (is_idle thread.state)
idles_none (Waits who state) = not (is_idle state)
idles_none (Awaits waits number) = true
idles_none EndsTurn = true
idles_none (Founds server) = true
idles_none (Connects serial) = true
idles_none TakesNumber = true
idles_none (Serves serial step) = true
idles_none (ClosesServers which) = true
idles_none (Unqueues pid) = true
idles_none (Orphans pid) = true
idles_none (Forgets pid) = true
idles_none (Claims n claim) = true
idles_none (Frees n) = true

effect_idles : (effect : Effect) (m : Machine) → idles_none effect ≡ true → IdlesNoMore m (apply effect m)
unfolding turn closed senders_queued_gone senders_held_gone forgotten
effect_idles (Pages step) m ok = λ pid e. e
effect_idles (HasHeap n) m ok = λ pid e. e
effect_idles (Starts who thread) m ok = put_idles m who (Some thread) (λ idle. absurd (false≢true (sym (ap not idle) ∙ ok)))
effect_idles (Waits who state) m ok = changed_idles m who (with_state state) (λ t idle. absurd (false≢true (sym (ap not idle) ∙ ok)))
effect_idles (Awaits true number) m ok = changed_idles m m.cursor (with_state (Waiting number)) (λ t idle. absurd (false≢true idle))
effect_idles (Awaits false number) m ok = λ pid e. e
effect_idles EndsTurn m ok = λ pid e. e
effect_idles (Founds server) m ok = λ pid e. e
effect_idles (Connects serial) m ok = λ pid e. e
effect_idles TakesNumber m ok = λ pid e. e
effect_idles (Serves serial step) m ok = λ pid e. e
effect_idles (ClosesServers which) m ok = λ pid e. e
effect_idles (Unqueues pid) m ok = λ other e. e
effect_idles (Orphans pid) m ok = λ other e. e
effect_idles (Forgets pid) m ok = λ other e. unforgotten (m.threads (thread_id other 1)) (other.0 == pid.0) e
effect_idles (Claims n claim) m ok = λ pid e. e
effect_idles (Frees n) m ok = λ pid e. e

-- so does what is done by such effects alone
plan_idles : (m : Machine) (verdict : Verdict) → all_effects idles_none verdict ≡ true → OfPlan (λ plan. IdlesNoMore m (run plan.effects m)) verdict
plan_idles m (Refuses error) passes = tt
plan_idles m (Does plan) passes =
    run_leads IdlesNoMore idles_none (λ a pid e. e) (λ a b c first second pid e. first pid (second pid e)) effect_idles plan.effects m passes
plan_idles m (RefusedIf refusals verdict) passes = λ none. plan_idles m verdict passes
plan_idles m (RetriedIf retried verdict) passes = λ passed. plan_idles m verdict passes

taken_passes : (m : Machine) (serial : Serial) (o : Option Message) (otherwise : Verdict) → all_effects idles_none otherwise ≡ true
    → all_effects idles_none (taken_or m serial o otherwise) ≡ true
taken_passes m serial None otherwise passes = passes
taken_passes m serial (Some message) otherwise passes = refl

-- ---- calls

abbrev on_threads : List Part → Bool
on_threads parts = names parts ThreadsPart

abbrev on_claims : List Part → Bool
on_claims parts = names parts ClaimsPart || names parts PendingPart

-- what comes of a call, with the answers that it gives
outcome_calms : (m : Machine) (outcome : Outcome) → OfServed (λ change. IdlesNoMore m change.machine) outcome
    → OfServed (λ change. Stood m change.machine) outcome → Calms m (call_settled m outcome).machine
unfolding call_settled turn
outcome_calms m (Refused error) idles stood =
    record { idles = changed_idles m m.cursor (with_refusal error) (λ t idle. idle); stood = λ k claim c p. (c, p) }
outcome_calms m Retried idles stood = record { idles = λ pid e. e; stood = λ k claim c p. (c, p) }
outcome_calms m (Served change) idles stood =
    let left : Machine = change_thread m.cursor passed change.machine in
    then_calms m left (settled (record change { machine = left })).machine
    (record {
      idles = λ pid e. idles pid (changed_idles change.machine m.cursor passed (λ t idle. idle) pid e);
      stood = stood;
    })
    (settled_calms (record change { machine = left }))

module _ (m : Machine) (w : List ℕ) where
  abbrev IdleChange : Change → Type 0
  IdleChange change = IdlesNoMore m change.machine

  -- the calls that can change threads
  each_thread : OfChanging on_threads IdleChange m w
  each_thread =
      (λ e.
      plan_idles m (receive_row m w)
      (taken_passes m (named_server m (named_sid w)) (oldest_queued m (named_server m (named_sid w)))
      (answers_nobody (Waits m.cursor (Receiving (named_server m (named_sid w))) ∷ [])) refl))
      also (λ e. plan_idles m (send_row m w) refl)
      also (λ e. plan_idles m (create_row m w) refl)
      also (λ e. plan_idles m (terminate_row m w) refl)
      also (λ e. plan_idles m (try_send_row m w) refl)
      also (λ e. plan_idles m (join_row m w) refl)
      also tt

  call_idles : OfServed IdleChange (call m w)
  call_idles =
      of_parts on_threads IdleChange m w each_thread
      (λ change rest untouched pid e.
      ap (λ (f : ThreadId → Option Thread). idle_at (f (thread_id pid 1))) (sym (rest.threads untouched)) ∙ e)

  module _ (claimed : PendingIsClaimed m) where
    abbrev StoodChange : Change → Type 0
    StoodChange change = Stood m change.machine

    -- .. and those that can change claims or pending numbers
    each_claim : OfChanging on_claims StoodChange m w
    unfolding closed senders_queued_gone senders_held_gone forgotten
    each_claim =
        (λ e none.
        newly_stood m claimed (interrupt_number w)
        (record { pid = m.cursor.pid; handler = interrupt_handler w; argument = interrupt_argument w })
        (none_hold (claim_refusals m (interrupt_number w) (interrupt_handler w)) none).1.1.0)
        also (λ e none. freed_stood m (interrupt_number w))
        also (λ e. forgotten_stood m m.cursor.pid)
        also tt

    call_stood : OfServed StoodChange (call m w)
    call_stood =
        of_parts on_claims StoodChange m w each_claim
        (λ change rest untouched k claim c p.
        let parts = or_parts (names (footprint (call_number w)) ClaimsPart) (names (footprint (call_number w)) PendingPart) untouched in (
          ap (λ (f : ℕ → Option Claim). f k) (sym (rest.claims parts.0)) ∙ c,
          ap (λ (f : ℕ → Bool). f k) (sym (rest.pending parts.1)) ∙ p,
        ))

    pub call_calms : Calms m (call_settled m (call m w)).machine
    call_calms = outcome_calms m (call m w) call_idles call_stood

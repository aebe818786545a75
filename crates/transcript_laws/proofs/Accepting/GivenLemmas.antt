-- What each cause makes of the next message number.
use Rattle.std.proofs.Common.{◌≡◌, ℕ, ◌+◌, ◌⊎◌, inl, inr, Bool, true, false, List, Some, None, refl, sym, ap, ◌∙◌, subst}
use Rattle.std.proofs.lemmas.Bool.{false≢true, eqb-true}
use Rattle.std.specs.Prelude.{◌==◌, ◌||◌}
use Rattle.xk_base.specs.declared.ids.Number.{Number}
use Rattle.xk_base.specs.declared.ids.Pid.{Pid}
use Rattle.xk_base.specs.declared.ids.ThreadId.{ThreadId}
use Rattle.syscall_codec.specs.CallWords.{call_number}
use Rattle.xk_base.specs.Calls.Registers.{arguments_of, reg_at}
use Rattle.syscall_codec.specs.CallNumbers.{send_message, try_send_message}
use Rattle.machine_model.specs.Calling.Calls.{call}
use Rattle.machine_model.specs.Ending.Closing.{closed, senders_held_gone, senders_queued_gone, servers_closed}
use Rattle.machine_model.specs.Ending.Ends.{death, forgotten, handler_ended, thread_ended}
use Rattle.machine_model.specs.Hart.Instructions.{CallsKernel, Executed, Next, Stores, StoresToConsole, StoresToTimer, Traps}
use Rattle.machine_model.specs.Messaging.Messages.{new_number}
use Rattle.machine_model.specs.Runs.LoanSpan.{is_send}
use Rattle.machine_model.specs.Runs.Moments.{ByStep, Cause, caused, moment_of}
use Rattle.machine_model.specs.State.Changes.{Change, Outcome, Refused, Retried, Served, call_settled, settled}
use Rattle.machine_model.specs.State.Machine.{Machine, Thread, Idle}
use Rattle.machine_model.specs.State.Order.{actor, turn}
use Rattle.machine_model.specs.State.Threads.{put_thread, change_thread, thread_id, with_state}
use Rattle.machine_model.specs.State.Views.{stored, timer_set}
use Rattle.machine_model.specs.Stepping.Acts.{call_by, is_call_served, is_served, is_call as calls_kernel}
use Rattle.machine_model.specs.Stepping.Interrupts.{pended, delivered}
use Rattle.machine_model.specs.Stepping.Reservations.{unreserved}
use Rattle.machine_model.specs.Stepping.Step.{acted, executed, step}
use Rattle.machine_model.specs.Messaging.SendCalls.{sender_left}
use Rattle.machine_model.proofs.Runs.TimerLemmas.{pended_raised}
use Rattle.machine_laws.proofs.Stepping.StepKindLemmas.{is_call}
use Rattle.machine_laws.proofs.Threading.ThreadStepLemmas.{turned_to}
use Rattle.call_effects.specs.Footprints.{NumberPart, footprint, names, Part}
use Rattle.call_effects.proofs.PartLemmas.{OfChanging, of_parts}
use Rattle.machine_model.proofs.Calling.TableLemmas.{◌also◌}
use Rattle.call_effects.proofs.ServedLemmas.{OfServed}
use Rattle.loan_laws.proofs.Fates.LikeLemmas.{call_like, like_raised, served_like, settled_like}
use Rattle.machine_laws.proofs.Stepping.CauseCaseLemmas.{ActCase, CauseCase, EndCase, EndsHandler, EndsThread, Instructs, IsLast, Kills, LeavesOthers, Raises, Rests, StartCase, Starts}
use Rattle.machine_laws.proofs.Stepping.CauseCaseLemmas.{StartsNone, Steps, case_of, end_of, start_of}
use Rattle.transcript_laws.specs.Accepting.{Accepts, GivesNumbers}
use Rattle.call_effects.proofs.ServedLemmas.{done}
use Rattle.machine_laws.specs.Records.{records_by}
use Rattle.machine_model.proofs.Runs.TimerLemmas.{timed_raised}
use Rattle.machine_model.specs.State.Changes.{Told}
use Rattle.machine_model.specs.Stepping.Step.{Recorded, counted}
use Rattle.machine_model.specs.Stepping.Timer.{timed}

-- ---- calls

-- a send takes one number, and any other call none
abbrev pub CountsSends : Machine → List ℕ → Change → Type 0
CountsSends n w change =
    ((is_send (call_number w) ≡ true) × (change.machine.next_number ≡ n.next_number + 1))
    ⊎ ((is_send (call_number w) ≡ false) × (change.machine.next_number ≡ n.next_number))

abbrev touches_number : List Part → Bool
touches_number parts = names parts NumberPart

awaiting_number : (b : Bool) (number : Number) (m : Machine) → (sender_left b number m).next_number ≡ m.next_number
awaiting_number true number m = refl
awaiting_number false number m = refl

-- each send is among the calls that take a number
is_send_touches : (k : ℕ) → is_send k ≡ true → names (footprint k) NumberPart ≡ true
is_send_touches k e = go (k == send_message) (k == try_send_message) refl refl e
  where
    go : (a b : Bool) → (k == send_message) ≡ a → (k == try_send_message) ≡ b → (a || b) ≡ true → names (footprint k) NumberPart ≡ true
    go true b p q r = subst (λ j. names (footprint j) NumberPart ≡ true) (sym (eqb-true k send_message p)) refl
    go false true p q r = subst (λ j. names (footprint j) NumberPart ≡ true) (sym (eqb-true k try_send_message q)) refl
    go false false p q r = absurd (false≢true r)

module _ (n : Machine) (w : List ℕ) where
  sends : (k : ℕ) → is_send k ≡ true → call_number w ≡ k → is_send (call_number w) ≡ true
  sends k e same = ap is_send same ∙ e

  each : OfChanging touches_number (CountsSends n w) n w
  each =
      (λ e none passed first. inl (sends send_message refl e, awaiting_number _ _ _))
      also (λ e none first. inl (sends try_send_message refl e, awaiting_number _ _ _))
      also tt

  pub counts_sends : OfServed (CountsSends n w) (call n w)
  counts_sends =
      of_parts touches_number (CountsSends n w) n w each (λ change rest untouched. inr (not_send untouched (is_send (call_number w)) refl, rest.next_number untouched))
    where
      not_send : names (footprint (call_number w)) NumberPart ≡ false → (b : Bool) → is_send (call_number w) ≡ b → b ≡ false
      not_send none false e = refl
      not_send none true e = absurd (false≢true (sym none ∙ is_send_touches (call_number w) e))

-- ---- all that leaves the number

death_number : (m : Machine) (pid : Pid) → (death pid m).machine.next_number ≡ m.next_number
unfolding death servers_closed closed senders_queued_gone senders_held_gone forgotten
death_number m pid = refl

settled_death_number : (m : Machine) (pid : Pid) → (settled (death pid m)).machine.next_number ≡ m.next_number
settled_death_number m pid = (settled_like (death pid m)).number ∙ death_number m pid

thread_end_number : (m : Machine) (who : ThreadId) (a0 : ℕ) → (settled (thread_ended who a0 m)).machine.next_number ≡ m.next_number
thread_end_number m who a0 = (settled_like (thread_ended who a0 m)).number ∙ go (thread_ended who a0 m) (end_of who a0 m)
  where
    go : (change : Change) → EndCase who a0 m change → change.machine.next_number ≡ m.next_number
    go _ LeavesOthers = refl
    go _ IsLast = death_number (put_thread who None m) who.pid

delivered_number : (m : Machine) (pid : Pid) → (delivered pid m).machine.next_number ≡ m.next_number
delivered_number m pid = go (delivered pid m) (start_of pid m)
  where
    go : (change : Change) → StartCase pid m change → change.machine.next_number ≡ m.next_number
    go _ StartsNone = refl
    go _ (Starts k claim e) = refl

handler_end_number : (m : Machine) (pid : Pid) → (settled (handler_ended pid m)).machine.next_number ≡ m.next_number
unfolding handler_ended
handler_end_number m pid =
    (settled_like (delivered pid (change_thread (thread_id pid 1) (with_state Idle) m))).number
    ∙ delivered_number (change_thread (thread_id pid 1) (with_state Idle) m) pid

timed_number : (done : Told) → (timed done).machine.next_number ≡ done.machine.next_number
timed_number done = ap (λ (x : Machine). x.next_number) (timed_raised done).is

-- ---- a step

module _ (m : Machine) (who : ThreadId) (acts : actor m ≡ Some who) where
  abbrev n : Machine
  n = turned_to who m

  module _ (w : List ℕ) (c : call_by m who ≡ Some w) where
    -- what comes of it decides
    abbrev Left : Outcome → Type 0
    Left o = ((is_served o ≡ true) × (is_send (call_number w) ≡ true) × ((call_settled n o).machine.next_number ≡ m.next_number + 1))
        ⊎ (((is_served o ≡ true) → is_send (call_number w) ≡ false) × ((call_settled n o).machine.next_number ≡ m.next_number))

    of_outcome : (o : Outcome) → OfServed (CountsSends n w) o → Left o
    unfolding call_settled turn
    of_outcome (Refused error) of = inr (λ e. absurd (false≢true e), refl)
    of_outcome Retried of = inr (λ e. absurd (false≢true e), refl)
    of_outcome (Served change) of = go of
      where
        go : CountsSends n w change → Left (Served change)
        go (inl h) = inl (refl, h.0, (served_like n change).number ∙ h.1)
        go (inr h) = inr (λ e. h.0, (served_like n change).number ∙ h.1)

    settled_so : Left (call n w)
    settled_so = of_outcome (call n w) (counts_sends n w)

    same_step : (step m).machine.next_number ≡ (call_settled n (call n w)).machine.next_number
    same_step = (call_like m who w acts c).number

    pub call_given : is_call_served m who w ≡ true → is_send (call_number w) ≡ true → (step m).machine.next_number ≡ m.next_number + 1
    unfolding is_call_served
    call_given served sends = same_step ∙ go settled_so
      where
        go : Left (call n w) → (call_settled n (call n w)).machine.next_number ≡ m.next_number + 1
        go (inl h) = h.2
        go (inr h) = absurd (false≢true (sym (h.0 served) ∙ sends))

    pub call_kept : ((step m).machine.next_number ≡ m.next_number) ⊎ Accepts (new_number m) m (moment_of ByStep m)
    call_kept = go settled_so
      where
        served : is_served (call n w) ≡ true → is_call_served m who w ≡ true
        served e = unfold is_call_served in e

        go : Left (call n w) → ((step m).machine.next_number ≡ m.next_number) ⊎ Accepts (new_number m) m (moment_of ByStep m)
        go (inr h) = inl (same_step ∙ h.1)
        go (inl h) = inr (record {
          pid = who.pid;
          words = w;
          served = record { who = who; step = refl; by_who = acts; of_process = refl; call = c; served = served h.0 };
          sends = h.1;
          taken = refl;
        })

  executed_number : (t : Thread) (x : Executed) → calls_kernel x ≡ false → (executed n t x).machine.next_number ≡ m.next_number
  unfolding stored timer_set
  executed_number t (Next regs pc) i = refl
  executed_number t (Stores address width value regs pc) i = refl
  executed_number t (StoresToConsole offset value regs pc) i = refl
  executed_number t (StoresToTimer offset width value regs pc) i = refl
  executed_number t CallsKernel i = absurd (false≢true (sym i))
  executed_number t (Traps cause value) i = settled_death_number n who.pid

  abbrev Gives : ℕ → Type 0
  Gives number = (number ≡ m.next_number) ⊎ Accepts (new_number m) m (moment_of ByStep m)

  -- the number that a step leaves is that of what the thread does
  act_kept : (t : Thread) → m.threads who ≡ Some t → (done : Told) → ActCase m who t done → (step m).machine.next_number ≡ done.machine.next_number
      → Gives (step m).machine.next_number
  act_kept t there _ (EndsThread ends) is = inl (is ∙ thread_end_number n who (reg_at t.regs 10))
  act_kept t there _ (EndsHandler ends) is = inl (is ∙ handler_end_number n who.pid)
  act_kept t there _ (Instructs x e) is = go (calls_kernel x) refl
    where
      calls : (y : Executed) → calls_kernel y ≡ true → x ≡ y → Gives (step m).machine.next_number
      calls (Next regs pc) i same = absurd (false≢true i)
      calls (Stores address width value regs pc) i same = absurd (false≢true i)
      calls (StoresToConsole offset value regs pc) i same = absurd (false≢true i)
      calls (StoresToTimer offset width value regs pc) i same = absurd (false≢true i)
      calls CallsKernel i same = call_kept (arguments_of t.regs) (is_call m who t there (e ∙ ap Some same))
      calls (Traps cause value) i same = absurd (false≢true i)

      go : (b : Bool) → calls_kernel x ≡ b → Gives (step m).machine.next_number
      go true i = calls x i refl
      go false i = inl (is ∙ executed_number t x i)

-- ---- any cause

cause_kept : (cause : Cause) (m : Machine) → ((caused cause m).next_number ≡ m.next_number) ⊎ Accepts (new_number m) m (moment_of cause m)
cause_kept cause m = by cause (record { machine = caused cause m; records = records_by cause m }) (case_of cause m) refl
  where
    by : (cause : Cause) (next : Recorded) → CauseCase m cause next → (caused cause m).next_number ≡ next.machine.next_number
        → ((caused cause m).next_number ≡ m.next_number) ⊎ Accepts (new_number m) m (moment_of cause m)
    by _ _ (Rests cause cursor reserved rest) is = inl is
    by _ _ (Steps who t acts there case) is =
        let done = acted (turned_to who m) t in
        act_kept m who acts t there done case (is ∙ timed_number (counted (turned_to who m) (Some t) done))
    by _ _ (Raises k claim e) is =
        inl (is ∙ (like_raised (unreserved m) (settled (pended k claim (unreserved m))).machine (pended_raised k claim (unreserved m))).number)
    by _ _ (Kills pid e) is = inl (is ∙ settled_death_number (unreserved m) pid)

pub cause_gives : (cause : Cause) (m : Machine) → GivesNumbers m (moment_of cause m)
cause_gives cause m = record {
  given = λ number a.
      ap (λ c. (caused c m).next_number) a.served.step
      ∙ call_given m a.served.who a.served.by_who a.words a.served.call a.served.served a.sends;
  kept = cause_kept cause m;
}

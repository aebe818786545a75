-- What a system call tells of each thread: its caller is answered or waits, and it answers threads that wait.
use Rattle.std.proofs.Common.{◌≡◌, ℕ, ◌⊎◌, inl, inr, Bool, true, false, List, [], Option, None, refl, sym, ap, ◌∙◌, subst}
use Rattle.std.specs.Prelude.{◌==◌, is_some}
use Rattle.std.specs.Bool.{⊤}
use Rattle.std.proofs.lemmas.Bool.{eq-eqb, false≢true}
use Rattle.xk_base.specs.declared.ids.Pid.{Pid}
use Rattle.xk_base.specs.declared.ids.ThreadId.{ThreadId}
use Rattle.xk_base.specs.declared.records.What.TheVariants.{Call, Reply, Retry}
use Rattle.syscall_codec.specs.ReplyWords.{refused_words}
use Rattle.xk_base.specs.Tables.Circle.{is_thread_id, same_thread}
use Rattle.call_effects.proofs.FootprintLemmas.{calls_leave_the_rest}
use Rattle.call_effects.proofs.LeadingLemmas.{call_leads}
use Rattle.call_effects.proofs.ServedLemmas.{OfServed}
use Rattle.machine_model.specs.Calling.Calls.{call}
use Rattle.machine_model.specs.Ending.Ends.{death}
use Rattle.machine_model.specs.Runs.Matched.{Matched}
use Rattle.machine_model.specs.State.Changes.{Change, Outcome, Refused, Retried, Served, call_settled, with_refusal}
use Rattle.machine_model.specs.State.Machine.{Machine}
use Rattle.machine_model.specs.State.Order.{ready_at, turn}
use Rattle.machine_model.specs.State.Threads.{change_thread, passed}
use Rattle.machine_model.specs.Stepping.Step.{after}
use Rattle.machine_laws.proofs.Threading.ThreadAnswerLemmas.{IsReadyThread, ready_lives, ready_thread}
use Rattle.machine_laws.proofs.Threading.ThreadPutLemmas.{alike}
use Rattle.transcript_laws.specs.AnsweredOnce.{Free, LeadsIf, Says, Standing, Waits, standing, standing_by}
use Rattle.transcript_laws.specs.Answering.{AnswersWhoWaits, is_waiting}
use Rattle.transcript_laws.proofs.Answering.CallTableLemmas.{calls_answer_who_waits}
use Rattle.transcript_laws.proofs.Answering.DeathFitLemmas.{StoodAs, death_itself_fits}
use Rattle.transcript_laws.proofs.Answering.DeliverSayLemmas.{Tells}
use Rattle.transcript_laws.proofs.Answering.SayLemmas.{ChangeFits, change_says, dies_by, say_first, say_none}
use Rattle.transcript_laws.proofs.Answering.StandLemmas.{changed_stands, ready_stands, turned_apart, waiting_known, waiting_lives}
use Rattle.transcript_laws.proofs.Answering.StandLemmas.{waiting_stands}

-- the caller waits, once it called
abbrev pub called_by : Bool → Standing → Standing
called_by true s = Waits
called_by false s = s

-- where a change fits, so it does where the caller goes past its call
passed_fits : (before : ThreadId → Standing) (change : Change) (who : ThreadId) → ChangeFits before change
    → ChangeFits before (record change { machine = change_thread who passed change.machine })
passed_fits before change who fits = record {
  delivery = fits.delivery;
  answered = fits.answered;
  left = λ id apart none. changed_stands change.machine who passed (λ t. refl) id ∙ fits.left id apart none;
  freed = fits.freed;
  dead = fits.dead;
}

module _ (m : Machine) (h : Matched m) (ready : ready_at m m.cursor ≡ true) (w : List ℕ) where
  abbrev pub called : ThreadId → Standing
  called id = called_by (same_thread m.cursor id) (standing m id)

  caller_free : (id : ThreadId) → same_thread m.cursor id ≡ true → standing m id ≡ Free
  caller_free id e = ap (standing m) (sym (alike m.cursor id e)) ∙ ready_stands m h m.cursor (ready_thread m m.cursor ready)

  pub call_says : (id : ThreadId) → Says id (Call m.cursor w) (standing m id) (called id)
  call_says id = go (same_thread m.cursor id) refl
    where
      go : (b : Bool) → same_thread m.cursor id ≡ b → LeadsIf b Free Waits (standing m id) (called_by b (standing m id))
      go true e = (caller_free id e, refl)
      go false e = refl

  -- the caller is freed, and all others stand as they did
  freed_says : (id : ThreadId) (s : Standing) → s ≡ standing m id → LeadsIf (same_thread m.cursor id) Waits Free (called id) s
  freed_says id s same = go (same_thread m.cursor id) refl
    where
      go : (b : Bool) → same_thread m.cursor id ≡ b → LeadsIf b Waits Free (called_by b (standing m id)) s
      go true e = (refl, same ∙ caller_free id e)
      go false e = sym same

  -- ---- served

  module _ (change : Change) (is_served : call m w ≡ Served change) where
    delivers_none : change.delivery ≡ None
    delivers_none =
        (subst (OfServed (λ (c : Change). ⊤ × (c.delivery ≡ None))) is_served
        (call_leads (λ a b. ⊤) (λ a. tt) (λ a b c p q. tt) (λ effect a. tt) m w)).1

    known_still : (id : ThreadId) → is_thread_id m.processes id ≡ true → is_thread_id change.machine.processes id ≡ true
    known_still id e = subst (λ k. is_thread_id k id ≡ true) (sym (calls_leave_the_rest m w change is_served).processes) e

    module _ (fits : AnswersWhoWaits m change) where
      caller : IsReadyThread m m.cursor
      caller = ready_thread m m.cursor ready

      answered : (id : ThreadId) → is_some (change.answers id) ≡ true → (called id ≡ Waits) × (is_thread_id change.machine.processes id ≡ true)
      answered id some = go (same_thread m.cursor id) refl
        where
          go : (b : Bool) → same_thread m.cursor id ≡ b → (called_by b (standing m id) ≡ Waits) × (is_thread_id change.machine.processes id ≡ true)
          go true e =
              (refl, known_still id (subst (λ x. is_thread_id m.processes x ≡ true) (alike m.cursor id e) (h.body.ids.known m.cursor caller.thread caller.there)))
          go false e =
              let waits = fits.others id (turned_apart m.cursor id e) some in
              (waiting_stands m h id waits, known_still id (waiting_known m h id waits))

      left : (id : ThreadId) → is_some (change.answers id) ≡ false → standing change.machine id ≡ called id
      left id none = go (same_thread m.cursor id) refl
        where
          waits : same_thread m.cursor id ≡ true → is_waiting (change.machine.threads id) ≡ true
          waits e = either fits.caller
            where
              either : (is_some (change.answers m.cursor) ≡ true) ⊎ (is_waiting (change.machine.threads m.cursor) ≡ true)
                  → is_waiting (change.machine.threads id) ≡ true
              either (inl some) = absurd (false≢true (sym none ∙ (ap (λ x. is_some (change.answers x)) (sym (alike m.cursor id e)) ∙ some)))
              either (inr q) = ap (λ x. is_waiting (change.machine.threads x)) (sym (alike m.cursor id e)) ∙ q

          lives : same_thread m.cursor id ≡ true → (change.machine.process id.pid.0).alive ≡ true
          lives e =
              fits.alive id.pid.0
              ∙ (ap (λ (x : ThreadId). (m.process x.pid.0).alive) (sym (alike m.cursor id e)) ∙ ready_lives m h m.cursor ready)

          go : (b : Bool) → same_thread m.cursor id ≡ b → standing change.machine id ≡ called_by b (standing m id)
          go true e = ap (λ b. standing_by b (is_waiting (change.machine.threads id))) (lives e) ∙ ap (standing_by true) (waits e)
          go false e =
              ap (λ b. standing_by b (is_waiting (change.machine.threads id))) (fits.alive id.pid.0)
              ∙ ap (standing_by (m.process id.pid.0).alive) (fits.threads id (turned_apart m.cursor id e))

      freed : (id : ThreadId) → is_some (change.answers id) ≡ true → (change.machine.process id.pid.0).alive ≡ true
      freed id some = go (same_thread m.cursor id) refl
        where
          go : (b : Bool) → same_thread m.cursor id ≡ b → (change.machine.process id.pid.0).alive ≡ true
          go true e =
              fits.alive id.pid.0
              ∙ (ap (λ (x : ThreadId). (m.process x.pid.0).alive) (sym (alike m.cursor id e)) ∙ ready_lives m h m.cursor ready)
          go false e = fits.alive id.pid.0 ∙ waiting_lives m h id (fits.others id (turned_apart m.cursor id e) some)

      answering_fits : ChangeFits called change
      answering_fits = record {
        delivery = delivers_none;
        answered = answered;
        left = λ id apart none. left id none;
        freed = λ id apart some. freed id some;
        dead = λ id e. absurd (false≢true (ap (λ (o : Option Pid). dies_by o id) (sym fits.gone) ∙ e));
      }

    stood : (id : ThreadId) → StoodAs m m.cursor.pid called id
    stood id = go (same_thread m.cursor id) refl
      where
        go : (b : Bool) → same_thread m.cursor id ≡ b
            → (called_by b (standing m id) ≡ standing m id) ⊎ ((called_by b (standing m id) ≡ Waits) × ((m.cursor.pid.0 == id.pid.0) ≡ true))
        go true e = inr (refl, eq-eqb m.cursor.pid.0 id.pid.0 (ap (λ (x : ThreadId). x.pid.0) (alike m.cursor id e)))
        go false e = inl refl

    change_fits : ChangeFits called change
    change_fits = go (calls_answer_who_waits m w change h ready is_served)
      where
        go : AnswersWhoWaits m change ⊎ (change ≡ death m.cursor.pid m) → ChangeFits called change
        go (inl fits) = answering_fits fits
        go (inr e) = subst (ChangeFits called) (sym e) (death_itself_fits m h m.cursor.pid (ready_lives m h m.cursor ready) called stood)

  outcome_tells : (o : Outcome) → call m w ≡ o → Tells called (call_settled m o)
  unfolding call_settled turn
  outcome_tells (Refused error) e id =
      say_first id (Reply m.cursor (refused_words error)) [] (called id) (standing (change_thread m.cursor (with_refusal error) m) id)
      (standing (change_thread m.cursor (with_refusal error) m) id)
      (freed_says id (standing (change_thread m.cursor (with_refusal error) m) id) (changed_stands m m.cursor (with_refusal error) (λ t. refl) id))
      (say_none id (standing (change_thread m.cursor (with_refusal error) m) id))
  outcome_tells Retried e id =
      say_first id (Retry m.cursor) [] (called id) (standing m id) (standing m id) (freed_says id (standing m id) refl) (say_none id (standing m id))
  outcome_tells (Served change) e id =
      change_says called (record change { machine = change_thread m.cursor passed change.machine }) (passed_fits called change m.cursor (change_fits change e)) id

  pub call_tells : Tells (standing m) (after (Call m.cursor w) (call_settled m (call m w)))
  call_tells id =
      say_first id (Call m.cursor w) (call_settled m (call m w)).told (standing m id) (called id) (standing (call_settled m (call m w)).machine id)
      (call_says id) (outcome_tells (call m w) refl id)

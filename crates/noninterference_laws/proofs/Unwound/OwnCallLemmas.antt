-- A call of the process that runs the program leaves it at the next line, where it is answered or waits; or where it is, for another try.
use Rattle.std.proofs.Common.{◌≡◌, ◌≢◌, ℕ, ◌≤◌, Bool, ◌&&◌, true, false, List, [], ◌∷◌, length, Option, Some, None, refl, sym, ap, ◌∙◌, arith, subst}
use Rattle.std.specs.Prelude.{◌==◌, if◌then◌else◌}
use Rattle.std.specs.Option.{option_map, option_or}
use Rattle.std.proofs.lemmas.Bool.{and_right, eqb-true, false≢true}
use Rattle.std.proofs.lemmas.List.Elements.{Contains-append_right}
use Rattle.xk_base.specs.declared.ids.Number.{Number}
use Rattle.xk_base.specs.declared.ids.Pid.{Pid}
use Rattle.xk_base.specs.declared.ids.Serial.{Serial}
use Rattle.xk_base.specs.declared.ids.ThreadId.{ThreadId}
use Rattle.xk_base.specs.declared.messages.Message.{Message}
use Rattle.xk_base.specs.Calls.Registers.{arguments_of, with_arguments}
use Rattle.xk_base.specs.Tables.Circle.{same_thread}
use Rattle.syscall_codec.specs.CallNumbers.{create_server_with_address, receive_message, return_scalar1}
use Rattle.syscall_codec.specs.CallWords.{call_number, return_value1}
use Rattle.syscall_codec.specs.ReplyWords.{message_words, plain_words, refused_words, scalar1_words}
use Rattle.machine_model.specs.Calling.Calls.{call}
use Rattle.machine_model.specs.Calling.ServerCalls.{named_server, named_sid}
use Rattle.machine_model.specs.Hart.Instructions.{following}
use Rattle.machine_model.specs.Messaging.Messages.{is_blocking_of}
use Rattle.machine_model.specs.Messaging.ReceiveCalls.{oldest_queued}
use Rattle.machine_model.specs.Messaging.ReturnCalls.{held_by_caller, named_number, sender_gets, sender_of_message}
use Rattle.machine_model.specs.Runs.Matched.{Matched, is_waiting_for}
use Rattle.machine_model.specs.State.Changes.{Change, Outcome, Refused, Retried, Served, call_settled, settled}
use Rattle.machine_model.specs.State.Machine.{Machine, Ready, Receiving, Thread, ThreadState}
use Rattle.machine_model.specs.State.Order.{turn}
use Rattle.machine_model.specs.State.Threads.{answer_to, passed, thread_id, with_answer}
use Rattle.call_effects.specs.Deciding.{decide, row_at, rows}
use Rattle.call_effects.specs.Effects.{Waits}
use Rattle.call_effects.specs.Rows.MessageRows.{taken_or}
use Rattle.call_effects.specs.Verdicts.{answers_nobody}
use Rattle.call_effects.proofs.MeantLemmas.{calls_meant}
use Rattle.call_effects.proofs.ServedLemmas.{OfPlan, OfServed, done, of_plan}
use Rattle.machine_laws.proofs.Threading.ThreadAnswerLemmas.{same_thread-self}
use Rattle.machine_laws.proofs.Threading.ThreadPutLemmas.{alike}
use Rattle.machine_laws.proofs.Threading.ThreadStepLemmas.{turned_to}
use Rattle.noninterference_laws.specs.SecretSum.{Create, Grow, IsAt, Line, Name, Receive, Repeat, Return, RunsProgram, can_be, line_address}
use Rattle.noninterference_laws.proofs.BroughtLemmas.{held_there}
use Rattle.noninterference_laws.proofs.Unwound.OthersLemmas.{fits, sent_none}
use Rattle.noninterference_laws.proofs.Unwound.RegisterLemmas.{Fits, number_called, passes_create, passes_receive, passes_return, reply_fits}
use Rattle.noninterference_laws.specs.SecretSum.{HasCall}

module _ (pid : Pid) (m : Machine) (h : Matched m) (runs : RunsProgram pid m) where
  abbrev pub first : ThreadId
  first = thread_id pid 2

  abbrev pub tid_of : ℕ → ThreadId
  tid_of tid = thread_id pid tid

  abbrev pub here : Machine
  here = turned_to first m

  abbrev t : Thread
  t = runs.thread

  pub apart : (tid : ℕ) → tid ≢ 2 → same_thread (tid_of tid) first ≡ false
  apart tid other = go (tid == 2) refl
    where
      go : (b : Bool) → (tid == 2) ≡ b → ((pid.0 == pid.0) && b) ≡ false
      go false e = and_right (pid.0 == pid.0) false refl
      go true e = absurd (other (eqb-true tid 2 e))

  -- ---- what a step leaves

  -- the first thread is at a line, its other threads are as before, and so are the claims
  pub record StaysIn (after : Machine) : Type 0 where
    pub line : Line
    pub thread : Thread
    pub there : after.threads first ≡ Some thread
    pub at : IsAt line thread
    pub others : (tid : ℕ) → tid ≢ 2 → after.threads (tid_of tid) ≡ m.threads (tid_of tid)
    pub claims : after.claims ≡ m.claims

  -- ---- a served call

  -- where the caller goes on: answered four words or more, or without an answer
  GoesOn : Line → Option (List ℕ) → ThreadState → Type 0
  GoesOn next (Some words) state = 4 ≤ length words
  GoesOn next None state = can_be next state ≡ true

  record ServedOwn (next : Line) (change : Change) : Type 0 where
    thread : Thread
    there : change.machine.threads first ≡ Some thread
    pc : thread.pc ≡ t.pc
    regs : thread.regs ≡ t.regs
    goes_on : GoesOn next (change.answers first) thread.state
    others : (tid : ℕ) → tid ≢ 2 → change.machine.threads (tid_of tid) ≡ m.threads (tid_of tid)
    unanswered : change.answers (tid_of 1) ≡ None
    claims : change.machine.claims ≡ m.claims

  answered_first : (words : List ℕ) → answer_to first words first ≡ Some words
  answered_first words = ap (λ b. if b then Some words else None) (same_thread-self first)

  answered_other : (words : List ℕ) (tid : ℕ) → tid ≢ 2 → answer_to first words (tid_of tid) ≡ None
  answered_other words tid other = ap (λ b. if b then Some words else None) (apart tid other)

  one_two : ◌≢◌ {A = ℕ} 1 2
  one_two e = absurd (omega (arith, e))

  -- an answer to the caller alone
  answered_own : (next : Line) (words : List ℕ) → 4 ≤ length words → (change : Change) → change.machine.threads ≡ m.threads
      → change.answers first ≡ Some words → change.answers (tid_of 1) ≡ None → change.machine.claims ≡ m.claims → ServedOwn next change
  unfolding GoesOn
  answered_own next words four change threads answer none claims = record {
    thread = t;
    there = ap (λ (f : ThreadId → Option Thread). f first) threads ∙ runs.there;
    pc = refl;
    regs = refl;
    goes_on = subst (λ o. GoesOn next o t.state) (sym answer) four;
    others = λ tid other. ap (λ (f : ThreadId → Option Thread). f (tid_of tid)) threads;
    unanswered = none;
    claims = claims;
  }

  -- ---- of each call

  module _ (w : List ℕ) where
    by_row : (P : Change → Type 0) (number : ℕ) → call_number w ≡ number → OfPlan (λ plan. P (done here plan)) (row_at number rows here w)
        → OfServed P (call here w)
    unfolding decide
    by_row P number is of =
        subst (OfServed P) (sym (calls_meant here w))
        (of_plan P here (decide here w) (λ none. subst (λ k. OfPlan (λ plan. P (done here plan)) (row_at k rows here w)) (sym is) of))

    create_served : call_number w ≡ create_server_with_address → OfServed (ServedOwn Name) (call here w)
    create_served is =
        by_row (ServedOwn Name) create_server_with_address is
        (λ none. answered_own Name _ (omega arith) _ refl (answered_first _) (answered_other _ 1 one_two) refl)

    -- the interrupt thread sent nothing, so it isn't answered
    returned_to : (words : List ℕ) (o : Option Message) → held_by_caller here (is_blocking_of (named_number w)) ≡ o
        → sender_gets words (sender_of_message o) (tid_of 1) ≡ None
    returned_to words None e = refl
    returned_to words (Some message) e = by_sender message.sender refl
      where
        its : (who : ThreadId) → message.sender ≡ Some who → (b : Bool) → same_thread (tid_of 1) who ≡ b → (if b then Some words else None) ≡ None
        its who sender false q = refl
        its who sender true q =
            let held = held_there m first w (is_blocking_of (named_number w)) message e in
            absurd (sent_none pid m h runs (tid_of 1) runs.handler runs.handler_there (λ (number : Number). ap (is_waiting_for number) runs.idle)
            message held.0.serial held.0.server held.0.live (Contains-append_right held.0.server.queued held.0.server.held message held.0.there)
            (sender ∙ ap (λ x. Some x) (sym (alike (tid_of 1) who q))))

        by_sender : (s : Option ThreadId) → message.sender ≡ s → sender_gets words s (tid_of 1) ≡ None
        by_sender None q = refl
        by_sender (Some who) q = its who q (same_thread (tid_of 1) who) refl

    return_served : call_number w ≡ return_scalar1 → OfServed (ServedOwn Repeat) (call here w)
    return_served is =
        by_row (ServedOwn Repeat) return_scalar1 is
        (λ none. answered_own Repeat plain_words (omega arith) _ refl
        (ap (λ o. option_or o (sender_gets (scalar1_words (return_value1 w))
        (sender_of_message (held_by_caller here (is_blocking_of (named_number w)))) first)) (answered_first plain_words))
        (ap (λ o. option_or o (sender_gets (scalar1_words (return_value1 w))
        (sender_of_message (held_by_caller here (is_blocking_of (named_number w)))) (tid_of 1))) (answered_other plain_words 1 one_two)
        ∙ returned_to (scalar1_words (return_value1 w)) (held_by_caller here (is_blocking_of (named_number w))) refl)
        refl)

    receive_served : call_number w ≡ receive_message → OfServed (ServedOwn Grow) (call here w)
    unfolding GoesOn
    receive_served is =
        by_row (ServedOwn Grow) receive_message is
        (λ none. taken (named_server here (named_sid w)) (oldest_queued here (named_server here (named_sid w))))
      where
        taken : (serial : Serial) (o : Option Message)
            → OfPlan (λ plan. ServedOwn Grow (done here plan)) (taken_or here serial o (answers_nobody (Waits first (Receiving serial) ∷ [])))
        taken serial None = record {
          thread = record t { state = Receiving serial };
          there = rw (same_thread-self first, runs.there) refl;
          pc = refl;
          regs = refl;
          goes_on = refl;
          others = λ tid other. rw (apart tid other) refl;
          unanswered = refl;
          claims = refl;
        }
        taken serial (Some message) =
            answered_own Grow (message_words message) (omega arith) _ refl (answered_first (message_words message))
            (answered_other (message_words message) 1 one_two) refl

  -- ---- what comes of it

  module _ (line next : Line) (at : IsAt line t) (ready : t.state ≡ Ready) (follows : following (line_address line) ≡ line_address next)
      (passes : Fits next t.regs) (no_call : (regs : List ℕ) → HasCall next regs) where
    next_pc : following t.pc ≡ line_address next
    next_pc = ap following at.pc ∙ follows

    -- past the call, with the words of a reply
    answered_at : (words : List ℕ) → 4 ≤ length words → (u : Thread) → u.pc ≡ following t.pc → u.regs ≡ with_arguments words t.regs → u.state ≡ Ready
        → IsAt next u
    answered_at words four u pc regs state =
        let now : Fits next (with_arguments words t.regs) = reply_fits next words t.regs four passes (no_call (with_arguments words t.regs)) in
        let fit : Fits next u.regs = subst (Fits next) (sym regs) now in
        record {
          pc = pc ∙ next_pc;
          enough = fit.enough;
          zero = fit.zero;
          address = fit.address;
          call = fit.call;
          state = ap (can_be next) state;
        }

    gone_on : (u : Thread) → u.pc ≡ t.pc → u.regs ≡ t.regs → (o : Option (List ℕ)) → GoesOn next o u.state → IsAt next (with_answer o (passed u))
    unfolding GoesOn
    gone_on u pc regs (Some words) four =
        answered_at words four (with_answer (Some words) (passed u)) (ap following pc) (ap (with_arguments words) regs) refl
    gone_on u pc regs None can =
        let fit : Fits next u.regs = subst (Fits next) (sym regs) passes in
        record {
          pc = ap following pc ∙ next_pc;
          enough = fit.enough;
          zero = fit.zero;
          address = fit.address;
          call = fit.call;
          state = can;
        }

    -- a thread that isn't there, or is the interrupt thread, isn't answered
    unanswered_other : (change : Change) (own : ServedOwn next change) (tid : ℕ) → tid ≢ 2
        → option_map (with_answer (change.answers (tid_of tid))) (m.threads (tid_of tid)) ≡ m.threads (tid_of tid)
    unanswered_other change own tid other = go (tid == 1) refl
      where
        none : (o : Option Thread) → option_map (with_answer None) o ≡ o
        none None = refl
        none (Some x) = refl

        go : (b : Bool) → (tid == 1) ≡ b
            → option_map (with_answer (change.answers (tid_of tid))) (m.threads (tid_of tid)) ≡ m.threads (tid_of tid)
        go true e =
            let one : tid ≡ 1 = eqb-true tid 1 e in
            ap (λ k. option_map (with_answer (change.answers (tid_of k))) (m.threads (tid_of tid))) one
            ∙ (ap (λ o. option_map (with_answer o) (m.threads (tid_of tid))) own.unanswered ∙ none (m.threads (tid_of tid)))
        go false e =
            let gone : m.threads (tid_of tid) ≡ None = runs.alone tid (λ one. false≢true (sym e ∙ ap (λ k. k == 1) one)) other in
            ap (option_map (with_answer (change.answers (tid_of tid)))) gone ∙ sym gone

    called : (w : List ℕ) (outcome : Outcome) → OfServed (ServedOwn next) outcome → StaysIn (call_settled here outcome).machine
    unfolding call_settled settled turn
    called w (Refused error) of = record {
      line = next;
      thread = record t { pc = following t.pc; regs = with_arguments (refused_words error) t.regs };
      there = rw (same_thread-self first, runs.there) refl;
      at = answered_at (refused_words error) (omega arith) (record t { pc = following t.pc; regs = with_arguments (refused_words error) t.regs }) refl refl ready;
      others = λ tid other. rw (apart tid other) refl;
      claims = refl;
    }
    called w Retried of = record { line = line; thread = t; there = runs.there; at = at; others = λ tid other. refl; claims = refl }
    called w (Served change) of = record {
      line = next;
      thread = with_answer (change.answers first) (passed of.thread);
      there = rw (same_thread-self first, of.there) refl;
      at = gone_on of.thread of.pc of.regs (change.answers first) of.goes_on;
      others = λ tid other.
          rw (apart tid other)
          (ap (option_map (with_answer (change.answers (tid_of tid)))) (of.others tid other) ∙ unanswered_other change of tid other);
      claims = of.claims;
    }

  abbrev words : List ℕ
  words = arguments_of t.regs

  pub creates : IsAt Create t → t.state ≡ Ready → StaysIn (call_settled here (call here words)).machine
  creates at ready =
      called Create Name at ready refl (passes_create t.regs (fits Create t at)) (λ regs. tt) words (call here words)
      (create_served words (number_called t.regs at.enough ∙ at.call))

  pub receives : IsAt Receive t → t.state ≡ Ready → StaysIn (call_settled here (call here words)).machine
  receives at ready =
      called Receive Grow at ready refl (passes_receive t.regs (fits Receive t at)) (λ regs. tt) words (call here words)
      (receive_served words (number_called t.regs at.enough ∙ at.call))

  pub returns : IsAt Return t → t.state ≡ Ready → StaysIn (call_settled here (call here words)).machine
  returns at ready =
      called Return Repeat at ready refl (passes_return t.regs (fits Return t at)) (λ regs. tt) words (call here words)
      (return_served words (number_called t.regs at.enough ∙ at.call))

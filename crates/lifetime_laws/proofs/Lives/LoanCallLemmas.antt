-- What the calls do to pages that return a loan, forward it, or end it with the server that has its message.
use Rattle.std.proofs.Common.{◌≡◌, ℕ, ◌+◌, ◌<◌, Bool, true, List, length, Option, Some, None, is_some, get_or, refl, sym, ap, ◌∙◌, arith}
use Rattle.std.specs.Prelude.{◌==◌, if◌then◌else◌, unwrap_or}
use Rattle.std.specs.Option.{option_map_or}
use Rattle.std.proofs.lemmas.Bool.{and_parts, eqb-true}
use Rattle.std.proofs.lemmas.List.{get_or-append-add, length-append}
use Rattle.xk_base.specs.declared.ids.Number.{Number}
use Rattle.xk_base.specs.declared.ids.Pid.{Pid}
use Rattle.xk_base.specs.declared.ids.Place.{Place}
use Rattle.xk_base.specs.declared.ids.Serial.{Serial}
use Rattle.xk_base.specs.declared.ids.ThreadId.{ThreadId}
use Rattle.xk_base.specs.declared.ids.Vpn.{Vpn}
use Rattle.xk_base.specs.declared.messages.Message.{Message}
use Rattle.xk_base.specs.Tables.Connections.{connected_to}
use Rattle.syscall_codec.specs.CallNumbers.{forward_message, return_memory}
use Rattle.syscall_codec.specs.CallWords.{call_number, forward_cid, return_address, return_size}
use Rattle.ledger_model.specs.Ledger.{Ledger, Orphan, PageLoan, loan_at}
use Rattle.ledger_model.specs.Loans.{same_number}
use Rattle.ledger_model.specs.Steps.{end_loan}
use Rattle.ledger_model.proofs.LedgerLemmas.{same_number-at, same_number-true}
use Rattle.machine_model.specs.Calling.ServerCalls.{named_server, named_sid, own_server_refusals}
use Rattle.machine_model.specs.Ending.Closing.{closed, is_message_at}
use Rattle.machine_model.specs.Messaging.ForwardCalls.{forward_refusals, held_place, is_passable_of, next_arrival, passable, passed_number, passed_place}
use Rattle.machine_model.specs.Messaging.LoanSets.{end_loans}
use Rattle.machine_model.specs.Messaging.Messages.{is_lend, is_lend_of, is_of_number}
use Rattle.machine_model.specs.Messaging.ReturnCalls.{held_by_caller, named_number, return_memory_refusals}
use Rattle.machine_model.specs.Runs.Matched.{Matched}
use Rattle.machine_model.specs.State.Machine.{Machine, Server}
use Rattle.machine_model.specs.State.Servers.{is_own, is_server_of, messages_of, with_sid}
use Rattle.machine_model.specs.Stepping.Acts.{is_call_served}
use Rattle.machine_model.proofs.Runs.KeptLemmas.{matched_at}
use Rattle.machine_laws.proofs.Calling.RunRefusalLemmas.{not_false}
use Rattle.machine_laws.proofs.Threading.ThreadStepLemmas.{turned_to}
use Rattle.call_effects.specs.Rows.MessageRows.{forward_row, passed_if, return_memory_row}
use Rattle.call_effects.specs.Rows.ServerRows.{destroy_row}
use Rattle.call_effects.proofs.ServedLemmas.{OfPlan, done}
use Rattle.confidentiality_laws.proofs.Keeping.CallLemmas.{none_hold}
use Rattle.machine_laws.proofs.Returning.GivenBackLemmas.{found_at}
use Rattle.call_effects.proofs.HeldLemmas.{is_held}
use Rattle.noninterference_laws.proofs.Seeing.HeldLemmas.{HasLoans, has_loans}
use Rattle.noninterference_laws.proofs.Seeing.RowLemmas.{caller_holds, is_there, own_server}
use Rattle.loan_laws.proofs.Fates.ServedFateLemmas.{IsCaller, served_call}
use Rattle.noninterference_laws.proofs.OrphanLemmas.{at_its_server}
use Rattle.lifetime_laws.specs.Causes.{IsEndedBy, IsForwardedBy, Returned}
use Rattle.lifetime_laws.specs.Lives.{PagesLive}
use Rattle.lifetime_laws.proofs.Lives.EndedLemmas.{ended_lives, loan_ended, orphan_ended, passed_lives}
use Rattle.lifetime_laws.proofs.Lives.SendLemmas.{HasReceiver, receiver_of}
use Rattle.lifetime_laws.proofs.Lives.ServedLemmas.{HasServedLife, call_of, same_pid, stepped}
use Rattle.lifetime_laws.proofs.Lives.TurnLemmas.{left_lives}

module _ (m : Machine) (who : ThreadId) (w : List ℕ) (h : Matched m) (calls : IsCaller m who w) where
  abbrev here : Machine
  here = turned_to who m

  turned : Matched here
  turned = matched_at who m h

  loans_here : HasLoans here
  loans_here = has_loans here turned

  -- ---- ReturnMemory

  -- an orphan whose number a held message has is at a place of the caller's process
  orphan_held : (test : Message → Bool) (number : Number) → ((x : Message) → test x ≡ true → is_of_number number x ≡ true)
      → (x : Message) → held_by_caller here test ≡ Some x → (q : Place) (orphan : Orphan) → m.ledger.orphan q ≡ Some orphan
      → same_number orphan.number number ≡ true → q.pid.0 ≡ who.pid.0
  orphan_held test number numbers x e q orphan there is =
      let held = is_held here test x e in
      let place = found_at test held.server.held x held.found in
      let low : place.0 < length held.server.held = place.2 in
      let long : length (messages_of held.server) ≡ length held.server.queued + length held.server.held =
      length-append held.server.queued held.server.held in
      let same : get_or (messages_of held.server) (length held.server.queued + place.0) place.1 ≡ x =
      get_or-append-add held.server.queued held.server.held place.0 place.1 ∙ place.3 in
      let named : orphan.number ≡ number = same_number-true orphan.number number is in
      sym (ap (λ (k : Pid). k.0)
      (at_its_server here loans_here q orphan there held.serial.0 held.server held.there (length held.server.queued + place.0) place.1
      (omega arith) (ap (λ k. is_of_number k (get_or (messages_of held.server) (length held.server.queued + place.0) place.1)) named
      ∙ (ap (is_of_number number) same ∙ numbers x held.passes))))
      ∙ ap (λ (k : Pid). k.0) held.own

  lends_numbered : (number : Number) (x : Message) → is_lend_of number x ≡ true → is_of_number number x ≡ true
  lends_numbered number x e = (and_parts (is_of_number number x) (is_lend x.kind) e).0

  module _ (n : Machine) (accepted : is_call_served m who w ≡ true) (named : call_number w ≡ return_memory) where
    -- a process that has the caller's pid returns its number
    return_by : (holder : Pid) (number : Number) → holder.0 ≡ who.pid.0 → number ≡ named_number w → IsEndedBy holder number m (stepped n)
    return_by holder number own is =
        Returned (call_of m who w n holder return_memory calls accepted (sym own) named) (sym (ap (λ (k : Number). k.0) is))

    returned_lives : (x : Message) → held_by_caller here (is_lend_of (named_number w)) ≡ Some x
        → n.ledger ≡ end_loan (named_number w) m.ledger → PagesLive m (stepped n)
    unfolding end_loan
    returned_lives x held is =
        ended_lives m (stepped n) (λ k. same_number k (named_number w)) (λ p. ap (λ (l : Ledger). l.home p) is) (λ q. ap (λ (l : Ledger). l.orphan q) is)
        (λ p loan there e.
        return_by loan.holder.pid loan.number
        (caller_holds (λ k. true) here loans_here (named_number w) (is_lend_of (named_number w)) (λ y f. f) x held p loan there e)
        (same_number-true loan.number (named_number w) e))
        (λ q orphan there e.
        return_by q.pid orphan.number
        (orphan_held (is_lend_of (named_number w)) (named_number w) (lends_numbered (named_number w)) x held q orphan there e)
        (same_number-true orphan.number (named_number w) e))

  pub return_memory_lives : call_number w ≡ return_memory → OfPlan (λ plan. HasServedLife m who w (done here plan)) (return_memory_row here w)
  return_memory_lives named = λ none n like accepted.
      let x = is_there (λ k. true) (held_by_caller here (is_lend_of (named_number w)))
      (none_hold (return_memory_refusals here (named_number w) (return_address w) (return_size w)) none).0 in
      returned_lives n accepted named x.0 x.1 like.ledger

  -- ---- ForwardMessage

  passed_on : call_number w ≡ forward_message → HasReceiver here (forward_cid w) → (first : Vpn) (o : Option Message)
      → passable here (passed_number w) ≡ o
      → OfPlan (λ plan. HasServedLife m who w (done here plan)) (passed_if here (passed_number w) (forward_cid w) first o)
  passed_on named receiver first None e = λ n like accepted. left_lives m (stepped n) like.ledger
  passed_on named receiver first (Some message) e = λ n like accepted.
      passed_lives m (stepped n) message.number (held_place here message) (passed_place here (forward_cid w) first) like.ledger
      (λ p loan there is. forwarded_by n accepted p loan there (is ∙ same_number-true message.number (passed_number w) (lends_numbered (passed_number w) message lends)))
    where
      lends : is_lend_of (passed_number w) message ≡ true
      lends =
          (and_parts (is_lend_of (passed_number w) message) (is_some message.sender)
          (is_held here (is_passable_of (passed_number w)) message e).passes).0

      forwarded_by : (n : Machine) → is_call_served m who w ≡ true → (p : Place) (loan : PageLoan) → loan_at m.ledger p ≡ Some loan
          → loan.number ≡ passed_number w
          → IsForwardedBy loan.holder.pid (passed_place here (forward_cid w) first).pid loan.number m (stepped n)
      forwarded_by n accepted p loan there number =
          let own : loan.holder.pid.0 ≡ who.pid.0 =
          caller_holds (λ k. true) here loans_here (passed_number w) (is_passable_of (passed_number w))
          (λ y f. (and_parts (is_lend_of (passed_number w) y) (is_some y.sender) f).0) message e p loan there
          (same_number-at loan.number (passed_number w) number) in
          record {
            words = w;
            served = served_call m who w n loan.holder.pid calls accepted (same_pid who.pid loan.holder.pid (sym own));
            forwards = named;
            token = sym (ap (λ (k : Number). k.0) number);
            serial = receiver.serial;
            server = receiver.server;
            connection = ap (λ k. connected_to (m.process k).connections (forward_cid w)) own ∙ receiver.connection;
            live = receiver.live;
            receives = sym (ap (λ o. option_map_or (λ (x : Server). x.pid) o here.cursor.pid) receiver.found);
          }

  pub forward_lives : call_number w ≡ forward_message → OfPlan (λ plan. HasServedLife m who w (done here plan)) (forward_row here w)
  forward_lives named = λ none found.
      passed_on named
      (receiver_of here (forward_cid w) (none_hold (forward_refusals here (passed_number w) (forward_cid w)) none).1.0)
      (unwrap_or (next_arrival here (passed_number w) (forward_cid w)) (record { 0 = 0 })) (passable here (passed_number w)) refl

  -- ---- DestroyServer

  abbrev serial : Serial
  serial = named_server here (named_sid w)

  abbrev this : ℕ → Bool
  this k = k == serial.0

  module _ (n : Machine) (own : is_server_of who.pid (m.servers serial.0) ≡ true) (gone : (k : ℕ) → this k ≡ true → n.servers k ≡ None) where
    of_caller : (k : ℕ) (server : Server) → m.servers k ≡ Some server → this k ≡ true → server.pid.0 ≡ who.pid.0
    of_caller k server live e =
        eqb-true server.pid.0 who.pid.0
        (sym (ap (is_server_of who.pid) live) ∙ (ap (λ j. is_server_of who.pid (m.servers j)) (eqb-true k serial.0 e) ∙ own))

    destroyed_lives : n.ledger ≡ end_loans (is_message_at this here) m.ledger → PagesLive m (stepped n)
    unfolding end_loans
    destroyed_lives is =
        ended_lives m (stepped n) (is_message_at this here) (λ p. ap (λ (l : Ledger). l.home p) is) (λ q. ap (λ (l : Ledger). l.orphan q) is)
        (loan_ended m who m.reserved turned (stepped n) who.pid this of_caller gone)
        (orphan_ended m who m.reserved turned (stepped n) who.pid this of_caller gone)

  pub destroy_lives : OfPlan (λ plan. HasServedLife m who w (done here plan)) (destroy_row here w)
  unfolding closed
  destroy_lives = λ none n like accepted.
      destroyed_lives n
      (own_server (λ k. true) here (with_sid here (named_sid w))
      (not_false (is_own here (with_sid here (named_sid w))) (none_hold (own_server_refusals here (named_sid w)) none).0))
      (λ k e. ap (λ servers. servers k) like.servers ∙ ap (λ b. if b then None else m.servers k) e)
      like.ledger

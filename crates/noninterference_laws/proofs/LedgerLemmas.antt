-- What a served call makes of the pages and the orphans of others.
use Rattle.std.proofs.Common.{◌≡◌, ℕ, ◌+◌, ◌<◌, Bool, true, false, length, List, Option, Some, None, is_some, refl, sym, ap, ◌∙◌, subst, arith, get_or}
use Rattle.std.specs.Prelude.{◌==◌, ◌/◌, ◌-◌, unwrap_or}
use Rattle.std.specs.Option.{option_map_or}
use Rattle.std.proofs.lemmas.Bool.{and_parts, eqb-true}
use Rattle.std.proofs.lemmas.List.{get_or-append-add, length-append}
use Rattle.xk_base.specs.declared.ids.Number.{Number}
use Rattle.xk_base.specs.declared.ids.Place.{Place}
use Rattle.xk_base.specs.declared.ids.Serial.{Serial}
use Rattle.xk_base.specs.declared.ids.ThreadId.{ThreadId}
use Rattle.xk_base.specs.declared.ids.Vpn.{Vpn}
use Rattle.xk_base.specs.declared.limits.TheConstants.{CONSOLE_ADDRESS, PAGE_SIZE}
use Rattle.xk_base.specs.declared.messages.Message.{Message}
use Rattle.xk_base.specs.declared.messages.MsgKind.{MsgKind}
use Rattle.xk_base.specs.declared.messages.MsgKind.TheVariants.{BlockingScalar, Lend, LendMut, Move, Scalar}
use Rattle.xk_base.specs.declared.pages.LoanKind.TheVariants.{Exclusive, Shared}
use Rattle.syscall_codec.specs.CallWords.{forward_cid, heap_bytes, map_flags, map_phys, map_size, map_virt, range_address, range_flags}
use Rattle.syscall_codec.specs.CallWords.{range_size, return_address, return_size, send_address}
use Rattle.syscall_codec.specs.Flags.{right_of}
use Rattle.xk_base.specs.Calls.Kinds.{is_answered}
use Rattle.ledger_model.specs.Ledger.{Orphan}
use Rattle.ledger_model.specs.Loans.{same_number}
use Rattle.ledger_model.specs.Steps.{pass}
use Rattle.ledger_model.proofs.LedgerLemmas.{same_number-true}
use Rattle.machine_model.specs.Calling.Calls.{call}
use Rattle.machine_model.specs.Calling.MemoryCalls.{caller_place, heap_of, heap_start, map_address}
use Rattle.machine_model.specs.Calling.ServerCalls.{named_server, named_sid, own_server_refusals}
use Rattle.machine_model.specs.Ending.Closing.{any_server, closed, is_message_at}
use Rattle.machine_model.specs.Messaging.ForwardCalls.{held_place, is_passable_of, next_arrival, passable, passed_number, passed_place}
use Rattle.machine_model.specs.Messaging.Messages.{carries_pages, is_lend, is_lend_of, is_of_number, new_number}
use Rattle.machine_model.specs.Messaging.ReturnCalls.{held_by_caller, named_number, return_memory_refusals}
use Rattle.machine_model.specs.Messaging.SendCalls.{arrival, arrival_refusals, named_kind, sender_left, sends_pages, sent_pages, sent_place}
use Rattle.machine_model.specs.Runs.Matched.{Matched}
use Rattle.machine_model.specs.State.Changes.{Change}
use Rattle.machine_model.specs.State.Machine.{Machine}
use Rattle.machine_model.specs.State.Servers.{is_own, is_server_of, messages_of, with_sid}
use Rattle.machine_model.proofs.Runs.KeptLemmas.{matched_at}
use Rattle.machine_laws.proofs.Calling.RunRefusalLemmas.{not_false}
use Rattle.machine_laws.proofs.Threading.ThreadStepLemmas.{turned_to}
use Rattle.call_effects.specs.Effects.{Sends, paged}
use Rattle.call_effects.specs.Footprints.{LedgerPart, names}
use Rattle.call_effects.specs.Rows.MessageRows.{passed_if, return_memory_row, sent_row, sent_to_row}
use Rattle.call_effects.specs.Rows.ServerRows.{destroy_row}
use Rattle.call_effects.specs.Rows.ThreadRows.{terminate_row}
use Rattle.call_effects.specs.Verdicts.{Plan}
use Rattle.call_effects.proofs.PartLemmas.{OfChanging, of_parts}
use Rattle.machine_model.proofs.Calling.TableLemmas.{◌also◌}
use Rattle.call_effects.proofs.ServedLemmas.{OfPlan, OfServed, done}
use Rattle.confidentiality_laws.proofs.Keeping.CallLemmas.{none_hold}
use Rattle.confidentiality_laws.proofs.Keeping.MemoryCallLemmas.{HasNoHome}
use Rattle.machine_laws.proofs.Returning.GivenBackLemmas.{found_at}
use Rattle.call_effects.proofs.HeldLemmas.{is_held}
use Rattle.noninterference_laws.proofs.Seeing.HeldLemmas.{HasLoans, has_loans}
use Rattle.noninterference_laws.proofs.Seeing.RowLemmas.{caller_holds, is_there, own_server, this_held, to_free}
use Rattle.noninterference_laws.proofs.OrphanLemmas.{at_its_server, at_servers_of}
use Rattle.noninterference_laws.proofs.OtherLemmas.{same_pid, server_pid}
use Rattle.noninterference_laws.proofs.PageLemmas.{KeepsPages, end_loan_keeps, end_loans_keep, give_keeps, keeps_all, lend_keeps}
use Rattle.noninterference_laws.proofs.PageLemmas.{make_keeps, maps_keep, pass_keeps, reduce_keeps, remove_keeps}

module _ (m : Machine) (who : ThreadId) (w : List ℕ) where
  abbrev here : Machine
  here = turned_to who m

  abbrev Keeps : Plan → Type 0
  Keeps plan = KeepsPages who.pid m.ledger (done here plan).machine.ledger

  -- ---- sends

  abbrev from : Place
  from = caller_place here (send_address w)

  sent_pages_keep : (to : Place) (o : Option MsgKind) → named_kind w ≡ o → (sends_pages w ≡ true → HasNoHome m.ledger to (sent_pages w))
      → KeepsPages who.pid m.ledger (paged (Sends (unwrap_or o Scalar) from (sent_pages w) to (new_number here)) m.ledger)
  sent_pages_keep to None q free = keeps_all who.pid m.ledger m.ledger refl
  sent_pages_keep to (Some Scalar) q free = keeps_all who.pid m.ledger m.ledger refl
  sent_pages_keep to (Some BlockingScalar) q free = keeps_all who.pid m.ledger m.ledger refl
  sent_pages_keep to (Some LendMut) q free = lend_keeps who.pid from refl (sent_pages w) to Exclusive (new_number here) m.ledger
  sent_pages_keep to (Some Lend) q free = lend_keeps who.pid from refl (sent_pages w) to Shared (new_number here) m.ledger
  sent_pages_keep to (Some Move) q free =
      give_keeps who.pid from refl (sent_pages w) to m.ledger (free (ap (λ o. option_map_or carries_pages o false) q))

  waits_ledger : (b : Bool) (number : Number) (x : Machine) → (sender_left b number x).ledger ≡ x.ledger
  waits_ledger true number x = refl
  waits_ledger false number x = refl

  sent_keeps : (first : Vpn) → (sends_pages w ≡ true → HasNoHome m.ledger (sent_place here w first) (sent_pages w))
      → OfPlan Keeps (sent_row first here w)
  sent_keeps first free =
      subst (KeepsPages who.pid m.ledger) (sym (waits_ledger (is_answered (unwrap_or (named_kind w) Scalar)) (new_number here) _))
      (sent_pages_keep (sent_place here w first) (named_kind w) refl free)

  sent_to_keeps : OfPlan Keeps (sent_to_row here w)
  sent_to_keeps found =
      sent_keeps (unwrap_or (arrival here w) (record { 0 = 0 }))
      (λ carries. to_free (λ n. true) here w carries (none_hold (arrival_refusals w (arrival here w)) found).0)

  -- ---- loans that end or go on

  module _ (h : Matched m) where
    abbrev h_here : HasLoans here
    h_here = has_loans here (matched_at who m h)

    -- an orphan whose number a held message has is at a place of the caller's process
    orphan_held : (test : Message → Bool) (number : Number) → ((x : Message) → test x ≡ true → is_of_number number x ≡ true)
        → (x : Message) → held_by_caller here test ≡ Some x → (q : Place) (orphan : Orphan) → m.ledger.orphan q ≡ Some orphan
        → same_number orphan.number number ≡ true → q.pid ≡ who.pid
    orphan_held test number numbers x e q orphan there is =
        let held = is_held here test x e in
        let place = found_at test held.server.held x held.found in
        let low : place.0 < length held.server.held = place.2 in
        let long : length (messages_of held.server) ≡ length held.server.queued + length held.server.held =
        length-append held.server.queued held.server.held in
        let same : get_or (messages_of held.server) (length held.server.queued + place.0) place.1 ≡ x =
        get_or-append-add held.server.queued held.server.held place.0 place.1 ∙ place.3 in
        let named : orphan.number ≡ number = same_number-true orphan.number number is in
        sym (at_its_server here h_here q orphan there held.serial.0 held.server held.there (length held.server.queued + place.0) place.1
        (omega arith) (ap (λ k. is_of_number k (get_or (messages_of held.server) (length held.server.queued + place.0) place.1)) named
        ∙ (ap (is_of_number number) same ∙ numbers x held.passes)))
        ∙ held.own

    lends_numbered : (number : Number) (x : Message) → is_lend_of number x ≡ true → is_of_number number x ≡ true
    lends_numbered number x e = (and_parts (is_of_number number x) (is_lend x.kind) e).0

    return_memory_pages : OfPlan Keeps (return_memory_row here w)
    return_memory_pages none =
        let number : Number = named_number w in
        let x = is_there (λ n. true) (held_by_caller here (is_lend_of number))
        (none_hold (return_memory_refusals here number (return_address w) (return_size w)) none).0 in
        end_loan_keeps who.pid number m.ledger (record {
          loans = λ p loan there is.
              same_pid loan.holder.pid who.pid
              (caller_holds (λ n. true) here h_here number (is_lend_of number) (λ y e. e) x.0 x.1 p loan there is);
          orphans = orphan_held (is_lend_of number) number (lends_numbered number) x.0 x.1;
        })

    passed_keeps : (first : Vpn) (o : Option Message) → passable here (passed_number w) ≡ o
        → OfPlan Keeps (passed_if here (passed_number w) (forward_cid w) first o)
    passed_keeps first None e = keeps_all who.pid m.ledger m.ledger refl
    passed_keeps first (Some message) e =
        subst (λ (k : Number). KeepsPages who.pid m.ledger (pass k (held_place here message) (passed_place here (forward_cid w) first) m.ledger))
        (sym (same_number-true message.number number (lends_numbered number message lends)))
        (pass_keeps who.pid number (held_place here message) (passed_place here (forward_cid w) first) m.ledger
        (λ p loan there is.
        same_pid loan.holder.pid who.pid
        (caller_holds (λ n. true) here h_here number (is_passable_of number) (λ y f. (and_parts (is_lend_of number y) (is_some y.sender) f).0) message e p loan there is)))
      where
        number : Number
        number = passed_number w

        lends : is_lend_of (passed_number w) message ≡ true
        lends =
            (and_parts (is_lend_of (passed_number w) message) (is_some message.sender)
            (is_held here (is_passable_of (passed_number w)) message e).passes).0

    destroy_pages : OfPlan Keeps (destroy_row here w)
    unfolding closed any_server
    destroy_pages none =
        end_loans_keep who.pid (is_message_at this here) m.ledger (record {
          loans = λ p loan there is.
              same_pid loan.holder.pid who.pid (this_held (λ n. true) here serial h_here own p loan there is);
          orphans = λ q orphan there is.
              let at = at_servers_of here h_here q orphan there this is in
              sym at.4
              ∙ server_pid who.pid at.1
              (sym (ap (is_server_of who.pid) (ap m.servers (sym (eqb-true at.0 serial.0 at.3)) ∙ at.2)) ∙ own);
        })
      where
        serial : Serial
        serial = named_server here (named_sid w)

        this : ℕ → Bool
        this n = n == serial.0

        own : is_server_of who.pid (m.servers serial.0) ≡ true
        own =
            own_server (λ n. true) here (with_sid here (named_sid w))
            (not_false (is_own here (with_sid here (named_sid w))) (none_hold (own_server_refusals here (named_sid w)) none).0)

    -- ---- the calls that can change the ledger

    module _ (terminates : OfPlan Keeps (terminate_row here w)) where
      abbrev P : Change → Type 0
      P change = KeepsPages who.pid m.ledger change.machine.ledger

      each : OfChanging (λ parts. names parts LedgerPart) P here w
      each =
          (λ e none.
          maps_keep who.pid (map_phys w == CONSOLE_ADDRESS) (caller_place here (map_address here (map_virt w) (map_size w))) refl (map_size w / PAGE_SIZE)
          (right_of (map_flags w)) m.ledger)
          also (λ e none.
          make_keeps who.pid (caller_place here (heap_start + heap_of here)) refl (heap_bytes w / PAGE_SIZE) (record { w = true; x = false }) m.ledger)
          also (λ e none.
          remove_keeps who.pid (caller_place here (heap_start + (heap_of here - heap_bytes w))) refl (heap_bytes w / PAGE_SIZE) m.ledger)
          also (λ e none.
          reduce_keeps who.pid (caller_place here (range_address w)) refl (range_size w / PAGE_SIZE) (right_of (range_flags w)) m.ledger)
          also (λ e none passed. sent_to_keeps)
          also (λ e none. remove_keeps who.pid (caller_place here (range_address w)) refl (range_size w / PAGE_SIZE) m.ledger)
          also (λ e. return_memory_pages)
          also (λ e. terminates)
          also (λ e none. sent_to_keeps)
          also (λ e. destroy_pages)
          also (λ e none found.
          passed_keeps (unwrap_or (next_arrival here (passed_number w) (forward_cid w)) (record { 0 = 0 })) (passable here (passed_number w)) refl)
          also tt

      pub call_pages : OfServed P (call here w)
      call_pages =
          of_parts (λ parts. names parts LedgerPart) P here w each
          (λ change rest untouched. keeps_all who.pid m.ledger change.machine.ledger (rest.ledger untouched))

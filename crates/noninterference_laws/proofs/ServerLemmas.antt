-- What a served call makes of the servers.
use Rattle.std.proofs.Common.{◌≡◌, ℕ, ◌<◌, Bool, ◌&&◌, true, false, inl, inr, List, [], ◌∷◌, Option, Some, None, is_none, refl, sym, ap, ◌∙◌, subst, arith}
use Rattle.std.specs.Prelude.{◌+◌, IfSome, nat_eq, unwrap_or, if◌then◌else◌}
use Rattle.std.specs.Option.{option_and_then, option_map}
use Rattle.std.proofs.lemmas.Bool.{and_parts, eq-eqb, eqb-true, false≢true}
use Rattle.std.proofs.lemmas.Option.{none-some}
use Rattle.xk_base.specs.declared.errors.XousError.TheVariants.{ServerQueueFull}
use Rattle.xk_base.specs.declared.ids.Number.{Number}
use Rattle.xk_base.specs.declared.ids.Pid.{Pid}
use Rattle.xk_base.specs.declared.ids.Serial.{Serial}
use Rattle.xk_base.specs.declared.ids.ThreadId.{ThreadId}
use Rattle.xk_base.specs.declared.ids.Vpn.{Vpn}
use Rattle.xk_base.specs.declared.messages.Message.{Message}
use Rattle.xk_base.specs.declared.messages.MsgKind.{MsgKind}
use Rattle.xk_base.specs.declared.messages.MsgKind.TheVariants.{Scalar}
use Rattle.syscall_codec.specs.CallNumbers.{forward_message}
use Rattle.syscall_codec.specs.CallWords.{send_cid, call_number, forward_cid, return_address, return_size, send_address}
use Rattle.xk_base.specs.Calls.Kinds.{is_answered}
use Rattle.syscall_codec.specs.ReplyWords.{plain_words}
use Rattle.xk_base.specs.Tables.Counting.{least_below, put_at}
use Rattle.xk_base.specs.Tables.Sids.{serial_of}
use Rattle.xk_base.proofs.CountingLemmas.{least_below-passes}
use Rattle.machine_model.specs.Calling.Calls.{call}
use Rattle.machine_model.specs.Calling.MemoryCalls.{caller_place}
use Rattle.machine_model.specs.Calling.ServerCalls.{named_server, named_sid, new_serial, own_server_refusals}
use Rattle.machine_model.specs.Ending.Closing.{closed}
use Rattle.machine_model.specs.Messaging.ForwardCalls.{are_one_server, forward_refusals, is_passable_of, next_arrival, passable, passed_from, passed_number, passed_to, with_first}
use Rattle.machine_model.specs.Messaging.Messages.{is_blocking_of, is_lend_of, new_message, new_number}
use Rattle.machine_model.specs.Messaging.ReceiveCalls.{oldest_queued}
use Rattle.machine_model.specs.Messaging.Receivers.{receiver}
use Rattle.machine_model.specs.Messaging.ReturnCalls.{held_at, held_by_caller, holder_of, holds, named_number, return_memory_refusals, return_scalar_refusals}
use Rattle.machine_model.specs.Messaging.SendCalls.{arrival, is_full_for, named_kind, send_refusals, sender_left, sent_pages, sent_place, sent_serial}
use Rattle.machine_model.specs.Runs.Matched.{Matched, is_living}
use Rattle.machine_model.specs.State.Changes.{first_refusal}
use Rattle.machine_model.specs.State.Connections.{connect_caller}
use Rattle.machine_model.specs.State.Machine.{Machine, Receiving, Server}
use Rattle.machine_model.specs.State.Servers.{is_own, is_server_of, server_at, with_sid}
use Rattle.machine_laws.proofs.Calling.RunRefusalLemmas.{not_false}
use Rattle.machine_laws.proofs.Threading.ThreadStepLemmas.{turned_to}
use Rattle.call_effects.specs.Effects.{Returned, Sends, Taken, Waits, arriving, at_server, paged}
use Rattle.call_effects.specs.Footprints.{ServersPart, names}
use Rattle.call_effects.specs.Rows.MessageRows.{passed_if, receive_row, sent_row, sent_to_row, taken_or, try_receive_row}
use Rattle.call_effects.specs.Rows.ServerRows.{create_server_row, destroy_row}
use Rattle.call_effects.specs.Rows.ThreadRows.{terminate_row}
use Rattle.call_effects.specs.Verdicts.{Plan, Verdict, answers_caller, answers_nobody}
use Rattle.call_effects.proofs.PartLemmas.{OfChanging, of_parts}
use Rattle.machine_model.proofs.Calling.TableLemmas.{◌also◌}
use Rattle.call_effects.proofs.ServedLemmas.{OfPlan, OfServed, done}
use Rattle.confidentiality_laws.proofs.Keeping.CallLemmas.{none_hold}
use Rattle.noninterference_laws.proofs.Seeing.RowLemmas.{first_none, is_there, own_server}
use Rattle.noninterference_laws.specs.Fates.{Doing, Gains, IsBrought, IsSend, MadeCall, Own, ServerStays, ServerFate}
use Rattle.noninterference_laws.specs.KeptOthers.{by_call}
use Rattle.noninterference_laws.proofs.BroughtLemmas.{leads, passed_brought, sent_brought}
use Rattle.noninterference_laws.proofs.OtherLemmas.{server_pid}

-- what becomes of all servers
abbrev pub KeepsServers : Doing → Machine → Type 0
KeepsServers doing after = (n : ℕ) → ServerFate doing (is_living after doing.pid) n (after.servers n)

-- a server of the process, if there is one
abbrev pub IsOwnServer : Pid → Option Server → Type 0
IsOwnServer pid o = IfSome o (λ server. server.pid ≡ pid)

pub owned : (pid : Pid) (o : Option Server) → is_server_of pid o ≡ true → IsOwnServer pid o
owned pid None e = tt
owned pid (Some server) e = server_pid pid server e

module _ (m : Machine) (who : ThreadId) (w : List ℕ) where
  abbrev here : Machine
  here = turned_to who m

  abbrev made : MadeCall
  made = record { who = who; words = w }

  abbrev doing : Doing
  doing = by_call who w m

  abbrev Keeps : Plan → Type 0
  Keeps plan = KeepsServers doing (done here plan).machine

  -- ---- a server of the process changes

  abbrev changed : Serial → (Server → Server) → ℕ → Option Server
  changed serial change n = put_at nat_eq m.servers serial.0 (option_map change (m.servers serial.0)) n

  own_changed : (change : Server → Server) → ((s : Server) → (change s).pid ≡ s.pid) → (o : Option Server) → is_server_of who.pid o ≡ true
      → IsOwnServer who.pid (option_map change o)
  own_changed change keeps None e = tt
  own_changed change keeps (Some server) e = keeps server ∙ server_pid who.pid server e

  own_change : (serial : Serial) (change : Server → Server) → ((s : Server) → (change s).pid ≡ s.pid)
      → is_server_of who.pid (m.servers serial.0) ≡ true → (lives : Bool) (n : ℕ) → ServerFate doing lives n (changed serial change n)
  own_change serial change keeps own lives n = go (nat_eq n serial.0) refl
    where
      go : (b : Bool) → nat_eq n serial.0 ≡ b → ServerFate doing lives n (if b then option_map change (m.servers serial.0) else m.servers n)
      go true e =
          Own (owned who.pid (m.servers n) (ap (λ k. is_server_of who.pid (m.servers k)) (eqb-true n serial.0 e) ∙ own))
          (own_changed change keeps (m.servers serial.0) own)
      go false e = ServerStays refl

  -- ---- a message is brought

  gains_if : (message : Message) (n : ℕ) → IsBrought m made (serial_of n) message → (o : Option ThreadId) (lives : Bool) (before : Option Server)
      → m.servers n ≡ before
      → ServerFate doing lives n (option_map (at_server (arriving o message)) before)
  gains_if message n brought o lives None e = ServerStays (sym e)
  gains_if message n brought None lives (Some server) e = Gains made message server refl brought e (inl refl)
  gains_if message n brought (Some id) lives (Some server) e = Gains made message server refl brought e (inr refl)

  -- .. to the server of this number
  brought_at : (message : Message) (serial : Serial) (n : ℕ) → nat_eq n serial.0 ≡ true → IsBrought m made serial message
      → IsBrought m made (serial_of n) message
  brought_at message serial n e brought =
      subst (λ k. IsBrought m made (serial_of k) message) (sym (eqb-true n serial.0 e)) brought

  gains : (message : Message) (serial : Serial) → IsBrought m made serial message → (o : Option ThreadId) (lives : Bool) (n : ℕ)
      → ServerFate doing lives n (changed serial (at_server (arriving o message)) n)
  gains message serial brought o lives n = go (nat_eq n serial.0) refl
    where
      go : (b : Bool) → nat_eq n serial.0 ≡ b
          → ServerFate doing lives n (if b then option_map (at_server (arriving o message)) (m.servers serial.0) else m.servers n)
      go true e = gains_if message n (brought_at message serial n e brought) o lives (m.servers serial.0) (ap m.servers (eqb-true n serial.0 e))
      go false e = ServerStays refl

  -- ---- sends

  waits_servers : (b : Bool) (number : Number) (x : Machine) → (sender_left b number x).servers ≡ x.servers
  waits_servers true number x = refl
  waits_servers false number x = refl

  sent_servers : (first : Vpn) → IsSend (call_number w) → is_none (named_kind w) ≡ false → is_none (server_at here (send_cid w)) ≡ false
      → OfPlan Keeps (sent_row first here w)
  sent_servers first is some alive n =
      subst (λ (s : ℕ → Option Server). ServerFate doing lives n (put_at nat_eq s serial.0 (option_map (at_server (arriving (receiver here serial) message)) (s serial.0)) n))
      (sym (waits_servers (is_answered kind) (new_number here) with_pages))
      (gains message serial (sent_brought m who w first is some alive) (receiver here serial) lives n)
    where
      kind : MsgKind
      kind = unwrap_or (named_kind w) Scalar

      serial : Serial
      serial = sent_serial here w

      message : Message
      message = new_message here kind w first

      with_pages : Machine
      with_pages = record here {
        ledger = paged (Sends kind (caller_place here (send_address w)) (sent_pages w) (sent_place here w first) (new_number here)) m.ledger;
        next_number = m.next_number + 1;
      }

      lives : Bool
      lives = is_living (sender_left (is_answered kind) (new_number here) with_pages) who.pid

  sent_to_servers : IsSend (call_number w) → first_refusal (send_refusals here w) ≡ None
      → OfPlan Keeps (sent_to_row here w)
  sent_to_servers is none found =
      let passed = none_hold (send_refusals here w) none in
      sent_servers (unwrap_or (arrival here w) (record { 0 = 0 })) is passed.1.0 passed.0

  -- ---- messages that a server of the process holds

  -- the server that holds the message
  record HasHolder (test : Message → Bool) : Type 0 where
    serial : Serial
    is : holder_of here test ≡ Some serial
    own : is_server_of who.pid (m.servers serial.0) ≡ true

  has_holder : (test : Message → Bool) (x : Message) → held_by_caller here test ≡ Some x → HasHolder test
  unfolding holder_of
  has_holder test x e = go (least_below m.next_serial mine) refl e
    where
      mine : ℕ → Bool
      mine n = is_server_of who.pid (m.servers n) && holds test (m.servers n)

      go : (o : Option ℕ) → least_below m.next_serial mine ≡ o → option_and_then (held_at here test) (option_map serial_of o) ≡ Some x
          → HasHolder test
      go None q r = absurd (none-some x r)
      go (Some n) q r = record {
        serial = serial_of n;
        is = ap (option_map serial_of) q;
        own = (and_parts (is_server_of who.pid (m.servers n)) (holds test (m.servers n)) (least_below-passes m.next_serial mine n q)).0;
      }

  returned_servers : (number : Number) (test : Message → Bool) → is_none (held_by_caller here test) ≡ false → (lives : Bool) (n : ℕ)
      → ServerFate doing lives n (changed (unwrap_or (holder_of here test) (serial_of 0)) (at_server (Returned number)) n)
  returned_servers number test some =
      let x = is_there (λ n. true) (held_by_caller here test) some in
      let at : HasHolder test = has_holder test x.0 x.1 in
      own_change (unwrap_or (holder_of here test) (serial_of 0)) (at_server (Returned number)) (λ s. refl)
      (ap (λ o. is_server_of who.pid (m.servers (unwrap_or o (serial_of 0)).0)) at.is ∙ at.own)

  -- ---- forwards

  passed_servers : (first : Vpn) → call_number w ≡ forward_message
      → are_one_server (passed_from here (passed_number w)) (passed_to here (forward_cid w)) ≡ false
      → is_none (server_at here (forward_cid w)) ≡ false
      → (o : Option Message) → passable here (passed_number w) ≡ o
      → OfPlan Keeps (passed_if here (passed_number w) (forward_cid w) first o)
  passed_servers first is apart alive None e = λ n. ServerStays refl
  passed_servers first is apart alive (Some message) e = λ n. go n (nat_eq n to.0) refl
    where
      at : HasHolder (is_passable_of (passed_number w))
      at = has_holder (is_passable_of (passed_number w)) message e

      from : Serial
      from = unwrap_or (passed_from here (passed_number w)) (serial_of 0)

      to : Serial
      to = unwrap_or (passed_to here (forward_cid w)) (serial_of 0)

      own : is_server_of who.pid (m.servers from.0) ≡ true
      own = ap (λ o. is_server_of who.pid (m.servers (unwrap_or o (serial_of 0)).0)) at.is ∙ at.own

      two : (b : Option Serial) → is_none b ≡ false → are_one_server (Some at.serial) b ≡ false → nat_eq (unwrap_or b (serial_of 0)).0 at.serial.0 ≡ false
      two None f g = absurd (false≢true (sym f))
      two (Some b) f g = turned (nat_eq b.0 at.serial.0) refl
        where
          turned : (c : Bool) → nat_eq b.0 at.serial.0 ≡ c → c ≡ false
          turned false q = refl
          turned true q = absurd (false≢true (sym g ∙ eq-eqb at.serial.0 b.0 (sym (eqb-true b.0 at.serial.0 q))))

      not_from : nat_eq to.0 from.0 ≡ false
      not_from =
          ap (λ o. nat_eq to.0 (unwrap_or o (serial_of 0)).0) at.is
          ∙ two (passed_to here (forward_cid w)) (ap is_none (leads m who w (forward_cid w) alive)) (ap (λ o. are_one_server o (passed_to here (forward_cid w))) (sym at.is) ∙ apart)

      next : Message
      next = with_first first message

      left : ℕ → Option Server
      left = changed from (at_server (Returned message.number))

      go : (n : ℕ) (b : Bool) → nat_eq n to.0 ≡ b
          → ServerFate doing (is_living m who.pid) n (if b then option_map (at_server (arriving (receiver here to) next)) (left to.0) else left n)
      go n true f =
          subst (λ o. ServerFate doing (is_living m who.pid) n (option_map (at_server (arriving (receiver here to) next)) o))
          (sym (ap (λ b. if b then option_map (at_server (Returned message.number)) (m.servers from.0) else m.servers to.0) not_from))
          (gains_if next n (brought_at next to n f (passed_brought m who w first is alive message e)) (receiver here to) (is_living m who.pid) (m.servers to.0)
          (ap m.servers (eqb-true n to.0 f)))
      go n false f = own_change from (at_server (Returned message.number)) (λ s. refl) own (is_living m who.pid) n

  -- ---- receives

  named : Serial
  named = named_server here (named_sid w)

  named_own : first_refusal (own_server_refusals here (named_sid w)) ≡ None → is_server_of who.pid (m.servers named.0) ≡ true
  unfolding named
  named_own none =
      own_server (λ n. true) here (with_sid here (named_sid w))
      (not_false (is_own here (with_sid here (named_sid w))) (none_hold (own_server_refusals here (named_sid w)) none).0)

  taken_servers : (serial : Serial) → is_server_of who.pid (m.servers serial.0) ≡ true → (o : Option Message) (verdict : Verdict) → OfPlan Keeps verdict
      → OfPlan Keeps (taken_or here serial o verdict)
  taken_servers serial own None verdict of = of
  taken_servers serial own (Some message) verdict of = λ n.
      own_change serial (at_server (Taken message)) (λ s. refl) own (is_living m who.pid) n

  receive_servers : OfPlan Keeps (receive_row here w)
  unfolding named
  receive_servers none =
      taken_servers named (named_own none) (oldest_queued here named) (answers_nobody (Waits who (Receiving named) ∷ [])) (λ n. ServerStays refl)

  try_receive_servers : OfPlan Keeps (try_receive_row here w)
  unfolding named
  try_receive_servers none =
      taken_servers named (named_own none) (oldest_queued here named) (answers_caller here plain_words []) (λ n. ServerStays refl)

  -- ---- servers that come and go

  destroy_servers : OfPlan Keeps (destroy_row here w)
  unfolding named closed
  destroy_servers none n = go (nat_eq n named.0) refl
    where
      go : (b : Bool) → nat_eq n named.0 ≡ b → ServerFate doing (is_living m who.pid) n (if b then None else m.servers n)
      go true e =
          Own (owned who.pid (m.servers n) (ap (λ k. is_server_of who.pid (m.servers k)) (eqb-true n named.0 e) ∙ named_own none)) tt
      go false e = ServerStays refl

  module _ (h : Matched m) where
    -- the serial of a new server is new
    create_servers : OfPlan Keeps (create_server_row here w)
    create_servers none n = go (nat_eq n m.next_serial) refl
      where
        new : Server
        new = record { sid = named_sid w; pid = who.pid; queued = []; held = [] }

        fresh : n ≡ m.next_serial → (o : Option Server) → m.servers n ≡ o → IsOwnServer who.pid o
        fresh e None q = tt
        fresh e (Some server) q = let low : n < m.next_serial = h.rest.above.serials n server q in absurd (omega arith)

        go : (b : Bool) → nat_eq n m.next_serial ≡ b → ServerFate doing (is_living (connect_caller (new_serial here) here) who.pid) n (if b then Some new else m.servers n)
        go true e = Own (fresh (eqb-true n m.next_serial e) (m.servers n) refl) refl
        go false e = ServerStays refl

    module _ (terminates : OfPlan Keeps (terminate_row here w)) where
      each : OfChanging (λ parts. names parts ServersPart) (λ change. KeepsServers doing change.machine) here w
      each =
          (λ e. create_servers)
          also (λ e. receive_servers)
          also (λ e none passed. sent_to_servers (inl e) none)
          also (λ e none n.
          returned_servers (named_number w) (is_lend_of (named_number w))
          (none_hold (return_memory_refusals here (named_number w) (return_address w) (return_size w)) none).0 _ n)
          also (λ e. terminates)
          also (λ e none. sent_to_servers (inr e) (first_none (λ n. true) (send_refusals here w) ((is_full_for here w, ServerQueueFull) ∷ []) none))
          also (λ e none n.
          returned_servers (named_number w) (is_blocking_of (named_number w)) (none_hold (return_scalar_refusals here (named_number w)) none).0 _ n)
          also (λ e none n.
          returned_servers (named_number w) (is_blocking_of (named_number w)) (none_hold (return_scalar_refusals here (named_number w)) none).0 _ n)
          also (λ e. try_receive_servers)
          also (λ e. destroy_servers)
          also (λ e none found.
          passed_servers (unwrap_or (next_arrival here (passed_number w) (forward_cid w)) (record { 0 = 0 })) e
          (none_hold (forward_refusals here (passed_number w) (forward_cid w)) none).1.1.0
          (none_hold (forward_refusals here (passed_number w) (forward_cid w)) none).1.0
          (passable here (passed_number w)) refl)
          also tt

      pub call_servers : OfServed (λ change. KeepsServers doing change.machine) (call here w)
      call_servers =
          of_parts (λ parts. names parts ServersPart) (λ change. KeepsServers doing change.machine) here w each
          (λ change rest untouched n. ServerStays (ap (λ f. f n) (rest.servers untouched)))

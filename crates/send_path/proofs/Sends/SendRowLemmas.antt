-- SendMessage by its tests: what is found decides which test refuses it, and else what is sent.
use Rattle.std.proofs.Common.{◌≡◌, ℕ, Bool, true, false, List, [], ◌∷◌, Option, Some, None, refl, sym, ap, ◌∙◌}
use Rattle.std.specs.Prelude.{◌&&◌, is_none, unwrap_or, Result, Ok, Err, if◌then◌else◌}
use Rattle.std.specs.Option.{option_and_then, option_map_or}
use Rattle.std.proofs.lemmas.Option.{none-some}
use Rattle.ledger_model.specs.RunTests.{any_free, any_not_sent}
use Rattle.machine_model.specs.Calling.MemoryCalls.{caller_place, is_bad_range}
use Rattle.machine_model.specs.Messaging.Messages.{carries_pages, new_message, new_number, with_queued, with_received}
use Rattle.machine_model.specs.Messaging.Receivers.{receiver}
use Rattle.machine_model.specs.Messaging.ReturnCalls.{sender_gets as thread_gets}
use Rattle.machine_model.specs.Messaging.SendCalls.{arrival, arrived, is_full_for, is_lend_mut, message_run, named_kind, send_call, sender_answered, sender_left, sent, sent_pages, sent_place, sent_serial, sent_to, with_sent}
use Rattle.machine_model.specs.State.Changes.{Change, Outcome, Refused, Retried, Served, answering, unless_refused, unless_retried}
use Rattle.machine_model.specs.State.Machine.{Machine, Server}
use Rattle.machine_model.specs.State.Servers.{change_server, is_full, server_at}
use Rattle.machine_model.specs.State.Threads.{both_answers}
use Rattle.syscall_codec.specs.CallWords.{send_address, send_cid, send_length}
use Rattle.xk_base.specs.Calls.Kinds.{is_answered}
use Rattle.syscall_codec.specs.ReplyWords.{message_words}
use Rattle.xk_base.specs.declared.errors.XousError.{XousError}
use Rattle.xk_base.specs.declared.errors.XousError.TheVariants.{BadAddress, BadAlignment, InvalidSyscall, MemoryInUse, ServerNotFound, ShareViolation}
use Rattle.xk_base.specs.declared.ids.ThreadId.{ThreadId}
use Rattle.xk_base.specs.declared.ids.Vpn.{Vpn}
use Rattle.xk_base.specs.declared.messages.Message.{Message}
use Rattle.xk_base.specs.declared.messages.MsgKind.{MsgKind}
use Rattle.xk_base.specs.declared.messages.MsgKind.TheVariants.{LendMut, Lend, Move, Scalar, BlockingScalar}
use Rattle.send_path.specs.Sending.{arrival_of, pages_answer}

-- ---- the tests

-- refused by the tests of the pages, or not
abbrev pub after_tests : Result (Unit {0}) XousError → Outcome → Outcome
after_tests (Err error) outcome = Refused error
after_tests (Ok done) outcome = outcome

-- those up to where the slots are looked at
abbrev pub tests : Bool → Bool → Bool → Bool → Bool → List (Bool × XousError)
tests a b c d e =
    (a, ServerNotFound) ∷ (b, InvalidSyscall) ∷ (c, BadAlignment) ∷ (d, BadAddress) ∷ (e, ShareViolation) ∷ []

by_pages : (c d e : Bool) (o : Outcome) → unless_refused (tests false false c d e) o
    ≡ after_tests (if c then Err BadAlignment else (if d then Err BadAddress else (if e then Err ShareViolation else Ok tt))) o
by_pages true d e o = refl
by_pages false true e o = refl
by_pages false false true o = refl
by_pages false false false o = refl

-- what arrives where a thread received it or none did
abbrev pub arrived_shown : Option ThreadId → Message → Server → Server
arrived_shown None x server = with_queued x server
arrived_shown (Some who) x server = with_received x server

module _ (m : Machine) (w : List ℕ) where
  abbrev rest : Outcome
  rest = unless_retried (is_full_for m w) (sent_to m w (arrival m w))

  -- the tests by the server and the kind that are found
  abbrev by_found : Option Server → Option MsgKind → Outcome
  by_found server kind =
      unless_refused
      (tests (is_none server) (is_none kind) (option_map_or carries_pages kind false && is_bad_range (send_address w) (send_length w))
      (option_map_or carries_pages kind false && any_free m.processes m.ledger (caller_place m (send_address w)) (sent_pages w))
      (option_map_or carries_pages kind false
      && any_not_sent m.processes m.ledger (caller_place m (send_address w)) (sent_pages w) (option_map_or is_lend_mut kind false)))
      rest

  is_by_found : send_call m w ≡ by_found (server_at m (send_cid w)) (named_kind w)
  unfolding send_call
  is_by_found = refl

  pub no_server : server_at m (send_cid w) ≡ None → send_call m w ≡ Refused ServerNotFound
  no_server none = is_by_found ∙ ap (λ o. by_found o (named_kind w)) none

  module _ (server : Server) (at : server_at m (send_cid w) ≡ Some server) where
    pub no_kind : named_kind w ≡ None → send_call m w ≡ Refused InvalidSyscall
    no_kind none = is_by_found ∙ (λ i. by_found (at i) (none i))

    module _ (kind : MsgKind) (named : named_kind w ≡ Some kind) where
      abbrev answer : Result (Unit {0}) XousError
      answer = pages_answer m.processes m.ledger m.cursor.pid kind (send_address w) (send_length w)

      tested : send_call m w ≡ after_tests answer rest
      tested =
          is_by_found ∙ (λ i. by_found (at i) (named i))
          ∙ by_pages (carries_pages kind && is_bad_range (send_address w) (send_length w))
          (carries_pages kind && any_free m.processes m.ledger (caller_place m (send_address w)) (sent_pages w))
          (carries_pages kind && any_not_sent m.processes m.ledger (caller_place m (send_address w)) (sent_pages w) (is_lend_mut kind)) rest

      pub pages_refused : (error : XousError) → answer ≡ Err error → send_call m w ≡ Refused error
      pages_refused error e = tested ∙ ap (λ a. after_tests a rest) e

      module _ (passed : answer ≡ Ok tt) where
        pub full : is_full (Some server) ≡ true → send_call m w ≡ Retried
        full e =
            tested ∙ ap (λ a. after_tests a rest) passed
            ∙ ap (λ b. unless_retried b (sent_to m w (arrival m w))) (ap is_full at ∙ e)

        module _ (room : is_full (Some server) ≡ false) where
          abbrev place : Option Vpn
          place = arrival_of m.processes m.ledger server.pid kind (sent_pages w)

          abbrev by_first : MsgKind → Option Vpn → Outcome
          by_first named_so first =
              unless_refused ((carries_pages named_so && is_none first, MemoryInUse) ∷ [])
              (Served (sent m named_so w (unwrap_or first (record { 0 = 0 }))))

          is_by_first : send_call m w ≡ by_first kind (arrival m w)
          is_by_first =
              tested ∙ ap (λ a. after_tests a rest) passed
              ∙ ap (λ b. unless_retried b (sent_to m w (arrival m w))) (ap is_full at ∙ room)
              ∙ ap (λ (k : Option MsgKind). unless_refused ((option_map_or carries_pages k false && is_none (arrival m w), MemoryInUse) ∷ [])
              (Served (sent m (unwrap_or k Scalar) w (unwrap_or (arrival m w) (record { 0 = 0 }))))) named

          arrival_is : arrival m w ≡ message_run m (sent_pages w) server
          unfolding arrival
          arrival_is = ap (option_and_then (message_run m (sent_pages w))) at

          -- no run is free
          pub no_run : place ≡ None → send_call m w ≡ Refused MemoryInUse
          no_run none = is_by_first ∙ ap (by_first kind) arrival_is ∙ go kind none
            where
              go : (k : MsgKind) → arrival_of m.processes m.ledger server.pid k (sent_pages w) ≡ None
                  → by_first k (message_run m (sent_pages w) server) ≡ Refused MemoryInUse
              go LendMut e = ap (by_first LendMut) e
              go Lend e = ap (by_first Lend) e
              go Move e = ap (by_first Move) e
              go Scalar e = absurd (none-some (record { 0 = 0 }) (sym e))
              go BlockingScalar e = absurd (none-some (record { 0 = 0 }) (sym e))

          -- one is, or none is needed
          pub run_found : (first : Vpn) → place ≡ Some first → send_call m w ≡ Served (sent m kind w first)
          run_found first some = is_by_first ∙ ap (by_first kind) arrival_is ∙ go kind some
            where
              go : (k : MsgKind) → arrival_of m.processes m.ledger server.pid k (sent_pages w) ≡ Some first
                  → by_first k (message_run m (sent_pages w) server) ≡ Served (sent m k w first)
              go LendMut e = ap (by_first LendMut) e
              go Lend e = ap (by_first Lend) e
              go Move e = ap (by_first Move) e
              go Scalar e = refl
              go BlockingScalar e = refl

  -- ---- what is sent

  module _ (kind : MsgKind) (first : Vpn) where
    abbrev x : Message
    x = new_message m kind w first

    abbrev paged : Machine
    paged = with_sent m kind (caller_place m (send_address w)) (sent_pages w) (sent_place m w first)

    pub sent_is : (o : Option ThreadId) → receiver m (sent_serial m w) ≡ o
        → sent m kind w first
        ≡ answering (both_answers (thread_gets (message_words x) o) (sender_answered (is_answered kind) m.cursor))
        (change_server (sent_serial m w) (arrived_shown o x) (sender_left (is_answered kind) (new_number m) paged))
    sent_is o e = ap by_receiver e ∙ go o
      where
        by_receiver : Option ThreadId → Change
        by_receiver r =
            let left = arrived r (sent_serial m w) x (sender_left (is_answered kind) (new_number m) paged) in
            record left { answers = both_answers left.answers (sender_answered (is_answered kind) m.cursor) }

        go : (r : Option ThreadId) → by_receiver r
            ≡ answering (both_answers (thread_gets (message_words x) r) (sender_answered (is_answered kind) m.cursor))
            (change_server (sent_serial m w) (arrived_shown r x) (sender_left (is_answered kind) (new_number m) paged))
        go None = refl
        go (Some who) = refl

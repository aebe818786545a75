-- A held message is given back: its sender is answered, and so is the caller. This is the change of ReturnMemory, ReturnScalar1 and
-- ReturnScalar2, by the server and the message that are found.
use Rattle.std.proofs.Common.{◌≡◌, ℕ, suc, ◌+◌, ◌<◌, Bool, true, false, List, [], ◌∷◌, cond, get_or, length, Option, Some, None, refl, sym, ap, ◌∙◌, arith, subst}
use Rattle.std.specs.Prelude.{find, is_none, nat_eq, unwrap_or}
use Rattle.std.specs.Option.{option_and_then, option_map}
use Rattle.std.proofs.lemmas.Bool.{eqb-true, false≢true}
use Rattle.std.proofs.lemmas.Option.{none-some, same_Some}
use Rattle.xk_base.specs.declared.ids.Number.{Number}
use Rattle.xk_base.specs.declared.ids.Serial.{Serial}
use Rattle.xk_base.specs.declared.messages.Message.{Message}
use Rattle.xk_base.specs.Tables.Circle.{same_thread}
use Rattle.xk_base.specs.Tables.Counting.{put_at}
use Rattle.syscall_codec.specs.ReplyWords.{plain_words}
use Rattle.ledger_model.specs.Ledger.{Ledger}
use Rattle.ledger_model.specs.Loans.{same_number}
use Rattle.machine_model.specs.Messaging.LoanSets.{end_loans}
use Rattle.machine_model.specs.Messaging.Messages.{is_of_number, without_held}
use Rattle.machine_model.specs.Messaging.ReturnCalls.{held_at, held_by_caller, holder_of, sender_gets, sender_of_message}
use Rattle.machine_model.specs.Runs.Matched.{Matched}
use Rattle.machine_model.specs.State.Changes.{Change, Served, answering, call_settled, settled}
use Rattle.machine_model.specs.State.Machine.{Machine, Server}
use Rattle.machine_model.specs.State.Order.{ready_at}
use Rattle.xk_base.specs.Tables.Sids.{serial_of}
use Rattle.machine_model.specs.State.Servers.{change_server}
use Rattle.machine_model.specs.State.Threads.{answer_to, both_answers, passed, with_answer}
use Rattle.machine_laws.proofs.Calling.AnsweredCallLemmas.{Keeps}
use Rattle.machine_laws.proofs.Returning.ReturnCallLemmas.{given_settles}

-- what is found is at some place, and passes
pub found_at : (test : Message → Bool) (xs : List Message) (x : Message) → find test xs ≡ Some x
    → (j : ℕ) × (d : Message) × (j < length xs) × (get_or xs j d ≡ x) × (test x ≡ true)
found_at test [] x e = absurd (none-some x e)
found_at test (y ∷ xs) x e = go (λ later. found_at test xs x later) (test y) refl e
  where
    go : (find test xs ≡ Some x → (j : ℕ) × (d : Message) × (j < length xs) × (get_or xs j d ≡ x) × (test x ≡ true))
        → (b : Bool) → test y ≡ b → cond b (Some y) (find test xs) ≡ Some x
        → (j : ℕ) × (d : Message) × (j < length (y ∷ xs)) × (get_or (y ∷ xs) j d ≡ x) × (test x ≡ true)
    go rest true q r = let same : y ≡ x = same_Some y x r in (0, y, omega arith, same, sym (ap test same) ∙ q)
    go rest false q r =
        let later = rest r in
        let low : later.0 < length xs = later.2 in
        (suc later.0, later.1, omega arith, later.3, later.4)

-- the ledger once the loan of a held message ended that passes the test
abbrev pub EndsAs : Machine → (Message → Bool) → Ledger → Type 0
EndsAs m test ledger =
    (k : ℕ) (server : Server) → m.servers k ≡ Some server → (j : ℕ) (d : Message) → j < length server.held
    → test (get_or server.held j d) ≡ true → end_loans (λ n. same_number n (get_or server.held j d).number) m.ledger ≡ ledger

module _ (m : Machine) (h : Matched m) (ready : ready_at m m.cursor ≡ true) (number : Number) (words : List ℕ)
    (test : Message → Bool) (numbered : (x : Message) → test x ≡ true → is_of_number number x ≡ true)
    (ledger : Ledger) (ends : EndsAs m test ledger) where
  -- the change, by the server and the message that are found
  abbrev returned : Option Serial → Option Message → Change
  returned o message =
      answering (both_answers (answer_to m.cursor plain_words) (sender_gets words (sender_of_message message)))
      (record (change_server (unwrap_or o (serial_of 0)) (without_held number) m) { ledger = ledger })

  at_message : (serial : Serial) (server : Server) → m.servers serial.0 ≡ Some server → (x : Message) → find test server.held ≡ Some x
      → Keeps m (Served (returned (Some serial) (Some x)))
  unfolding call_settled settled
  at_message serial server e x f =
      subst (λ y. Matched (after number y ledger)) place.3
      (subst (λ (n : Number). Matched (after n y ledger)) same
      (subst (λ l. Matched (after y.number y l)) (ends serial.0 server e place.0 place.1 place.2 (ap test place.3 ∙ place.4))
      (given_settles m h serial.0 server e place.0 place.1 place.2 words ready)))
    where
      place : (j : ℕ) × (d : Message) × (j < length server.held) × (get_or server.held j d ≡ x) × (test x ≡ true)
      place = found_at test server.held x f

      y : Message
      y = get_or server.held place.0 place.1

      after : Number → Message → Ledger → Machine
      after n z l = record m {
        ledger = l;
        threads = λ id. option_map (with_answer (both_answers (answer_to m.cursor plain_words) (sender_gets words z.sender) id))
            (put_at same_thread m.threads m.cursor (option_map passed (m.threads m.cursor)) id);
        servers = put_at nat_eq m.servers serial.0 (option_map (without_held n) (m.servers serial.0));
        steps = m.steps + 1;
      }

      same : (get_or server.held place.0 place.1).number ≡ number
      same =
          let named : x.number.0 ≡ number.0 = eqb-true x.number.0 number.0 (numbered x place.4) in
          ap (λ (z : Message). z.number) place.3 ∙ (λ i. record { 0 = named i })

  at_holder : (o : Option Serial) → is_none (option_and_then (held_at m test) o) ≡ false
      → Keeps m (Served (returned o (option_and_then (held_at m test) o)))
  at_holder None q = absurd (false≢true (sym q))
  at_holder (Some serial) q = by_server (m.servers serial.0) refl q
    where
      by_found : (server : Server) → m.servers serial.0 ≡ Some server → (o : Option Message) → find test server.held ≡ o → is_none o ≡ false
          → Keeps m (Served (returned (Some serial) o))
      by_found server e None f r = absurd (false≢true (sym r))
      by_found server e (Some x) f r = at_message serial server e x f

      by_server : (o : Option Server) → m.servers serial.0 ≡ o → is_none (option_and_then (λ server. find test server.held) o) ≡ false
          → Keeps m (Served (returned (Some serial) (option_and_then (λ server. find test server.held) o)))
      by_server None e r = absurd (false≢true (sym r))
      by_server (Some server) e r = by_found server e (find test server.held) refl r

  pub given_back_keeps : is_none (held_by_caller m test) ≡ false → Keeps m (Served (returned (holder_of m test) (held_by_caller m test)))
  given_back_keeps q = at_holder (holder_of m test) q

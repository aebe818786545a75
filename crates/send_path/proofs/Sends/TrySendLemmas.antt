-- The rows of SendMessage and TrySendMessage by their words. TrySendMessage is SendMessage, but for a server that is full.
use Rattle.std.proofs.Common.{◌≡◌, ℕ, ◌+◌, Bool, true, false, List, [], ◌∷◌, ◌++◌, refl, sym, ap, subst, ◌∙◌}
use Rattle.std.specs.Prelude.{◌==◌, ◌||◌, ◌&&◌, is_none, if◌then◌else◌}
use Rattle.std.proofs.lemmas.Bool.{eqb-true}
use Rattle.machine_model.specs.Calling.Calls.{call_at, call_table}
use Rattle.machine_model.specs.Calling.MemoryCalls.{caller_place, is_bad_range}
use Rattle.machine_model.specs.Messaging.SendCalls.{arrival, is_full_for, named_kind, send_call, send_served, sends_lend_mut, sends_pages, sent_pages, try_send_call}
use Rattle.machine_model.specs.State.Changes.{Change, Outcome, Refused, Retried, Served, unless_refused, unless_retried}
use Rattle.machine_model.specs.State.Machine.{Machine}
use Rattle.machine_model.specs.State.Servers.{server_at}
use Rattle.ledger_model.specs.RunTests.{any_free, any_not_sent}
use Rattle.sv32_space.specs.Tie.{Held as HeldBytes}
use Rattle.syscall_codec.specs.CallNumbers.{send_message, try_send_message}
use Rattle.syscall_codec.specs.CallWords.{call_number, send_address, send_cid, send_id, send_kind, send_length, send_words}
use Rattle.xk_base.specs.declared.errors.XousError.TheVariants.{MemoryInUse, ServerQueueFull}
use Rattle.xk_base.specs.declared.ids.Number.{Number}
use Rattle.xk_base.specs.declared.ids.ThreadId.{ThreadId}
use Rattle.xk_parts.specs.Parts.{Parts, machine_at}
use Rattle.send_path.specs.Rows.{IsServed, table_row}
use Rattle.send_path.specs.Sending.{AreAsked, IsSendRow, asked_row, asked_words, send_row, with_number}
use Rattle.send_path.specs.declared.sending.Asked.{Asked}
use Rattle.send_path.specs.declared.sending.Sent.{Sent}
use Rattle.send_path.specs.declared.sending.Sent.TheVariants as sent
use Rattle.send_path.proofs.Sends.SendRowLemmas.{tests}

-- what comes of TrySendMessage where that comes of SendMessage
abbrev tried : Outcome → Outcome
tried (Refused error) = Refused error
tried Retried = Refused ServerQueueFull
tried (Served change) = Served change

abbrev placed : Bool → Change → Outcome
placed none change = unless_refused ((none, MemoryInUse) ∷ []) (Served change)

by_tests : (a b c d e full none : Bool) (change : Change)
    → unless_refused (tests a b c d e ++ (full, ServerQueueFull) ∷ []) (placed none change)
    ≡ tried (unless_refused (tests a b c d e) (unless_retried full (placed none change)))
by_tests true b c d e full none change = refl
by_tests false true c d e full none change = refl
by_tests false false true d e full none change = refl
by_tests false false false true e full none change = refl
by_tests false false false false true full none change = refl
by_tests false false false false false true none change = refl
by_tests false false false false false false true change = refl
by_tests false false false false false false false change = refl

try_is : (m : Machine) (w : List ℕ) → try_send_call m w ≡ tried (send_call m w)
unfolding send_call try_send_call
try_is m w =
    by_tests (is_none (server_at m (send_cid w))) (is_none (named_kind w)) (sends_pages w && is_bad_range (send_address w) (send_length w))
    (sends_pages w && any_free m.processes m.ledger (caller_place m (send_address w)) (sent_pages w))
    (sends_pages w && any_not_sent m.processes m.ledger (caller_place m (send_address w)) (sent_pages w) (sends_lend_mut w))
    (is_full_for m w) (sends_pages w && is_none (arrival m w)) (send_served m w (arrival m w))

-- the number of the call is no matter to the tests
by_words : (m : Machine) (w : List ℕ) → send_call m w ≡ send_call m (0 ∷ send_cid w ∷ send_kind w ∷ send_id w ∷ send_words w)
unfolding send_call arrival
by_words m w = refl

module _ (w : List ℕ) (asked : Asked) (are : AreAsked w asked) where
  asked_is : (m : Machine) → send_call m w ≡ send_call m (asked_words asked)
  asked_is m = by_words m w ∙ (λ i. send_call m (0 ∷ are.0 i ∷ are.1 i ∷ are.2 i ∷ are.3 i))

  abbrev full_of : ℕ → Outcome
  full_of number = if number == try_send_message then Refused ServerQueueFull else Retried

  module _ {W : Type 0} (held : W → HeldBytes) (who : ThreadId) (number : Number) (old new : Parts W) where
    module _ (is : call_number w ≡ send_message) where
      row_is : (m : Machine) → table_row w m ≡ send_call m (asked_words asked)
      row_is m = ap (λ n. call_at n call_table m w) is ∙ asked_is m

      send_of : (answer : Sent) → IsSendRow held (asked_row number asked) who old new answer
          → IsSendRow held (send_row number w) who old new answer
      send_of sent.Accepted h = λ m.
          let before : Machine = machine_at held who old (with_number number.0 m) in
          subst (λ o. IsServed o before (machine_at held who new (with_number (number.0 + 1) m)) old.log new.log)
          (sym (row_is before)) (h m)
      send_of sent.Full h = (h.0, λ m. row_is (machine_at held who old (with_number number.0 m)) ∙ h.1 m ∙ sym (ap full_of is))
      send_of (sent.Refused error) h = (h.0, h.1, λ m. row_is (machine_at held who old (with_number number.0 m)) ∙ h.2 m)

    module _ (is : call_number w ≡ try_send_message) where
      tried_is : (m : Machine) → table_row w m ≡ tried (send_call m (asked_words asked))
      tried_is m = ap (λ n. call_at n call_table m w) is ∙ try_is m w ∙ ap tried (asked_is m)

      try_of : (answer : Sent) → IsSendRow held (asked_row number asked) who old new answer
          → IsSendRow held (send_row number w) who old new answer
      try_of sent.Accepted h = λ m.
          let before : Machine = machine_at held who old (with_number number.0 m) in
          let served = (h m).served in
          subst (λ o. IsServed o before (machine_at held who new (with_number (number.0 + 1) m)) old.log new.log)
          (served ∙ sym (tried_is before ∙ ap tried served)) (h m)
      try_of sent.Full h = (h.0, λ m. tried_is (machine_at held who old (with_number number.0 m)) ∙ ap tried (h.1 m) ∙ sym (ap full_of is))
      try_of (sent.Refused error) h = (h.0, h.1, λ m. tried_is (machine_at held who old (with_number number.0 m)) ∙ ap tried (h.2 m))

    pub row_of : (call_number w == send_message || call_number w == try_send_message) ≡ true → (answer : Sent)
        → IsSendRow held (asked_row number asked) who old new answer → IsSendRow held (send_row number w) who old new answer
    row_of served answer h = go (call_number w == send_message) refl served
      where
        go : (b : Bool) → (call_number w == send_message) ≡ b → (b || (call_number w == try_send_message)) ≡ true
            → IsSendRow held (send_row number w) who old new answer
        go true q r = send_of (eqb-true (call_number w) send_message q) answer h
        go false q r = try_of (eqb-true (call_number w) try_send_message r) answer h

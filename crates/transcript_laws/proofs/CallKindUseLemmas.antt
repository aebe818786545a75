-- What laws by kinds of call use: what a kind leaves as it is, which number it has, and which kind a number has.
use Rattle.std.proofs.Common.{◌≡◌, ℕ, Bool, true, false, List, [], ◌∷◌, refl, sym, ap, ◌∙◌, subst}
use Rattle.std.specs.Prelude.{◌==◌, ◌||◌, if◌then◌else◌, is_some}
use Rattle.std.proofs.lemmas.Bool.{and_parts, eqb-true, false≢true, or_parts}
use Rattle.xk_base.specs.declared.ids.Number.{Number}
use Rattle.xk_base.specs.declared.ids.Serial.{Serial}
use Rattle.xk_base.specs.declared.messages.Message.{Message}
use Rattle.syscall_codec.specs.CallNumbers.{create_server_with_address, destroy_server, forward_message, receive_message, return_memory, return_scalar1}
use Rattle.syscall_codec.specs.CallNumbers.{return_scalar2, send_message, terminate_process, try_receive_message, try_send_message}
use Rattle.syscall_codec.specs.ReplyWords.{plain_words}
use Rattle.ledger_model.specs.Ledger.{Ledger}
use Rattle.ledger_model.specs.Steps.{end_loan}
use Rattle.machine_model.specs.Messaging.ForwardCalls.{is_passable_of}
use Rattle.machine_model.specs.Messaging.Messages.{is_blocking_of, is_blocking_scalar, is_lend, is_lend_of, is_of_number}
use Rattle.machine_model.specs.Messaging.ReturnCalls.{named_number}
use Rattle.machine_model.specs.Runs.LoanSpan.{is_send}
use Rattle.machine_model.specs.State.Machine.{Machine, Receiving}
use Rattle.machine_model.specs.State.Order.{turn}
use Rattle.machine_model.specs.State.Threads.{answer_to, no_answers}
use Rattle.call_effects.specs.Effects.{Awaits, Claims, ClosesServers, Connects, Effect, Ends, EndsTurn, Forgets, Founds, Frees, HasHeap}
use Rattle.call_effects.specs.Effects.{Orphans, Pages, Serves, Starts, TakesNumber, Unqueues, Waits, apply, run}
use Rattle.call_effects.specs.Verdicts.{Plan}
use Rattle.transcript_laws.specs.CallKinds.{AreOwn, ByWaiting, CallKind, DestroysServer, EndsProcess, FindsNone, FoundsServer, IsKeeping, IsOwn, IsPassing, IsReturning}
use Rattle.transcript_laws.specs.CallKinds.{IsSending, Keeps, PassesMessage, ReturnsMessage, SendsMessage, TakesMessage, WithWords, finding_none}
use Rattle.transcript_laws.specs.CallKinds.{is_returnable, loan_back, place_at_server, reaches_others, sending}
use Rattle.transcript_laws.specs.Following.{is_return_call}

-- ---- what the kinds leave

-- servers, the next message number and the number of processes are as before
pub record LeavesMessages (m n : Machine) : Type 0 where
  pub servers : n.servers ≡ m.servers
  pub next_number : n.next_number ≡ m.next_number
  pub processes : n.processes ≡ m.processes

own_leaves : (m n : Machine) (effect : Effect) → IsOwn m effect → LeavesMessages n (apply effect n)
unfolding turn
own_leaves m n (Pages step) own = record { servers = refl; next_number = refl; processes = refl }
own_leaves m n (HasHeap length) own = record { servers = refl; next_number = refl; processes = refl }
own_leaves m n (Starts who thread) own = record { servers = refl; next_number = refl; processes = refl }
own_leaves m n (Waits who state) own = record { servers = refl; next_number = refl; processes = refl }
own_leaves m n (Awaits waits number) own = absurd own
own_leaves m n EndsTurn own = record { servers = refl; next_number = refl; processes = refl }
own_leaves m n (Founds server) own = absurd own
own_leaves m n (Connects serial) own = record { servers = refl; next_number = refl; processes = refl }
own_leaves m n TakesNumber own = absurd own
own_leaves m n (Serves serial step) own = absurd own
own_leaves m n (ClosesServers which) own = absurd own
own_leaves m n (Unqueues pid) own = absurd own
own_leaves m n (Orphans pid) own = absurd own
own_leaves m n (Forgets pid) own = absurd own
own_leaves m n (Claims k claim) own = record { servers = refl; next_number = refl; processes = refl }
own_leaves m n (Frees k) own = record { servers = refl; next_number = refl; processes = refl }

-- effects on the caller's process leave messages
pub own_run : (m : Machine) (effects : List Effect) (n : Machine) → AreOwn m effects → LeavesMessages n (run effects n)
own_run m [] n own = record { servers = refl; next_number = refl; processes = refl }
own_run m (effect ∷ effects) n own =
    let first = own_leaves m n effect own.0 in
    let rest = own_run m effects (apply effect n) own.1 in
    record {
      servers = rest.servers ∙ first.servers;
      next_number = rest.next_number ∙ first.next_number;
      processes = rest.processes ∙ first.processes;
    }

-- a receive that finds none keeps to its process
pub none_keeps : (m : Machine) (number : ℕ) (serial : Serial) → IsKeeping m (finding_none m number serial).effects (finding_none m number serial).answers
none_keeps m number serial = go (number == receive_message)
  where
    go : (b : Bool) → IsKeeping m (if b then Waits m.cursor (Receiving serial) ∷ [] else []) (if b then no_answers else answer_to m.cursor plain_words)
    go true = record { own = ((refl, tt), tt); answered = ByWaiting (Receiving serial) }
    go false = record { own = tt; answered = WithWords [] plain_words refl }

-- what a return can return has its number
pub returnable_number : (number : ℕ) (w : List ℕ) (x : Message) → is_returnable number w x ≡ true → is_of_number (named_number w) x ≡ true
returnable_number number w x e = go (number == return_memory) e
  where
    go : (b : Bool) → (if b then is_lend_of (named_number w) else is_blocking_of (named_number w)) x ≡ true → is_of_number (named_number w) x ≡ true
    go true e = (and_parts (is_of_number (named_number w) x) (is_lend x.kind) e).0
    go false e = (and_parts (is_of_number (named_number w) x) (is_blocking_scalar x.kind) e).0

-- .. and so has what a forward can pass on
pub passable_number : (number : Number) (x : Message) → is_passable_of number x ≡ true → is_of_number number x ≡ true
passable_number number x e =
    (and_parts (is_of_number number x) (is_lend x.kind) (and_parts (is_lend_of number x) (is_some x.sender) e).0).0

-- the end of a loan leaves messages
pub loan_leaves : (number : ℕ) (w : List ℕ) (n : Machine) → LeavesMessages n (run (loan_back number w) n)
loan_leaves number w n = go (number == return_memory)
  where
    go : (b : Bool) → LeavesMessages n (run (if b then Pages (Ends (named_number w)) ∷ [] else []) n)
    go true = record { servers = refl; next_number = refl; processes = refl }
    go false = record { servers = refl; next_number = refl; processes = refl }

-- it is the ledger's alone
pub loan_is : (number : ℕ) (w : List ℕ) (n : Machine) → (l : Ledger) × (run (loan_back number w) n ≡ record n { ledger = l })
loan_is number w n = go (number == return_memory)
  where
    go : (b : Bool) → (l : Ledger) × (run (if b then Pages (Ends (named_number w)) ∷ [] else []) n ≡ record n { ledger = l })
    go true = (end_loan (named_number w) n.ledger, refl)
    go false = (n.ledger, refl)

-- ---- numbers

-- what holds of two numbers holds of each that is one of them
pub of_either : (P : ℕ → Type 0) (a b k : ℕ) → P a → P b → ((k == a) || (k == b)) ≡ true → P k
of_either P a b k p q e = go (k == a) refl e
  where
    go : (c : Bool) → (k == a) ≡ c → (c || (k == b)) ≡ true → P k
    go true same e = subst P (sym (eqb-true k a same)) p
    go false other e = subst P (sym (eqb-true k b e)) q

-- .. and of the three of the calls that return
pub of_return : (P : ℕ → Type 0) (k : ℕ) → P return_memory → P return_scalar1 → P return_scalar2 → is_return_call k ≡ true → P k
of_return P k p q r e = go (k == return_memory) refl e
  where
    go : (c : Bool) → (k == return_memory) ≡ c → (c || ((k == return_scalar1) || (k == return_scalar2))) ≡ true → P k
    go true same e = subst P (sym (eqb-true k return_memory same)) p
    go false other e = of_either P return_scalar1 return_scalar2 k q r e

-- what a call that keeps to its process is not
pub record IsAlone (k : ℕ) : Type 0 where
  pub send : is_send k ≡ false
  pub returns : is_return_call k ≡ false
  pub forward : (k == forward_message) ≡ false
  pub destroy : (k == destroy_server) ≡ false

pub is_alone : (k : ℕ) → reaches_others k ≡ false → IsAlone k
is_alone k alone =
    let three = (k == create_server_with_address) || ((k == destroy_server) || (k == terminate_process)) in
    let one = or_parts (is_send k) (is_return_call k || ((k == forward_message) || three)) alone in
    let two = or_parts (is_return_call k) ((k == forward_message) || three) one.1 in
    let four = or_parts (k == forward_message) three two.1 in
    let five = or_parts (k == create_server_with_address) ((k == destroy_server) || (k == terminate_process)) four.1 in
    record { send = one.0; returns = two.0; forward = four.0; destroy = (or_parts (k == destroy_server) (k == terminate_process) five.1).0 }

-- ---- the kind by the number

module _ (m : Machine) (k : ℕ) (w : List ℕ) where
  -- a number that fails a test isn't one that passes
  fails : {A : Type 0} (test : ℕ → Bool) → test k ≡ false → test k ≡ true → A
  fails test fail pass = absurd (false≢true (sym fail ∙ pass))

  -- a send is of the kind that sends
  pub sending_of : (plan : Plan) → CallKind m k w plan → is_send k ≡ true
      → (it : IsSending m w) × (plan ≡ sending m w it.kind it.to.serial (place_at_server it.to.server it.first))
  sending_of _ (Keeps effects answers alone other it) is = fails is_send (is_alone k alone).send is
  sending_of _ (FoundsServer e it) is = fails is_send (ap is_send e) is
  sending_of _ (SendsMessage e it) is = (it, refl)
  sending_of _ (TakesMessage e its x first) is = fails is_send (of_either (λ j. is_send j ≡ false) receive_message try_receive_message k refl refl e) is
  sending_of _ (FindsNone e its empty) is = fails is_send (of_either (λ j. is_send j ≡ false) receive_message try_receive_message k refl refl e) is
  sending_of _ (ReturnsMessage e it) is = fails is_send (of_return (λ j. is_send j ≡ false) k refl refl refl e) is
  sending_of _ (PassesMessage e it) is = fails is_send (ap is_send e) is
  sending_of _ (DestroysServer e its) is = fails is_send (ap is_send e) is
  sending_of _ (EndsProcess e) is = fails is_send (ap is_send e) is

  -- a return is of the kind that returns
  pub returning_of : (plan : Plan) → CallKind m k w plan → is_return_call k ≡ true → IsReturning m k w
  returning_of _ (Keeps effects answers alone other it) is = fails is_return_call (is_alone k alone).returns is
  returning_of _ (FoundsServer e it) is = fails is_return_call (ap is_return_call e) is
  returning_of _ (SendsMessage e it) is =
      fails is_return_call (of_either (λ j. is_return_call j ≡ false) send_message try_send_message k refl refl e) is
  returning_of _ (TakesMessage e its x first) is =
      fails is_return_call (of_either (λ j. is_return_call j ≡ false) receive_message try_receive_message k refl refl e) is
  returning_of _ (FindsNone e its empty) is =
      fails is_return_call (of_either (λ j. is_return_call j ≡ false) receive_message try_receive_message k refl refl e) is
  returning_of _ (ReturnsMessage e it) is = it
  returning_of _ (PassesMessage e it) is = fails is_return_call (ap is_return_call e) is
  returning_of _ (DestroysServer e its) is = fails is_return_call (ap is_return_call e) is
  returning_of _ (EndsProcess e) is = fails is_return_call (ap is_return_call e) is

  abbrev is_forward : ℕ → Bool
  is_forward j = j == forward_message

  -- a forward is of the kind that forwards
  pub passing_of : (plan : Plan) → CallKind m k w plan → (k == forward_message) ≡ true → IsPassing m w
  passing_of _ (Keeps effects answers alone other it) is = fails is_forward (is_alone k alone).forward is
  passing_of _ (FoundsServer e it) is = fails is_forward (ap is_forward e) is
  passing_of _ (SendsMessage e it) is = fails is_forward (of_either (λ j. is_forward j ≡ false) send_message try_send_message k refl refl e) is
  passing_of _ (TakesMessage e its x first) is =
      fails is_forward (of_either (λ j. is_forward j ≡ false) receive_message try_receive_message k refl refl e) is
  passing_of _ (FindsNone e its empty) is =
      fails is_forward (of_either (λ j. is_forward j ≡ false) receive_message try_receive_message k refl refl e) is
  passing_of _ (ReturnsMessage e it) is = fails is_forward (of_return (λ j. is_forward j ≡ false) k refl refl refl e) is
  passing_of _ (PassesMessage e it) is = it
  passing_of _ (DestroysServer e its) is = fails is_forward (ap is_forward e) is
  passing_of _ (EndsProcess e) is = fails is_forward (ap is_forward e) is

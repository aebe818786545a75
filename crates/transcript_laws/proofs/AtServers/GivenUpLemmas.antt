-- A served return or forward is by the process of the server that holds the message.
use Rattle.std.proofs.Common.{◌≡◌, ℕ, inl, inr, Bool, true, List, Some, refl, subst}
use Rattle.std.specs.Prelude.{◌==◌}
use Rattle.std.proofs.lemmas.Bool.{eq-eqb, false≢true}
use Rattle.xk_base.specs.declared.ids.Number.{Number}
use Rattle.xk_base.specs.declared.ids.Pid.{Pid}
use Rattle.xk_base.specs.declared.ids.ThreadId.{ThreadId}
use Rattle.xk_base.specs.declared.messages.Message.{Message}
use Rattle.syscall_codec.specs.CallNumbers.{forward_message}
use Rattle.syscall_codec.specs.CallWords.{call_number}
use Rattle.machine_model.specs.Calling.Calls.{call}
use Rattle.machine_model.specs.Messaging.ForwardCalls.{is_passable_of, passed_number}
use Rattle.machine_model.specs.Messaging.Messages.{is_of_number}
use Rattle.machine_model.specs.Messaging.ReturnCalls.{named_number}
use Rattle.machine_model.specs.Runs.LoanSpan.{IsServedCallOf}
use Rattle.machine_model.specs.Runs.Matched.{Matched}
use Rattle.machine_model.specs.Runs.Moments.{Moment}
use Rattle.machine_model.specs.State.Changes.{Change, Outcome, Refused, Retried, Served}
use Rattle.machine_model.specs.State.Machine.{Machine, Server}
use Rattle.machine_model.specs.Stepping.Acts.{is_call_served, is_served}
use Rattle.machine_model.proofs.Runs.KeptLemmas.{matched_at}
use Rattle.machine_laws.proofs.Threading.ThreadStepLemmas.{turned_to}
use Rattle.call_effects.proofs.ServedLemmas.{OfServed}
use Rattle.call_effects.specs.Held.{IsHeld}
use Rattle.transcript_laws.specs.AtServers.{GivesUp}
use Rattle.transcript_laws.specs.Following.{Holds, is_return_call, keeping}
use Rattle.transcript_laws.proofs.Following.ReturnLemmas.{was_held}
use Rattle.transcript_laws.proofs.CallKindLemmas.{of_kinds}
use Rattle.transcript_laws.proofs.CallKindUseLemmas.{passable_number, passing_of, returnable_number, returning_of}
use Rattle.transcript_laws.specs.CallKinds.{is_returnable}

-- a server of the process holds the message
pub record HasHolder (number : Number) (pid : Pid) (m : Machine) : Type 0 where
  pub n : ℕ
  pub server : Server
  pub there : m.servers n ≡ Some server
  pub own : server.pid ≡ pid
  pub holds : keeping number (m.servers n) ≡ Holds

-- what is shown of each served call holds of one that is served
pub of_served : (P : Change → Type 0) (o : Outcome) → OfServed P o → is_served o ≡ true → (change : Change) × (o ≡ Served change) × P change
of_served P (Refused error) of e = absurd (false≢true e)
of_served P Retried of e = absurd (false≢true e)
of_served P (Served change) of e = (change, refl, of)

module _ (m : Machine) (h : Matched m) (w : List ℕ) where
  -- the server of a message that is found
  found : (number : Number) (test : Message → Bool) (x : Message) (at : IsHeld m test x) → is_of_number number x ≡ true → HasHolder number m.cursor.pid m
  found number test x at named =
      record { n = at.serial.0; server = at.server; there = at.there; own = at.own; holds = was_held number m h test x at named }

  return_holder : is_return_call (call_number w) ≡ true → OfServed (λ change. HasHolder (named_number w) m.cursor.pid m) (call m w)
  return_holder is =
      of_kinds m h w (λ change. HasHolder (named_number w) m.cursor.pid m) (λ plan kind.
      let it = returning_of m (call_number w) w plan kind is in
      found (named_number w) (is_returnable (call_number w) w) it.message it.held (returnable_number (call_number w) w it.message it.held.passes))

  forward_holder : (call_number w == forward_message) ≡ true → OfServed (λ change. HasHolder (passed_number w) m.cursor.pid m) (call m w)
  forward_holder is =
      of_kinds m h w (λ change. HasHolder (passed_number w) m.cursor.pid m) (λ plan kind.
      let it = passing_of m (call_number w) w plan kind is in
      found (passed_number w) (is_passable_of (passed_number w)) it.message it.held (passable_number (passed_number w) it.message it.held.passes))

-- ---- a moment

-- a served call is one in the state that is turned to its thread
pub served_turned : (m : Machine) (who : ThreadId) (w : List ℕ) → is_call_served m who w ≡ true → is_served (call (turned_to who m) w) ≡ true
unfolding is_call_served
served_turned m who w e = e

pub gives_holder : (number : Number) (pid : Pid) (m : Machine) (moment : Moment) (words : List ℕ) → Matched m → IsServedCallOf pid words m moment
    → GivesUp number words → HasHolder number pid m
gives_holder number pid m moment words h s gives = subst (λ p. HasHolder number p m) s.of_process (go gives)
  where
    n : Machine
    n = turned_to s.who m

    back : (k : Number) → HasHolder k n.cursor.pid n → k.0 ≡ number.0 → HasHolder number s.who.pid m
    back k at same = record {
      n = at.n;
      server = at.server;
      there = at.there;
      own = at.own;
      holds = subst (λ (j : Number). keeping j (m.servers at.n) ≡ Holds) (λ i. record { 0 = same i }) at.holds;
    }

    went : is_served (call n words) ≡ true
    went = served_turned m s.who words s.served

    go : GivesUp number words → HasHolder number s.who.pid m
    go (inl (is, token)) =
        back (named_number words)
        (of_served (λ change. HasHolder (named_number words) n.cursor.pid n) (call n words) (return_holder n (matched_at s.who m h) words is) went).2 token
    go (inr (is, token)) =
        back (passed_number words)
        (of_served (λ change. HasHolder (passed_number words) n.cursor.pid n) (call n words)
        (forward_holder n (matched_at s.who m h) words (eq-eqb (call_number words) forward_message is)) went).2 token

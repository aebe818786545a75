-- The lists of one server change, and nothing else of it: what that does to the servers, to counts of messages, and to the threads
-- that are Receiving.
use Rattle.std.proofs.Common.{le_trans, ◌≡◌, ◌≢◌, ℕ, ◌≤◌, Bool, true, false, List, [], Option, Some, None, refl, sym, ap, ◌∙◌, subst}
use Rattle.std.specs.Prelude.{if◌then◌else◌, is_some, nat_eq}
use Rattle.std.proofs.lemmas.Bool.{eq-eqb, eqb-true, false≢true}
use Rattle.std.proofs.lemmas.Option.{same_Some}
use Rattle.xk_base.specs.declared.ids.Number.{Number}
use Rattle.xk_base.specs.declared.ids.Pid.{Pid}
use Rattle.xk_base.specs.declared.ids.Serial.{Serial}
use Rattle.xk_base.specs.declared.ids.ThreadId.{ThreadId}
use Rattle.xk_base.specs.declared.limits.TheConstants.{MESSAGE_LIMIT}
use Rattle.xk_base.specs.declared.messages.Message.{Message}
use Rattle.xk_base.specs.Tables.Counting.{put_at}
use Rattle.xk_base.specs.Tables.Sids.{same_sid}
use Rattle.xk_base.proofs.CountingLemmas.{count_below-le}
use Rattle.ledger_model.specs.Loans.{Loans}
use Rattle.machine_model.specs.Messaging.MessageCounts.{HasAtMostOne, count_at, count_in}
use Rattle.machine_model.specs.Messaging.Messages.{is_of_number}
use Rattle.machine_model.specs.Runs.Matched.{AreServersMatched, IsLendMatched, IsMessageLent, IsOnLoan, IsServerAwaited}
use Rattle.machine_model.specs.State.Machine.{Process, Server}
use Rattle.machine_model.specs.State.Servers.{messages_of, slots_used}
use Rattle.machine_model.proofs.Matching.CountLemmas.{HasMore}
use Rattle.machine_model.proofs.Matching.OneMessageLemmas.{CountAlike, GetsMessage}

module _ (s : ℕ → Option Server) (k : ℕ) (before : Server) (e : s k ≡ Some before) (queued held : List Message) where
  abbrev pub after : Server
  after = record before { queued = queued; held = held }

  abbrev pub now : ℕ → Option Server
  now = put_at nat_eq s k (Some after)

  pub now_here : now k ≡ Some after
  now_here = ap (λ b. if b then Some after else s k) (eq-eqb k k refl)

  pub now_elsewhere : (n : ℕ) → n ≢ k → now n ≡ s n
  now_elsewhere n other = go (nat_eq n k) refl
    where
      go : (b : Bool) → nat_eq n k ≡ b → (if b then Some after else s n) ≡ s n
      go true q = absurd (other (eqb-true n k q))
      go false q = refl

  -- what holds of the changed server and held of all holds of all
  pub each : (Q : ℕ → Server → Type 0) → Q k after → ((n : ℕ) (server : Server) → s n ≡ Some server → Q n server)
      → (n : ℕ) (server : Server) → now n ≡ Some server → Q n server
  each Q here others n server f = go (nat_eq n k) refl f
    where
      go : (b : Bool) → nat_eq n k ≡ b → (if b then Some after else s n) ≡ Some server → Q n server
      go true q r = subst (λ (y : Server). Q n y) (same_Some after server r) (subst (λ i. Q i after) (sym (eqb-true n k q)) here)
      go false q r = others n server r

  -- the server that it was
  pub record WasServer (n : ℕ) (server : Server) : Type 0 where
    pub old : Server
    pub there : s n ≡ Some old
    pub sid : old.sid ≡ server.sid
    pub pid : old.pid ≡ server.pid

  pub was : (n : ℕ) (server : Server) → now n ≡ Some server → WasServer n server
  was = each (λ n server. WasServer n server) (record { old = before; there = e; sid = refl; pid = refl })
      (λ n server f. record { old = server; there = f; sid = refl; pid = refl })

  -- a lend at the server is on loan as it was
  pub lent_there : (all : Loans) (y : Message) → IsMessageLent all before y → IsMessageLent all after y
  lent_there all y f kind q = let lend : IsLendMatched all before y kind = f kind q in
      record { count = lend.count; loan = go y.sender lend.loan }
    where
      go : (o : Option ThreadId) → IsOnLoan all before y kind o → IsOnLoan all after y kind o
      go None l = l
      go (Some who) l = l

  -- ---- counts

  pub counts_alike : (test : Message → Bool) → count_in test (messages_of after) ≡ count_in test (messages_of before)
      → CountAlike s now test
  counts_alike test same n = go (nat_eq n k) refl
    where
      go : (b : Bool) → nat_eq n k ≡ b → count_at test (if b then Some after else s n) ≡ count_at test (s n)
      go true q = same ∙ sym (ap (count_at test) (ap s (eqb-true n k q) ∙ e))
      go false q = refl

  pub gets : (x : Message) → HasMore (messages_of before) (messages_of after) x → GetsMessage s now k x
  gets x more = record { before = before; after = after; was = e; now = now_here; others = now_elsewhere; more = more }

  -- .. and the other way round
  pub loses : (x : Message) → HasMore (messages_of after) (messages_of before) x → GetsMessage now s k x
  loses x more =
      record { before = after; after = before; was = now_here; now = e; others = λ n other. sym (now_elsewhere n other); more = more }

  -- ---- what is matched of the servers

  pub servers_changed : (p : ℕ → Process) → AreServersMatched p s → ((number : Number) → HasAtMostOne now (is_of_number number))
      → slots_used after ≤ MESSAGE_LIMIT → AreServersMatched p now
  servers_changed p h numbers slots = record {
    living = λ n server f.
        let w : WasServer n server = was n server f in
        subst (λ (q : Pid). (p q.0).alive ≡ true) w.pid (h.living n w.old w.there);
    sids = λ a b x y f g same.
        let v : WasServer a x = was a x f in
        let w : WasServer b y = was b y g in
        h.sids a b v.old w.old v.there w.there ((λ i. same_sid (v.sid i) (w.sid i)) ∙ same);
    numbers = numbers;
    few = λ bound. le_trans (count_below-le bound (λ n. is_some (now n)) (λ n. is_some (s n)) (λ n q. was_some n)) (h.few bound);
    slots = each (λ n server. slots_used server ≤ MESSAGE_LIMIT) slots h.slots;
  }
    where
      was_some : (n : ℕ) → is_some (now n) ≡ true → is_some (s n) ≡ true
      was_some n f = go (now n) refl f
        where
          go : (o : Option Server) → now n ≡ o → is_some o ≡ true → is_some (s n) ≡ true
          go None q r = absurd (false≢true r)
          go (Some server) q r = ap is_some (was n server q).there

  -- ---- threads that are Receiving

  -- the server awaits its messages still, where its queue is empty still
  pub awaited : (pid : Pid) (serial : Serial) → (serial.0 ≡ k → before.queued ≡ [] → queued ≡ []) → IsServerAwaited s pid serial
      → IsServerAwaited now pid serial
  awaited pid serial still w = go (nat_eq serial.0 k) refl
    where
      go : (b : Bool) → nat_eq serial.0 k ≡ b → IsServerAwaited now pid serial
      go true q =
          let same : serial.0 ≡ k = eqb-true serial.0 k q in
          let is : w.server ≡ before = same_Some w.server before (sym w.live ∙ ap s same ∙ e) in
          record {
            server = after;
            live = λ i. if q i then Some after else s serial.0;
            own = ap (λ (y : Server). y.pid) (sym is) ∙ w.own;
            empty = still same (ap (λ (y : Server). y.queued) (sym is) ∙ w.empty);
          }
      go false q = record {
        server = w.server;
        live = (λ i. if q i then Some after else s serial.0) ∙ w.live;
        own = w.own;
        empty = w.empty;
      }
